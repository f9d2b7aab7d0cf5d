use Rattle.std.proofs.Common.{rules, inl}
use Rattle.zone_slots.specs.FrameNumbers.{RefusesNumber}
use Rattle.zone_slots.proofs.FrameNumbers.{single_still, taken_number, refused_number, counted_still, last_still}
use Rattle.zone_slots.proofs.core_state.CoreState.take_number.Goals as goal

pub returns-in_err-frame-clause-refused : goal.returns-in_err-frame-clause-refused
returns-in_err-frame-clause-refused c =
    let why : RefusesNumber c.args.self.now c.take_frame.new.self c.in_err-frame.field-0.0 =
    inl (c.in_err-frame.ensures.refused, c.in_err-frame.ensures.counted) in
    search (rules, why)

pub lay_down-requires : goal.lay_down-requires
lay_down-requires c =
    single_still c.args.self.now c.take_frame.new.self c.in_ok-frame.frame c.take_frame.ensures.shared
    c.in_ok-frame.ensures.taken.is_single

pub returns-clause-taken : goal.returns-clause-taken
returns-clause-taken c =
    taken_number c.lay_down.result c.in_ok-frame.frame c.args.self.now c.take_frame.new.self c.lay_down.new.self
    c.lay_down.ensures.shared c.in_ok-frame.ensures.taken c.in_ok-frame.ensures.hits c.in_ok-frame.ensures.few
    c.lay_down.ensures.same c.lay_down.ensures.laid

pub returns-clause-refused : goal.returns-clause-refused
returns-clause-refused c =
    refused_number c.lay_down.result c.in_ok-frame.frame c.args.self.now c.take_frame.new.self c.lay_down.new.self
    c.take_frame.ensures.shared c.in_ok-frame.ensures.taken c.take_frame.ensures.counted c.in_ok-frame.ensures.hits
    c.in_ok-frame.ensures.few c.lay_down.ensures.refused c.lay_down.ensures.back

pub returns-clause-counted : goal.returns-clause-counted
returns-clause-counted c =
    counted_still c.lay_down.result c.args.self.now c.take_frame.new.self c.lay_down.new.self c.take_frame.ensures.counted
    c.lay_down.ensures.counted

pub returns-clause-last : goal.returns-clause-last
returns-clause-last c =
    last_still c.lay_down.result c.args.self.now c.take_frame.new.self c.lay_down.new.self c.take_frame.ensures.last
    c.lay_down.ensures.last
