use Rattle.std.proofs.Common.{refl, subst}
use Rattle.zone_slots.specs.Calls.{zones_of}
use Rattle.zone_slots.specs.FrameCalls.{IsSingleFor}
use Rattle.zone_slots.specs.Resting.{IsSingleIn}
use Rattle.zone_slots.specs.declared.memory.Memory.{Memory}
use Rattle.zone_slots.proofs.FrameNumbers.{given_number}
use Rattle.zone_slots.proofs.Rights.{right_in}
use Rattle.zone_slots.proofs.core_state.CoreState.give_number.Goals as goal

pub returns-in_default-clause-same : goal.returns-in_default-clause-same
returns-in_default-clause-same c = record { core = refl; rest = refl }

pub give_frame-requires : goal.give_frame-requires
give_frame-requires c =
    let f = c.in-Some.single in
    right_in (zones_of c.args.self.now) f.frame 0 f.seat.table_id f.seat.me
    (subst (λ (m : Memory). IsSingleIn m.zones f) c.deref.ensures c.in-Some.ensures.single)

pub returns-clause-given : goal.returns-clause-given
returns-clause-given c =
    let s = c.args.self.now in
    let f = c.in-Some.single in
    let single : IsSingleFor s f = right_in (zones_of s) f.frame 0 f.seat.table_id f.seat.me
    (subst (λ (m : Memory). IsSingleIn m.zones f) c.deref.ensures c.in-Some.ensures.single) in
    given_number c.args.frame f s c.give_frame.new.self c.in-Some.ensures.number single c.give_frame.ensures.lent
    c.give_frame.ensures.rests c.give_frame.ensures.full
