use Rattle.std.proofs.Common.{◌≡◌, sym, subst}
use Rattle.std.specs.Arc.{arc_value}
use Rattle.frame_zones.specs.declared.zones.Zones.{Zones}
use Rattle.zone_slots.specs.Calls.{zones_of}
use Rattle.zone_slots.specs.Rights.{IsRightIn}
use Rattle.zone_slots.proofs.Rested.{then_one_less}
use Rattle.zone_slots.proofs.core_state.CoreState.lay_anew.Goals as goal

pub lay-requires-clause-single : goal.lay-requires-clause-single
lay-requires-clause-single c =
    let f = c.args.frame in
    let zones : zones_of c.flush.new.self ≡ zones_of c.args.self.now = λ i. (arc_value (c.flush.ensures.shared i)).zones in
    subst (λ (zs : Zones). IsRightIn zs f.frame 0 f.seat.table_id f.seat.me) (sym zones) c.requires.single

pub returns-clause-lent : goal.returns-clause-lent
returns-clause-lent c =
    then_one_less c.args.self.now c.flush.new.self c.lay.new.self c.args.frame.frame c.flush.ensures.shared c.flush.ensures.lent
    c.lay.ensures.lent
