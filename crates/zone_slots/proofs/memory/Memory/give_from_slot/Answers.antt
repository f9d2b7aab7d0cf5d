use Rattle.zone_slots.proofs.FirstZones.{in_first}
use Rattle.zone_slots.proofs.Lifted.{given_by_number, very_by_number}
use Rattle.zone_slots.proofs.memory.Memory.give_from_slot.Goals as goal

pub returns-in-Some-clause-given : goal.returns-in-Some-clause-given
returns-in-Some-clause-given c =
    given_by_number c.args.self.now.zones c.args.frame c.args.order 0 c.in-Some.local c.give_in.result _ _
    (in_first c.args.self.now.zones c.args.known c.args.frame c.in-Some.local c.requires.known c.in-Some.ensures.0
    c.in-Some.ensures.1)
    c.give_in.ensures.given

pub give_in-requires-clause-zone : goal.give_in-requires-clause-zone
give_in-requires-clause-zone c =
    (in_first c.args.self.now.zones c.args.known c.args.frame c.in-Some.local c.requires.known c.in-Some.ensures.0
    c.in-Some.ensures.1).zone

pub returns-in-Some-clause-very : goal.returns-in-Some-clause-very
returns-in-Some-clause-very c =
    very_by_number c.args.self.now.zones c.args.frame c.args.order 0 c.in-Some.local c.give_in.result
    (in_first c.args.self.now.zones c.args.known c.args.frame c.in-Some.local c.requires.known c.in-Some.ensures.0
    c.in-Some.ensures.1)
    c.give_in.ensures.very
