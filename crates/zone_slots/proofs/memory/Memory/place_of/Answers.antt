use Rattle.zone_slots.proofs.FirstZones.{first_is_last}
use Rattle.zone_slots.proofs.memory.Memory.place_of.Goals as goal

pub returns-in-Some-clause-zone : goal.returns-in-Some-clause-zone
returns-in-Some-clause-zone c =
    first_is_last c.args.self.now.zones c.args.known c.args.frame c.in-Some.local c.requires.known c.in-Some.ensures.0
    c.in-Some.ensures.1
