use Rattle.zone_slots.proofs.Rested.{popped_all}
use Rattle.zone_slots.proofs.memory.Memory.lift_one.Goals as goal

pub block_at-requires-clause-right : goal.block_at-requires-clause-right
block_at-requires-clause-right c =
    (popped_all c.args.self.now.zones c.args.rest.now.list.items c.pop.new.self.list.items c.in-Some.lifted c.in-Some.ensures.some
    c.requires.rest).1
