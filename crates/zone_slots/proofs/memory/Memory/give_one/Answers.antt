use Rattle.zone_slots.proofs.Rested.{popped_all, gives_last}
use Rattle.zone_slots.proofs.memory.Memory.give_one.Goals as goal

pub give_single-requires-clause-single : goal.give_single-requires-clause-single
give_single-requires-clause-single c =
    (popped_all c.args.self.now.zones c.args.rest.now.list.items c.pop.new.self.list.items c.in-Some.frame c.in-Some.ensures.some
    c.requires.rest).1

pub returns-clause-gives : goal.returns-clause-gives
returns-clause-gives c =
    gives_last c.args.self.now.zones c.args.core.now c.give_single.new.core c.args.rest.now.list.items c.pop.new.self.list.items
    c.in-Some.frame c.give_single.ensures.core c.requires.rest c.in-Some.ensures.some c.give_single.ensures.given
