use Rattle.zone_slots.proofs.Joined.{all_back}
use Rattle.zone_slots.proofs.memory.Memory.give_together.Goals as goal

pub returns-in-Some-clause-gives : goal.returns-in-Some-clause-gives
returns-in-Some-clause-gives c =
    all_back c.args.self.now.zones c.args.core.now c.join_last.new.core c.give_to-given.new.core c.args.rest.now.list.items
    c.join_last.new.rest.list.items c.in-Some.block c.give_to-given.ensures.core c.in-Some.ensures.leave c.give_to-given.ensures.given
