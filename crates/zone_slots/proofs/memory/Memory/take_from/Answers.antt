use Rattle.zone_slots.proofs.Lifted.{taken_ok, refused_block}
use Rattle.zone_slots.proofs.memory.Memory.take_from.Goals as goal

pub returns-clause-taken : goal.returns-clause-taken
returns-clause-taken c =
    taken_ok c.args.self.now.zones c.args.order c.take.result c.args.core.now c.take.new.core c.requires
    c.take.ensures.all_moves c.take.ensures.takes

pub returns-clause-refused : goal.returns-clause-refused
returns-clause-refused c =
    refused_block c.args.self.now.zones c.args.order c.take.result c.args.core.now c.take.new.core
    c.take.ensures.all_moves c.take.ensures.takes
