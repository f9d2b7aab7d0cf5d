use Rattle.zone_slots.proofs.Lifted.{split_ok}
use Rattle.zone_slots.proofs.memory.Memory.split_in.Goals as goal

pub returns-clause-split : goal.returns-clause-split
returns-clause-split c =
    split_ok c.args.self.now.zones c.args.held c.split.result c.args.core.now c.split.new.core c.requires.core
    c.requires.out c.split.ensures.all_moves c.split.ensures.splits
