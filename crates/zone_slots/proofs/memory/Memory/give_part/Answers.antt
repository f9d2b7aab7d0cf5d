use Rattle.zone_slots.proofs.Lifted.{given_there}
use Rattle.zone_slots.proofs.Running.{one_fewer}
use Rattle.zone_slots.proofs.RunsKept.{kept_by_give}
use Rattle.zone_slots.proofs.memory.Memory.give_part.Goals as goal

pub returns-clause-given : goal.returns-clause-given
returns-clause-given c =
    one_fewer c.args.self.now.zones c.args.zone c.args.local 9 c.args.core.now c.give.new.core c.requires.zone
    (given_there c.args.self.now.zones c.args.zone c.args.local 9 c.in-Some.block c.args.core.now c.give.new.core
    c.requires.zone c.in-Some.ensures.out c.in-Some.ensures.same.0 c.in-Some.ensures.same.1 c.give.ensures.all_moves
    c.give.ensures.gives)

pub returns-clause-kept : goal.returns-clause-kept
returns-clause-kept c =
    kept_by_give c.args.self.now.zones c.args.zone c.args.core.now c.give.new.core c.give.ensures.gives
