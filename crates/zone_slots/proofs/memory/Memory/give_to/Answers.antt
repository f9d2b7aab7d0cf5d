use Rattle.zone_slots.proofs.Lifted.{given_in}
use Rattle.zone_slots.proofs.memory.Memory.give_to.Goals as goal

pub returns-clause-given : goal.returns-clause-given
returns-clause-given c =
    given_in c.args.self.now.zones c.args.held c.args.core.now c.give.new.core c.requires.out c.give.ensures.all_moves
    c.give.ensures.gives
