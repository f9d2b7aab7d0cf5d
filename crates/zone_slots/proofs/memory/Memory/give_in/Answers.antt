use Rattle.zone_slots.proofs.Lifted.{given_there}
use Rattle.zone_slots.proofs.memory.Memory.give_in.Goals as goal

pub returns-clause-given : goal.returns-clause-given
returns-clause-given c =
    given_there c.args.self.now.zones c.args.zone c.args.local c.args.order c.in-Some.block _ _ c.requires.zone
    c.in-Some.ensures.out c.in-Some.ensures.same.0 c.in-Some.ensures.same.1 c.give-given.ensures.all_moves
    c.give-given.ensures.gives
