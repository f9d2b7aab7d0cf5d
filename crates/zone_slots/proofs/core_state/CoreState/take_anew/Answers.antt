use Rattle.zone_slots.proofs.Batches.{then_taken, then_refused}
use Rattle.zone_slots.proofs.core_state.CoreState.take_anew.Goals as goal

pub returns-clause-taken : goal.returns-clause-taken
returns-clause-taken c =
    then_taken c.take_one.result c.args.self.now c.refill.new.self c.take_one.new.self c.refill.ensures.shared c.refill.ensures.lent
    c.take_one.ensures.taken

pub returns-clause-refused : goal.returns-clause-refused
returns-clause-refused c =
    then_refused c.take_one.result c.args.self.now c.refill.new.self c.take_one.new.self c.refill.ensures.shared c.requires
    c.refill.ensures.none c.take_one.ensures.refused
