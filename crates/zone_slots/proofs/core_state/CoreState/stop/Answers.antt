use Rattle.zone_slots.specs.FrameCalls.{resting_in}
use Rattle.zone_slots.proofs.Rested.{none_left, stopped_without}
use Rattle.zone_slots.proofs.core_state.CoreState.stop.Goals as goal

pub returns-in-Ok-try_unwrap-clause-images : goal.returns-in-Ok-try_unwrap-clause-images
returns-in-Ok-try_unwrap-clause-images c =
    stopped_without c.args.self c.in-Ok-try_unwrap.shared c.give_last.new.core c.give_last.new.rest.list.items c.stop.result.items
    c.in-Ok-try_unwrap.ensures.ok
    (none_left c.len-count.result (resting_in c.args.self) c.give_last.new.rest.list.items c.len-count.ensures c.give_last.ensures.first)
    c.give_last.ensures.gives c.stop.ensures
