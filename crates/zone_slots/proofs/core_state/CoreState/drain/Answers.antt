use Rattle.std.proofs.Common.{subst}
use Rattle.zone_slots.specs.Calls.{zones_of}
use Rattle.zone_slots.specs.FrameCalls.{resting_in}
use Rattle.zone_slots.specs.Resting.{LendAsManyBesides}
use Rattle.zone_slots.specs.declared.memory.Memory.{Memory}
use Rattle.zone_slots.proofs.core_state.CoreState.drain.Goals as goal

pub returns-clause-lent : goal.returns-clause-lent
returns-clause-lent c =
    let s = c.args.self.now in
    let rest = c.give_last.new.rest.list.items in
    let gives : LendAsManyBesides (zones_of s) s.core (resting_in s) c.give_last.new.core rest =
    subst (λ (m : Memory). LendAsManyBesides m.zones s.core (resting_in s) c.give_last.new.core rest)
    c.deref.ensures c.give_last.ensures.gives in
    record { lent = gives.lent; kept = gives.kept }
