use Rattle.std.proofs.Common.{subst}
use Rattle.zone_slots.specs.Calls.{zones_of}
use Rattle.zone_slots.specs.FrameCalls.{resting_in}
use Rattle.zone_slots.specs.Resting.{LendAsManyBesides}
use Rattle.zone_slots.specs.declared.memory.Memory.{Memory}
use Rattle.zone_slots.proofs.core_state.CoreState.refill.Goals as goal

pub returns-clause-lent : goal.returns-clause-lent
returns-clause-lent c =
    let s = c.args.self.now in
    let rest = c.refill.new.rest.list.items in
    let came : LendAsManyBesides (zones_of s) s.core (resting_in s) c.refill.new.core rest =
    subst (λ (m : Memory). LendAsManyBesides m.zones s.core (resting_in s) c.refill.new.core rest)
    c.deref.ensures c.refill.ensures.lent in
    record { lent = came.lent; kept = came.kept }
