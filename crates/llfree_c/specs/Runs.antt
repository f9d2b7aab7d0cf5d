-- Why takes and gives of runs were refused, by the status that each answered.
use Rattle.std.specs.Prelude.{◌≡◌, ◌⊎◌, ℕ}
use Rattle.frame_words.specs.declared.fault.TakeFault.TheVariants.{BadOrder, NoBlock, Contended}
use Rattle.zone_slots.specs.Runs.{RefusesRun, RefusesGiveRun}
use Rattle.zone_slots.specs.declared.core_state.CoreState.{CoreState}
use Rattle.zone_slots.specs.declared.refusal.Refusal.TheVariants.{NotHeld, NoParts}
use Rattle.llfree_c.specs.Status.{no_block, bad_order, not_held, contended}

-- why a take of a run was refused: there are no runs of so many huge frames; or none was found; or other cores
-- were in the way
abbrev pub RefusesRunAs : (count status : ℕ) → CoreState → CoreState → Type 0
RefusesRunAs count status s t =
    ((status ≡ bad_order) × RefusesRun count s t BadOrder)
    ⊎ ((status ≡ no_block) × RefusesRun count s t NoBlock)
    ⊎ ((status ≡ contended) × RefusesRun count s t Contended)

-- why a give of a run was refused: there are no runs of so many huge frames; or one of them is not held
abbrev pub RefusesGiveRunAs : (count frame status : ℕ) → CoreState → CoreState → Type 0
RefusesGiveRunAs count frame status s t =
    ((status ≡ bad_order) × RefusesGiveRun count frame s t NoParts)
    ⊎ ((status ≡ not_held) × RefusesGiveRun count frame s t NotHeld)
