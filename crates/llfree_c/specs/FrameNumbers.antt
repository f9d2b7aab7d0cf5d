-- Why takes of single frames by number were refused, by the status that each answered.
use Rattle.std.specs.Prelude.{◌≡◌, ◌⊎◌, ℕ, []}
use Rattle.zone_slots.specs.Calls.{CountsNone}
use Rattle.zone_slots.specs.FrameCalls.{resting_in, KeepsRest}
use Rattle.zone_slots.specs.FrameNumbers.{FindsNoPlace}
use Rattle.zone_slots.specs.declared.core_state.CoreState.{CoreState}
use Rattle.llfree_c.specs.Frames.{FindsNoFrame, LosesFrame}
use Rattle.llfree_c.specs.Status.{no_block, contended}

-- none rested, and behind a batch that brought none no single frame was found and no exchange was lost, or one was;
-- or the frame that was taken found no slot, which alone is counted
abbrev pub RefusesNumberAs : (status : ℕ) → CoreState → CoreState → Type 0
RefusesNumberAs status s t =
    ((status ≡ no_block) × (resting_in s ≡ []) × KeepsRest s t × FindsNoFrame s t × CountsNone s t)
    ⊎ ((status ≡ contended) × (resting_in s ≡ []) × KeepsRest s t × LosesFrame s t × CountsNone s t)
    ⊎ ((status ≡ contended) × FindsNoPlace s t)
