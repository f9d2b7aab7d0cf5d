-- Answers of exported calls that would be wrong.
use Rattle.std.specs.Prelude.{◌≡◌, ℕ, ◌*◌, ◌<◌, Option, Some, None, true, false, length}
use Rattle.frame_words.specs.Geometry.{child_frames}
use Rattle.frame_zones.specs.Frames.{IsInNoZone}
use Rattle.zone_slots.specs.Calls.{zones_of, TakesFor, frames_by, CountsNone, CountsOne, KeepsCore}
use Rattle.zone_slots.specs.FrameCalls.{resting_in, KeepsRest}
use Rattle.zone_slots.specs.FreeCounts.{CountsFrames, CountsHuge}
use Rattle.zone_slots.specs.Parts.{HasPartsOf}
use Rattle.zone_slots.specs.WrongTakes.{LiesFrom, SkipsTrees, LosesSome}
use Rattle.zone_slots.specs.declared.core_state.CoreState.{CoreState}
use Rattle.llfree_c.specs.Blocks.{TakesHeld}
use Rattle.llfree_c.specs.FreeCounts.{CountsBehind}
use Rattle.llfree_c.specs.FrameNumbers.{RefusesNumberAs}
use Rattle.llfree_c.specs.Frames.{RefusesFrameAs}
use Rattle.llfree_c.specs.RefusedCalls.{RefusesTakeAs, RefusesBlockAs, RefusesSplitAs, RefusesSplitToAs, RefusesHalvesAs}
use Rattle.llfree_c.specs.SeenCores.{OnCores}
use Rattle.llfree_c.specs.Status.{no_block, bad_order, not_held, not_closed, contended}
use Rattle.llfree_c.specs.declared.block_handle.BlockHandle.{BlockHandle}

-- no take answers the number of a block with a frame that no zone has, in a hole or past the end, and none
-- puts such a block into a struct
abbrev pub NumberIsOfAHole : Type 0
NumberIsOfAHole = (order frame x : ℕ) (h : BlockHandle) (s t : CoreState) → IsInNoZone (zones_of s) x
    → (LiesFrom frame order x → ¬ OnCores (TakesFor order frame) (Some s) (Some t))
    × (LiesFrom h.frame order x → ¬ OnCores (TakesHeld order h) (Some s) (Some t))

-- no take says that it found no block after fewer moves in some zone than it has trees, or with a lost
-- exchange
abbrev pub NoBlockIsUnsought : Type 0
NoBlockIsUnsought = (order : ℕ) (h : BlockHandle) (s t : CoreState)
    → (SkipsTrees s t → ¬ OnCores (RefusesTakeAs order no_block) (Some s) (Some t))
    × (LosesSome s t → ¬ OnCores (RefusesTakeAs order no_block) (Some s) (Some t))
    × (SkipsTrees s t → ¬ OnCores (RefusesBlockAs order h no_block) (Some s) (Some t))
    × (LosesSome s t → ¬ OnCores (RefusesBlockAs order h no_block) (Some s) (Some t))

-- no count is above all frames, and none is above 0 where nothing is behind the handle
abbrev pub CountIsTooHigh : Type 0
CountIsTooHigh = (n : ℕ) (s : CoreState) (later : Option CoreState)
    → (frames_by s < n → ¬ CountsBehind CountsFrames n (Some s) later)
    × (frames_by s < child_frames * n → ¬ CountsBehind CountsHuge n (Some s) later)
    × (0 < n → ¬ CountsBehind CountsFrames n None later)
    × (0 < n → ¬ CountsBehind CountsHuge n None later)

-- a split of a single frame by numbers is refused as a bad order, and no other one is; none is refused as not held
-- or as a bad order after a move, and none as contended with no block counted that found no slot
abbrev pub SplitIsRefusedForNothing : Type 0
SplitIsRefusedForNothing = (order frame : ℕ) (s t : CoreState)
    → RefusesSplitAs 0 frame bad_order s s
    × (0 < order → ¬ RefusesSplitAs order frame bad_order s t)
    × (¬ RefusesSplitAs 0 frame not_held s t) × (¬ RefusesSplitAs 0 frame contended s t)
    × (¬ KeepsCore s t → (¬ RefusesSplitAs order frame bad_order s t) × (¬ RefusesSplitAs order frame not_held s t))
    × (¬ CountsOne s t → ¬ RefusesSplitAs order frame contended s t)

-- what a struct carries is refused a split as a bad order just where it is a single frame, as not held only where
-- none is carried, and for the other struct only where that carries one; and none is after a move
abbrev pub HalvesAreRefusedForNothing : Type 0
HalvesAreRefusedForNothing = (held upper : BlockHandle) (s t : CoreState)
    → (held.order ≡ 0 → RefusesHalvesAs held upper bad_order s s)
    × (0 < held.order → ¬ RefusesHalvesAs held upper bad_order s t)
    × (held.live ≡ true → ¬ RefusesHalvesAs held upper not_held s t)
    × (upper.live ≡ false → ¬ RefusesHalvesAs held upper not_closed s t)
    × (¬ KeepsCore s t → (status : ℕ) → ¬ RefusesHalvesAs held upper status s t)

-- a split into parts by numbers is refused as a bad order where there are no such parts, and only there; none is
-- refused as not held or as a bad order after a move, and none as contended with no block counted that found no slot
abbrev pub PartsAreRefusedForNothing : Type 0
PartsAreRefusedForNothing = (order to frame : ℕ) (s t : CoreState)
    → (¬ HasPartsOf order to → RefusesSplitToAs order to frame bad_order s s)
    × (HasPartsOf order to → ¬ RefusesSplitToAs order to frame bad_order s t)
    × (¬ HasPartsOf order to → (¬ RefusesSplitToAs order to frame not_held s t)
    × (¬ RefusesSplitToAs order to frame contended s t))
    × (¬ KeepsCore s t → (¬ RefusesSplitToAs order to frame bad_order s t)
    × (¬ RefusesSplitToAs order to frame not_held s t))
    × (¬ CountsOne s t → ¬ RefusesSplitToAs order to frame contended s t)

-- a take of a single frame that rests is refused only for the struct, which carries a block then; none is refused and
-- changes what rests; and none by number says that it found no block while one rests, or counts one
abbrev pub FrameIsRefusedForNothing : Type 0
FrameIsRefusedForNothing = (held : BlockHandle) (s t : CoreState)
    → (held.live ≡ true → RefusesFrameAs held not_closed s s)
    × (held.live ≡ false → ¬ RefusesFrameAs held not_closed s t)
    × (0 < length (resting_in s) → (¬ RefusesFrameAs held no_block s t) × (¬ RefusesFrameAs held contended s t))
    × (¬ KeepsRest s t → (status : ℕ) → ¬ RefusesFrameAs held status s t)
    × (0 < length (resting_in s) → ¬ RefusesNumberAs no_block s t)
    × (¬ CountsNone s t → ¬ RefusesNumberAs no_block s t)
