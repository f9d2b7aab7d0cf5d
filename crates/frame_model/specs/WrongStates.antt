-- States that would be wrong: none of them is safe, adds up or survives.
use Rattle.std.specs.Prelude.{◌≡◌, ◌≢◌, ℕ, ◌+◌, ◌<◌, ◌≤◌, List, ◌++◌, true, false, All, Contains}
use Rattle.frame_words.specs.Geometry.{child_frames}
use Rattle.frame_model.specs.declared.block.FrameBlock.{FrameBlock}
use Rattle.frame_model.specs.declared.key.Key.{Key}
use Rattle.frame_model.specs.declared.view.View.{View}
use Rattle.frame_model.specs.Key.{frame_count, tree_count, size_of, is_boot_frame}
use Rattle.frame_model.specs.Block.{IsBlock, smalls, wholes}
use Rattle.frame_model.specs.Words.{bit_of, set_of, free_of, huge_of, held_of, held_in_tree, tree_free_of, reserved_of, resting_on, cores_on}
use Rattle.frame_model.specs.Holding.{holders}
use Rattle.frame_model.specs.Rebuilt.{IsRebuilt}
use Rattle.frame_model.specs.Events.{views_of, Fits}
use Rattle.frame_model.specs.Laws.{holding_of, IsSafe, AddsUp, HoldsJust, Form, form_of, AreOfEveryForm}
use Rattle.frame_model.specs.Events.{Event}
use Rattle.frame_model.specs.Stops.{Moment, known_at, flying_at, is_lost, lost_frames, unsealed, IsExact, KnownIsHeld, Survives, StaysKnown}

-- Words and views that are not safe.

-- two held blocks share a frame
abbrev pub BlocksOverlap : Type 0
BlocksOverlap = (key : Key) (words : List ℕ) (views : List View) (x : ℕ)
    → 1 < holders x (holding_of key views) → ¬ IsSafe key words views

-- a held block is none of the memory
abbrev pub BlockIsOutside : Type 0
BlockIsOutside = (key : Key) (words : List ℕ) (views : List View)
    → ¬ All (IsBlock key) (holding_of key views) → ¬ IsSafe key words views

-- a view that is not the ground has a frame past the end, in flight or kept
abbrev pub SeatIsPastTheEnd : Type 0
SeatIsPastTheEnd = (key : Key) (words : List ℕ) (views : List View) (v : View) (x : ℕ)
    → Contains views v → v.is_ground ≡ false → key.frames ≤ x → 0 < holders x (v.own ++ v.kept)
    → ¬ IsSafe key words views

-- an entry promises more frames than are clear
abbrev pub EntryPromisesTooMuch : Type 0
EntryPromisesTooMuch = (key : Key) (words : List ℕ) (views : List View) (c : ℕ)
    → c < key.children → child_frames < free_of words c + set_of key words c
    → ¬ IsSafe key words views

-- the entry of a huge frame promises any
abbrev pub HugeFramePromises : Type 0
HugeFramePromises = (key : Key) (words : List ℕ) (views : List View) (c : ℕ)
    → c < key.children → 0 < huge_of words c → 0 < free_of words c → ¬ IsSafe key words views

-- a tree promises more frames than its children have
abbrev pub TreePromisesTooMuch : Type 0
TreePromisesTooMuch = (key : Key) (words : List ℕ) (views : List View) (t : ℕ)
    → t < tree_count key
    → size_of key t < tree_free_of key words t + resting_on key words t + held_in_tree key words t
    → ¬ IsSafe key words views

-- Words that are no closing.

-- a frame of a child is neither counted nor held, or both
abbrev pub EntryIsOff : Type 0
EntryIsOff = (key : Key) (words : List ℕ) (c : ℕ)
    → c < key.children → free_of words c + held_of key words c ≢ child_frames → ¬ AddsUp key words

-- a frame of a tree is neither counted nor held, or both
abbrev pub TreeIsOff : Type 0
TreeIsOff = (key : Key) (words : List ℕ) (t : ℕ) → t < tree_count key
    → tree_free_of key words t + resting_on key words t + held_in_tree key words t ≢ size_of key t
    → ¬ AddsUp key words

-- a tree is marked as reserved, and no core has it, or the other way round
abbrev pub ReservationIsOff : Type 0
ReservationIsOff = (key : Key) (words : List ℕ) (t : ℕ)
    → t < tree_count key → cores_on key words t ≢ reserved_of key words t → ¬ AddsUp key words

-- rebuilding makes another entry
abbrev pub RebuiltEntryDiffers : Type 0
RebuiltEntryDiffers = (key : Key) (words again : List ℕ) (c : ℕ) → IsRebuilt key words again
    → c < key.children → free_of again c ≢ free_of words c → ¬ AddsUp key words

-- rebuilding makes another count of a tree
abbrev pub RebuiltTreeDiffers : Type 0
RebuiltTreeDiffers = (key : Key) (words again : List ℕ) (t : ℕ) → IsRebuilt key words again
    → t < tree_count key
    → tree_free_of key again t ≢ tree_free_of key words t + resting_on key words t
    → ¬ AddsUp key words

-- a frame is set that is in none of these blocks, and that the key does not name
abbrev pub SetWithoutABlock : Type 0
SetWithoutABlock = (key : Key) (words : List ℕ) (blocks : List FrameBlock) (x : ℕ)
    → x < frame_count key → bit_of key words x ≡ 1 → smalls x blocks ≡ 0
    → is_boot_frame key x ≢ true → ¬ HoldsJust key words blocks

-- a frame of one of these blocks is clear
abbrev pub ClearInABlock : Type 0
ClearInABlock = (key : Key) (words : List ℕ) (blocks : List FrameBlock) (x : ℕ)
    → x < frame_count key → bit_of key words x ≡ 0 → 0 < smalls x blocks
    → ¬ HoldsJust key words blocks

-- a frame that the key names is clear
abbrev pub BootFrameIsClear : Type 0
BootFrameIsClear = (key : Key) (words : List ℕ) (blocks : List FrameBlock) (x : ℕ)
    → x < frame_count key → is_boot_frame key x ≡ true → bit_of key words x ≡ 0
    → ¬ HoldsJust key words blocks

-- a frame is clear that has to be set, as one of a block or as one that the key names
abbrev pub HeldIsClear : Type 0
HeldIsClear = ClearInABlock × BootFrameIsClear

-- a child is marked as a huge frame that is none of these blocks, or the other way round
abbrev pub FlagIsOff : Type 0
FlagIsOff = (key : Key) (words : List ℕ) (blocks : List FrameBlock) (c : ℕ)
    → c < key.children → huge_of words c ≢ wholes c blocks → ¬ HoldsJust key words blocks

-- Moments after stops at which something went wrong.

-- the words and the views do not agree
abbrev pub MomentDoesNotFit : Type 0
MomentDoesNotFit = (shares : ℕ) (m : Moment) → ¬ Fits m.key m.shares m.state → ¬ Survives shares m

-- two blocks that somebody knows share a frame
abbrev pub KnownOverlap : Type 0
KnownOverlap = (shares : ℕ) (m : Moment) (x : ℕ) → 1 < holders x (known_at m) → ¬ Survives shares m

-- a block that somebody knows is not held
abbrev pub KnownIsFree : Type 0
KnownIsFree = (shares : ℕ) (m : Moment) (x : ℕ) → 0 < holders x (known_at m)
    → holders x (holding_of m.key (views_of m.state)) ≡ 0 → ¬ Survives shares m

-- a frame that the key names is free
abbrev pub NamedIsFree : Type 0
NamedIsFree = (shares : ℕ) (m : Moment) (x : ℕ) → x < frame_count m.key → is_boot_frame m.key x ≡ true
    → holders x (holding_of m.key (views_of m.state)) ≡ 0 → ¬ Survives shares m

-- somebody knows a frame that the key names
abbrev pub NamedIsKnown : Type 0
NamedIsKnown = (shares : ℕ) (m : Moment) (x : ℕ) → x < frame_count m.key → is_boot_frame m.key x ≡ true
    → 0 < holders x (known_at m) → ¬ Survives shares m

-- a frame that the key names is in flight
abbrev pub NamedIsFlying : Type 0
NamedIsFlying = (shares : ℕ) (m : Moment) (x : ℕ) → x < frame_count m.key → is_boot_frame m.key x ≡ true
    → 0 < holders x (flying_at m) → ¬ Survives shares m

-- a frame is lost that was not in flight at a stop
abbrev pub LostWithoutAStop : Type 0
LostWithoutAStop = (shares : ℕ) (m : Moment) (x : ℕ) → x < frame_count m.key → is_lost m x ≡ true
    → holders x m.abandoned ≡ 0 → ¬ Survives shares m

-- of one share more than 512 frames are lost at one stop, or of nine and then one core more than 5,120 at two
abbrev pub LosesTooMuch : Type 0
LosesTooMuch =
    ((m : Moment) → m.key.cores ≡ 1 → m.stops ≡ 1 → child_frames < lost_frames m → ¬ Survives 1 m)
    × ((m : Moment) → m.key.cores ≡ 1 → m.stops ≡ 2 → 5120 < lost_frames m → ¬ Survives 9 m)

-- Moments after a reopening at which something went wrong.

-- the words and the views do not agree, or what somebody knows or the key names is not held as it has to be
abbrev pub KnownIsLost : Type 0
KnownIsLost = (first m : Moment) → ¬ KnownIsHeld m → ¬ StaysKnown first m

-- a frame is lost that was not lost first, and was not in flight at a stop
abbrev pub LostSinceThen : Type 0
LostSinceThen = (first m : Moment) (x : ℕ) → x < frame_count m.key → is_lost m x ≡ true
    → is_lost first x ≡ false → holders x m.abandoned ≡ 0 → ¬ StaysKnown first m

-- of one share more than 512 frames are lost at one stop, beyond those that were lost first
abbrev pub LosesMoreThanThen : Type 0
LosesMoreThanThen = (first m : Moment) → first.shares ≡ 1 → m.key.cores ≡ 1 → m.stops ≡ 1
    → lost_frames first + child_frames < lost_frames m → ¬ StaysKnown first m

-- no words can be made of its words at a stop
abbrev pub CanNotStop : Type 0
CanNotStop = (first m : Moment)
    → ((new : List ℕ) → ¬ IsRebuilt (unsealed m.key) m.state.words new) → ¬ StaysKnown first m

-- such words are not exact
abbrev pub StopsInexactly : Type 0
StopsInexactly = (first m : Moment) (new : List ℕ) → IsRebuilt (unsealed m.key) m.state.words new
    → ¬ IsExact (unsealed m.key) new → ¬ StaysKnown first m

-- an entry that was rebuilt is off
abbrev pub ExactEntryIsOff : Type 0
ExactEntryIsOff = (key : Key) (words : List ℕ) (c : ℕ)
    → c < key.children → free_of words c + held_of key words c ≢ child_frames → ¬ IsExact key words

-- the count of a tree that was rebuilt is off
abbrev pub ExactTreeIsOff : Type 0
ExactTreeIsOff = (key : Key) (words : List ℕ) (t : ℕ) → t < tree_count key
    → tree_free_of key words t + held_in_tree key words t ≢ size_of key t → ¬ IsExact key words

-- a tree is reserved after a stop
abbrev pub ReservedStill : Type 0
ReservedStill = (key : Key) (words : List ℕ) (t : ℕ)
    → t < tree_count key → 0 < reserved_of key words t → ¬ IsExact key words

-- frames rest on a core after a stop
abbrev pub RestingStill : Type 0
RestingStill = (key : Key) (words : List ℕ) (t : ℕ)
    → 0 < resting_on key words t → ¬ IsExact key words

-- Lists of events.

-- a form is that of none of these events
abbrev pub FormIsMissing : Type 0
FormIsMissing = (events : List Event) (form : Form)
    → All (λ event. form_of event ≢ form) events → ¬ AreOfEveryForm events
