-- How a memory begins: words that equal their own rebuilding, and views that hold what is held.
use Rattle.std.specs.Prelude.{◌≡◌, ℕ, ◌*◌, ◌<◌, ◌≤◌, List, [], ◌∷◌, ◌++◌, true, false, nat_eq, if◌then◌else◌, map, filter}
use Rattle.std.specs.List.{range_with_len}
use Rattle.frame_words.specs.Geometry.{child_frames}
use Rattle.frame_model.specs.declared.block.FrameBlock.{FrameBlock}
use Rattle.frame_model.specs.declared.key.Key.{Key}
use Rattle.frame_model.specs.declared.view.View.{View}
use Rattle.frame_model.specs.Key.{frame_count, is_boot_frame}
use Rattle.frame_model.specs.Block.{block}
use Rattle.frame_model.specs.Words.{bit_of, huge_of}
use Rattle.frame_model.specs.View.{idle}
use Rattle.frame_model.specs.Events.{State, eye, Fits, LeadsTo, Event}
use Rattle.frame_model.specs.Rebuilt.{IsRebuilt}

-- the set frames of these words, each as a block of order 0
unfoldable pub set_blocks : Key → List ℕ → List FrameBlock
set_blocks key words =
    map (λ x. block x 0)
    (filter (λ x. nat_eq (bit_of key words x) 1) (range_with_len 0 (frame_count key)))

-- the huge frames of these words
unfoldable pub huge_blocks : Key → List ℕ → List FrameBlock
huge_blocks key words =
    map (λ c. block (child_frames * c) 9)
    (filter (λ c. nat_eq (huge_of words c) 1) (range_with_len 0 key.children))

-- all that is held in these words
abbrev pub held_blocks : Key → List ℕ → List FrameBlock
held_blocks key words = huge_blocks key words ++ set_blocks key words

-- the words of a sealed memory: no frame is held but those that nobody is ever given
pub record IsSealedOpening (key : Key) (words : List ℕ) : Type 0 where
  pub sealed : key.sealed ≡ true
  pub exact : IsRebuilt key words words
  pub unflagged : (c : ℕ) → c < key.children → huge_of words c ≡ 0
  pub boot_frames : (x : ℕ) → x < frame_count key
      → bit_of key words x ≡ (if is_boot_frame key x then 1 else 0)

-- the words of a memory that was in use before: every counter is what rebuilding makes of it, and the
-- frames past the end are set
pub record IsReopening (key : Key) (words : List ℕ) : Type 0 where
  pub unsealed : key.sealed ≡ false
  pub exact : IsRebuilt key words words
  pub past_end : (x : ℕ) → key.frames ≤ x → x < frame_count key → bit_of key words x ≡ 1

-- the one view at a reopening: it has all shares, and keeps what is held until the ground parts off
abbrev pub reopener : Key → List ℕ → ℕ → View
reopener key words shares = record (idle key shares) {
  is_ground = true;
  kept = held_blocks key words;
}

-- one seat with all shares, before any step
abbrev pub opened : List ℕ → View → State
opened words view = record { words = words; eyes = eye view [] ∷ [] }

-- every list of events from a sealed opening on keeps the fit
abbrev pub EveryRunFromSealed : Type 0
EveryRunFromSealed = (key : Key) (words : List ℕ) (shares : ℕ) (events : List Event) (s : State)
    → 0 < shares → IsSealedOpening key words → LeadsTo key (opened words (idle key shares)) events s
    → Fits key shares s

-- every list of events from an opening at words that were in use before keeps the fit
abbrev pub EveryRunFromReopening : Type 0
EveryRunFromReopening = (key : Key) (words : List ℕ) (shares : ℕ) (events : List Event) (s : State)
    → 0 < shares → IsReopening key words
    → LeadsTo key (opened words (reopener key words shares)) events s → Fits key shares s
