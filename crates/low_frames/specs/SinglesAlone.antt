-- What takes of several single frames leave of the words where nobody else steps.
use Rattle.std.specs.Prelude.{◌≡◌, ℕ, ◌+◌, ◌-◌, ◌*◌, ◌^◌, ◌<◌, ◌≤◌, bit_and, bit_or, List}
use Rattle.std.specs.Int.Count.{ones}
use Rattle.frame_words.specs.Geometry.{child_frames, tree_frames, word_frames}
use Rattle.frame_model.specs.declared.block.FrameBlock.{FrameBlock}
use Rattle.frame_model.specs.declared.key.Key.{Key}
use Rattle.frame_model.specs.Key.{frame_count}
use Rattle.frame_model.specs.Block.{smalls, single_blocks}
use Rattle.frame_model.specs.Words.{bit_of, free_of, huge_of, bit_word_of}
use Rattle.frame_model.specs.Steps.{words_after, claim_singles}
use Rattle.frame_model.specs.Report.{held_at}

-- each of so many frames, from this one on, is held
abbrev pub AreHeld : Key → ℕ → ℕ → List ℕ → Type 0
AreHeld key from count words =
    (x : ℕ) → from ≤ x → x < from + count → x < frame_count key → 0 < held_at key words x

-- These single frames were free and are held. Every other bit, and every flag, is as it was.
pub record HoldsMoreOf (key : Key) (blocks : List FrameBlock) (old new : List ℕ) : Type 0 where
  pub were_free : (x : ℕ) → x < frame_count key → 0 < smalls x blocks → held_at key old x ≡ 0
  pub bits : (x : ℕ) → x < frame_count key → bit_of key new x ≡ bit_of key old x + smalls x blocks
  pub flags : (c : ℕ) → c < key.children → huge_of new c ≡ huge_of old c

-- just these frames were taken, k of them; where they are fewer than n, each of so many from one on is held
pub record TakesUpTo (key : Key) (from count k n : ℕ) (blocks : List FrameBlock) (old new : List ℕ)
    : Type 0 where
  pub holds : HoldsMoreOf key blocks old new
  pub none_left : k < n → AreHeld key from count new

-- the same, and no entry is changed
pub record ClaimsUpTo (key : Key) (from count k n : ℕ) (blocks : List FrameBlock) (old new : List ℕ)
    : Type 0 where
  pub takes : TakesUpTo key from count k n blocks old new
  pub entries : (c : ℕ) → c < key.children → free_of new c ≡ free_of old c

-- the same for the frames of a bit word
abbrev pub ClaimsOfWord : Key → ℕ → ℕ → ℕ → List FrameBlock → List ℕ → List ℕ → Type 0
ClaimsOfWord key word = ClaimsUpTo key (word_frames * word) word_frames

-- the same for the frames of a child
abbrev pub ClaimsOfChild : Key → ℕ → ℕ → ℕ → List FrameBlock → List ℕ → List ℕ → Type 0
ClaimsOfChild key child = ClaimsUpTo key (child_frames * child) child_frames

-- just these frames were taken, k of them; where they are fewer than n, each frame of the child is held
abbrev pub TakesOfChild : Key → ℕ → ℕ → ℕ → List FrameBlock → List ℕ → List ℕ → Type 0
TakesOfChild key child = TakesUpTo key (child_frames * child) child_frames

-- just these frames were taken, k of them; where they are fewer than n, each frame of the tree is held
abbrev pub TakesOfTree : Key → ℕ → ℕ → ℕ → List FrameBlock → List ℕ → List ℕ → Type 0
TakesOfTree key tree = TakesUpTo key (tree_frames * tree) tree_frames

-- bits of the bit word, clear before, are set; where they are fewer than n, no bit of it is clear
pub record SetsBits (key : Key) (word mask n : ℕ) (old new : List ℕ) : Type 0 where
  pub were_clear : bit_and (bit_word_of key old word) mask ≡ 0
  pub words : new ≡ words_after key (claim_singles word (bit_word_of key old word) mask) old
  pub none_left : ones mask < n → bit_or (bit_word_of key old word) mask ≡ 2 ^ 64 - 1

-- the words are as they were, and these are the frames of the bit word at the bits of the mask
abbrev pub HandsOutOf : ℕ → ℕ → List FrameBlock → List ℕ → List ℕ → Type 0
HandsOutOf word mask blocks old new =
    (new ≡ old) × ((x : ℕ) → smalls x blocks ≡ smalls x (single_blocks word mask))
