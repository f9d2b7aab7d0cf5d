-- What takes and gives find and leave where nobody else steps.
use Rattle.std.specs.Prelude.{◌≡◌, ◌≢◌, ◌⊎◌, ℕ, ◌+◌, ◌/◌, ◌%◌, ◌<◌, ◌≤◌, List, Option, Some, IfSome, slice_index}
use Rattle.frame_words.specs.Geometry.{child_frames}
use Rattle.frame_words.specs.Runs.{word_bits, IsClearRun, HasNoClearRun}
use Rattle.frame_model.specs.declared.block.FrameBlock.{FrameBlock}
use Rattle.frame_model.specs.declared.key.Key.{Key}
use Rattle.frame_model.specs.Steps.{words_after, charge, claim, take_huge}
use Rattle.frame_model.specs.Key.{frame_count}
use Rattle.frame_model.specs.Block.{covers, small_at, whole_at}
use Rattle.frame_model.specs.Words.{entry_place, entry_of, free_of, huge_of, bit_of, bit_word_of}
use Rattle.frame_model.specs.Report.{held_at}
use Rattle.low_frames.specs.Takes.{child_of_word, IsBlockIn, IsBlockOfTree}

-- no frame of the block is held
abbrev pub IsFreeIn : Key → List ℕ → FrameBlock → Type 0
IsFreeIn key words b = (x : ℕ) → covers b x ≡ 1 → held_at key words x ≡ 0

-- The block was free and is held: one of order 9 by the flag of its child, another by its bits.
-- Every other bit and flag is as it was.
pub record HoldsMore (key : Key) (old new : List ℕ) (b : FrameBlock) : Type 0 where
  pub was_free : IsFreeIn key old b
  pub bits : (x : ℕ) → x < frame_count key → bit_of key new x ≡ bit_of key old x + small_at x b
  pub flags : (c : ℕ) → c < key.children → huge_of new c ≡ huge_of old c + whole_at c b

-- where the words were known, they are known, and this holds of both
abbrev pub Turns : (List ℕ → List ℕ → Type 0) → Option (List ℕ) → Option (List ℕ) → Type 0
Turns R old new = IfSome old (λ ws. (us : List ℕ) × ((new ≡ Some us) × R ws us))

-- where the words were known, they are as they were, and this holds of them
abbrev pub FindsOf : (List ℕ → Type 0) → Option (List ℕ) → Option (List ℕ) → Type 0
FindsOf P old new = IfSome old (λ ws. (new ≡ Some ws) × P ws)

-- where the words were known, they are known, and the block was taken from what was free
abbrev pub WordsTake : Key → Option (List ℕ) → Option (List ℕ) → FrameBlock → Type 0
WordsTake key old new b = Turns (λ ws us. HoldsMore key ws us b) old new

-- where the words were known, they are known, and the block was put back to what is free
abbrev pub WordsGive : Key → Option (List ℕ) → Option (List ℕ) → FrameBlock → Type 0
WordsGive key old new b = Turns (λ ws us. HoldsMore key us ws b) old new

-- no block of these is free
abbrev pub NoneIsFree : Key → (FrameBlock → Type 0) → List ℕ → Type 0
NoneIsFree key In words = (b : FrameBlock) → In b → ¬ IsFreeIn key words b

-- no block of the order in the child is free
abbrev pub HasNoneIn : Key → ℕ → ℕ → List ℕ → Type 0
HasNoneIn key child order words = NoneIsFree key (IsBlockIn key child order) words

-- no block of the order in the tree is free
abbrev pub HasNoneOfTree : Key → ℕ → ℕ → List ℕ → Type 0
HasNoneOfTree key tree order words = NoneIsFree key (IsBlockOfTree key tree order) words

-- n frames of the entry of the child, which shows no huge frame and so many free, are charged
pub record IsCharged (key : Key) (child n : ℕ) (old new : List ℕ) : Type 0 where
  pub no_flag : huge_of old child ≡ 0
  pub enough : n ≤ free_of old child
  pub words : new ≡ words_after key (charge child (slice_index old (entry_place child)) n) old

-- the entry of the child shows a huge frame, or fewer free frames than n
abbrev pub HasTooFew : ℕ → ℕ → List ℕ → Type 0
HasTooFew child n words = (huge_of words child ≡ 1) ⊎ (free_of words child < n)

-- a run of 2 ^ order bits of the bit word, clear before, is set
pub record IsClaimed (key : Key) (word bit order : ℕ) (old new : List ℕ) : Type 0 where
  pub was_clear : IsClearRun (bit_word_of key old word) order bit
  pub words : new ≡ words_after key (claim word (bit_word_of key old word) bit order) old

-- a run of 2 ^ order bits, clear before, is set from the bit of this frame on
abbrev pub IsClaimedIn : Key → ℕ → ℕ → List ℕ → List ℕ → Type 0
IsClaimedIn key frame order old new = IsClaimed key (frame / word_bits) (frame % word_bits) order old new

-- no run of 2 ^ order bits of the bit word is clear
abbrev pub HasNoRun : Key → ℕ → ℕ → List ℕ → Type 0
HasNoRun key word order words = HasNoClearRun (bit_word_of key words word) order

-- no run of 2 ^ order bits of any bit word of the child is clear
abbrev pub HasNoRunIn : Key → ℕ → ℕ → List ℕ → Type 0
HasNoRunIn key child order words = (word : ℕ) → child_of_word word ≡ child → HasNoRun key word order words

-- the entry of the child, which showed it free as a whole, shows a huge frame
pub record IsTakenHuge (key : Key) (child : ℕ) (old new : List ℕ) : Type 0 where
  pub was_whole : entry_of old child ≡ child_frames
  pub words : new ≡ words_after key (take_huge child (slice_index old (entry_place child))) old

-- the entry of the child does not show it free as a whole
abbrev pub IsNotWhole : ℕ → List ℕ → Type 0
IsNotWhole child words = entry_of words child ≢ child_frames
