-- Blocks that are whole bit words together.
use Rattle.std.specs.Prelude.{◌≡◌, ℕ, ◌+◌, ◌*◌, ◌<◌, ◌≤◌, ◌⊎◌, List, Option, Some, IfSome, slice_index}
use Rattle.std.specs.List.{All}
use Rattle.frame_words.specs.Runs.{word_bits, child_words}
use Rattle.frame_model.specs.declared.block.FrameBlock.{FrameBlock}
use Rattle.frame_model.specs.declared.key.Key.{Key}
use Rattle.frame_model.specs.declared.view.View.{View}
use Rattle.frame_model.specs.Key.{frame_count, tree_of_child}
use Rattle.frame_model.specs.Words.{bits_place, bit_of, huge_of, bit_word_of}
use Rattle.frame_model.specs.Report.{held_at}
use Rattle.frame_model.specs.Steps.Amounts.{less}
use Rattle.frame_model.specs.Block.{IsBlock, smalls, wholes}
use Rattle.low_frames.specs.Alone.{Turns}

-- the blocks hold each frame of so many bit words once, and no other frame
pub record HoldsWords (key : Key) (blocks : List FrameBlock) (first count : ℕ) : Type 0 where
  pub are_blocks : All (IsBlock key) blocks
  pub below : (x : ℕ) → x < word_bits * first → smalls x blocks ≡ 0
  pub inside : (x : ℕ) → word_bits * first ≤ x → x < word_bits * (first + count) → smalls x blocks ≡ 1
  pub above : (x : ℕ) → word_bits * (first + count) ≤ x → smalls x blocks ≡ 0
  pub no_wholes : (c : ℕ) → wholes c blocks ≡ 0

-- so many bit words, from this one on, were clear when they were last read
abbrev pub WasReadClear : Key → (ℕ → Option ℕ) → ℕ → ℕ → Type 0
WasReadClear key read first count =
    (w : ℕ) → first ≤ w → w < first + count → read (bits_place key w) ≡ Some 0

-- of all other bit words, what was read is as before
abbrev pub ReadsOutside : Key → ℕ → ℕ → (ℕ → Option ℕ) → (ℕ → Option ℕ) → Type 0
ReadsOutside key first count old new =
    (w : ℕ) → (w < first) ⊎ (first + count ≤ w)
    → new (bits_place key w) ≡ old (bits_place key w)

-- n frames of the child, charged and paid before, are in flight; what is in flight is left open
abbrev pub HasClaimedWords : ℕ → ℕ → View → View → Type 0
HasClaimedWords child n v w = w ≡ record v {
  charged = less child n v.charged;
  paid = less (tree_of_child child) n v.paid;
  own = w.own;
  moves = w.moves;
  lost = w.lost;
}

-- no frame of so many bit words is held
abbrev pub AreFree : Key → List ℕ → ℕ → ℕ → Type 0
AreFree key words first count =
    (x : ℕ) → word_bits * first ≤ x → x < word_bits * (first + count) → held_at key words x ≡ 0

-- the frames of so many bit words were free, and their bits are set; every other bit and every flag
-- is as it was
pub record HoldsMoreWords (key : Key) (old new : List ℕ) (first count : ℕ) : Type 0 where
  pub were_free : AreFree key old first count
  pub are_set : (x : ℕ) → word_bits * first ≤ x → x < word_bits * (first + count) → bit_of key new x ≡ 1
  pub others : (x : ℕ) → x < frame_count key → (x < word_bits * first) ⊎ (word_bits * (first + count) ≤ x)
      → bit_of key new x ≡ bit_of key old x
  pub flags : (c : ℕ) → c < key.children → huge_of new c ≡ huge_of old c

-- where the words were known, they are known, and so many bit words were taken from what was free
abbrev pub HasTakenWords : Key → Option (List ℕ) → Option (List ℕ) → ℕ → ℕ → Type 0
HasTakenWords key old new first count =
    Turns (λ ws us. HoldsMoreWords key ws us first count) old new

-- where the words were known, they are known, and so many bit words were put back to what is free
abbrev pub HasGivenWords : Key → Option (List ℕ) → Option (List ℕ) → ℕ → ℕ → Type 0
HasGivenWords key old new first count =
    Turns (λ ws us. HoldsMoreWords key us ws first count) old new

-- where the words are known, and so many bit words of them are free, this holds
abbrev pub WhereFree : Key → Option (List ℕ) → ℕ → ℕ → Type 0 → Type 0
WhereFree key words first count P = IfSome words (λ ws. AreFree key ws first count → P)

-- the list has the bit words of the child
abbrev pub AreWordsOf : Key → ℕ → List ℕ → List ℕ → Type 0
AreWordsOf key child list words =
    (i : ℕ) → i < child_words → slice_index list i ≡ bit_word_of key words (child_words * child + i)
