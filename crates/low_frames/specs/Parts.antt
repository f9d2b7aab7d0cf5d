-- What the parts of takes and gives ask, and how they may end.
use Rattle.std.specs.Prelude.{◌≡◌, ℕ, ◌+◌, ◌*◌, ◌^◌, ◌<◌, ◌≤◌, List, [], ◌∷◌, Option, None, Some, IfSome, IfNone, Bool, true, MatchBool, length, slice_index}
use Rattle.frame_words.specs.Runs.{word_bits, word_order, pair_order, four_order, child_words}
use Rattle.frame_model.specs.declared.block.FrameBlock.{FrameBlock}
use Rattle.frame_model.specs.declared.view.View.{View}
use Rattle.frame_model.specs.Key.{child_of, tree_of_child}
use Rattle.frame_model.specs.Block.{IsBlock}
use Rattle.frame_model.specs.View.{charged_in, paid_on, NoneBut}
use Rattle.frame_model.specs.Words.{bits_place}
use Rattle.frame_core.specs.Moves.{ReadsBut}
use Rattle.frame_core.specs.Mover.{Mover, Keeps, IsApart}
use Rattle.low_frames.specs.Bounds.{attempt, won_attempt, most_words}
use Rattle.low_frames.specs.Takes.{Counts, IsAsBefore, child_of_word, tree_of_word, HasClaimed, LosesNone, StaysSure}
use Rattle.low_frames.specs.Gives.{HasReleased}
use Rattle.low_frames.specs.Alone.{Turns, FindsOf, WordsGive}
use Rattle.low_frames.specs.Groups.{HoldsWords, HasClaimedWords, WasReadClear, ReadsOutside, HasTakenWords, HasGivenWords, WhereFree, AreWordsOf}

-- What they ask.

-- nothing is charged or in flight
pub record MayCharge {T H : Type 0} (c : ℕ) (m : Mover T H) : Type 0 where
  pub child : c < m.key.children
  pub share : 0 < m.view.share
  pub charged : m.view.charged ≡ None
  pub own : m.view.own ≡ []

-- frames for a run of this order in the bit word are charged and paid
pub record MayClaim {T H : Type 0} (w n : ℕ) (m : Mover T H) : Type 0 where
  pub word : w < child_words * m.key.children
  pub order : n ≤ word_order
  pub share : 0 < m.view.share
  pub charged : 2 ^ n ≤ charged_in (child_of_word w) m.view
  pub paid : 2 ^ n ≤ paid_on (tree_of_word w) m.view

-- frames for a run of this order in the child are charged and paid
pub record MayClaimIn {T H : Type 0} (c n : ℕ) (m : Mover T H) : Type 0 where
  pub child : c < m.key.children
  pub order : n ≤ word_order
  pub share : 0 < m.view.share
  pub charged : 2 ^ n ≤ charged_in c m.view
  pub paid : 2 ^ n ≤ paid_on (tree_of_child c) m.view

-- frames for a block of this order, of k bit words in the child, are charged and paid
pub record MayClaimGroup {T H : Type 0} (c n k : ℕ) (m : Mover T H) : Type 0 where
  pub child : c < m.key.children
  pub wide : pair_order ≤ n
  pub order : n ≤ four_order
  pub count : word_bits * k ≡ 2 ^ n
  pub share : 0 < m.view.share
  pub own : m.view.own ≡ []
  pub charged : word_bits * k ≤ charged_in c m.view
  pub paid : word_bits * k ≤ paid_on (tree_of_child c) m.view

-- frames for k bit words of the child, which were read clear from this one on, are charged and paid
pub record MayClaimWords {T H : Type 0} (c f k : ℕ) (m : Mover T H) : Type 0 where
  pub child : c < m.key.children
  pub inside : f + k ≤ child_words
  pub some : 0 < k
  pub share : 0 < m.view.share
  pub own : m.view.own ≡ []
  pub charged : word_bits * k ≤ charged_in c m.view
  pub paid : word_bits * k ≤ paid_on (tree_of_child c) m.view
  pub seen : WasReadClear m.key m.read (child_words * c + f) k

-- frames for the bit word, which was read clear, are charged and paid
pub record MayClaimWord {T H : Type 0} (w : ℕ) (m : Mover T H) : Type 0 where
  pub word : w < child_words * m.key.children
  pub share : 0 < m.view.share
  pub charged : word_bits ≤ charged_in (child_of_word w) m.view
  pub paid : word_bits ≤ paid_on (tree_of_word w) m.view
  pub seen : m.read (bits_place m.key w) ≡ Some 0

-- k bit words of the child, from this one on, and nothing else are in flight
pub record MayReleaseWords {T H : Type 0} (c f k : ℕ) (m : Mover T H) : Type 0 where
  pub child : c < m.key.children
  pub inside : f + k ≤ child_words
  pub some : 0 < k
  pub share : 0 < m.view.share
  pub own : HoldsWords m.key m.view.own (child_words * c + f) k
  pub charged : NoneBut c m.view.charged
  pub paid : NoneBut (tree_of_child c) m.view.paid

-- the block, of an order up to 8, and nothing else is in flight
pub record MayReleaseBlock {T H : Type 0} (b : FrameBlock) (m : Mover T H) : Type 0 where
  pub share : 0 < m.view.share
  pub is_block : IsBlock m.key b
  pub order : b.order ≤ four_order
  pub own : m.view.own ≡ b ∷ []
  pub charged : NoneBut (child_of b.frame) m.view.charged
  pub paid : NoneBut (tree_of_child (child_of b.frame)) m.view.paid

-- How attempts may end.

-- an attempt in at most so many moves: the view turned so, and where nobody else steps the words;
-- or the view is as before, and where nobody else steps this was found of the words
pub record Attempts {T H : Type 0} (exact : ℕ → Type 0) (most : ℕ) (V : View → View → Type 0)
    (W : List ℕ → List ℕ → Type 0) (F : List ℕ → Type 0) (made : Bool) (old new : Mover T H)
    : Type 0 where
  pub keeps : Keeps old new
  pub counts : Counts exact most old new
  pub sure : StaysSure old new
  pub view : MatchBool made (V old.view new.view) (IsAsBefore old.view new.view)
  pub apart : made ≡ true → IsApart old.key new.view
  pub alone : old.is_alone
      → MatchBool made (Turns W old.words new.words) (FindsOf F old.words new.words)

-- the same where an answer tells what turned
pub record Gets {T H X : Type 0} (exact : ℕ → Type 0) (most : ℕ) (V : X → View → View → Type 0)
    (W : X → List ℕ → List ℕ → Type 0) (F : List ℕ → Type 0) (answer : Option X)
    (old new : Mover T H) : Type 0 where
  pub keeps : Keeps old new
  pub counts : Counts exact most old new
  pub sure : StaysSure old new
  pub some : IfSome answer (λ x. V x old.view new.view)
  pub apart : IfSome answer (λ x. IsApart old.key new.view)
  pub none : IfNone answer (IsAsBefore old.view new.view)
  pub alone_some : old.is_alone → IfSome answer (λ x. Turns (W x) old.words new.words)
  pub alone_none : old.is_alone → IfNone answer (FindsOf F old.words new.words)

-- Bit words, one after the other.

-- the eight bit words of the child were read, and are the list
pub record ReadsWords {T H : Type 0} (exact : ℕ → Type 0) (c : ℕ) (list : List ℕ)
    (old new : Mover T H) : Type 0 where
  pub keeps : Keeps old new
  pub counts : Counts exact child_words old new
  pub sure : StaysSure old new
  pub view : IsAsBefore old.view new.view
  pub size : length list ≡ child_words
  pub read : (i : ℕ) → i < child_words
      → new.read (bits_place old.key (child_words * c + i)) ≡ Some (slice_index list i)
  pub alone : old.is_alone → FindsOf (AreWordsOf old.key c list) old.words new.words

-- the bit word is in flight
pub record HasClaimedWord {T H : Type 0} (exact : ℕ → Type 0) (w : ℕ) (old new : Mover T H)
    : Type 0 where
  pub view : HasClaimed w 0 word_order old.view new.view
  pub apart : IsApart old.key new.view
  pub counts : Counts exact won_attempt old new

-- the bit word was claimed, or it was lost to what is answered, which is not clear; where nobody
-- else steps, a free one is claimed
pub record ClaimsWord {T H : Type 0} (exact : ℕ → Type 0) (w : ℕ) (answer : Option ℕ)
    (old new : Mover T H) : Type 0 where
  pub keeps : Keeps old new
  pub counts : Counts exact attempt old new
  pub read : ReadsBut (bits_place old.key w) old.read new.read
  pub claimed : IfNone answer (HasClaimedWord exact w old new)
  pub lost : IfSome answer (λ found. (0 < found) × IsAsBefore old.view new.view)
  pub alone : old.is_alone → WhereFree old.key old.words w 1
      ((answer ≡ None) × (HasTakenWords old.key old.words new.words w 1 × LosesNone old new))

-- so many bit words of the child, and nothing else, are in flight
pub record AreInFlight {T H : Type 0} (c f k : ℕ) (old new : Mover T H) : Type 0 where
  pub view : HasClaimedWords c (word_bits * k) old.view new.view
  pub own : HoldsWords old.key new.view.own (child_words * c + f) k
  pub apart : IsApart old.key new.view

-- one of these words is not clear, and the view is as before
pub record HasLostOne {T H : Type 0} (f k word found : ℕ) (old new : Mover T H) : Type 0 where
  pub from : f ≤ word
  pub to : word < f + k
  pub not_clear : 0 < found
  pub view : IsAsBefore old.view new.view

-- so many bit words of the child were claimed, or one was lost to what is answered; where nobody
-- else steps, free ones are claimed
pub record ClaimsWords {T H : Type 0} (exact : ℕ → Type 0) (c f k : ℕ) (answer : Option (ℕ × ℕ))
    (old new : Mover T H) : Type 0 where
  pub keeps : Keeps old new
  pub counts : Counts exact (attempt * k) old new
  pub read : ReadsOutside old.key (child_words * c + f) k old.read new.read
  pub claimed : IfNone answer (AreInFlight c f k old new)
  pub lost : IfSome answer (λ lost. HasLostOne f k lost.0 lost.1 old new)
  pub alone : old.is_alone → WhereFree old.key old.words (child_words * c + f) k ((answer ≡ None)
      × (HasTakenWords old.key old.words new.words (child_words * c + f) k × LosesNone old new))

-- so many bit words of the child, in flight before, are charged and paid, and nothing is in flight;
-- where nobody else steps their frames are free, also where the words were but recalled
pub record ReleasesWords {T H : Type 0} (exact : ℕ → Type 0) (c f k : ℕ) (old new : Mover T H)
    : Type 0 where
  pub keeps : Keeps old new
  pub counts : Counts exact k old new
  pub sure : StaysSure old new
  pub loses_none : LosesNone old new
  pub view : HasReleased c (word_bits * k) old.view new.view
  pub read : ReadsOutside old.key (child_words * c + f) k old.read new.read
  pub alone : old.is_alone → HasGivenWords old.key old.words new.words (child_words * c + f) k
  pub recalled : old.is_alone → HasGivenWords old.key old.recalled new.words (child_words * c + f) k

-- the frames of the block, in flight before, are charged and paid, and nothing is in flight; where
-- nobody else steps they are free, if the words were recalled
pub record ReleasesBlock {T H : Type 0} (exact : ℕ → Type 0) (b : FrameBlock) (old new : Mover T H)
    : Type 0 where
  pub keeps : Keeps old new
  pub counts : Counts exact most_words old new
  pub loses_none : LosesNone old new
  pub view : HasReleased (child_of b.frame) (2 ^ b.order) old.view new.view
  pub alone : old.is_alone → WordsGive old.key old.recalled new.words b
