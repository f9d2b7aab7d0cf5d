-- Takes of just one block: what they and their parts ask, what they claim, and why they refuse.
use Rattle.std.specs.Prelude.{◌≡◌, ℕ, ◌+◌, ◌*◌, ◌^◌, ◌<◌, ◌≤◌, List, [], None}
use Rattle.frame_words.specs.Runs.{word_bits, child_words, IsClearRun}
use Rattle.frame_model.specs.declared.block.FrameBlock.{FrameBlock}
use Rattle.frame_model.specs.declared.key.Key.{Key}
use Rattle.frame_model.specs.declared.view.View.{View}
use Rattle.frame_model.specs.Key.{tree_of, tree_of_child}
use Rattle.frame_model.specs.Block.{IsBlock}
use Rattle.frame_model.specs.View.{charged_in, paid_on}
use Rattle.frame_model.specs.Words.{bit_word_of}
use Rattle.frame_model.specs.Steps.Amounts.{IsRun}
use Rattle.frame_core.specs.Mover.{Mover}
use Rattle.low_frames.specs.Takes.{child_of_word, tree_of_word}
use Rattle.low_frames.specs.Groups.{HoldsWords, HasClaimedWords, AreFree}

-- What they ask.

-- nothing is in flight but what is paid: enough for this block
pub record MayTakeAt {T H : Type 0} (b : FrameBlock) (m : Mover T H) : Type 0 where
  pub is_block : IsBlock m.key b
  pub share : 0 < m.view.share
  pub charged : m.view.charged ≡ None
  pub own : m.view.own ≡ []
  pub paid : 2 ^ b.order ≤ paid_on (tree_of b.frame) m.view

-- frames for this run of the bit word are charged and paid
pub record MayClaimAt {T H : Type 0} (w bit n : ℕ) (m : Mover T H) : Type 0 where
  pub is_run : IsRun m.key w bit n
  pub share : 0 < m.view.share
  pub charged : 2 ^ n ≤ charged_in (child_of_word w) m.view
  pub paid : 2 ^ n ≤ paid_on (tree_of_word w) m.view

-- frames for k bit words of the child, from this one on, are charged and paid
pub record MayClaimWordsAt {T H : Type 0} (c f k : ℕ) (m : Mover T H) : Type 0 where
  pub child : c < m.key.children
  pub inside : f + k ≤ child_words
  pub some : 0 < k
  pub share : 0 < m.view.share
  pub own : m.view.own ≡ []
  pub charged : word_bits * k ≤ charged_in c m.view
  pub paid : word_bits * k ≤ paid_on (tree_of_child c) m.view

-- What they claim.

-- k bit words of the child, charged and paid before, are in flight, and nothing else is
pub record HasClaimedWordsAt (key : Key) (c f k : ℕ) (v w : View) : Type 0 where
  pub view : HasClaimedWords c (word_bits * k) v w
  pub own : HoldsWords key w.own (child_words * c + f) k

-- Why they refuse, where nobody else steps.

-- a bit of the run is set
abbrev pub IsNotClear : Key → ℕ → ℕ → ℕ → List ℕ → Type 0
IsNotClear key word bit order words = ¬ IsClearRun (bit_word_of key words word) order bit

-- a frame of so many bit words is held
abbrev pub AreNotFree : Key → ℕ → ℕ → List ℕ → Type 0
AreNotFree key first count words = ¬ AreFree key words first count
