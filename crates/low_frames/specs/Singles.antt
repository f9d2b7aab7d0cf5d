-- Takes of several single frames at a time: what they ask, and what they leave.
use Rattle.std.specs.Prelude.{◌≡◌, ℕ, pos, ◌*◌, ◌+ℤ◌, ◌<◌, ◌≤◌, List, [], ◌++◌, length, map, Option, None, nat_eq, if◌then◌else◌}
use Rattle.std.specs.Int.Count.{ones}
use Rattle.std.specs.List.{All}
use Rattle.frame_model.specs.declared.block.FrameBlock.{FrameBlock}
use Rattle.frame_model.specs.declared.view.Amount.{Amount}
use Rattle.frame_model.specs.declared.view.View.{View}
use Rattle.frame_model.specs.Key.{tree_count, tree_of_child}
use Rattle.frame_model.specs.Block.{single_blocks}
use Rattle.frame_model.specs.View.{charged_in, paid_on}
use Rattle.frame_model.specs.Holding.{IsFreeBlock}
use Rattle.frame_model.specs.Steps.Amounts.{less}
use Rattle.frame_core.specs.Mover.{Mover, LiesInside, Keeps, IsApart}
use Rattle.frame_words.specs.Runs.{child_words}
use Rattle.low_frames.specs.Bounds.{attempt}
use Rattle.low_frames.specs.Outcomes.{HasNoBootFrame}
use Rattle.low_frames.specs.Takes.{Counts, IsBlockOfTree, child_of_word, tree_of_word}
use Rattle.low_frames.specs.Alone.{Turns}
use Rattle.low_frames.specs.SinglesAlone.{SetsBits, HandsOutOf}

-- What they ask.

-- nothing is in flight but what is paid: n frames of the tree and more
pub record MayTakeSomeOf {T H : Type 0} (t n : ℕ) (m : Mover T H) : Type 0 where
  pub tree : t < tree_count m.key
  pub share : 0 < m.view.share
  pub charged : m.view.charged ≡ None
  pub own : m.view.own ≡ []
  pub paid : n ≤ paid_on t m.view

-- nothing is in flight but what is paid: n frames of the child's tree and more
pub record MayTakeSome {T H : Type 0} (c n : ℕ) (m : Mover T H) : Type 0 where
  pub child : c < m.key.children
  pub share : 0 < m.view.share
  pub charged : m.view.charged ≡ None
  pub own : m.view.own ≡ []
  pub paid : n ≤ paid_on (tree_of_child c) m.view

-- nothing is in flight but what is charged and paid: n frames of the child and more
pub record MayTakeRuns {T H : Type 0} (c n : ℕ) (m : Mover T H) : Type 0 where
  pub child : c < m.key.children
  pub share : 0 < m.view.share
  pub own : m.view.own ≡ []
  pub charged : n ≤ charged_in c m.view
  pub paid : n ≤ paid_on (tree_of_child c) m.view

-- single frames of a bit word are all that is in flight
pub record MayHandOutEach {T H : Type 0} (word mask : ℕ) (m : Mover T H) : Type 0 where
  pub share : 0 < m.view.share
  pub inside : word < child_words * m.key.children
  pub own : m.view.own ≡ single_blocks word mask
  pub apart : IsApart m.key m.view

-- What they leave.

-- n frames less, and nothing is changed by none
unfoldable pub lowered : ℕ → ℕ → Option Amount → Option Amount
lowered place n amount = if nat_eq n 0 then amount else less place n amount

-- the frames of the bit word at these bits, charged and paid before, are in flight one by one
abbrev pub HasClaimedSingles : ℕ → ℕ → View → View → Type 0
HasClaimedSingles word mask v w = w ≡ record v {
  charged = lowered (child_of_word word) (ones mask) v.charged;
  paid = lowered (tree_of_word word) (ones mask) v.paid;
  own = single_blocks word mask ++ v.own;
  moves = w.moves;
  lost = w.lost;
}

-- n single frames of the child, charged and paid before, were handed out
abbrev pub HasTakenSome : ℕ → ℕ → View → View → Type 0
HasTakenSome child n v w = w ≡ record v {
  charged = lowered child n v.charged;
  paid = lowered (tree_of_child child) n v.paid;
  lent = v.lent +ℤ pos n;
  moves = w.moves;
  lost = w.lost;
}

-- n single frames, paid in the tree before, were handed out
abbrev pub HasLentSome : ℕ → ℕ → View → View → Type 0
HasLentSome tree n v w = w ≡ record v {
  paid = lowered tree n v.paid;
  lent = v.lent +ℤ pos n;
  moves = w.moves;
  lost = w.lost;
}

-- nothing is in flight any more, and n single frames were handed out
abbrev pub HasHandedOutAll : ℕ → View → View → Type 0
HasHandedOutAll n v w = w ≡ record v {
  own = [];
  lent = v.lent +ℤ pos n;
  moves = w.moves;
  lost = w.lost;
}

-- a single frame of the tree is out that was not kept, held back or past the end
pub record IsSingleOut {T H : Type 0} (block_of : H → FrameBlock) (tree : ℕ) (kept : List FrameBlock)
    (m : Mover T H) (held : H) : Type 0 where
  pub is_out : m.is_out held
  pub is_one : IsBlockOfTree m.key tree 0 (block_of held)
  pub apart : IsFreeBlock kept (block_of held)
  pub no_boot_frame : HasNoBootFrame m.key (block_of held)
  pub inside : LiesInside m.key (block_of held)

-- k single frames of the tree are out, behind the others, after at most so many moves, which turned
-- the view so, and where nobody else steps the words
pub record TakesSingles {T H : Type 0} (block_of : H → FrameBlock) (exact : ℕ → Type 0) (tree most : ℕ)
    (V : View → View → Type 0) (W : List FrameBlock → List ℕ → List ℕ → Type 0) (k : ℕ)
    (olds news : List H) (old new : Mover T H) : Type 0 where
  pub keeps : Keeps old new
  pub counts : Counts exact most old new
  pub view : V old.view new.view
  pub got : List H
  pub items : news ≡ olds ++ got
  pub count : length got ≡ k
  pub each : All (IsSingleOut block_of tree old.view.kept new) got
  pub alone : old.is_alone → Turns (W (map block_of got)) old.words new.words

-- each single frame of the bit word that was in flight is out, behind the others
abbrev pub HandsOutEach : {T H : Type 0} → (H → FrameBlock) → (ℕ → Type 0) → ℕ → ℕ → List H → List H
    → Mover T H → Mover T H → Type 0
HandsOutEach block_of exact word mask olds news old new =
    TakesSingles block_of exact (tree_of_child (child_of_word word)) (ones mask) (HasHandedOutAll (ones mask))
    (HandsOutOf word mask) (ones mask) olds news old new

-- at most n bits of the bit word, or none, were claimed; where nobody else steps, as many as are clear
pub record ClaimsSome {T H : Type 0} (exact : ℕ → Type 0) (word n mask : ℕ) (old new : Mover T H)
    : Type 0 where
  pub keeps : Keeps old new
  pub counts : Counts exact attempt old new
  pub few : ones mask ≤ n
  pub view : HasClaimedSingles word mask old.view new.view
  pub apart : IsApart old.key new.view
  pub alone : old.is_alone → Turns (SetsBits old.key word mask n) old.words new.words
