-- What a take leaves of the view of the one who takes.
use Rattle.std.specs.Prelude.{◌≡◌, ℕ, pos, ◌+◌, ◌*◌, ◌/◌, ◌^◌, ◌+ℤ◌, ◌≤◌, ◌∷◌, ◌||◌, nat_lt, List, Some}
use Rattle.frame_words.specs.Geometry.{child_frames, huge_order, tree_children}
use Rattle.frame_words.specs.Runs.{child_words, word_bits}
use Rattle.frame_model.specs.declared.block.FrameBlock.{FrameBlock}
use Rattle.frame_model.specs.declared.key.Key.{Key}
use Rattle.frame_model.specs.declared.view.View.{View}
use Rattle.frame_model.specs.Key.{child_of, tree_of, tree_of_child}
use Rattle.frame_model.specs.Block.{block, IsBlock}
use Rattle.frame_core.specs.Mover.{Mover}
use Rattle.frame_model.specs.Steps.Amounts.{more, less}

-- the view is as before, but for its counts of moves and of lost exchanges
abbrev pub IsAsBefore : View → View → Type 0
IsAsBefore v w = w ≡ record v { moves = w.moves; lost = w.lost }

-- and n frames of the child are charged
abbrev pub HasCharged : ℕ → ℕ → View → View → Type 0
HasCharged child n v w =
    w ≡ record v { charged = more child n v.charged; moves = w.moves; lost = w.lost }

-- and the frames of a block in the child, charged and paid before, are in flight
abbrev pub HasClaimedIn : ℕ → ℕ → ℕ → View → View → Type 0
HasClaimedIn child frame order v w = w ≡ record v {
  charged = less child (2 ^ order) v.charged;
  paid = less (tree_of_child child) (2 ^ order) v.paid;
  own = block frame order ∷ v.own;
  moves = w.moves;
  lost = w.lost;
}

-- the child that a bit word belongs to
abbrev pub child_of_word : ℕ → ℕ
child_of_word word = word / child_words

-- the tree that a bit word belongs to
abbrev pub tree_of_word : ℕ → ℕ
tree_of_word word = word / (tree_children * child_words)

-- and the frames of a run in the bit word, charged and paid before, are in flight
abbrev pub HasClaimed : ℕ → ℕ → ℕ → View → View → Type 0
HasClaimed word bit order v w = w ≡ record v {
  charged = less (child_of_word word) (2 ^ order) v.charged;
  paid = less (tree_of_word word) (2 ^ order) v.paid;
  own = block (word_bits * word + bit) order ∷ v.own;
  moves = w.moves;
  lost = w.lost;
}

-- and the whole child, whose frames were paid, is in flight
abbrev pub HasTakenHuge : ℕ → View → View → Type 0
HasTakenHuge child v w = w ≡ record v {
  paid = less (tree_of_child child) child_frames v.paid;
  own = block (child_frames * child) huge_order ∷ v.own;
  moves = w.moves;
  lost = w.lost;
}

-- and a block of the order, whose frames were paid in the tree, was handed out
abbrev pub HasHandedOut : ℕ → ℕ → View → View → Type 0
HasHandedOut tree order v w = w ≡ record v {
  paid = less tree (2 ^ order) v.paid;
  lent = v.lent +ℤ pos 1;
  moves = w.moves;
  lost = w.lost;
}

-- a block of this order in the child
pub record IsBlockIn (key : Key) (child order : ℕ) (b : FrameBlock) : Type 0 where
  pub is_block : IsBlock key b
  pub has_order : b.order ≡ order
  pub in_child : child_of b.frame ≡ child

-- At most n moves were made, and an exchange is known to be lost exactly where one was before or
-- the count of losses rose, as far as counts are exact.
pub record Counts {T H : Type 0} (exact : ℕ → Type 0) (n : ℕ) (old new : Mover T H) : Type 0 where
  pub moves : new.view.moves ≤ old.view.moves + n
  pub lost : new.view.lost ≤ old.view.lost + n
  pub rises : exact (old.view.moves + n) → old.view.moves ≤ new.view.moves
  pub risen : exact (old.view.lost + n) → old.view.lost ≤ new.view.lost
  pub missed : exact (old.view.lost + n)
      → new.missed ≡ (old.missed || nat_lt old.view.lost new.view.lost)

-- nobody else steps, and the words are known
abbrev pub IsSure : {T H : Type 0} → Mover T H → Type 0
IsSure m = m.is_alone × ((ws : List ℕ) × (m.words ≡ Some ws))

-- no exchange was lost in between
pub record LosesNone {T H : Type 0} (old new : Mover T H) : Type 0 where
  pub missed : new.missed ≡ old.missed
  pub lost : new.view.lost ≡ old.view.lost

-- who is sure of the words stays so, and loses no exchange
pub record StaysSure {T H : Type 0} (old new : Mover T H) : Type 0 where
  pub is_sure : IsSure old → IsSure new
  pub loses_none : IsSure old → LosesNone old new

-- a block of this order in the tree
pub record IsBlockOfTree (key : Key) (tree order : ℕ) (b : FrameBlock) : Type 0 where
  pub is_block : IsBlock key b
  pub has_order : b.order ≡ order
  pub in_tree : tree_of b.frame ≡ tree
