-- When the words and the views of a memory agree.
use Rattle.std.specs.Prelude.{◌≡◌, ℕ, ◌+◌, ◌<◌, ◌≤◌, List, ◌∷◌}
use Rattle.std.specs.List.{sum_by, All}
use borrow.Author.Differences.{up, down}
use Rattle.frame_words.specs.Geometry.{child_frames}
use Rattle.frame_model.specs.declared.key.Key.{Key}
use Rattle.frame_model.specs.declared.view.View.{View}
use Rattle.frame_model.specs.Key.{frame_count, tree_count, child_of, size_of}
use Rattle.frame_model.specs.Words.{bit_of, free_of, huge_of, held_of, held_in_tree, tree_free_of, reserved_of, resting_on, cores_on, AreInRange}
use Rattle.frame_model.specs.View.{small_in, whole_in, marks, charged_in, paid_on, reserves, blocks_out, ground_small_in, ground_in, fixed_ground, IsViewOf}

-- all views of a memory: its fixed ground, and those of the seats
abbrev pub all_views : Key → List View → List View
all_views key views = fixed_ground key ∷ views

-- the sum of a count over all views
unfoldable pub total : Key → (View → ℕ) → List View → ℕ
total key count views = sum_by count (all_views key views)

-- the words and the views of a memory agree: what is free, in flight and held adds up everywhere
pub record Fit (key : Key) (shares : ℕ) (words : List ℕ) (views : List View) : Type 0 where
  -- the blocks that are a child number its huge flag
  pub wholes : (c : ℕ) → c < key.children → total key (whole_in c) views ≡ huge_of words c
  -- the blocks below order 9 that hold a frame and the views that filled its word number its bit
  pub bits : (x : ℕ) → x < frame_count key → total key (marks x) views ≡ bit_of key words x
  -- no frame is in a block below order 9 and in a huge frame
  pub apart : (x : ℕ) → x < frame_count key
      → total key (small_in x) views + huge_of words (child_of x) ≤ 1
  -- the free, the charged and the held frames of a child are all of it
  pub entries_add_up : (c : ℕ) → c < key.children
      → free_of words c + total key (charged_in c) views + held_of key words c ≡ child_frames
  -- the free, the resting, the paid and the held frames of a tree are all of it
  pub trees_add_up : (t : ℕ) → t < tree_count key
      → tree_free_of key words t + resting_on key words t + total key (paid_on t) views
      + held_in_tree key words t ≡ size_of key t
  -- the cores that rest on a tree and the views that are reserving it number its flag
  pub reserved_once : (t : ℕ) → t < tree_count key
      → cores_on key words t + total key (reserves t) views ≡ reserved_of key words t
  -- the shares are all there
  pub shares_add_up : total key (λ v. v.share) views ≡ shares
  -- what was lent is out
  pub lents_add_up : total key (λ v. up v.lent) views
      ≡ total key (λ v. down v.lent) views + total key blocks_out views
  -- exactly one view is the ground
  pub one_ground : total key ground_in views ≡ 1
  -- and it has each frame past the end
  pub past_end : (x : ℕ) → key.frames ≤ x → x < frame_count key
      → total key (ground_small_in x) views ≡ 1
  pub each : All (IsViewOf key) views
  pub words_in_range : AreInRange key words
