-- The key of a memory: its children, cores and frames, and what its opening held back.
use Rattle.std.specs.Prelude.{◌≡◌, ℕ, ◌+◌, ◌-◌, ◌*◌, ◌/◌, ◌<◌, ◌≤◌, List, [], ◌∷◌, length, Bool, true, false, ◌&&◌, ◌||◌, nat_lt, nat_le, min}
use Rattle.std.specs.List.{range_with_len, list_any}
use Rattle.frame_words.specs.Geometry.{child_frames, tree_children, tree_frames, most_children, most_cores}
use Rattle.frame_words.specs.declared.geometry.Geometry.{Geometry}
use Rattle.frame_model.specs.declared.key.Key.{Key}

-- the key of a memory that holds nothing back but what lies past its end
abbrev pub key_of : Geometry → Key
key_of geometry = record {
  children = geometry.children;
  cores = geometry.cores;
  frames = geometry.frames;
  ranges = [];
  sealed = true;
}

-- the key of a memory whose opening holds back these ranges too
abbrev pub sealed_key : Geometry → List (ℕ × ℕ) → Key
sealed_key geometry ranges = record (key_of geometry) { ranges = ranges }

-- the frames of all children, also those past the end
abbrev pub frame_count : Key → ℕ
frame_count key = child_frames * key.children

-- a tree has eight children, the last one perhaps fewer
abbrev pub tree_count : Key → ℕ
tree_count key = (key.children + 7) / tree_children

-- the child that a frame lies in
abbrev pub child_of : ℕ → ℕ
child_of frame = frame / child_frames

-- the tree that a frame lies in
abbrev pub tree_of : ℕ → ℕ
tree_of frame = frame / tree_frames

-- the tree that a child belongs to
abbrev pub tree_of_child : ℕ → ℕ
tree_of_child child = child / tree_children

-- how many children a tree has
abbrev pub children_in : Key → ℕ → ℕ
children_in key tree = min tree_children (key.children - tree_children * tree)

-- the children of a tree
abbrev pub children_of : Key → ℕ → List ℕ
children_of key tree = range_with_len (tree_children * tree) (children_in key tree)

-- the frames of a tree, counted over whole children
abbrev pub size_of : Key → ℕ → ℕ
size_of key tree = child_frames * children_in key tree

-- the frame lies in the range
unfoldable pub is_in_range : ℕ → ℕ × ℕ → Bool
is_in_range frame range = nat_le range.0 frame && nat_lt frame (range.0 + range.1)

-- nobody is ever given this frame: it lies past the end or in a range
unfoldable pub is_boot_frame : Key → ℕ → Bool
is_boot_frame key frame = nat_le key.frames frame || list_any (is_in_range frame) key.ranges

-- the ranges ascend from a frame on and end at or below another
unfoldable pub AreRanges : ℕ → ℕ → List (ℕ × ℕ) → Type 0
AreRanges from end [] = Unit {0}
AreRanges from end (range ∷ ranges) =
    (1 ≤ range.1) × (from ≤ range.0) × (range.0 + range.1 ≤ end)
    × AreRanges (range.0 + range.1) end ranges

-- the most ranges that an opening may hold back
abbrev pub most_ranges : ℕ
most_ranges = 1024

-- the sizes lie within the limits
pub record AreSizes (key : Key) : Type 0 where
  pub some_children : 1 ≤ key.children
  pub few_children : key.children ≤ most_children
  pub some_cores : 1 ≤ key.cores
  pub few_cores : key.cores ≤ most_cores
  pub last_child : child_frames * (key.children - 1) < key.frames
  pub inside : key.frames ≤ child_frames * key.children

-- the sizes lie within the limits, and the ranges are apart and inside
pub record IsKey (key : Key) : Type 0 where
  pub sizes : AreSizes key
  pub ranges : AreRanges 0 key.frames key.ranges
  pub few_ranges : length key.ranges ≤ most_ranges
  pub unsealed : key.sealed ≡ false → key.ranges ≡ []
