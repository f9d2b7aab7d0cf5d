-- An image in the course of being rebuilt.
use Rattle.std.specs.Prelude.{◌≡◌, ℕ, ◌*◌, ◌<◌, List, None, map}
use Rattle.std.specs.List.{range_with_len}
use Rattle.frame_words.specs.declared.geometry.Geometry.{Geometry}
use Rattle.frame_model.specs.declared.key.Key.{Key}
use Rattle.frame_model.specs.Key.{tree_count}
use Rattle.frame_model.specs.Words.{free_of, huge_of, tree_free_of, reserved_of, rest_of, bit_word_of}
use Rattle.frame_core.specs.Image.{IsImage}
use Rattle.frame_core.specs.Moves.{HasSizes}
use Rattle.frame_model.specs.Rebuilt.{rebuilt_free, rebuilt_in_tree, rebuilt_bits, IsRebuilt}

-- the new words are the old ones rebuilt, and no others are
pub record RebuildsJust (key : Key) (old new : List ℕ) : Type 0 where
  pub rebuilt : IsRebuilt key old new
  pub only : (other : List ℕ) → IsRebuilt key old other → other ≡ new

-- the new words are the old ones rebuilt, whatever a memory of these sizes holds back
abbrev pub RebuildsAny : Geometry → List ℕ → List ℕ → Type 0
RebuildsAny geometry old new = (key : Key) → HasSizes key geometry → IsRebuilt key old new

-- the children and the trees below these numbers are rebuilt, and nothing is reserved
pub record IsRebuiltBelow (key : Key) (old new : List ℕ) (child tree : ℕ) : Type 0 where
  pub image : IsImage key new
  pub huge : (c : ℕ) → c < child → huge_of new c ≡ huge_of old c
  pub free : (c : ℕ) → c < child → free_of new c ≡ rebuilt_free key old c
  pub bits : (w : ℕ) → w < 8 * child → bit_word_of key new w ≡ rebuilt_bits key old w
  pub trees : (t : ℕ) → t < tree → tree_free_of key new t ≡ rebuilt_in_tree key old t
  pub unreserved : (t : ℕ) → t < tree_count key → reserved_of key new t ≡ 0
  pub resting : (k : ℕ) → k < key.cores → rest_of key new k ≡ None

-- the bit words of a child once it is rebuilt
unfoldable pub rebuilt_child : Key → List ℕ → ℕ → List ℕ
rebuilt_child key words child = map (rebuilt_bits key words) (range_with_len (8 * child) 8)
