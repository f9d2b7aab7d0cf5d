-- What rebuilding makes of the words of a table: each counter anew, from bits and huge flags alone.
use Rattle.std.specs.Prelude.{◌≡◌, ℕ, ◌-◌, ◌*◌, ◌/◌, ◌<◌, List, None, nat_eq, if◌then◌else◌}
use Rattle.std.specs.List.{sum_by}
use Rattle.frame_words.specs.Geometry.{child_frames}
use Rattle.frame_words.specs.Runs.{child_words}
use Rattle.frame_model.specs.declared.key.Key.{Key}
use Rattle.frame_model.specs.Key.{tree_count, children_of}
use Rattle.frame_model.specs.Words.{free_of, huge_of, tree_free_of, reserved_of, rest_of}
use Rattle.frame_model.specs.Words.{bit_word_of, set_of, AreInRange}

-- the free frames of a child: none of a huge frame, else those that are not set
unfoldable pub rebuilt_free : Key → List ℕ → ℕ → ℕ
rebuilt_free key words child =
    if nat_eq (huge_of words child) 0 then child_frames - set_of key words child else 0

-- the free frames of a tree: those of its children
unfoldable pub rebuilt_in_tree : Key → List ℕ → ℕ → ℕ
rebuilt_in_tree key words tree = sum_by (rebuilt_free key words) (children_of key tree)

-- a bit word stays, but in a huge frame it is cleared
unfoldable pub rebuilt_bits : Key → List ℕ → ℕ → ℕ
rebuilt_bits key words word =
    if nat_eq (huge_of words (word / child_words)) 0 then bit_word_of key words word else 0

-- the new words are the old ones rebuilt: flags stay, nothing is reserved, each counter is exact
pub record IsRebuilt (key : Key) (old new : List ℕ) : Type 0 where
  pub in_range : AreInRange key new
  pub huge : (c : ℕ) → c < key.children → huge_of new c ≡ huge_of old c
  pub free : (c : ℕ) → c < key.children → free_of new c ≡ rebuilt_free key old c
  pub bits : (w : ℕ) → w < child_words * key.children
      → bit_word_of key new w ≡ rebuilt_bits key old w
  pub trees : (t : ℕ) → t < tree_count key → tree_free_of key new t ≡ rebuilt_in_tree key old t
  pub unreserved : (t : ℕ) → t < tree_count key → reserved_of key new t ≡ 0
  pub resting : (k : ℕ) → k < key.cores → rest_of key new k ≡ None
