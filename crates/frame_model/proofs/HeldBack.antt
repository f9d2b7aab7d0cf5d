-- The words of a memory depend neither on the ranges that its key names nor on its seal.
use Rattle.std.proofs.Common.{ℕ, List, [], Option, None, Some, Bool, false}
use Rattle.frame_model.specs.declared.key.Key.{Key}
use Rattle.frame_model.specs.Words.{tree_place, local_place, bits_place, word_count, tree_word_of, tree_free_of, reserved_of, local_word_of}
use Rattle.frame_model.specs.Words.{rest_of, bit_word_of, set_of, IsRest, AreInRange}
use Rattle.frame_model.specs.Rebuilt.{rebuilt_free, rebuilt_in_tree, rebuilt_bits, IsRebuilt}
use Rattle.frame_model.specs.Stops.{unsealed}

-- the key of a memory of the same sizes that holds these ranges back
abbrev pub held_back : Key → List (ℕ × ℕ) → Bool → Key
held_back key ranges sealed = record key { ranges = ranges; sealed = sealed }

pub in_range_held_back : (key : Key) (ranges : List (ℕ × ℕ)) (sealed : Bool) (ws : List ℕ)
    → AreInRange key ws → AreInRange (held_back key ranges sealed) ws
unfolding word_count tree_place local_place bits_place tree_word_of tree_free_of reserved_of local_word_of rest_of bit_word_of
in_range_held_back key ranges sealed ws r = record {
  count = r.count;
  anchor = r.anchor;
  entry_words = r.entry_words;
  free = r.free;
  huge = r.huge;
  absent = r.absent;
  behind = r.behind;
  tree_free = r.tree_free;
  reserved = r.reserved;
  locals = r.locals;
  rests = λ k h. is_rest (rest_of key ws k) (r.rests k h);
  bits = r.bits;
  between = r.between;
  beside = r.beside;
}
  where
    is_rest : (o : Option (ℕ × ℕ)) → IsRest key o → IsRest (held_back key ranges sealed) o
    is_rest None h = h
    is_rest (Some o) h = h

pub rebuilt_held_back : (key : Key) (ranges : List (ℕ × ℕ)) (sealed : Bool) (old new : List ℕ)
    → IsRebuilt key old new → IsRebuilt (held_back key ranges sealed) old new
unfolding word_count tree_place local_place bits_place tree_word_of tree_free_of reserved_of local_word_of rest_of
    bit_word_of set_of rebuilt_free rebuilt_in_tree rebuilt_bits
rebuilt_held_back key ranges sealed old new r = record {
  in_range = in_range_held_back key ranges sealed new r.in_range;
  huge = r.huge;
  free = r.free;
  bits = r.bits;
  trees = r.trees;
  unreserved = r.unreserved;
  resting = r.resting;
}

-- as after a stop
pub in_range_unsealed : (key : Key) (ws : List ℕ) → AreInRange key ws → AreInRange (unsealed key) ws
in_range_unsealed key ws r = in_range_held_back key [] false ws r

pub rebuilt_unsealed : (key : Key) (old new : List ℕ) → IsRebuilt key old new → IsRebuilt (unsealed key) old new
rebuilt_unsealed key old new r = rebuilt_held_back key [] false old new r
