-- The kinds of step as data: the word that each changes, and what becomes of it and of the view.
use Rattle.std.specs.Prelude.{◌≡◌, ℕ, pos, ◌+◌, ◌-◌, ◌*◌, ◌/◌, ◌%◌, ◌^◌, ◌<◌, ◌≤◌, bit_and, bit_or, List, [], ◌∷◌, ◌++◌, Option, Some, None, slice_index, slice_set}
use Rattle.std.specs.Int.{bit_not, w64}
use Rattle.std.specs.Int.Count.{ones}
use Rattle.frame_words.specs.Geometry.{child_frames, word_frames, tree_words}
use Rattle.frame_words.specs.Runs.{child_words}
use Rattle.frame_words.specs.Words.{entry_word, free_in, flag_in, lane_in, lane_put, lane_shift, rest_in, local_word}
use Rattle.frame_model.specs.declared.block.FrameBlock.{FrameBlock}
use Rattle.frame_model.specs.declared.key.Key.{Key}
use Rattle.frame_model.specs.declared.view.View.{View}
use Rattle.frame_model.specs.Key.{tree_of_child}
use Rattle.frame_model.specs.Block.{block, single_blocks}
use Rattle.frame_model.specs.Words.{run, entry_place, tree_place, local_place, bits_place}
use Rattle.frame_model.specs.View.{counted}
use Rattle.frame_model.specs.Steps.Amounts.{put_in, more, less, rest_amount, rest_tree, rest_less, rest_more, more_of, less_of}
use Rattle.frame_model.specs.Steps.Conditions.{CanCharge, CanRefund, CanClaim, CanClaimSingles, CanRelease, CanTakeHuge, CanGiveHuge, CanTreePay, CanTreeRefund, CanReserve, CanSwapLocal, CanUnreserve, CanLocalPay, CanLocalRefund, CanCollect, CanFillWord, CanDropFlag}
pub mod Amounts
pub mod Conditions

-- what stays of a list of blocks once one of them left
abbrev pub Rest : Type 0
Rest = List FrameBlock → List FrameBlock

-- `seen` is the whole word that was seen, `n` a number of frames
pub data Kind : Type 0 where
  charge : (child seen n : ℕ) → Kind
  refund : (child n : ℕ) → Kind
  claim : (word seen from order : ℕ) → Kind
  claim_singles : (word seen mask : ℕ) → Kind
  release : (word from order : ℕ) (rest : Rest) → Kind
  take_huge : (child seen : ℕ) → Kind
  give_huge : (child : ℕ) (rest : Rest) → Kind
  tree_pay : (tree seen n : ℕ) → Kind
  tree_refund : (tree n : ℕ) → Kind
  reserve : (tree seen : ℕ) → Kind
  swap_local : (core : ℕ) (put : Option (ℕ × ℕ)) → Kind
  unreserve : (tree n : ℕ) → Kind
  local_pay : (core seen n : ℕ) → Kind
  local_refund : (core seen n : ℕ) → Kind
  collect : (tree seen : ℕ) → Kind
  fill_word : (word : ℕ) → Kind
  drop_flag : (child : ℕ) (rest : Rest) → Kind

-- the word that changes
abbrev pub place : Key → Kind → ℕ
place key (charge child seen n) = entry_place child
place key (refund child n) = entry_place child
place key (claim word seen from order) = bits_place key word
place key (claim_singles word seen mask) = bits_place key word
place key (release word from order rest) = bits_place key word
place key (take_huge child seen) = entry_place child
place key (give_huge child rest) = entry_place child
place key (tree_pay tree seen n) = tree_place key tree
place key (tree_refund tree n) = tree_place key tree
place key (reserve tree seen) = tree_place key tree
place key (swap_local core put) = local_place key core
place key (unreserve tree n) = tree_place key tree
place key (local_pay core seen n) = local_place key core
place key (local_refund core seen n) = local_place key core
place key (collect tree seen) = tree_place key tree
place key (fill_word word) = bits_place key word
place key (drop_flag child rest) = entry_place child

-- the word that an exchange has seen; of another kind none
abbrev pub seen_by : Kind → Option ℕ
seen_by (charge child seen n) = Some seen
seen_by (refund child n) = None
seen_by (claim word seen from order) = Some seen
seen_by (claim_singles word seen mask) = Some seen
seen_by (release word from order rest) = None
seen_by (take_huge child seen) = Some seen
seen_by (give_huge child rest) = None
seen_by (tree_pay tree seen n) = Some seen
seen_by (tree_refund tree n) = None
seen_by (reserve tree seen) = Some seen
seen_by (swap_local core put) = None
seen_by (unreserve tree n) = None
seen_by (local_pay core seen n) = Some seen
seen_by (local_refund core seen n) = Some seen
seen_by (collect tree seen) = Some seen
seen_by (fill_word word) = None
seen_by (drop_flag child rest) = None

-- an exchange is made where the word found is the one that was seen, every other step is
abbrev pub IsFoundBy : Option ℕ → ℕ → Type 0
IsFoundBy None found = Unit {0}
IsFoundBy (Some seen) found = found ≡ seen

-- the step is made where this word is found
abbrev pub IsMade : Kind → ℕ → Type 0
IsMade kind found = IsFoundBy (seen_by kind) found

-- the word afterwards, by the word found, as the one atomic operation leaves it
abbrev pub turned : Kind → ℕ → ℕ
turned (charge child seen n) found =
    lane_put seen child (entry_word (free_in (lane_in seen child) - n) 0)
turned (refund child n) found = (found + n * lane_shift child) % 2 ^ 64
turned (claim word seen from order) found = bit_or seen (run from (2 ^ order))
turned (claim_singles word seen mask) found = bit_or seen mask
turned (release word from order rest) found = bit_and found (bit_not w64 (run from (2 ^ order)))
turned (take_huge child seen) found = lane_put seen child (entry_word 0 1)
turned (give_huge child rest) found = (found + (2 ^ 64 - 32256 * lane_shift child)) % 2 ^ 64
turned (tree_pay tree seen n) found = entry_word (free_in seen - n) (flag_in seen)
turned (tree_refund tree n) found = (found + n) % 2 ^ 64
turned (reserve tree seen) found = entry_word 0 1
turned (swap_local core put) found = local_word put
turned (unreserve tree n) found = (found + (2 ^ 64 - (32768 - n))) % 2 ^ 64
turned (local_pay core seen n) found = local_word (rest_less n (rest_in seen))
turned (local_refund core seen n) found = local_word (rest_more n (rest_in seen))
turned (collect tree seen) found = entry_word 0 (flag_in seen)
turned (fill_word word) found = bit_or found (2 ^ 64 - 1)
turned (drop_flag child rest) found = (found + (2 ^ 64 - 32768 * lane_shift child)) % 2 ^ 64

-- all words after the step
abbrev pub words_after : Key → Kind → List ℕ → List ℕ
words_after key kind words =
    slice_set words (place key kind) (turned kind (slice_index words (place key kind)))

-- what the step asks of the view, beside a share
abbrev pub May : Key → Kind → View → Type 0
May key (charge child seen n) v = CanCharge key v child seen n
May key (refund child n) v = CanRefund key v child n
May key (claim word seen from order) v = CanClaim key v word seen from order
May key (claim_singles word seen mask) v = CanClaimSingles key v word seen mask
May key (release word from order rest) v = CanRelease key v word from order (rest v.own)
May key (take_huge child seen) v = CanTakeHuge key v child seen
May key (give_huge child rest) v = CanGiveHuge key v child (rest v.own)
May key (tree_pay tree seen n) v = CanTreePay key v tree seen n
May key (tree_refund tree n) v = CanTreeRefund key v tree n
May key (reserve tree seen) v = CanReserve key v tree seen
May key (swap_local core put) v = CanSwapLocal key v core put
May key (unreserve tree n) v = CanUnreserve key v tree n
May key (local_pay core seen n) v = CanLocalPay key v core seen n
May key (local_refund core seen n) v = CanLocalRefund key v core seen n
May key (collect tree seen) v = CanCollect key v tree
May key (fill_word word) v = CanFillWord key v word
May key (drop_flag child rest) v = CanDropFlag key v child (rest v.own)

-- the view afterwards, by the word found; t counts its moves
abbrev pub effect : (ℕ → ℕ) → Kind → ℕ → View → View
effect t (charge child seen n) found v = record v {
  charged = more child n v.charged;
  moves = t v.moves;
}
effect t (refund child n) found v = record v { charged = less child n v.charged; moves = t v.moves }
effect t (claim word seen from order) found v = record v {
  charged = less (word / child_words) (2 ^ order) v.charged;
  paid = less (word / tree_words) (2 ^ order) v.paid;
  own = block (word_frames * word + from) order ∷ v.own;
  moves = t v.moves;
}
effect t (claim_singles word seen mask) found v = record v {
  charged = less (word / child_words) (ones mask) v.charged;
  paid = less (word / tree_words) (ones mask) v.paid;
  own = single_blocks word mask ++ v.own;
  moves = t v.moves;
}
effect t (release word from order rest) found v = record v {
  charged = more (word / child_words) (2 ^ order) v.charged;
  paid = more (word / tree_words) (2 ^ order) v.paid;
  own = rest v.own;
  moves = t v.moves;
}
effect t (take_huge child seen) found v = record v {
  paid = less (tree_of_child child) child_frames v.paid;
  own = block (child_frames * child) 9 ∷ v.own;
  moves = t v.moves;
}
effect t (give_huge child rest) found v = record v {
  paid = more (tree_of_child child) child_frames v.paid;
  own = rest v.own;
  moves = t v.moves;
}
effect t (tree_pay tree seen n) found v = record v { paid = more tree n v.paid; moves = t v.moves }
effect t (tree_refund tree n) found v = record v { paid = less tree n v.paid; moves = t v.moves }
effect t (reserve tree seen) found v = record v {
  paid = counted tree (free_in seen);
  reserving = Some tree;
  moves = t v.moves;
}
effect t (swap_local core put) found v = record v {
  paid = rest_amount (rest_in found);
  reserving = rest_tree (rest_in found);
  moves = t v.moves;
}
effect t (unreserve tree n) found v = record v {
  paid = less tree n v.paid;
  reserving = None;
  moves = t v.moves;
}
effect t (local_pay core seen n) found v = record v {
  paid = more_of (rest_in seen) n v.paid;
  moves = t v.moves;
}
effect t (local_refund core seen n) found v = record v {
  paid = less_of (rest_in seen) n v.paid;
  moves = t v.moves;
}
effect t (collect tree seen) found v = record v {
  paid = more tree (free_in seen) v.paid;
  moves = t v.moves;
}
effect t (fill_word word) found v = record v { filled = put_in word v.filled; moves = t v.moves }
effect t (drop_flag child rest) found v = record v {
  own = block (child_frames * child) 8 ∷ block (child_frames * child + 256) 8 ∷ rest v.own;
  filled = [];
  moves = t v.moves;
}

-- the view after a load, or a step that read what is known
abbrev pub after_load : (ℕ → ℕ) → View → View
after_load t v = record v { moves = t v.moves }

-- the view after a lost exchange
abbrev pub after_loss : (ℕ → ℕ) → View → View
after_loss t v = record v { moves = t v.moves; lost = t v.lost }

-- a count goes up by one
abbrev pub next : ℕ → ℕ
next n = n + 1
