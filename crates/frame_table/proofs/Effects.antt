-- What every kind of step, cut and join leaves of its seat, and that a step's word is one of the table's.
use Rattle.std.proofs.Common.{◌≡◌, ℕ, ◌*◌, ◌<◌, refl, arith}
use Rattle.frame_model.specs.declared.key.Key.{Key}
use Rattle.frame_model.specs.declared.view.View.{View}
use Rattle.frame_model.specs.Words.{word_count, bits_place}
use Rattle.frame_model.specs.Steps.{Kind, charge, refund, claim, claim_singles, release, take_huge, give_huge, tree_pay, tree_refund, reserve, swap_local}
use Rattle.frame_model.specs.Steps.{unreserve, local_pay, local_refund, collect, fill_word, drop_flag, place, May}
use Rattle.frame_model.specs.Seats.{Cut, part_share, hand_out, recall, part_ground, adopt, Join, join_idle, hand_in, keep_in, left_by}
use Rattle.frame_model.specs.Seats.{right_by, joined_by}
use Rattle.frame_core.proofs.ImageLemmas.{entry_place-lt, tree_place-lt, local_place-lt}

bits_place-lt : (key : Key) (w : ℕ) → w < 8 * key.children → bits_place key w < word_count key
unfolding bits_place word_count
bits_place-lt key w h = omega arith

pub left_about : (t : ℕ → ℕ) (cut : Cut) (v : View) → (left_by t cut v).about ≡ v.about
left_about t (part_share n) v = refl
left_about t (hand_out b rest) v = refl
left_about t (recall b rest) v = refl
left_about t part_ground v = refl
left_about t (adopt b rest) v = refl

pub right_about : (cut : Cut) (v : View) → (right_by cut v).about ≡ v.about
right_about (part_share n) v = refl
right_about (hand_out b rest) v = refl
right_about (recall b rest) v = refl
right_about part_ground v = refl
right_about (adopt b rest) v = refl

pub both_about : (t : ℕ → ℕ) (join : Join) (v u : View) → (joined_by t join v u).about ≡ v.about
both_about t join_idle v u = refl
both_about t hand_in v u = refl
both_about t keep_in v u = refl

pub place_inside : (key : Key) (kind : Kind) (v : View) → May key kind v → place key kind < word_count key
place_inside key (charge c seen n) v may = entry_place-lt key c may.inside
place_inside key (refund c n) v may = entry_place-lt key c may.inside
place_inside key (claim w seen from o) v may = bits_place-lt key w may.is_run.inside
place_inside key (claim_singles w seen m) v may = bits_place-lt key w may.inside
place_inside key (release w from o rest) v may = bits_place-lt key w may.is_run.inside
place_inside key (take_huge c seen) v may = entry_place-lt key c may.inside
place_inside key (give_huge c rest) v may = entry_place-lt key c may.inside
place_inside key (tree_pay u seen n) v may = tree_place-lt key u may.inside
place_inside key (tree_refund u n) v may = tree_place-lt key u may.inside
place_inside key (reserve u seen) v may = tree_place-lt key u may.inside
place_inside key (swap_local k put) v may = local_place-lt key k may.inside
place_inside key (unreserve u n) v may = tree_place-lt key u may.inside
place_inside key (local_pay k seen n) v may = local_place-lt key k may.inside
place_inside key (local_refund k seen n) v may = local_place-lt key k may.inside
place_inside key (collect u seen) v may = tree_place-lt key u may.inside
place_inside key (fill_word w) v may = bits_place-lt key w may.inside
place_inside key (drop_flag c rest) v may = entry_place-lt key c may.inside

-- the table has words
pub some_words : (key : Key) → 0 < word_count key
unfolding word_count
some_words key = omega arith
