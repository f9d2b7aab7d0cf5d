-- Any kind of step, any cut and any join of seats: the fit is kept. These are the lemmas to cite.
use Rattle.std.proofs.Common.{◌≡◌, ◌≢◌, ℕ, ◌<◌, List, [], ◌∷◌, ◌++◌, get_or, set}
use mathlib.Core.Option.{some}
use lib.ListN.{get_elem?}
use Rattle.frame_model.specs.declared.key.Key.{Key}
use Rattle.frame_model.specs.declared.view.View.{View}
use Rattle.frame_model.specs.View.{spent}
use Rattle.frame_model.specs.Fit.{Fit}
use Rattle.frame_model.specs.Steps.{Kind, charge, refund, claim, claim_singles, release, take_huge, give_huge, tree_pay, tree_refund, reserve, swap_local}
use Rattle.frame_model.specs.Steps.{unreserve, local_pay, local_refund, collect, fill_word, drop_flag, place, turned, IsMade, May, effect}
use Rattle.frame_model.specs.Seats.{Cut, part_share, hand_out, recall, part_ground, adopt, Join, join_idle, hand_in, keep_in, MayCut}
use Rattle.frame_model.specs.Seats.{left_by, right_by, MayJoin, joined_by}
use Rattle.frame_model.proofs.Steps.Counting.{charge_keeps, refund_keeps}
use Rattle.frame_model.proofs.Steps.Marking.{claim_keeps, claim_singles_keeps, release_keeps, fill_word_keeps}
use Rattle.frame_model.proofs.Steps.Huge.{take_huge_keeps, give_huge_keeps, drop_flag_keeps}
use Rattle.frame_model.proofs.Steps.Trees.{tree_pay_keeps, tree_refund_keeps, reserve_keeps, unreserve_keeps, collect_keeps}
use Rattle.frame_model.proofs.Steps.Locals.{swap_local_keeps, local_pay_keeps, local_refund_keeps}
use Rattle.frame_model.proofs.Steps.Cutting.{part_share_keeps, hand_out_keeps, recall_keeps, part_ground_keeps, adopt_keeps}
use Rattle.frame_model.proofs.Steps.Joining.{join_idle_keeps, hand_in_keeps, keep_in_keeps}

module _ (t : ℕ → ℕ) (key : Key) (shares : ℕ) (ws : List ℕ) (vs : List View) (id : ℕ) (v : View)
    (fit : Fit key shares ws vs) (at : get_elem? vs id ≡ some v) where
  pub kind_keeps : (kind : Kind) → 0 < v.share → May key kind v → IsMade kind (get_or ws (place key kind) 0)
      → Fit key shares (set ws (place key kind) (turned kind (get_or ws (place key kind) 0)))
      (set vs id (effect t kind (get_or ws (place key kind) 0) v))
  kind_keeps (charge c seen n) share may made =
      charge_keeps t key shares ws vs id v fit at share c seen n (get_or ws (place key (charge c seen n)) 0) may made
  kind_keeps (refund c n) share may made = refund_keeps t key shares ws vs id v fit at share c n may
  kind_keeps (claim k seen from o) share may made =
      claim_keeps t key shares ws vs id v fit at share k seen from o (get_or ws (place key (claim k seen from o)) 0) may made
  kind_keeps (claim_singles k seen m) share may made =
      claim_singles_keeps t key shares ws vs id v fit at share k seen m may made
  kind_keeps (release k from o rest) share may made = release_keeps t key shares ws vs id v fit at share k from o rest may
  kind_keeps (take_huge c seen) share may made =
      take_huge_keeps t key shares ws vs id v fit at share c seen (get_or ws (place key (take_huge c seen)) 0) may made
  kind_keeps (give_huge c rest) share may made = give_huge_keeps t key shares ws vs id v fit at share c rest may
  kind_keeps (tree_pay u seen n) share may made =
      tree_pay_keeps t key shares ws vs id v fit at share u seen n (get_or ws (place key (tree_pay u seen n)) 0) may made
  kind_keeps (tree_refund u n) share may made = tree_refund_keeps t key shares ws vs id v fit at share u n may
  kind_keeps (reserve u seen) share may made =
      reserve_keeps t key shares ws vs id v fit at share u seen (get_or ws (place key (reserve u seen)) 0) may made
  kind_keeps (swap_local k put) share may made = swap_local_keeps t key shares ws vs id v fit at share k put may
  kind_keeps (unreserve u n) share may made = unreserve_keeps t key shares ws vs id v fit at share u n may
  kind_keeps (local_pay k seen n) share may made =
      local_pay_keeps t key shares ws vs id v fit at share k seen n (get_or ws (place key (local_pay k seen n)) 0) may made
  kind_keeps (local_refund k seen n) share may made =
      local_refund_keeps t key shares ws vs id v fit at share k seen n (get_or ws (place key (local_refund k seen n)) 0) may made
  kind_keeps (collect u seen) share may made =
      collect_keeps t key shares ws vs id v fit at share u seen (get_or ws (place key (collect u seen)) 0) may made
  kind_keeps (fill_word k) share may made = fill_word_keeps t key shares ws vs id v fit at share k may
  kind_keeps (drop_flag c rest) share may made = drop_flag_keeps t key shares ws vs id v fit at share c rest may

  pub seat_cut_keeps : (cut : Cut) → MayCut key cut v
      → Fit key shares ws (set vs id (left_by t cut v) ++ right_by cut v ∷ [])
  seat_cut_keeps (part_share n) may = part_share_keeps t key shares ws vs id v fit at n may
  seat_cut_keeps (hand_out b rest) may = hand_out_keeps t key shares ws vs id v fit at b rest may
  seat_cut_keeps (recall b rest) may = recall_keeps t key shares ws vs id v fit at b rest may
  seat_cut_keeps part_ground may = part_ground_keeps t key shares ws vs id v fit at may
  seat_cut_keeps (adopt b rest) may = adopt_keeps t key shares ws vs id v fit at b rest may

  pub seat_join_keeps : (other : ℕ) (u : View) → other ≢ id → get_elem? vs other ≡ some u → (join : Join)
      → MayJoin join v u → Fit key shares ws (set (set vs id (joined_by t join v u)) other spent)
  seat_join_keeps other u apart there join_idle may = join_idle_keeps t key shares ws vs id v fit at other u apart there may
  seat_join_keeps other u apart there hand_in may = hand_in_keeps t key shares ws vs id v fit at other u apart there may
  seat_join_keeps other u apart there keep_in may = keep_in_keeps t key shares ws vs id v fit at other u apart there may
