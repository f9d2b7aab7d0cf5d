-- A seat is cut in two: shares part, a block is handed out, recalled or adopted, and the ground parts off.
use Rattle.std.proofs.Common.{◌≡◌, ℕ, ◌/◌, ◌<◌, List, [], ◌∷◌, ◌++◌, set, refl, ap, arith}
use mathlib.Core.Option.{some}
use lib.ListN.{get_elem?}
use Rattle.frame_model.specs.declared.block.FrameBlock.{FrameBlock}
use Rattle.frame_model.specs.declared.key.Key.{Key}
use Rattle.frame_model.specs.declared.view.View.{View}
use Rattle.frame_model.specs.View.{IsViewOf}
use Rattle.frame_model.specs.Block.{smalls}
use Rattle.frame_model.specs.Fit.{Fit}
use Rattle.frame_model.specs.Steps.{Rest}
use Rattle.frame_model.specs.Seats.{part_share, hand_out, recall, part_ground, adopt, CanPartShare, CanHandOut, CanRecall, CanPartGround}
use Rattle.frame_model.specs.Seats.{CanAdopt, left_by, right_by}
use Rattle.frame_model.proofs.Amounts.{count_none, is_at_none, names_none}
use Rattle.frame_model.proofs.Blocks.{smalls_cons, wholes_cons, smalls_none, wholes_none, behind_block}
use Rattle.frame_model.proofs.Balances.{cut_step}
use Rattle.frame_model.proofs.Steps.Shared.{none_out, view_of, ground_kept, ground_owned, ground_none, ground_still}
use Rattle.frame_model.proofs.Steps.Seats.{lent_one, ground_is_out, one_out, ground_yes, ground_no, ground_same}
use Rattle.frame_model.proofs.Steps.SeatViews.{left_is, right_is}

module _ (t : ℕ → ℕ) (key : Key) (shares : ℕ) (ws : List ℕ) (vs : List View) (id : ℕ) (v : View)
    (fit : Fit key shares ws vs) (at : get_elem? vs id ≡ some v) where
  pub part_share_keeps : (n : ℕ) → CanPartShare v n
      → Fit key shares ws (set vs id (left_by t (part_share n) v) ++ right_by (part_share n) v ∷ [])
  part_share_keeps n can =
      let i : IsViewOf key v = view_of key shares ws vs id v fit at in
      let had : 0 < v.share = omega (arith, can.fewer) in
      let left : View = left_by t (part_share n) v in
      let right : View = right_by (part_share n) v in
      let left_has : 0 < left.share = omega (arith, can.fewer) in
      cut_step key shares ws vs id v fit at left right (record {
        wholes = λ c. omega (arith, wholes_none c);
        smalls = λ x. omega (arith, smalls_none x);
        marks = λ x. omega (arith, smalls_none x, names_none (x / 64));
        charged = λ c. omega (arith, count_none c);
        paid = λ u. omega (arith, count_none u);
        reserves = λ u. omega (arith, is_at_none u);
        shares = omega (arith, can.fewer);
        lents = omega (arith, none_out v had, none_out left left_has, none_out right can.some);
        grounds = omega (arith, ground_same v left refl, ground_no right refl);
        past_end = λ x p h. omega (
          arith,
          ap (smalls x) (ground_still v left had left_has refl refl),
          ap (smalls x)
              (ground_none right refl),
          smalls_none x,
        );
      })
      (left_is t key v i (part_share n) can)
      (right_is t key v i (part_share n) can)

  pub hand_out_keeps : (b : FrameBlock) (rest : Rest) → CanHandOut key v b (rest v.own)
      → Fit key shares ws (set vs id (left_by t (hand_out b rest) v) ++ right_by (hand_out b rest) v ∷ [])
  hand_out_keeps b rest can =
      let i : IsViewOf key v = view_of key shares ws vs id v fit at in
      let had : 0 < v.share = can.share in
      let left : View = left_by t (hand_out b rest) v in
      let right : View = right_by (hand_out b rest) v in
      cut_step key shares ws vs id v fit at left right (record {
        wholes = λ c. omega (arith, can.leaves.wholes c, wholes_cons c b [], wholes_none c);
        smalls = λ x. omega (arith, can.leaves.smalls x, smalls_cons x b [], smalls_none x);
        marks = λ x. omega (arith, can.leaves.smalls x, smalls_cons x b [], smalls_none x, names_none (x / 64));
        charged = λ c. omega (arith, count_none c);
        paid = λ u. omega (arith, count_none u);
        reserves = λ u. omega (arith, is_at_none u);
        shares = omega arith;
        lents = omega (arith, lent_one v.lent, none_out v had, none_out left had, one_out right b refl refl refl);
        grounds = omega (arith, ground_same v left refl, ground_no right refl);
        past_end = λ x p h. omega (
          arith,
          ap (smalls x) (ground_still v left had had refl refl),
          ap (smalls x) (ground_none right refl),
          smalls_none x,
        );
      })
      (left_is t key v i (hand_out b rest) can)
      (right_is t key v i (hand_out b rest) can)

  pub recall_keeps : (b : FrameBlock) (rest : Rest) → CanRecall key v b (rest v.kept)
      → Fit key shares ws (set vs id (left_by t (recall b rest) v) ++ right_by (recall b rest) v ∷ [])
  recall_keeps b rest can =
      let i : IsViewOf key v = view_of key shares ws vs id v fit at in
      let had : 0 < v.share = can.share in
      let left : View = left_by t (recall b rest) v in
      let right : View = right_by (recall b rest) v in
      cut_step key shares ws vs id v fit at left right (record {
        wholes = λ c. omega (arith, can.leaves.wholes c, wholes_cons c b [], wholes_none c);
        smalls = λ x. omega (arith, can.leaves.smalls x, smalls_cons x b [], smalls_none x);
        marks = λ x. omega (arith, can.leaves.smalls x, smalls_cons x b [], smalls_none x, names_none (x / 64));
        charged = λ c. omega (arith, count_none c);
        paid = λ u. omega (arith, count_none u);
        reserves = λ u. omega (arith, is_at_none u);
        shares = omega arith;
        lents = omega (arith, lent_one v.lent, none_out v had, none_out left had, one_out right b refl refl refl);
        grounds = omega (arith, ground_same v left refl, ground_no right refl);
        past_end = λ x p h. omega (
          arith,
          ap (smalls x) (ground_none v can.not_ground),
          ap (smalls x) (ground_none left can.not_ground),
          ap (smalls x) (ground_none right refl),
          smalls_none x,
        );
      })
      (left_is t key v i (recall b rest) can)
      (right_is t key v i (recall b rest) can)

  pub part_ground_keeps : CanPartGround v
      → Fit key shares ws (set vs id (left_by t part_ground v) ++ right_by part_ground v ∷ [])
  part_ground_keeps can =
      let i : IsViewOf key v = view_of key shares ws vs id v fit at in
      let had : 0 < v.share = can.share in
      let left : View = left_by t part_ground v in
      let right : View = right_by part_ground v in
      cut_step key shares ws vs id v fit at left right (record {
        wholes = λ c. omega (arith, wholes_none c);
        smalls = λ x. omega (arith, smalls_none x);
        marks = λ x. omega (arith, smalls_none x, names_none (x / 64));
        charged = λ c. omega (arith, count_none c);
        paid = λ u. omega (arith, count_none u);
        reserves = λ u. omega (arith, is_at_none u);
        shares = omega arith;
        lents = omega (arith, none_out v had, none_out left had, ground_is_out right refl);
        grounds = omega (arith, ground_yes v can.is_ground, ground_no left refl, ground_yes right refl);
        past_end = λ x p h. omega (
          arith,
          ap (smalls x) (ground_kept v can.is_ground had),
          ap (smalls x) (ground_none left refl),
          ap (smalls x) (ground_owned right refl refl),
          smalls_none x,
        );
      })
      (left_is t key v i part_ground can)
      (right_is t key v i part_ground can)

  pub adopt_keeps : (b : FrameBlock) (rest : Rest) → CanAdopt key v b (rest v.own)
      → Fit key shares ws (set vs id (left_by t (adopt b rest) v) ++ right_by (adopt b rest) v ∷ [])
  adopt_keeps b rest can =
      let i : IsViewOf key v = view_of key shares ws vs id v fit at in
      let left : View = left_by t (adopt b rest) v in
      let right : View = right_by (adopt b rest) v in
      cut_step key shares ws vs id v fit at left right (record {
        wholes = λ c. omega (arith, can.leaves.wholes c, wholes_cons c b [], wholes_none c);
        smalls = λ x. omega (arith, can.leaves.smalls x, smalls_cons x b [], smalls_none x);
        marks = λ x. omega (arith, can.leaves.smalls x, smalls_cons x b [], smalls_none x, names_none (x / 64));
        charged = λ c. omega (arith, count_none c);
        paid = λ u. omega (arith, count_none u);
        reserves = λ u. omega (arith, is_at_none u);
        shares = omega arith;
        lents = omega (
          arith,
          lent_one v.lent,
          ground_is_out v can.is_ground,
          ground_is_out left can.is_ground,
          one_out right b refl refl refl,
        );
        grounds = omega (arith, ground_same v left refl, ground_no right refl);
        past_end = λ x p h. omega (
          arith,
          ap (smalls x) (ground_owned v can.is_ground can.share),
          ap (smalls x) (ground_owned left can.is_ground can.share),
          ap (smalls x) (ground_none right refl),
          smalls_none x,
          can.leaves.smalls x,
          behind_block x b (omega (arith, can.inside, p)),
        );
      })
      (left_is t key v i (adopt b rest) can)
      (right_is t key v i (adopt b rest) can)
