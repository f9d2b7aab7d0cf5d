-- A seat takes in another: an idle one, or one with a block, which comes in flight or is kept.
use Rattle.std.proofs.Common.{◌≡◌, ◌≢◌, ⊎_elim, ℕ, ◌+◌, ◌/◌, ◌<◌, ◌≤◌, List, ◌++◌, Bool, true, false, set, refl, ap, ◌∙◌, arith}
use Rattle.std.specs.Prelude.{◌||◌}
use Rattle.std.proofs.lemmas.Bool.{cases_eq}
use borrow.Author.Differences.{up, down}
use mathlib.Core.Option.{some}
use lib.ListN.{get_elem?}
use Rattle.atomic_table.proofs.Lists.{set_else}
use Rattle.frame_model.specs.declared.block.FrameBlock.{FrameBlock}
use Rattle.frame_model.specs.declared.key.Key.{Key}
use Rattle.frame_model.specs.declared.view.View.{View}
use Rattle.frame_model.specs.Key.{frame_count}
use Rattle.frame_model.specs.Block.{smalls, wholes}
use Rattle.frame_model.specs.View.{count_in, names, is_at, small_in, ground_small_in, spent, ground_in, IsIdle, HasNoPart, HasOneBlock}
use Rattle.frame_model.specs.View.{IsViewOf}
use Rattle.frame_model.specs.Fit.{total, Fit}
use Rattle.frame_model.specs.Seats.{join_idle, hand_in, keep_in, CanTakeIn, CanHandIn, CanJoinIdle, joined_by}
use Rattle.frame_model.proofs.Sums.{sum_set, at-le-sum}
use Rattle.frame_model.proofs.Amounts.{count_none, is_at_none, names_none}
use Rattle.frame_model.proofs.Blocks.{smalls_none, wholes_none, smalls_both, wholes_both}
use Rattle.frame_model.proofs.Keeps.{total_is}
use Rattle.frame_model.proofs.Balances.{join_step}
use Rattle.frame_model.proofs.Steps.Shared.{none_out, view_of, ground_kept, ground_none, ground_still, past_alone}
use Rattle.frame_model.proofs.Steps.Seats.{lent_back, lent_both, one_out, spent_out, ground_yes, ground_no, ground_same, spent_is}
use Rattle.frame_model.proofs.Steps.SeatViews.{both_is}

-- an idle view has filled nothing
pub idle_unfilled : (key : Key) (u : View) → IsViewOf key u → IsIdle u → (k : ℕ) → names k u.filled ≡ 0
idle_unfilled key u i idle k =
    ⊎_elim (λ z. z) (λ p. absurd (omega (
      arith,
      (i.filled k (omega (arith, p))).own,
      ap (wholes (k / 8)) idle.own,
      wholes_none (k / 8),
    ))) (cases_eq (names k u.filled) 0)

or_ground : (v u w : View) → w.is_ground ≡ (v.is_ground || u.is_ground) → ground_in v + ground_in u ≤ 1
    → ground_in w ≡ ground_in v + ground_in u
or_ground v u w e few = by v.is_ground u.is_ground refl refl
  where
    by : (a b : Bool) → v.is_ground ≡ a → u.is_ground ≡ b → ground_in w ≡ ground_in v + ground_in u
    by true true p q = absurd (omega (arith, ground_yes v p, ground_yes u q))
    by true false p q = omega (arith, ground_yes v p, ground_no u q, ground_yes w (e ∙ ap (λ x. x || u.is_ground) p))
    by false true p q = omega (
      arith,
      ground_no v p,
      ground_yes u q,
      ground_yes w (e ∙ ap (λ x. x || u.is_ground) p ∙ q),
    )
    by false false p q = omega (arith, ground_no v p, ground_no u q, ground_no w (e ∙ ap (λ x. x || u.is_ground) p ∙ q))

-- A frame that only the ground may have: what two views had of it the one view has.

or_alone : (v u w : View) → CanJoinIdle v u → w.is_ground ≡ (v.is_ground || u.is_ground)
    → w.share ≡ v.share + u.share → w.kept ≡ v.kept ++ u.kept → (x : ℕ)
    → small_in x v ≡ ground_small_in x v → small_in x u ≡ ground_small_in x u
    → ground_small_in x w ≡ ground_small_in x v + ground_small_in x u
or_alone v u w can g s k x a b = by v.is_ground u.is_ground refl refl
  where
    has : (c d : Bool) → v.is_ground ≡ c → u.is_ground ≡ d → (c || d) ≡ true
        → ground_small_in x w ≡ ground_small_in x v + ground_small_in x u
    has c d p q e = omega (
      arith,
      a,
      b,
      ap (smalls x) (ground_kept w (g ∙ ap (λ y. y || u.is_ground) p ∙ ap (λ y. c || y) q ∙ e) (omega (arith, s, can.keeper.share))),
      ap (smalls x) k,
      smalls_both x v.kept u.kept,
      ap (smalls x) can.keeper.own,
      ap (smalls x) can.other.own,
      smalls_none x,
    )

    by : (c d : Bool) → v.is_ground ≡ c → u.is_ground ≡ d
        → ground_small_in x w ≡ ground_small_in x v + ground_small_in x u
    by true d p q = has true d p q refl
    by false true p q = has false true p q refl
    by false false p q = omega (
      arith,
      ap (smalls x) (ground_none v p),
      ap (smalls x) (ground_none u q),
      ap (smalls x) (ground_none w (g ∙ ap (λ y. y || u.is_ground) p ∙ q)),
      smalls_none x,
    )

keeps_alone : (v u w : View) → CanTakeIn v u → w.is_ground ≡ v.is_ground → w.share ≡ v.share
    → w.kept ≡ u.own ++ v.kept → (x : ℕ) → small_in x u ≡ ground_small_in x u
    → ground_small_in x w ≡ ground_small_in x v
keeps_alone v u w take g s k x a = by v.is_ground refl
  where
    by : (c : Bool) → v.is_ground ≡ c → ground_small_in x w ≡ ground_small_in x v
    by true p = omega (
      arith,
      a,
      ap (smalls x) (ground_none u take.not_ground),
      ap (smalls x) (ground_kept w (g ∙ p) (omega (arith, s, take.share))),
      ap (smalls x) (ground_kept v p take.share),
      ap (smalls x) k,
      smalls_both x u.own v.kept,
      smalls_none x,
    )
    by false p = omega (arith, ap (smalls x) (ground_none v p), ap (smalls x) (ground_none w (g ∙ p)))

module _ (t : ℕ → ℕ) (key : Key) (shares : ℕ) (ws : List ℕ) (vs : List View) (id : ℕ) (v : View)
    (fit : Fit key shares ws vs) (at : get_elem? vs id ≡ some v)
    (other : ℕ) (u : View) (apart : other ≢ id) (there : get_elem? vs other ≡ some u) where
  u_is : IsViewOf key u
  u_is = view_of key shares ws vs other u fit there

  alone : (x : ℕ) → key.frames ≤ x → x < frame_count key → small_in x v ≡ ground_small_in x v
  alone = past_alone key shares ws vs id v fit at

  alone_u : (x : ℕ) → key.frames ≤ x → x < frame_count key → small_in x u ≡ ground_small_in x u
  alone_u = past_alone key shares ws vs other u fit there

  two-le-total : (f : View → ℕ) → f spent ≡ 0 → f v + f u ≤ total key f vs
  two-le-total f z = omega (
    arith,
    total_is key f vs,
    sum_set f vs id v spent at,
    at-le-sum f (set vs id spent) other u (set_else vs id other spent apart ∙ there),
    z,
  )

  pub join_idle_keeps : CanJoinIdle v u
      → Fit key shares ws (set (set vs id (joined_by t join_idle v u)) other spent)
  join_idle_keeps can =
      let i : IsViewOf key v = view_of key shares ws vs id v fit at in
      let had : 0 < v.share = can.keeper.share in
      let had_u : 0 < u.share = can.other.share in
      let both : View = joined_by t join_idle v u in
      let both_has : 0 < both.share = omega (arith, had) in
      let one : ground_in v + ground_in u ≤ 1 = omega (arith, fit.one_ground, two-le-total ground_in (ground_no spent refl)) in
      join_step key shares ws vs id v fit at other u both spent (set_else vs id other both apart ∙ there) (record {
        wholes = λ c. omega (arith, wholes_both c v.kept u.kept, ap (wholes c) can.other.own, wholes_none c);
        smalls = λ x. omega (arith, smalls_both x v.kept u.kept, ap (smalls x) can.other.own, smalls_none x);
        marks = λ x. omega (
          arith,
          smalls_both x v.kept u.kept,
          ap (smalls x) can.other.own,
          smalls_none x,
          names_none (x / 64),
          idle_unfilled key u u_is can.other (x / 64),
        );
        charged = λ c. omega (arith, ap (count_in c) can.other.charged, count_none c);
        paid = λ k. omega (arith, ap (count_in k) can.other.paid, count_none k);
        reserves = λ k. omega (arith, ap (is_at k) can.other.reserving, is_at_none k);
        shares = omega arith;
        lents = omega (
          arith,
          lent_both v.lent u.lent,
          none_out v had,
          none_out u had_u,
          none_out both both_has,
          spent_out,
        );
        grounds = omega (arith, or_ground v u both refl one, ground_no spent refl);
        past_end = λ x p h. omega (
          arith,
          or_alone v u both can refl refl refl x (alone x p h) (alone_u x p h),
          ap (smalls x) (ground_none spent refl),
          smalls_none x,
        );
      })
      (both_is t key v i u u_is.own u_is.kept join_idle can)
      (spent_is key)

  pub hand_in_keeps : CanHandIn v u
      → Fit key shares ws (set (set vs id (joined_by t hand_in v u)) other spent)
  hand_in_keeps can =
      let i : IsViewOf key v = view_of key shares ws vs id v fit at in
      let take : CanTakeIn v u = can.takes in
      let b : FrameBlock = take.block in
      let had : 0 < v.share = take.share in
      let none : HasNoPart u = u_is.no_part take.out in
      let one : HasOneBlock u = u_is.one_block take.out take.not_ground in
      let both : View = joined_by t hand_in v u in
      join_step key shares ws vs id v fit at other u both spent (set_else vs id other both apart ∙ there) (record {
        wholes = λ c. omega (arith, wholes_both c u.own v.own, ap (wholes c) none.kept, wholes_none c);
        smalls = λ x. omega (arith, smalls_both x u.own v.own, ap (smalls x) none.kept, smalls_none x);
        marks = λ x. omega (
          arith,
          smalls_both x u.own v.own,
          ap (smalls x) none.kept,
          smalls_none x,
          ap (names (x / 64)) none.filled,
          names_none (x / 64),
        );
        charged = λ c. omega (arith, ap (count_in c) none.charged, count_none c);
        paid = λ k. omega (arith, ap (count_in k) none.paid, count_none k);
        reserves = λ k. omega (arith, ap (is_at k) none.reserving, is_at_none k);
        shares = omega (arith, take.out);
        lents = omega (
          arith,
          lent_back v.lent,
          ap up one.lent,
          ap down one.lent,
          none_out v had,
          one_out u b take.not_ground take.out take.owns,
          none_out both had,
          spent_out,
        );
        grounds = omega (arith, ground_same v both refl, ground_no u take.not_ground, ground_no spent refl);
        past_end = λ x p h. omega (
          arith,
          ap (smalls x) (ground_still v both had had refl refl),
          ap (smalls x) (ground_none u take.not_ground),
          ap (smalls x) (ground_none spent refl),
        );
      })
      (both_is t key v i u u_is.own u_is.kept hand_in can)
      (spent_is key)

  pub keep_in_keeps : CanTakeIn v u
      → Fit key shares ws (set (set vs id (joined_by t keep_in v u)) other spent)
  keep_in_keeps take =
      let i : IsViewOf key v = view_of key shares ws vs id v fit at in
      let b : FrameBlock = take.block in
      let had : 0 < v.share = take.share in
      let none : HasNoPart u = u_is.no_part take.out in
      let one : HasOneBlock u = u_is.one_block take.out take.not_ground in
      let both : View = joined_by t keep_in v u in
      join_step key shares ws vs id v fit at other u both spent (set_else vs id other both apart ∙ there) (record {
        wholes = λ c. omega (arith, wholes_both c u.own v.kept, ap (wholes c) none.kept, wholes_none c);
        smalls = λ x. omega (arith, smalls_both x u.own v.kept, ap (smalls x) none.kept, smalls_none x);
        marks = λ x. omega (
          arith,
          smalls_both x u.own v.kept,
          ap (smalls x) none.kept,
          smalls_none x,
          ap (names (x / 64)) none.filled,
          names_none (x / 64),
        );
        charged = λ c. omega (arith, ap (count_in c) none.charged, count_none c);
        paid = λ k. omega (arith, ap (count_in k) none.paid, count_none k);
        reserves = λ k. omega (arith, ap (is_at k) none.reserving, is_at_none k);
        shares = omega (arith, take.out);
        lents = omega (
          arith,
          lent_back v.lent,
          ap up one.lent,
          ap down one.lent,
          none_out v had,
          one_out u b take.not_ground take.out take.owns,
          none_out both had,
          spent_out,
        );
        grounds = omega (arith, ground_same v both refl, ground_no u take.not_ground, ground_no spent refl);
        past_end = λ x p h. omega (
          arith,
          keeps_alone v u both take refl refl refl x (alone_u x p h),
          ap (smalls x) (ground_none u take.not_ground),
          ap (smalls x) (ground_none spent refl),
        );
      })
      (both_is t key v i u u_is.own u_is.kept keep_in take)
      (spent_is key)
