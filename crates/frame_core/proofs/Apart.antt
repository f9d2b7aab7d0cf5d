-- What one view has, in flight or kept, is apart: no two of its blocks share a frame, and none that is
-- in flight is past the end.
use Rattle.std.proofs.Common.{◌≡◌, ⊎_elim, ℕ, ◌+◌, ◌<◌, ◌≤◌, List, ◌++◌, true, false, Bool, refl, ap, arith}
use Rattle.std.specs.Prelude.{if◌then◌else◌}
use Rattle.std.specs.List.{All}
use Rattle.std.proofs.lemmas.Bool.{cases_lt}
use Rattle.std.proofs.lemmas.List.Elements.{All-append}
use mathlib.Core.Option.{some}
use lib.ListN.{get_elem?}
use Rattle.frame_model.specs.declared.key.Key.{Key}
use Rattle.frame_model.specs.declared.view.View.{View}
use Rattle.frame_model.specs.Key.{frame_count, child_of, is_boot_frame}
use Rattle.frame_model.specs.Block.{IsBlock, smalls}
use Rattle.frame_model.specs.View.{small_in, whole_in, ground_small_in, fixed_ground}
use Rattle.frame_model.specs.Fit.{Fit}
use Rattle.frame_model.specs.Holding.{holders}
use Rattle.frame_core.specs.Mover.{IsApart}
use Rattle.frame_model.proofs.Blocks.{smalls_none, smalls_both, wholes_both}
use Rattle.frame_model.proofs.Opening.{fixed_sealed, boot_smalls}
use Rattle.frame_model.proofs.Safe.{holders_are, none_outside}
use Rattle.frame_model.proofs.Sums.{at-le-sum}
use Rattle.frame_model.proofs.Keeps.{total_is}
use Rattle.frame_model.proofs.Steps.Shared.{view_of, ground_kept, ground_none, past_alone, past_unflagged}

boot_one : (b : Bool) → b ≡ true → ◌≡◌ {A = ℕ} (if b then 1 else 0) 1
boot_one true e = refl
boot_one false e = absurd (cc)

module _ (key : Key) (shares : ℕ) (ws : List ℕ) (vs : List View) (id : ℕ) (v : View)
    (fit : Fit key shares ws vs) (at : get_elem? vs id ≡ some v) where
  has_blocks : All (IsBlock key) (v.own ++ v.kept)
  has_blocks = let is = view_of key shares ws vs id v fit at in All-append (IsBlock key) v.own v.kept is.own is.kept

  parts : (x : ℕ) → holders x (v.own ++ v.kept) ≡ small_in x v + whole_in (child_of x) v
  parts x = omega (arith, holders_are key x (v.own ++ v.kept) has_blocks, smalls_both x v.own v.kept, wholes_both (child_of x) v.own v.kept)

  few : (x : ℕ) → x < frame_count key → small_in x (fixed_ground key) + holders x (v.own ++ v.kept) ≤ 1
  few x h = omega (
    arith,
    parts x,
    fit.apart x h,
    fit.wholes (child_of x) (omega (arith, h)),
    total_is key (small_in x) vs,
    total_is key (whole_in (child_of x)) vs,
    at-le-sum (small_in x) vs id v at,
    at-le-sum (whole_in (child_of x)) vs id v at,
  )

  -- past the end a view with a share has at most what it keeps
  none_past : (x : ℕ) → key.frames ≤ x → x < frame_count key → 0 < v.share → smalls x v.own ≡ 0
  none_past x p h share = by v.is_ground refl
    where
      by : (b : Bool) → v.is_ground ≡ b → smalls x v.own ≡ 0
      by true e = omega (arith, past_alone key shares ws vs id v fit at x p h, ap (smalls x) (ground_kept v e share))
      by false e = omega (arith, past_alone key shares ws vs id v fit at x p h, ap (smalls x) (ground_none v e), smalls_none x)

  -- the view of words and views that fit
  pub apart_of : IsApart key v
  apart_of = record {
    disjoint = λ x. ⊎_elim
        (λ (h : x < frame_count key). omega (arith, few x h))
        (λ h. omega (arith, none_outside key x (v.own ++ v.kept) has_blocks h))
        (cases_lt x (frame_count key));
    no_boot_frame = λ x sealed boot. ⊎_elim
        (λ (h : x < frame_count key). omega (
          arith,
          few x h,
          ap (small_in x) (fixed_sealed key sealed),
          boot_smalls key x h,
          boot_one (is_boot_frame key x) boot,
          smalls_none x,
        ))
        (λ h. omega (arith, none_outside key x (v.own ++ v.kept) has_blocks h))
        (cases_lt x (frame_count key));
    inside = λ share x p.
        let is = view_of key shares ws vs id v fit at in
        ⊎_elim
        (λ (h : x < frame_count key). omega (
          arith,
          holders_are key x v.own is.own,
          none_past x p h share,
          past_unflagged key shares ws vs fit x p h,
          fit.wholes (child_of x) (omega (arith, h)),
          total_is key (whole_in (child_of x)) vs,
          at-le-sum (whole_in (child_of x)) vs id v at,
        ))
        (λ h. none_outside key x v.own is.own h)
        (cases_lt x (frame_count key));
  }
