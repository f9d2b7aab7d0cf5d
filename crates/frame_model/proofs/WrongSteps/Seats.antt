-- A block that is handed out though some of its frames are not in flight.
use Rattle.std.proofs.Common.{◌≡◌, ℕ, ◌+◌, ◌^◌, ◌<◌, ◌≤◌, List, [], ◌∷◌, ◌++◌, set, arith}
use Rattle.std.proofs.lemmas.Bool.Decides.{nat_tests}
use Rattle.std.proofs.lemmas.Nat.{pow_pos}
use mathlib.Core.Option.{some}
use lib.ListN.{get_elem?}
use Rattle.frame_model.specs.declared.block.FrameBlock.{FrameBlock}
use Rattle.frame_model.specs.declared.key.Key.{Key}
use Rattle.frame_model.specs.declared.view.View.{View}
use Rattle.frame_model.specs.Key.{frame_count, child_of}
use Rattle.frame_model.specs.Block.{IsBlock, covers, small_at, smalls}
use Rattle.frame_model.specs.View.{whole_in, marks}
use Rattle.frame_model.specs.Fit.{Fit}
use Rattle.frame_model.specs.Steps.{Rest, next}
use Rattle.frame_model.specs.Steps.Amounts.{Leaves}
use Rattle.frame_model.specs.Seats.{hand_out, left_by, right_by}
use Rattle.frame_model.specs.Without.{HasFrames}
use Rattle.frame_model.specs.WrongSteps.{HandsOutHalf}
use Rattle.frame_model.proofs.Blocks.{smalls_cons, wholes_cons}
use Rattle.frame_model.proofs.Steps.Shared.{bit-le, at-le-total}
use Rattle.frame_model.proofs.Without.{first_of_child, whole_child}
use Rattle.frame_model.proofs.WrongSteps.Shared.{total_cut}

-- a frame of a block below order 9
small_of : (b : FrameBlock) (x : ℕ) → b.order < 9 → small_at x b ≡ covers b x
unfolding small_at
small_of b x h = grind (arith, nat_tests)

within : (b : FrameBlock) (x : ℕ) → covers b x ≡ 1 → x < b.frame + 2 ^ b.order
unfolding covers
within b x e = grind (arith, nat_tests)

module _ (key : Key) (shares : ℕ) (ws : List ℕ) (vs : List View) (id : ℕ) (v : View) (fit : Fit key shares ws vs)
    (at : get_elem? vs id ≡ some v) (b : FrameBlock) (is : IsBlock key b) where
  in_memory : (x : ℕ) → covers b x ≡ 1 → x < frame_count key
  in_memory x e = omega (arith, is.inside, within b x e)

  -- a frame is at most once in flight
  once : (x : ℕ) → covers b x ≡ 1 → smalls x v.own ≤ 1
  once x e = omega (arith, fit.bits x (in_memory x e), bit-le key ws x, at-le-total key shares ws vs id v fit at (marks x))

  -- where the block leaves the blocks in flight, all of its frames were in flight
  leaves_all : (rest : List FrameBlock) → Leaves key v.own b rest → HasFrames v.own b
  leaves_all rest leaves = record {
    smalls = λ small x e. omega (arith, leaves.smalls x, small_of b x small, e, once x e);
    wholes = λ o. omega (arith, leaves.wholes (child_of b.frame), whole_child b o (first_of_child b is.aligned o));
  }

  -- and so they were where the words fit the views after it was handed out
  fits_all : (rest : Rest) (others : ℕ)
      → Fit key others ws (set vs id (left_by next (hand_out b rest) v) ++ right_by (hand_out b rest) v ∷ []) → HasFrames v.own b
  fits_all rest others after =
      let w : View = left_by next (hand_out b rest) v in
      let u : View = right_by (hand_out b rest) v in
      record {
        smalls = λ small x e. omega (
          arith,
          e,
          once x e,
          small_of b x small,
          smalls_cons x b [],
          fit.bits x (in_memory x e),
          after.bits x (in_memory x e),
          total_cut key vs id v w at (marks x) u,
        );
        wholes = λ o. let child : child_of b.frame < key.children = omega (arith, is.inside, pow_pos b.order) in
            omega (
              arith,
              whole_child b o (first_of_child b is.aligned o),
              wholes_cons (child_of b.frame) b [],
              fit.wholes (child_of b.frame) child,
              after.wholes (child_of b.frame) child,
              total_cut key vs id v w at (whole_in (child_of b.frame)) u,
            );
      }

pub hands_out_half : HandsOutHalf
hands_out_half key ws vs id v before b rest (is, missing) = (
  λ can. missing (leaves_all key before.shares ws vs id v before.fits before.seat b is (rest v.own) can.leaves),
  λ shares after. missing (fits_all key before.shares ws vs id v before.fits before.seat b is rest shares after),
)
