-- Why no single frame was taken by number.
use Rattle.std.proofs.Common.{◌≡◌, ℕ, inl, inr, refl, sym, ◌∙◌, ap, arith}
use Rattle.frame_words.specs.declared.fault.TakeFault.{TakeFault}
use Rattle.frame_words.specs.declared.fault.TakeFault.TheVariants.{BadOrder, NoBlock, Contended}
use Rattle.zone_slots.specs.Calls.{zones_of}
use Rattle.zone_slots.specs.FrameNumbers.{RefusesNumber}
use Rattle.zone_slots.specs.declared.core_state.CoreState.{CoreState}
use Rattle.llfree_c.specs.FrameNumbers.{RefusesNumberAs}
use Rattle.llfree_c.specs.Status.{no_block, contended}
use Rattle.llfree_c.proofs.CarriedBlocks.{found_nothing}

-- 1 where others were in the way
in_the_way : TakeFault → ℕ
in_the_way Contended = 1
in_the_way NoBlock = 0
in_the_way BadOrder = 0

-- none was found
pub number_not_found : (s t : CoreState) → RefusesNumber s t NoBlock → RefusesNumberAs no_block s t
unfolding in_the_way
number_not_found s t (inl why) = inl (
  refl,
  why.0.none,
  why.0.none_then ∙ sym why.0.none,
  record {
    core = why.0.core;
    batch = why.0.batch;
    in_each = found_nothing (zones_of s) 0 why.0.core t.core why.0.why;
    lent = why.0.lent;
    kept = why.0.kept;
  },
  why.1,
)
number_not_found s t (inr why) =
    let other : 0 ≡ 1 = ap in_the_way why.0 in
    absurd (omega (arith, other))

-- an exchange was lost, or the frame found no slot
pub number_lost : (s t : CoreState) → RefusesNumber s t Contended → RefusesNumberAs contended s t
number_lost s t (inl why) = inr (inl (
  refl,
  why.0.none,
  why.0.none_then ∙ sym why.0.none,
  record {
    core = why.0.core;
    batch = why.0.batch;
    lost = record {
      looked = why.0.why.0.0;
      lost = why.0.why.0.1;
      lent = why.0.why.1;
      kept = why.0.why.2;
      moves = why.0.why.3;
    };
    lent = why.0.lent;
    kept = why.0.kept;
  },
  why.1,
))
number_lost s t (inr why) = inr (inr (refl, why.1))

-- there are single frames
pub singles_are : (s t : CoreState) → RefusesNumber s t BadOrder → ⊥
unfolding in_the_way
singles_are s t (inl why) = omega (arith, why.0.why.0.0)
singles_are s t (inr why) =
    let other : 0 ≡ 1 = ap in_the_way why.0 in
    omega (arith, other)
