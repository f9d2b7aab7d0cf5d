-- What no exported call answers.
use Rattle.std.proofs.Common.{ℕ, [], Some, None, ⊎_elim, inl, refl, sym, ap, ◌∙◌, ◌<◌, ◌≡◌, length, arith}
use Rattle.std.proofs.lemmas.Bool.{true≢false}
use Rattle.zone_slots.proofs.WrongTakes.{fewer_moves_unsought, loss_unsought, number_in_no_zone, taken_from_a_hole}
use Rattle.zone_slots.specs.Calls.{zones_of}
use Rattle.zone_slots.specs.FrameCalls.{resting_in}
use Rattle.zone_slots.specs.Uses.{FindsNothingAnywhere}
use Rattle.zone_slots.specs.WrongTakes.{SkipsTrees, LosesSome}
use Rattle.zone_slots.specs.declared.core_state.CoreState.{CoreState}
use Rattle.llfree_c.specs.WrongCalls.{NumberIsOfAHole, NoBlockIsUnsought, CountIsTooHigh, SplitIsRefusedForNothing, HalvesAreRefusedForNothing, PartsAreRefusedForNothing, FrameIsRefusedForNothing}

pub number_is_of_a_hole : NumberIsOfAHole
number_is_of_a_hole order frame x h s t none = (
  λ lies takes. taken_from_a_hole order frame x s t none lies takes,
  λ lies takes. number_in_no_zone order h.frame x s t none lies takes.taken,
)

-- a search that was made is none that skipped trees or lost an exchange
skipped : (order : ℕ) (s t : CoreState) → SkipsTrees s t → ¬ FindsNothingAnywhere (zones_of s) order s.core t.core
skipped order s t skips none = fewer_moves_unsought order s t skips none

lost : (order : ℕ) (s t : CoreState) → LosesSome s t → ¬ FindsNothingAnywhere (zones_of s) order s.core t.core
lost order s t loses none = loss_unsought order s t loses none

pub no_block_is_unsought : NoBlockIsUnsought
no_block_is_unsought order h s t = (
  λ skips why. ⊎_elim (λ other. absurd (omega (arith, other.0)))
      (λ rest. ⊎_elim (λ found. skipped order s t skips found.1.in_each) (λ other. absurd (omega (arith, other.0))) rest) why,
  λ loses why. ⊎_elim (λ other. absurd (omega (arith, other.0)))
      (λ rest. ⊎_elim (λ found. lost order s t loses found.1.in_each) (λ other. absurd (omega (arith, other.0))) rest) why,
  λ skips why. ⊎_elim (λ other. absurd (omega (arith, other.0)))
      (λ rest. ⊎_elim (λ other. absurd (omega (arith, other.0)))
      (λ last. ⊎_elim (λ found. skipped order s t skips found.1.in_each) (λ other. absurd (omega (arith, other.0))) last) rest) why,
  λ loses why. ⊎_elim (λ other. absurd (omega (arith, other.0)))
      (λ rest. ⊎_elim (λ other. absurd (omega (arith, other.0)))
      (λ last. ⊎_elim (λ found. lost order s t loses found.1.in_each) (λ other. absurd (omega (arith, other.0))) last) rest) why,
)

pub count_is_too_high : CountIsTooHigh
count_is_too_high n s None = (
  λ over counts. counts,
  λ over counts. counts,
  λ some counts. absurd (omega (arith, some, counts.0)),
  λ some counts. absurd (omega (arith, some, counts.0)),
)
count_is_too_high n s (Some t) = (
  λ over counts. absurd (omega (arith, over, counts.counts.few)),
  λ over counts. absurd (omega (arith, over, counts.counts.few)),
  λ some counts. absurd (omega (arith, some, counts.0)),
  λ some counts. absurd (omega (arith, some, counts.0)),
)

pub split_is_refused_for_nothing : SplitIsRefusedForNothing
split_is_refused_for_nothing order frame s t = (
  inl (refl, refl, refl, refl),
  λ some why. ⊎_elim (λ is. absurd (omega (arith, some, is.1)))
      (λ rest. ⊎_elim (λ other. absurd (omega (arith, other.0))) (λ other. absurd (omega (arith, other.0))) rest) why,
  λ why. ⊎_elim (λ other. absurd (omega (arith, other.0)))
      (λ rest. ⊎_elim (λ is. absurd (omega (arith, is.1))) (λ other. absurd (omega (arith, other.0))) rest) why,
  λ why. ⊎_elim (λ other. absurd (omega (arith, other.0)))
      (λ rest. ⊎_elim (λ other. absurd (omega (arith, other.0))) (λ is. absurd (omega (arith, is.1))) rest) why,
  λ moved. (
    λ why. ⊎_elim (λ is. moved is.2)
        (λ rest. ⊎_elim (λ other. absurd (omega (arith, other.0))) (λ other. absurd (omega (arith, other.0))) rest) why,
    λ why. ⊎_elim (λ other. absurd (omega (arith, other.0)))
        (λ rest. ⊎_elim (λ is. moved is.2) (λ other. absurd (omega (arith, other.0))) rest) why,
  ),
  λ uncounted why. ⊎_elim (λ other. absurd (omega (arith, other.0)))
      (λ rest. ⊎_elim (λ other. absurd (omega (arith, other.0))) (λ is. uncounted is.2) rest) why,
)

pub halves_are_refused_for_nothing : HalvesAreRefusedForNothing
halves_are_refused_for_nothing held upper s t = (
  λ single. (refl, inl (refl, single)),
  λ some why. ⊎_elim (λ is. absurd (omega (arith, some, is.1)))
      (λ rest. ⊎_elim (λ other. absurd (omega (arith, other.0))) (λ other. absurd (omega (arith, other.0))) rest) why.1,
  λ live why. ⊎_elim (λ other. absurd (omega (arith, other.0)))
      (λ rest. ⊎_elim (λ is. absurd (true≢false (sym live ∙ is.1))) (λ other. absurd (omega (arith, other.0))) rest) why.1,
  λ empty why. ⊎_elim (λ other. absurd (omega (arith, other.0)))
      (λ rest. ⊎_elim (λ other. absurd (omega (arith, other.0))) (λ is. absurd (true≢false (sym is.1 ∙ empty))) rest) why.1,
  λ moved status why. moved why.0,
)

pub parts_are_refused_for_nothing : PartsAreRefusedForNothing
parts_are_refused_for_nothing order to frame s t = (
  λ none. inl (refl, none, refl, refl),
  λ some why. ⊎_elim (λ is. is.1 some)
      (λ rest. ⊎_elim (λ other. absurd (omega (arith, other.0))) (λ other. absurd (omega (arith, other.0))) rest) why,
  λ none. (
    λ why. ⊎_elim (λ other. absurd (omega (arith, other.0)))
        (λ rest. ⊎_elim (λ is. none is.1) (λ other. absurd (omega (arith, other.0))) rest) why,
    λ why. ⊎_elim (λ other. absurd (omega (arith, other.0)))
        (λ rest. ⊎_elim (λ other. absurd (omega (arith, other.0))) (λ is. none is.1) rest) why,
  ),
  λ moved. (
    λ why. ⊎_elim (λ is. moved is.2)
        (λ rest. ⊎_elim (λ other. absurd (omega (arith, other.0))) (λ other. absurd (omega (arith, other.0))) rest) why,
    λ why. ⊎_elim (λ other. absurd (omega (arith, other.0)))
        (λ rest. ⊎_elim (λ is. moved is.2) (λ other. absurd (omega (arith, other.0))) rest) why,
  ),
  λ uncounted why. ⊎_elim (λ other. absurd (omega (arith, other.0)))
      (λ rest. ⊎_elim (λ other. absurd (omega (arith, other.0))) (λ is. uncounted is.2) rest) why,
)

-- where frames rest, there is not none
none_rest : (s : CoreState) → 0 < length (resting_in s) → ¬ (resting_in s ≡ [])
none_rest s some none = absurd (omega (arith, some, ap length none))

pub frame_is_refused_for_nothing : FrameIsRefusedForNothing
frame_is_refused_for_nothing held s t = (
  λ live. (refl, inl (refl, live, refl)),
  λ empty why. ⊎_elim (λ is. absurd (true≢false (sym is.1 ∙ empty)))
      (λ rest. ⊎_elim (λ other. absurd (omega (arith, other.0))) (λ other. absurd (omega (arith, other.0))) rest) why.1,
  λ some. (
    λ why. ⊎_elim (λ other. absurd (omega (arith, other.0)))
        (λ rest. ⊎_elim (λ is. none_rest s some is.1) (λ other. absurd (omega (arith, other.0))) rest) why.1,
    λ why. ⊎_elim (λ other. absurd (omega (arith, other.0)))
        (λ rest. ⊎_elim (λ other. absurd (omega (arith, other.0))) (λ is. none_rest s some is.1) rest) why.1,
  ),
  λ changed status why. changed why.0,
  λ some why. ⊎_elim (λ is. none_rest s some is.1)
      (λ rest. ⊎_elim (λ other. absurd (omega (arith, other.0))) (λ other. absurd (omega (arith, other.0))) rest) why,
  λ counted why. ⊎_elim (λ is. counted is.4)
      (λ rest. ⊎_elim (λ other. absurd (omega (arith, other.0))) (λ other. absurd (omega (arith, other.0))) rest) why,
)
