use Rattle.std.proofs.Common.{◌≡◌, ◌<◌, ◌≤◌, ◌+◌, ◌⊎◌, ℕ, inl, inr, refl, sym, ◌∙◌, subst, arith, ⊎_elim}
use Rattle.std.proofs.lemmas.Bool.{cases_eq, cases_lt}
use Rattle.frame_zones.specs.Uses.{HadNone}
use Rattle.frame_zones.proofs.Rounds.{stay_on, stay_at_all, stay_there, one_more_none, same_none, round_taken, taken_there, round_ends}
use Rattle.frame_zones.proofs.Staying.{past_there, past_all}
use Rattle.frame_zones.proofs.zones.Zones.take_elsewhere.Goals as goal

all_seen : (home zone : ℕ) → home ≤ zone → (k : ℕ) → (home ≤ k) ⊎ (k < zone)
all_seen home zone past k = elim (cases_lt k home) as (λ _. (home ≤ k) ⊎ (k < zone)) [
  | inl below ↦ inr (omega (arith, below, past))
  | inr above ↦ inl above
]

pub loop-zone-init : goal.loop-zone-init
loop-zone-init c = (
  stay_at_all _ _ c.requires.core,
  λ d was. same_none _ (λ z. z ≡ c.args.first) (λ k. (c.args.first ≤ k) × (k < c.args.first + 1)) _ _ d _ was
      (λ k within is. omega (arith, is.0, is.1))
      (λ k within not is. not (omega (arith, is), omega (arith, is))),
  refl,
  λ x. refl,
)

pub take_in-requires-clause-core : goal.take_in-requires-clause-core
take_in-requires-clause-core c = c.loop-zone.invariant.0.are_cores

pub returns-in-Ok-clause-core : goal.returns-in-Ok-clause-core
returns-in-Ok-clause-core c = stay_there _ _ _ _
    (stay_on _ _ _ _ c.loop-zone.invariant.0 c.in-Ok.ensures.core)

pub returns-in-Ok-clause-takes : goal.returns-in-Ok-clause-takes
returns-in-Ok-clause-takes c d was = taken_there _ _ _ _ _ _
    (round_taken _ (λ k. (c.args.first ≤ k) × (k < c.loop-zone.zone)) _ _ _ c.loop-zone.zone _ _ _
    (omega (arith, c.loop-zone-test.true, c.len-count.ensures))
    (c.loop-zone.invariant.1 d was) c.in-Ok.ensures.takes (λ is. omega (arith, is.1)))

pub loop-zone-preserved : goal.loop-zone-preserved
loop-zone-preserved c = (
  stay_on _ _ _ _ c.loop-zone.invariant.0 c.in-Err.ensures.core,
  λ d was. subst (λ b. HadNone c.args.self.now (λ k. (c.args.first ≤ k) × (k < c.loop-zone.zone + 1)) c.args.order b d c.take_in.new.core)
      (sym c.or_contended-contended.ensures)
      (one_more_none _ (λ k. (c.args.first ≤ k) × (k < c.loop-zone.zone)) (λ k. (c.args.first ≤ k) × (k < c.loop-zone.zone + 1))
      _ _ _ c.loop-zone.zone _ _ _ c.requires.order
      (omega (arith, c.loop-zone-test.true, c.len-count.ensures))
      (c.loop-zone.invariant.1 d was) c.in-Err.ensures.core c.in-Err.ensures.takes
      (λ is. omega (arith, is.1)) (omega arith, omega arith)
      (λ k is. elim (cases_eq k c.loop-zone.zone) as (λ _. ((c.args.first ≤ k) × (k < c.loop-zone.zone)) ⊎ (k ≡ c.loop-zone.zone)) [
        | inl same ↦ inr same
        | inr other ↦ inl (is.0, omega (arith, is.1, other))
      ])
      (λ k is. (is.0, omega (arith, is.1)))),
  c.in-Err.ensures.stays ∙ c.loop-zone.invariant.2,
  λ x. c.in-Err.ensures.takes.others c.args.first x c.requires.first (λ same. absurd (omega (arith, same)))
      ∙ c.loop-zone.invariant.3 x,
)

pub take_in-requires-in-loop-zone-2-clause-core : goal.take_in-requires-in-loop-zone-2-clause-core
take_in-requires-in-loop-zone-2-clause-core c = c.loop-zone-2.invariant.0.are_cores

pub returns-in-Ok-take_in-clause-core : goal.returns-in-Ok-take_in-clause-core
returns-in-Ok-take_in-clause-core c = stay_there _ _ _ _
    (stay_on _ _ _ _ c.loop-zone-2.invariant.0 c.in-Ok-take_in.ensures.core)

pub returns-in-Ok-take_in-clause-takes : goal.returns-in-Ok-take_in-clause-takes
returns-in-Ok-take_in-clause-takes c d was = taken_there _ _ _ _ _ _
    (round_taken _ (λ k. (c.args.first ≤ k) ⊎ (k < c.loop-zone-2.zone)) _ _ _ c.loop-zone-2.zone _ _ _
    (omega (arith, c.loop-zone-2-test.true, c.requires.first))
    (c.loop-zone-2.invariant.1 d was) c.in-Ok-take_in.ensures.takes
    (⊎_elim (λ above. omega (arith, above, c.loop-zone-2-test.true)) (λ below. omega (arith, below))))

pub loop-zone-2-preserved : goal.loop-zone-2-preserved
loop-zone-2-preserved c = (
  stay_on _ _ _ _ c.loop-zone-2.invariant.0 c.in-Err-take_in.ensures.core,
  λ d was. subst (λ b. HadNone c.args.self.now (λ k. (c.args.first ≤ k) ⊎ (k < c.loop-zone-2.zone + 1)) c.args.order b d c.take_in-in-loop-zone-2.new.core)
      (sym c.or_contended-contended-in-Err-take_in.ensures)
      (one_more_none _ (λ k. (c.args.first ≤ k) ⊎ (k < c.loop-zone-2.zone)) (λ k. (c.args.first ≤ k) ⊎ (k < c.loop-zone-2.zone + 1))
      _ _ _ c.loop-zone-2.zone _ _ _ c.requires.order
      (omega (arith, c.loop-zone-2-test.true, c.requires.first))
      (c.loop-zone-2.invariant.1 d was) c.in-Err-take_in.ensures.core c.in-Err-take_in.ensures.takes
      (⊎_elim (λ above. omega (arith, above, c.loop-zone-2-test.true)) (λ below. omega (arith, below)))
      (inr (omega arith))
      (λ k is. elim is as (λ _. ((c.args.first ≤ k) ⊎ (k < c.loop-zone-2.zone)) ⊎ (k ≡ c.loop-zone-2.zone)) [
        | inl above ↦ inl (inl above)
        | inr below ↦ elim (cases_eq k c.loop-zone-2.zone) as (λ _. ((c.args.first ≤ k) ⊎ (k < c.loop-zone-2.zone)) ⊎ (k ≡ c.loop-zone-2.zone)) [
          | inl same ↦ inr same
          | inr other ↦ inl (inr (omega (arith, below, other)))
        ]
      ])
      (λ k is. elim is as (λ _. (c.args.first ≤ k) ⊎ (k < c.loop-zone-2.zone + 1)) [
        | inl above ↦ inl above
        | inr below ↦ inr (omega (arith, below))
      ])),
  c.in-Err-take_in.ensures.stays ∙ c.loop-zone-2.invariant.2,
  λ x. c.in-Err-take_in.ensures.takes.others c.args.first x c.requires.first
      (λ same. absurd (omega (arith, same, c.loop-zone-2-test.true)))
      ∙ c.loop-zone-2.invariant.3 x,
)

pub returns-else-contended-clause-takes : goal.returns-else-contended-clause-takes
returns-else-contended-clause-takes c d was =
    let done = c.loop-zone-2.invariant.1 d was in
    let each : (k : ℕ) → (c.args.first ≤ k) ⊎ (k < c.loop-zone-2.zone) =
    all_seen c.args.first c.loop-zone-2.zone (omega (arith, c.loop-zone-2-test.false)) in
    round_ends _ (λ k. (c.args.first ≤ k) ⊎ (k < c.loop-zone-2.zone)) _ _ _ _ _ done (λ k within. each k) (
      (λ z a x within. done.seen z a x (each z) within),
      done.calm c.if-contended.false,
    )

pub loop-zone-2-init : goal.loop-zone-2-init
loop-zone-2-init c = (
  c.loop-zone.invariant.0,
  λ d was. same_none _ (λ k. (c.args.first ≤ k) × (k < c.loop-zone.zone)) (λ k. (c.args.first ≤ k) ⊎ (k < 0)) _ _ d _
      (c.loop-zone.invariant.1 d was)
      (λ k within. ⊎_elim (λ above. (above, omega (arith, within, c.loop-zone-test.false, c.len-count.ensures)))
      (λ below. absurd (omega (arith, below))))
      (λ k within not is. not (inl is.0)),
  c.loop-zone.invariant.2,
  c.loop-zone.invariant.3,
)

pub returns-then-contended-clause-takes : goal.returns-then-contended-clause-takes
returns-then-contended-clause-takes c d was =
    let done = c.loop-zone-2.invariant.1 d was in
    let each : (k : ℕ) → (c.args.first ≤ k) ⊎ (k < c.loop-zone-2.zone) =
    all_seen c.args.first c.loop-zone-2.zone (omega (arith, c.loop-zone-2-test.false)) in
    round_ends _ (λ k. (c.args.first ≤ k) ⊎ (k < c.loop-zone-2.zone)) _ _ _ _ _ done (λ k within. each k) (
      (λ z a x within. done.seen z a x (each z) within),
      done.missed c.if-contended.true,
    )

pub returns-in-Ok-clause-stays : goal.returns-in-Ok-clause-stays
returns-in-Ok-clause-stays c =
    past_there c.args.self.now c.args.order c.args.first c.loop-zone.zone _ c.args.core.now c.loop-zone.core c.take_in.new.core _
    c.requires.first (λ same. absurd (omega (arith, same))) (omega arith) c.loop-zone.invariant.2 c.loop-zone.invariant.3
    c.in-Ok.ensures.stays c.in-Ok.ensures.takes (record { zone = refl; left = refl })

pub returns-in-Ok-take_in-clause-stays : goal.returns-in-Ok-take_in-clause-stays
returns-in-Ok-take_in-clause-stays c =
    past_there c.args.self.now c.args.order c.args.first c.loop-zone-2.zone _ c.args.core.now c.loop-zone-2.core
    c.take_in-in-loop-zone-2.new.core _ c.requires.first (λ same. absurd (omega (arith, same, c.loop-zone-2-test.true))) (omega arith)
    c.loop-zone-2.invariant.2 c.loop-zone-2.invariant.3 c.in-Ok-take_in.ensures.stays c.in-Ok-take_in.ensures.takes
    (record { zone = refl; left = refl })

pub returns-then-contended-clause-stays : goal.returns-then-contended-clause-stays
returns-then-contended-clause-stays c =
    past_all c.args.order c.args.first _ c.args.core.now c.loop-zone-2.core c.loop-zone-2.invariant.2 c.loop-zone-2.invariant.3

pub returns-else-contended-clause-stays : goal.returns-else-contended-clause-stays
returns-else-contended-clause-stays c =
    past_all c.args.order c.args.first _ c.args.core.now c.loop-zone-2.core c.loop-zone-2.invariant.2 c.loop-zone-2.invariant.3
