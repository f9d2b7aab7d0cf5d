use Rattle.std.proofs.Common.{◌≡◌, inl, inr, subst, arith, rules}
use Rattle.std.proofs.lemmas.Bool.{cases_lt}
use Rattle.frame_slots.specs.SlotLists.{AccountsFor}
use Rattle.frame_slots.proofs.HeldBack.{all_accounted}
use Rattle.frame_slots.proofs.slots.SlotList.has_each.Goals as goal

pub loop-place-preserved : goal.loop-place-preserved
loop-place-preserved c =
    let yes : AccountsFor c.args.frames c.args.ranges.now c.loop-place.place c.args.self.now = search rules in
    λ place below. elim (cases_lt place c.loop-place.place)
    as (λ _. AccountsFor c.args.frames c.args.ranges.now place c.args.self.now) [
      | inl less ↦ c.loop-place.invariant place less
      | inr past ↦
          let here : c.loop-place.place ≡ place = omega (arith, past, below) in
          subst (λ n. AccountsFor c.args.frames c.args.ranges.now n c.args.self.now) here yes
    ]

pub returns : goal.returns
returns c _ =
    all_accounted c.args.frames c.args.ranges.now c.args.self.now
    (λ place below. c.loop-place.invariant place (omega (arith, below, c.loop-place-test.false)))
