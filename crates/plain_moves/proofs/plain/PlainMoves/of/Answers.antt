use Rattle.std.proofs.Common.{ℕ, List, ◌∙◌, sym, subst, arith}
use Rattle.plain_moves.specs.Apart.{AreApart}
use Rattle.plain_moves.specs.Plain.{plain_key}
use Rattle.plain_moves.proofs.PlainOpening.{starts, opened}
use Rattle.plain_moves.proofs.plain.PlainMoves.of.Goals as goal

pub invariant_of-result-clause-agrees : goal.invariant_of-result-clause-agrees
invariant_of-result-clause-agrees c =
    let key = plain_key c.args.geometry c.args.sealed in
    let zero = c.in_ok-outs.ensures.items_if_clones_equal (λ y e. e) in
    opened key (record { parties = c.new.result; outs = c.new-2.result }) c.args.words.items c.in_ok-outs.outs.items _ _
    c.new.ensures.items c.new-2.ensures.items c.requires.fits zero
    (starts key c.from.result c.in_ok-outs.outs.items c.in_ok-own.own.items c.in_ok-filled.filled.items _ (c.from.ensures
    ∙ c.cores.ensures.value) zero
    c.in_ok-own.ensures.items c.in_ok-filled.ensures.items)

pub invariant_of-result-clause-distinct : goal.invariant_of-result-clause-distinct
invariant_of-result-clause-distinct c =
    subst (λ (l : List ℕ). ∥ AreApart l ∥₁) (sym c.in_ok-filled.ensures.items)
    ∣ (λ i j d l h. absurd (omega arith)) ∣₁

pub returns-clause-idle : goal.returns-clause-idle
returns-clause-idle c =
    let key = plain_key c.args.geometry c.args.sealed in
    starts key c.from.result c.in_ok-outs.outs.items c.in_ok-own.own.items c.in_ok-filled.filled.items _ (c.from.ensures
    ∙ c.cores.ensures.value)
    (c.in_ok-outs.ensures.items_if_clones_equal (λ y e. e)) c.in_ok-own.ensures.items
    c.in_ok-filled.ensures.items
