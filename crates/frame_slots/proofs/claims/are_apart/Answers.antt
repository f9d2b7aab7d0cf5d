use Rattle.std.proofs.Common.{rules, arith}
use Rattle.std.specs.Prelude.{IsTrue, false}
use Rattle.std.proofs.lemmas.List.Sorted.{all_adjacent_more}
use Rattle.frame_model.specs.Block.{block}
use Rattle.frame_slots.proofs.Overlaps.{BeginsOutside, apart_in_order, not_apart, outside_at}
use Rattle.frame_slots.proofs.claims.are_apart.Goals as goal

pub returns-then-begins_inside-clause-overlap : goal.returns-then-begins_inside-clause-overlap
returns-then-begins_inside-clause-overlap c =
    let t : IsTrue c.begins_inside.result = search rules in
    λ _. not_apart c.args.blocks.now c.loop-i.i _ (omega arith) c.loop-i-test.true (c.begins_inside.ensures.0 t)

pub loop-i-preserved : goal.loop-i-preserved
loop-i-preserved c =
    let no : IsTrue false → ⊥ = search rules in
    all_adjacent_more c.args.blocks.now BeginsOutside c.loop-i.i (omega arith) c.loop-i.invariant
    (λ d. outside_at c.args.blocks.now c.loop-i.i _ d (omega arith) c.loop-i-test.true
    (λ inside. no (c.if-begins_inside.ensures.1 inside)))

pub returns-clause-apart : goal.returns-clause-apart
returns-clause-apart c = λ _ up. apart_in_order c.args.blocks.now c.loop-i.i (block 0 0) up c.loop-i.invariant c.loop-i-test.false
