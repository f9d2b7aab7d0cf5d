use Rattle.std.proofs.Common.{◌∙◌, ◌+◌, ◌*◌, ◌/◌, ℕ, refl, arith}
use Rattle.std.proofs.lemmas.List.{length-set}
use Rattle.frame_model.specs.declared.key.Key.{Key}
use Rattle.frame_core.specs.Image.{key_in}
use Rattle.frame_model.specs.Report.{clear_within}
use Rattle.frame_image.proofs.CountLemmas.{told_sum, told_halves, halved, counted_more, numbers_are, free_few}
use Rattle.frame_image.proofs.child_numbers.count_child.Goals as goal

pub loop-order-preserved : goal.loop-order-preserved
loop-order-preserved c =
    let image = c.args.image.now in
    let key : Key = key_in image in
    let from : ℕ = 512 * c.args.child in
    let order : ℕ = c.loop-order.order in
    let inv = c.loop-order.invariant in
    let sum = c.count_clear.ensures ∙ told_sum key image.words from 512 order c.loop-order.blocks c.loop-order.clear inv.blocks inv.clear in
    record {
      clear = told_halves key image.words from order (c.loop-order.blocks / 2) c.loop-order.clear c.halve.new.clear
          (λ i h. inv.clear i (omega arith)) c.halve.ensures;
      blocks = halved c.loop-order.blocks order inv.blocks;
      counted = counted_more (λ o. clear_within key image.words o from 512) c.loop-order.numbers order c.count_clear.result
          (omega (arith, inv.size, c.loop-order-test.true)) inv.counted sum;
      size = omega (arith, inv.size, length-set c.loop-order.numbers (2 + order) c.count_clear.result);
    }

pub overflow_sub-numbers : goal.overflow_sub-numbers
overflow_sub-numbers c =
    let image = c.args.image.now in
    free_few (key_in image) image.words (512 * c.args.child) 512 _
    (c.loop-order.invariant.counted 0 (omega (arith, c.loop-order-test.false)))

pub returns : goal.returns
returns c =
    let image = c.args.image.now in
    numbers_are (key_in image) image.words c.loop-order.numbers (512 * c.args.child) 512 _ c.loop-order.invariant.size
    (λ o h. c.loop-order.invariant.counted o (omega (arith, h, c.loop-order-test.false))) refl
