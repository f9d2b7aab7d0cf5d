use Rattle.std.proofs.Common.{◌≡◌, ◌≢◌, ℕ, suc, ◌+◌, ◌-◌, ◌*◌, ◌%◌, ◌<◌, List, ◌∷◌, ◌++◌, length, ap, sym, ◌∙◌, arith}
use Rattle.std.specs.Int.{bit_at}
use Rattle.std.proofs.lemmas.Nat.Bits.{shr_and_one}
use Rattle.frame_model.specs.declared.block.FrameBlock.{FrameBlock}
use Rattle.frame_model.specs.Block.{block}
use Rattle.plain_moves.proofs.PlainBlocks.{singles_from, single_more, single_skipped, all_singles}
use Rattle.plain_moves.proofs.plain.blocks.push_singles.Goals as goal
use Rattle.plain_moves.proofs.plain.blocks.push_singles.Goals.{then-mask-bit-eq1, else-mask-bit-eq1}

pub push_front_reserved-requires : goal.push_front_reserved-requires
push_front_reserved-requires c =
    let was = c.loop-step.invariant in
    omega (arith, was.few, was.room, c.requires.room, c.loop-step-test.true, c.loop-step.list.ok)

pub loop-step-preserved : goal.loop-step-preserved
loop-step-preserved c =
    let was = c.loop-step.invariant in
    let word = c.args.word in
    let mask = c.args.mask in
    let i = c.loop-step.step in
    let bit : ℕ = 64 - 1 - i in
    let from : ℕ = 64 * word + 64 - (i + 1) in
    let low : i < 64 = omega (arith, c.loop-step-test.true) in
    let there : from % 64 ≡ bit = omega (arith, low) in
    let place : 64 * word + bit ≡ from = omega (arith, low) in
    let before : from + 1 ≡ 64 * word + 64 - i = omega (arith, low) in
    let more : i + 1 ≡ suc i = omega arith in
    let old = c.args.list.now.items in
    let one : bit_at mask (from % 64) ≡ bit_at mask bit = ap (bit_at mask) there in
    elim c.if-mask-bit-eq1.branch [
      | then-mask-bit-eq1 w ↦
          let has : bit_at mask (from % 64) ≡ 1 = one ∙ sym (shr_and_one mask bit) ∙ w.if-mask-bit-eq1.true in
          let step : singles_from mask from (i + 1) ≡ block from 0 ∷ singles_from mask (64 * word + 64 - i) i =
          ap (singles_from mask from) more ∙ single_more mask from i has ∙ ap (λ k. block from 0 ∷ singles_from mask k i) before in
          rw w.list-is (record {
            items = w.push_front_reserved.ensures.items ∙ ap (λ f. block f 0 ∷ c.loop-step.list.items) place
                ∙ ap (λ (l : List FrameBlock). block from 0 ∷ l) was.items ∙ ap (λ (l : List FrameBlock). l ++ old) (sym step);
            few = omega (arith, ap (λ (l : List FrameBlock). length l) w.push_front_reserved.ensures.items, was.few);
            room = w.push_front_reserved.ensures.capacity ∙ was.room;
          })
      | else-mask-bit-eq1 w ↦
          let has : bit_at mask (from % 64) ≢ 1 = (λ e. w.if-mask-bit-eq1.false (shr_and_one mask bit ∙ sym one ∙ e)) in
          let step : singles_from mask from (i + 1) ≡ singles_from mask (64 * word + 64 - i) i =
          ap (singles_from mask from) more ∙ single_skipped mask from i has ∙ ap (λ k. singles_from mask k i) before in
          rw w.list-is (record {
            items = was.items ∙ ap (λ (l : List FrameBlock). l ++ old) (sym step);
            few = omega (arith, was.few);
            room = was.room;
          })
    ]

pub returns-clause-items : goal.returns-clause-items
returns-clause-items c =
    let word = c.args.word in
    let mask = c.args.mask in
    let i = c.loop-step.step in
    let end : i ≡ 64 = omega (arith, c.loop-step-test.false, c.loop-step.auto.step-end) in
    let first : 64 * word + 64 - i ≡ 64 * word = omega (arith, end) in
    c.loop-step.invariant.items ∙ ap (λ (l : List FrameBlock). l ++ c.args.list.now.items)
    (ap (λ k. singles_from mask k i) first ∙ ap (singles_from mask (64 * word)) end ∙ all_singles word mask)
