use Rattle.std.proofs.Common.{◌∙◌, ◌-◌, ◌/◌, ◌%◌, max, ap, arith}
use Rattle.std.specs.Prelude.{slice_index}
use Rattle.std.specs.Int.{bit_at}
use Rattle.std.proofs.lemmas.List.{length-set}
use Rattle.frame_words.specs.Words.{flag}
use Rattle.frame_core.specs.Image.{key_in}
use Rattle.frame_text.specs.ImageText.{child_bits}
use Rattle.frame_image.proofs.CountLemmas.{clear_child, told_more}
use Rattle.frame_image.proofs.child_numbers.clear_frames.Goals as goal

pub loop-frame-preserved : goal.loop-frame-preserved
loop-frame-preserved c =
    let image = c.args.image.now in
    let i = c.loop-frame.frame in
    let bits = child_bits (key_in image) image.words c.args.child in
    let inv = c.loop-frame.invariant in
    let told =
    c.clear_in.ensures
    ∙ ap (λ bs. 1 - max (bit_at (slice_index bs (i / 64)) (i % 64)) (flag c.huge-huge.result)) c.child_bits-bits.ensures
    ∙ ap (λ n. 1 - max (bit_at (slice_index bits (i / 64)) (i % 64)) n) c.huge-huge.ensures
    ∙ clear_child (key_in image) image.words c.args.child i c.loop-frame-test.true in
    record {
      told = told_more (key_in image) image.words c.args.child i c.loop-frame.clear c.clear_in.result
          (omega (arith, inv.size, c.loop-frame-test.true)) inv.told told;
      size = omega (arith, inv.size, length-set c.loop-frame.clear i c.clear_in.result);
    }
