use Rattle.std.proofs.Common.{sym, arith}
use Rattle.frame_text.proofs.Ranges.{set_from, clear_from, set_so_far, shifted_clear}
use Rattle.frame_text.proofs.image_parts.all_set_from.Goals as goal

pub loop-frame-preserved : goal.loop-frame-preserved
loop-frame-preserved c =
    set_so_far c.args.first c.loop-frame.frame c.args.bits.now c.loop-frame.invariant c.if-word-frame-eq0.false

pub returns-then-word-frame-eq0 : goal.returns-then-word-frame-eq0
returns-then-word-frame-eq0 c =
    sym (clear_from c.args.first c.loop-frame.frame c.args.bits.now c.loop-frame.auto.frame c.loop-frame-test.true
    (shifted_clear c.loop-frame.frame c.args.bits.now c.if-word-frame-eq0.true))

pub returns : goal.returns
returns c =
    sym (set_from c.args.first c.args.bits.now c.requires (λ d l h. c.loop-frame.invariant d l (omega (arith, c.loop-frame-test.false))))
