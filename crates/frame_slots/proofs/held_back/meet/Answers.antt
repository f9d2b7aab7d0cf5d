use Rattle.std.proofs.Common.{arith}
use Rattle.frame_slots.proofs.HeldBack.{meets}
use Rattle.frame_slots.proofs.held_back.meet.Goals as goal

pub returns : goal.returns
returns c _ =
    meets c.args.ranges.now c.args.frame c.args.order c.max-inside.result c.loop-low.low (0, 0)
    (omega (arith, c.if-low-ranges.false))
    (omega (arith, c.max-inside.ensures))
    (omega (arith, c.max-inside.ensures, c.if-inside-frame.false, c.from-5.ensures, c.frames_of.ensures.value))
    (omega (arith, c.max-inside.ensures, c.from-2.ensures))
    (omega (arith, c.if-inside-from.false, c.from-3.ensures, c.from-4.ensures))
