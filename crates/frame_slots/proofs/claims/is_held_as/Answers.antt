use Rattle.std.proofs.Common.{arith}
use Rattle.frame_slots.proofs.claims.is_held_as.Goals as goal

pub returns-then-not-are_set : goal.returns-then-not-are_set
returns-then-not-are_set c =
    λ h. c.if-not-are_set.ensures
    (λ x low less. h.set (omega (arith, c.if-block-gt-HUGE_ORDER.false, c.if-block-eq-HUGE_ORDER.false)) x low
    (omega (arith, less, c.frames_of-n.ensures.value)))
