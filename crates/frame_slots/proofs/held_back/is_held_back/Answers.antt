use Rattle.std.proofs.Common.{refl}
use Rattle.frame_slots.proofs.HeldBack.{by_middle}
use Rattle.frame_slots.proofs.held_back.is_held_back.Goals as goal

pub returns-then-meet : goal.returns-then-meet
returns-then-meet c _ frame order few aligned at inside =
    by_middle c.args.ranges.now c.args.place frame order at (c.if-meet.ensures refl)
