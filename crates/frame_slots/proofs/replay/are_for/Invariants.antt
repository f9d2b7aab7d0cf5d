use Rattle.std.proofs.Common.{◌≡◌, map, take}
use Rattle.frame_slots.specs.Slots.{laid_down}
use Rattle.frame_slots.proofs.replay.are_for.Given as goal

abbrev pub invariant-loop-i : goal.invariant-loop-i
invariant-loop-i l = map laid_down (take l.i l.receipts) ≡ take l.i l.blocks
