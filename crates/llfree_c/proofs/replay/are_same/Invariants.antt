use Rattle.std.proofs.Common.{◌≡◌, take}
use Rattle.llfree_c.proofs.replay.are_same.Given as goal

abbrev pub invariant-loop-i : goal.invariant-loop-i
invariant-loop-i l = take l.i l.laid ≡ take l.i l.blocks
