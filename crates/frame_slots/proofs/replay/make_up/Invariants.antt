use Rattle.std.proofs.Common.{take}
use Rattle.frame_slots.specs.Reopenings.{MakeUp, waiting_blocks}
use Rattle.frame_slots.proofs.replay.make_up.Given as goal

abbrev pub invariant-loop-held : goal.invariant-loop-held
invariant-loop-held l = MakeUp l.end (waiting_blocks (take l.held-index l.blocks))
