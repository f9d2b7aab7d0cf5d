use Rattle.std.proofs.Common.{◌≡◌, ◌≤◌, ℕ, ◌<◌}
use Rattle.frame_model.specs.Block.{smalls}
use Rattle.plain_moves.proofs.plain.PlainMoves.has_frames.Given as goal

abbrev pub invariant-loop-x : goal.invariant-loop-x
invariant-loop-x l = record {
  each : (y : ℕ) → l.frame ≤ y → y < l.x → smalls y l.self.own.items ≡ 1;
}
