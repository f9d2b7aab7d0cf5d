use Rattle.std.proofs.Common.{◌≡◌, ℕ, ◌<◌, ◌≤◌, length, vec_capacity}
use Rattle.frame_model.specs.Words.{huge_of}
use Rattle.core_frames.specs.LeftFrames.{flag_at}
use Rattle.core_frames.proofs.shared.left_frames.flags_of.Given as goal

abbrev pub invariant-loop-child : goal.invariant-loop-child
invariant-loop-child l = record {
  all : l.count ≡ l.image.geometry.children;
  count : length l.huge.items ≡ l.child;
  room : l.count ≤ vec_capacity l.huge;
  each : (c : ℕ) → c < l.child → flag_at l.huge.items c ≡ huge_of l.image.words c;
}
