use Rattle.std.proofs.Common.{◌≡◌, ◌≤◌, ◌*◌, ◌^◌, take}
use Rattle.std.specs.List.{sum_by}
use Rattle.frame_zones.proofs.zones.Zones.frames.Given as goal

abbrev pub invariant-loop-frames : goal.invariant-loop-frames
invariant-loop-frames l = record {
  sum : l.sum ≡ sum_by (λ n. n) (take l.frames-index l.self.frames.items);
  small : l.sum ≤ 2 ^ 32 * l.frames-index;
}
