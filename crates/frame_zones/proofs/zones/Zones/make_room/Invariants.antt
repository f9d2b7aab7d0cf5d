use Rattle.std.proofs.Common.{◌≡◌, ◌<◌, ◌≤◌, ℕ, length, slice_index_or, vec_capacity}
use Rattle.std.specs.declared.alloc.Global.{Global}
use Rattle.std.specs.declared.vec.Vec.{Vec}
use Rattle.frame_table.specs.Stopping.{IsRoomFor}
use Rattle.core_frames.specs.declared.shared.allocator.Allocator.{Allocator}
use Rattle.core_frames.specs.Cores.{memory_of}
use Rattle.frame_zones.proofs.zones.Zones.make_room.Given as goal

abbrev pub invariant-loop-zone : goal.invariant-loop-zone
invariant-loop-zone l = record {
  count : length l.words.items ≡ l.zone-index;
  each : (z : ℕ) (a : Allocator) (list : Vec ℕ Global) → z < l.zone-index
      → IsRoomFor (memory_of (slice_index_or l.self.zones.items z a)) (slice_index_or l.words.items z list);
  room : length l.self.zones.items ≤ vec_capacity l.words;
}
