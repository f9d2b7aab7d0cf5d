use Rattle.std.proofs.Common.{◌≤◌, map, vec_len, vec_capacity}
use Rattle.std.specs.List.{All}
use Rattle.frame_table.specs.Seats.{view_of, IsIdleSeat}
use Rattle.frame_table.proofs.Gathering.{IsGathering}
use Rattle.core_frames.specs.Cores.{memory_of, seat_of, IsCoreOf}
use Rattle.core_frames.proofs.shared.allocator.Allocator.gather.Given as goal

abbrev pub invariant-loop-next : goal.invariant-loop-next
invariant-loop-next l = record {
  idle : IsIdleSeat l.self.table l.seat;
  gathering : IsGathering (map seat_of l.fn.cores.items) (map seat_of l.cores.items) (view_of l.seat);
  others : All (IsCoreOf l.self) l.cores.items;
  room : (memory_of l.self).cores ≤ vec_capacity l.cores;
}

abbrev pub decreases-loop-next : goal.decreases-loop-next
decreases-loop-next l = vec_len l.cores
