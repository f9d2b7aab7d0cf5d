use Rattle.std.proofs.Common.{◌≡◌, ◌-◌, ◌≤◌, [], pos, map, vec_len, vec_capacity}
use Rattle.std.specs.List.{All}
use Rattle.frame_table.specs.Closing.{lent_through, kept_through}
use Rattle.frame_table.specs.Seats.{view_of, IsIdleSeat}
use Rattle.core_frames.specs.Cores.{memory_of, seat_of, kept_by, lent_by, AreNumbered, IsCoreOf}
use Rattle.core_frames.proofs.shared.allocator.Allocator.scatter.Given as goal

abbrev pub invariant-loop-number : goal.invariant-loop-number
invariant-loop-number l = record {
  idle : IsIdleSeat l.self.table l.seat;
  share : (view_of l.seat).share ≡ (memory_of l.self).cores - l.number;
  lent : (view_of l.seat).lent ≡ lent_by l.fn.core;
  kept : (view_of l.seat).kept ≡ kept_by l.fn.core;
  count : vec_len l.cores ≡ l.number;
  each : All (IsCoreOf l.self) l.cores.items;
  numbers : AreNumbered l.cores.items;
  none_lent : lent_through (map seat_of l.cores.items) ≡ pos 0;
  none_kept : kept_through (map seat_of l.cores.items) ≡ [];
  room : (memory_of l.self).cores ≤ vec_capacity l.cores;
}
