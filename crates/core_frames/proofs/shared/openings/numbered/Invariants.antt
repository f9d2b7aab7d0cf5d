use Rattle.std.proofs.Common.{◌≡◌, ◌≤◌, map, length, vec_len, vec_capacity}
use Rattle.core_frames.specs.Cores.{seat_of, AreNumbered}
use Rattle.core_frames.proofs.shared.openings.numbered.Given as goal

abbrev pub invariant-loop-seat : goal.invariant-loop-seat
invariant-loop-seat l = record {
  items : map seat_of l.cores.items ≡ l.yielded;
  numbers : AreNumbered l.cores.items;
  number : l.number ≡ length l.yielded;
  room : vec_len l.fn.seats ≤ vec_capacity l.cores;
}
