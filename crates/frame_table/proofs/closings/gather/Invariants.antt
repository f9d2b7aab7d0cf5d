use Rattle.std.proofs.Common.{map, vec_len}
use Rattle.std.specs.List.{All}
use Rattle.frame_table.specs.Seats.{key_at, id_of, IsSeat, IsIdleSeat}
use Rattle.frame_table.proofs.Gathering.{IsGathering}
use Rattle.frame_table.proofs.closings.gather.Given as goal

abbrev pub invariant-loop-next : goal.invariant-loop-next
invariant-loop-next g l = let S = g.S.Seated in record {
  at : IsSeat (id_of l.table) (key_at l.table) l.all.table_id l.all.me;
  gathering : IsGathering (map S.seat_of l.fn.seats.items) (map S.seat_of l.seats.items) l.all.me.0.view;
  others : All (λ s. IsIdleSeat l.table (S.seat_of s)) l.seats.items;
}

abbrev pub decreases-loop-next : goal.decreases-loop-next
decreases-loop-next g l = vec_len l.seats
