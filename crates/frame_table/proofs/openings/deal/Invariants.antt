use Rattle.std.proofs.Common.{◌≡◌, ◌+◌, ◌-◌, ◌≤◌, vec_len, vec_capacity}
use Rattle.std.specs.List.{All}
use Rattle.frame_model.specs.View.{idle}
use Rattle.frame_table.specs.Seats.{key_at, id_of, KnowsAll, IsSeat}
use Rattle.frame_table.specs.Openings.{moved, IsNew}
use Rattle.frame_table.specs.Rule.{known_in}
use Rattle.frame_table.proofs.openings.deal.Given as goal

abbrev pub invariant-loop-core : goal.invariant-loop-core
invariant-loop-core l = record {
  at : IsSeat (id_of l.table) (key_at l.table) l.seat.table_id l.seat.me;
  moves : l.seat.me.0.view.moves ≤ l._core + 1;
  view : l.seat.me.0.view ≡ moved l.seat.me.0.view.moves (idle (key_at l.table) ((key_at l.table).cores - l._core));
  count : vec_len l.seats ≡ l._core;
  knows : l._core ≡ 0 → KnowsAll (known_in l.seat.me.0);
  room : (key_at l.table).cores ≤ vec_capacity l.seats;
  new : All (IsNew l.table) l.seats.items;
}
