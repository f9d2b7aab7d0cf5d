use Rattle.std.proofs.Common.{◌≡◌, ◌≤◌, length}
use Rattle.std.specs.Prelude.{vec_capacity}
use Rattle.std.specs.List.{All}
use Rattle.plain_moves.specs.Plain.{HasRoomToFill, IsFresh}
use Rattle.plain_moves.proofs.plain.party.Company.fresh.Given as goal

abbrev pub invariant-loop-i : goal.invariant-loop-i
invariant-loop-i l = record {
  outs : l.outs ≡ l.initial.outs;
  count : length l.parties.items ≡ l._i;
  room : 8 ≤ vec_capacity l.parties;
  fresh : All IsFresh l.parties.items;
  filled : All (HasRoomToFill l.initial.geometry.children) l.parties.items;
}
