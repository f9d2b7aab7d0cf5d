use Rattle.std.proofs.Common.{◌≡◌, ◌++◌, drop, take, flat_map}
use Rattle.std.specs.VecDeque.{deque_capacity}
use Rattle.frame_model.specs.Without.{remainder}
use Rattle.plain_moves.proofs.plain.blocks.cut_all.Given as goal

abbrev pub invariant-loop-i : goal.invariant-loop-i
invariant-loop-i l = record {
  items : l.list.items ≡ drop l._i l.initial.list.items ++ flat_map (remainder l.b) (take l._i l.initial.list.items);
  room : deque_capacity l.list ≡ deque_capacity l.initial.list;
}
