use Rattle.std.proofs.Common.{◌≡◌, ◌+◌, ◌-◌, ◌*◌, ◌≤◌, ◌++◌, length}
use Rattle.std.specs.VecDeque.{deque_capacity}
use Rattle.plain_moves.proofs.PlainBlocks.{singles_from}
use Rattle.plain_moves.proofs.plain.blocks.push_singles.Given as goal

abbrev pub invariant-loop-step : goal.invariant-loop-step
invariant-loop-step l = record {
  items : l.list.items ≡ singles_from l.mask (64 * l.word + 64 - l.step) l.step ++ l.initial.list.items;
  few : length l.list.items ≤ length l.initial.list.items + l.step;
  room : deque_capacity l.list ≡ deque_capacity l.initial.list;
}
