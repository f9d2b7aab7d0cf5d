use Rattle.std.proofs.Common.{◌≡◌, ◌++◌, List, drop, cond}
use Rattle.std.specs.VecDeque.{deque_capacity}
use Rattle.frame_model.specs.declared.block.FrameBlock.{FrameBlock}
use Rattle.frame_model.specs.Without.{less_one}
use Rattle.plain_moves.proofs.plain.blocks.leave_once.Given as goal

abbrev pub invariant-loop-i : goal.invariant-loop-i
invariant-loop-i l =
    let todo = drop l._i l.initial.list.items in
    record {
      items : (done : List FrameBlock)
          × ((l.list.items ≡ todo ++ done)
          × (done ++ cond l.has_left todo (less_one l.b todo) ≡ less_one l.b l.initial.list.items));
      room : deque_capacity l.list ≡ deque_capacity l.initial.list;
    }
