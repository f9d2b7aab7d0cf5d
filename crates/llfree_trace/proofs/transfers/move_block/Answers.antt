use Rattle.std.proofs.Common.{length, ◌<◌, set, refl, arith}
use Rattle.std.proofs.Math.ListN.{length-set}
use Rattle.std.proofs.lemmas.List.Elements.{All-set}
use Rattle.frame_table.specs.Seats.{block_in}
use Rattle.core_frames.specs.Desks.{IsDeskOf}
use Rattle.llfree_trace.proofs.MovingDesks.{block_moves, desk_there, refused_move}
use Rattle.llfree_trace.proofs.transfers.move_block.Goals as goal

pub returns-in-Err-clause-moves : goal.returns-in-Err-clause-moves
returns-in-Err-clause-moves c =
    let lt : c.args.core < length c.args.desks.now.items = omega (arith, c.requires.from, c.args.desks.now.ok) in
    refused_move c.args.allocator.now c.args.desks.now.items c.args.core c.args.label.now c.args.to c.index_mut.result.now c.lift.new.self
    c.in-Err.refusal lt c.requires.desks c.index_mut.ensures.value c.in-Err.ensures.desk.is_desk c.in-Err.ensures.lifts
    c.in-Err.ensures.refused

pub lay-requires-clause-desk : goal.lay-requires-clause-desk
lay-requires-clause-desk c =
    let a = c.args.allocator.now in
    let ds = c.args.desks.now.items in
    let wide : c.args.to < length (set ds c.args.core c.lift.new.self) =
    omega (arith, c.requires.to, c.args.desks.now.ok, length-set ds c.args.core c.lift.new.self) in
    desk_there a (set ds c.args.core c.lift.new.self) c.args.to c.index_mut-2.result.now
    (All-set (IsDeskOf a) ds c.args.core c.lift.new.self c.in-Ok.ensures.desk.is_desk c.requires.desks) wide c.index_mut-2.ensures.value

pub returns-clause-moves : goal.returns-clause-moves
returns-clause-moves c =
    let ds = c.args.desks.now.items in
    let from : c.args.core < length ds = omega (arith, c.requires.from, c.args.desks.now.ok) in
    let to : c.args.to < length ds = omega (arith, c.requires.to, c.args.desks.now.ok) in
    rw c.moved-reply.ensures
    (block_moves c.args.allocator.now ds c.args.core c.args.label.now c.args.to c.index_mut.result.now c.lift.new.self c.in-Ok.block
    c.index_mut-2.result.now c.lay.new.self (block_in c.in-Ok.block).frame (block_in c.in-Ok.block).order from to c.requires.desks
    c.index_mut.ensures.value c.in-Ok.ensures.desk.is_desk c.in-Ok.ensures.lifts c.in-Ok.ensures.lent
    c.index_mut-2.ensures.value c.in-Ok-lay.ensures.desk.is_desk (rw c.again.ensures at c.in-Ok-lay.ensures.lays)
    c.in-Ok-lay.ensures.lent refl)
