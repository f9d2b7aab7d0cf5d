use Rattle.std.proofs.Common.{◌∷◌, [], arith, refl}
use Rattle.held_blocks.specs.Desk.{MayRefuse}
use Rattle.core_frames.specs.Cores.{memory_of}
use Rattle.llfree_trace.specs.Rounds.{lists_at}
use Rattle.llfree_trace.proofs.GoingOn.{goes_move, goes_unanswered}
use Rattle.llfree_trace.proofs.Running.{unanswered}
use Rattle.llfree_trace.proofs.progress.run_mark.Goals as goal

pub returns-in_ok-push-in-Move-clause-goes : goal.returns-in_ok-push-in-Move-clause-goes
returns-in_ok-push-in-Move-clause-goes c =
    let named = rw c.in-Move.is at c.requires.inside in
    rw c.in-Move.is
    (goes_move c.args.allocator.now c.args.number c.args.progress _ c.in-Move.core c.in-Move.label c.in-Move.to _
    (omega (arith, named, c.args.progress.desks.ok)) refl refl c.in_ok-reply-in-Move.ensures.moves c.in_ok-push-in-Move.ensures.items)

pub returns-in-Round-clause-goes : goal.returns-in-Round-clause-goes
returns-in-Round-clause-goes c =
    goes_unanswered c.args.allocator.now c.args.number (c.args.line.now ∷ []) c.args.progress c.requires.desks
    (unanswered MayRefuse (memory_of c.args.allocator.now) c.args.number (lists_at c.args.progress.desks.items) c.args.line.now
    c.in-Round.is)
