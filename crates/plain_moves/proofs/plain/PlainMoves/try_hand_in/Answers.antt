use Rattle.frame_model.specs.Block.{block}
use Rattle.plain_moves.specs.PlainState.{key_by, words_by, view_by}
use Rattle.plain_moves.specs.PlainLaws.{plain_outs}
use Rattle.plain_moves.proofs.plain.PlainMoves.try_hand_in.Goals as goal

pub returns-then-not-is_out-clause-refused : goal.returns-then-not-is_out-clause-refused
returns-then-not-is_out-clause-refused c =
    let m = c.args.self.now in
    λ no may.
    let is = plain_outs (key_by m) (words_by m) m.outs.items (view_by m) (block c.args.frame c.args.order) m.agrees may.0 in
    c.is_out.ensures.no c.if-not-is_out.true is.order may.0
