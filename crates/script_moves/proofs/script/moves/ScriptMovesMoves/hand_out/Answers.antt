use Rattle.std.proofs.Common.{false, refl}
use Rattle.frame_model.specs.Block.{block}
use Rattle.script_moves.specs.Plays.{HandsItOut}
use Rattle.plain_moves.specs.declared.plain.PlainMoves.{PlainMoves}
use Rattle.script_moves.proofs.Scripts.{out_by, out_steps, played, shown_on, stage_on, with_plain}
use Rattle.script_moves.proofs.script.moves.ScriptMovesMoves.hand_out.Goals as goal

pub returns-clause-hands_out : goal.returns-clause-hands_out
returns-clause-hands_out c =
    out_by c.args.self.now.stage c.prompt.new.self c.hand_out.new.self c.prompt.ensures.ready (block c.args.frame c.args.order)
    c.hand_out.result c.hand_out.ensures

pub invariant_of-self : goal.invariant_of-self
invariant_of-self c =
    let keeps = c.hand_out.ensures.keeps in
    let r = c.prompt.new.self in
    let p = c.hand_out.new.self in
    let own : PlainMoves → PlainMoves → Type 0 = HandsItOut (block c.args.frame c.args.order) c.hand_out.result in
    let n = with_plain r p keeps.same_key keeps.same_tie in (
      stage_on r p keeps.same_key keeps.same_tie,
      (
        shown_on false own c.args.self.now.stage n c.args.self.now.shows
            (played false own c.args.self.now.stage r n p c.prompt.ensures.met c.hand_out.ensures refl (refl, refl, refl, refl, refl))
            (out_steps (block c.args.frame c.args.order) c.hand_out.result),
        tt,
      ),
    )
