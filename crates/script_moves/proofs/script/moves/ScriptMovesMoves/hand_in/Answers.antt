use Rattle.std.proofs.Common.{false, refl}
use Rattle.script_moves.specs.Plays.{HandsItIn}
use Rattle.plain_moves.specs.declared.plain.PlainMoves.{PlainMoves}
use Rattle.script_moves.proofs.Scripts.{in_by, in_steps, played, shown_on, stage_on, with_plain}
use Rattle.script_moves.proofs.script.moves.ScriptMovesMoves.hand_in.Goals as goal

pub returns-clause-hands_in : goal.returns-clause-hands_in
returns-clause-hands_in c =
    in_by c.args.self.now.stage c.prompt.new.self c.hand_in.new.self c.prompt.ensures.ready c.args.held c.hand_in.ensures

pub invariant_of-self : goal.invariant_of-self
invariant_of-self c =
    let keeps = c.hand_in.ensures.keeps in
    let r = c.prompt.new.self in
    let p = c.hand_in.new.self in
    let own : PlainMoves → PlainMoves → Type 0 = HandsItIn c.args.held in
    let n = with_plain r p keeps.same_key keeps.same_tie in (
      stage_on r p keeps.same_key keeps.same_tie,
      (
        shown_on false own c.args.self.now.stage n c.args.self.now.shows
            (played false own c.args.self.now.stage r n p c.prompt.ensures.met c.hand_in.ensures refl (refl, refl, refl, refl, refl))
            (in_steps c.args.held),
        tt,
      ),
    )
