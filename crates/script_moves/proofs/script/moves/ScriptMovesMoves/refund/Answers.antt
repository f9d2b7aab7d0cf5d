use Rattle.std.proofs.Common.{false, refl}
use Rattle.frame_model.specs.Steps.{refund}
use Rattle.plain_moves.specs.Acts.{MakesIt}
use Rattle.plain_moves.specs.declared.plain.PlainMoves.{PlainMoves}
use Rattle.script_moves.proofs.Scripts.{made_by, make_steps, played, shown_on}
use Rattle.script_moves.proofs.script.moves.ScriptMovesMoves.refund.Goals as goal

pub returns-clause-makes : goal.returns-clause-makes
returns-clause-makes c =
    made_by c.args.self.now.stage c.prompt.new.self _ c.find.new.self c.refund.new.self (refund c.args.child c.args.n) _
    c.prompt.ensures.ready
    (record { plain = refl; cues = refl; begun = refl; missed = refl; read = refl }) c.find.ensures.found refl (λ v. refl) c.refund.ensures

pub returns-clause-plays : goal.returns-clause-plays
returns-clause-plays c =
    played false _ c.args.self.now.stage c.prompt.new.self c.find.new.self c.refund.new.self c.prompt.ensures.met
    c.refund.ensures c.find.ensures.found.plain c.find.ensures.silent

pub invariant_of-self-2 : goal.invariant_of-self-2
invariant_of-self-2 c =
    let own : PlainMoves → PlainMoves → Type 0 = MakesIt (refund c.args.child c.args.n) in
    record {
      shows = shown_on false own c.args.self.now.stage _ c.args.self.now.shows
          (played false own c.args.self.now.stage c.prompt.new.self c.find.new.self c.refund.new.self c.prompt.ensures.met
          c.refund.ensures c.find.ensures.found.plain c.find.ensures.silent)
          (make_steps (refund c.args.child c.args.n) (λ v. refl));
    }
