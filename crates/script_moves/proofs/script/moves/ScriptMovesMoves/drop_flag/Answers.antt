use Rattle.std.proofs.Common.{false, refl}
use Rattle.frame_core.specs.Moves.{drop_whole}
use Rattle.plain_moves.specs.Acts.{MakesIt}
use Rattle.plain_moves.specs.declared.plain.PlainMoves.{PlainMoves}
use Rattle.script_moves.proofs.Scripts.{made_by, make_steps, played, shown_on}
use Rattle.script_moves.proofs.script.moves.ScriptMovesMoves.drop_flag.Goals as goal

pub returns-clause-makes : goal.returns-clause-makes
returns-clause-makes c =
    made_by c.args.self.now.stage c.prompt.new.self _ c.find.new.self c.drop_flag.new.self (drop_whole c.args.child) _
    c.prompt.ensures.ready
    (record { plain = refl; cues = refl; begun = refl; missed = refl; read = refl }) c.find.ensures.found refl
    (λ v. refl) c.drop_flag.ensures

pub returns-clause-plays : goal.returns-clause-plays
returns-clause-plays c =
    played false _ c.args.self.now.stage c.prompt.new.self c.find.new.self c.drop_flag.new.self c.prompt.ensures.met
    c.drop_flag.ensures c.find.ensures.found.plain c.find.ensures.silent

pub invariant_of-self-2 : goal.invariant_of-self-2
invariant_of-self-2 c =
    let own : PlainMoves → PlainMoves → Type 0 = MakesIt (drop_whole c.args.child) in
    record {
      shows = shown_on false own c.args.self.now.stage _ c.args.self.now.shows
          (played false own c.args.self.now.stage c.prompt.new.self c.find.new.self c.drop_flag.new.self c.prompt.ensures.met
          c.drop_flag.ensures c.find.ensures.found.plain c.find.ensures.silent)
          (make_steps (drop_whole c.args.child) (λ v. refl));
    }
