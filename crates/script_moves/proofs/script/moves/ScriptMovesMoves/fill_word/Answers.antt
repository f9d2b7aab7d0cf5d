use Rattle.std.proofs.Common.{false, refl}
use Rattle.frame_model.specs.Steps.{fill_word}
use Rattle.plain_moves.specs.Acts.{MakesIt}
use Rattle.plain_moves.specs.declared.plain.PlainMoves.{PlainMoves}
use Rattle.script_moves.proofs.Scripts.{made_by, make_steps, played, shown_on}
use Rattle.script_moves.proofs.script.moves.ScriptMovesMoves.fill_word.Goals as goal

pub returns-clause-makes : goal.returns-clause-makes
returns-clause-makes c =
    made_by c.args.self.now.stage c.prompt.new.self _ c.find.new.self c.fill_word.new.self (fill_word c.args.word) _
    c.prompt.ensures.ready
    (record { plain = refl; cues = refl; begun = refl; missed = refl; read = refl }) c.find.ensures.found refl
    (λ v. refl) c.fill_word.ensures

pub returns-clause-plays : goal.returns-clause-plays
returns-clause-plays c =
    played false _ c.args.self.now.stage c.prompt.new.self c.find.new.self c.fill_word.new.self c.prompt.ensures.met
    c.fill_word.ensures c.find.ensures.found.plain c.find.ensures.silent

pub invariant_of-self-2 : goal.invariant_of-self-2
invariant_of-self-2 c =
    let own : PlainMoves → PlainMoves → Type 0 = MakesIt (fill_word c.args.word) in
    record {
      shows = shown_on false own c.args.self.now.stage _ c.args.self.now.shows
          (played false own c.args.self.now.stage c.prompt.new.self c.find.new.self c.fill_word.new.self c.prompt.ensures.met
          c.fill_word.ensures c.find.ensures.found.plain c.find.ensures.silent)
          (make_steps (fill_word c.args.word) (λ v. refl));
    }
