use Rattle.std.proofs.Common.{false, refl}
use Rattle.frame_core.specs.Moves.{OfRun, OfRun, OfRun, release_run}
use Rattle.plain_moves.specs.Acts.{MakesIt}
use Rattle.plain_moves.specs.declared.plain.PlainMoves.{PlainMoves}
use Rattle.script_moves.proofs.Scripts.{made_by, make_steps, played, shown_on}
use Rattle.script_moves.proofs.script.moves.ScriptMovesMoves.release.Goals as goal

pub returns-clause-makes : goal.returns-clause-makes
returns-clause-makes c = λ from order e.
    made_by c.args.self.now.stage c.prompt.new.self _ c.find.new.self c.release.new.self (release_run c.args.word from order) _
    c.prompt.ensures.ready
    (record { plain = refl; cues = refl; begun = refl; missed = refl; read = refl }) c.find.ensures.found refl (λ v. refl)
    (c.release.ensures from order e)

pub returns-clause-plays : goal.returns-clause-plays
returns-clause-plays c =
    played false _ c.args.self.now.stage c.prompt.new.self c.find.new.self c.release.new.self c.prompt.ensures.met
    c.release.ensures c.find.ensures.found.plain c.find.ensures.silent

pub invariant_of-self-2 : goal.invariant_of-self-2
invariant_of-self-2 c =
    let own : PlainMoves → PlainMoves → Type 0 = λ a b. OfRun c.args.mask (λ from order. MakesIt (release_run c.args.word from order) a b) in
    record {
      shows = shown_on false own c.args.self.now.stage _ c.args.self.now.shows
          (played false own c.args.self.now.stage c.prompt.new.self c.find.new.self c.release.new.self c.prompt.ensures.met
          c.release.ensures c.find.ensures.found.plain c.find.ensures.silent)
          (λ a b is. make_steps (release_run c.args.word c.requires.0 c.requires.1.0) (λ v. refl) a b (is c.requires.0 c.requires.1.0 c.requires.1.1.0));
    }
