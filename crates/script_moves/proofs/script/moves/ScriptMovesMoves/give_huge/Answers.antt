use Rattle.std.proofs.Common.{false, refl}
use Rattle.frame_core.specs.Moves.{give_whole}
use Rattle.plain_moves.specs.Acts.{MakesIt}
use Rattle.plain_moves.specs.declared.plain.PlainMoves.{PlainMoves}
use Rattle.script_moves.proofs.Scripts.{made_by, make_steps, played, shown_on}
use Rattle.script_moves.proofs.script.moves.ScriptMovesMoves.give_huge.Goals as goal

pub returns-clause-makes : goal.returns-clause-makes
returns-clause-makes c =
    made_by c.args.self.now.stage c.prompt.new.self _ c.find.new.self c.give_huge.new.self (give_whole c.args.child) _
    c.prompt.ensures.ready
    (record { plain = refl; cues = refl; begun = refl; missed = refl; read = refl }) c.find.ensures.found refl
    (λ v. refl) c.give_huge.ensures

pub returns-clause-plays : goal.returns-clause-plays
returns-clause-plays c =
    played false _ c.args.self.now.stage c.prompt.new.self c.find.new.self c.give_huge.new.self c.prompt.ensures.met
    c.give_huge.ensures c.find.ensures.found.plain c.find.ensures.silent

pub invariant_of-self-2 : goal.invariant_of-self-2
invariant_of-self-2 c =
    let own : PlainMoves → PlainMoves → Type 0 = MakesIt (give_whole c.args.child) in
    record {
      shows = shown_on false own c.args.self.now.stage _ c.args.self.now.shows
          (played false own c.args.self.now.stage c.prompt.new.self c.find.new.self c.give_huge.new.self c.prompt.ensures.met
          c.give_huge.ensures c.find.ensures.found.plain c.find.ensures.silent)
          (make_steps (give_whole c.args.child) (λ v. refl));
    }
