use Rattle.std.proofs.Common.{false, refl}
use Rattle.script_moves.specs.Plays.{LoadsIt}
use Rattle.plain_moves.specs.declared.plain.PlainMoves.{PlainMoves}
use Rattle.script_moves.proofs.Scripts.{load_steps, loaded_by, own_load, played, shown_on}
use Rattle.script_moves.proofs.script.moves.ScriptMovesMoves.load.Goals as goal

pub returns-clause-loads : goal.returns-clause-loads
returns-clause-loads c =
    loaded_by c.args.self.now.stage c.prompt.new.self _ c.find.new.self c.load.new.self c.args.place c.load.result c.find.result _
    c.prompt.ensures.ready
    (record { plain = refl; cues = refl; begun = refl; missed = refl; read = refl }) c.find.ensures.found refl c.find.ensures.here
    c.find.ensures.value c.load.ensures

pub returns-clause-plays : goal.returns-clause-plays
returns-clause-plays c =
    played false _ c.args.self.now.stage c.prompt.new.self c.find.new.self c.load.new.self c.prompt.ensures.met
    (own_load c.prompt.new.self.plain c.load.new.self c.args.place c.load.result c.find.result _ refl c.find.ensures.value
    c.load.ensures) c.find.ensures.found.plain c.find.ensures.silent

pub invariant_of-self-2 : goal.invariant_of-self-2
invariant_of-self-2 c =
    let own : PlainMoves → PlainMoves → Type 0 = LoadsIt c.args.place c.find.result in
    record {
      shows = shown_on false own c.args.self.now.stage _ c.args.self.now.shows
          (played false own c.args.self.now.stage c.prompt.new.self c.find.new.self c.load.new.self c.prompt.ensures.met
          (own_load c.prompt.new.self.plain c.load.new.self c.args.place c.load.result c.find.result _ refl c.find.ensures.value
          c.load.ensures) c.find.ensures.found.plain c.find.ensures.silent)
          (load_steps c.args.place c.find.result);
    }
