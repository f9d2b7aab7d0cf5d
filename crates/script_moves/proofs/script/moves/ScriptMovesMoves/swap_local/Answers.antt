use Rattle.std.proofs.Common.{false, refl}
use Rattle.script_moves.specs.Plays.{SwapsIt}
use Rattle.plain_moves.specs.declared.plain.PlainMoves.{PlainMoves}
use Rattle.script_moves.proofs.Scripts.{played, shown_on, swap_steps, swapped_by}
use Rattle.script_moves.proofs.script.moves.ScriptMovesMoves.swap_local.Goals as goal

pub returns-clause-swaps : goal.returns-clause-swaps
returns-clause-swaps c =
    swapped_by c.args.self.now.stage c.prompt.new.self _ c.find.new.self c.swap_local-rest.new.self c.args.core c.args.put
    c.swap_local-rest.result _
    c.prompt.ensures.ready
    (record { plain = refl; cues = refl; begun = refl; missed = refl; read = refl }) c.find.ensures.found refl c.swap_local-rest.ensures

pub returns-clause-plays : goal.returns-clause-plays
returns-clause-plays c =
    played false _ c.args.self.now.stage c.prompt.new.self c.find.new.self c.swap_local-rest.new.self c.prompt.ensures.met
    c.swap_local-rest.ensures c.find.ensures.found.plain c.find.ensures.silent

pub invariant_of-self-2 : goal.invariant_of-self-2
invariant_of-self-2 c =
    let own : PlainMoves → PlainMoves → Type 0 = SwapsIt c.args.core c.args.put c.swap_local-rest.result in
    record {
      shows = shown_on false own c.args.self.now.stage _ c.args.self.now.shows
          (played false own c.args.self.now.stage c.prompt.new.self c.find.new.self c.swap_local-rest.new.self c.prompt.ensures.met
          c.swap_local-rest.ensures c.find.ensures.found.plain c.find.ensures.silent)
          (swap_steps c.args.core c.args.put c.swap_local-rest.result);
    }
