use Rattle.std.proofs.Math.Logic.{∥∥₁_map}
use Rattle.plain_moves.specs.PlainState.{key_by, view_by}
use Rattle.script_moves.specs.Script.{ShowsStop}
use Rattle.script_moves.proofs.script.ScriptMoves.stopped.Goals as goal

pub returns-clause-words : goal.returns-clause-words
returns-clause-words c =
    let m = c.args.self.now.stage in
    ∥∥₁_map c.args.self.now.shows
    (λ (s : ShowsStop (key_by m.plain) m.begun (view_by m.plain) 0 m.cues.items m.has_stopped m.stop.words).
    s.stopped c.if-not-self.false)
