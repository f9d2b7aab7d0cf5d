use Rattle.std.proofs.Common.{⊎_elim, ◌<◌, ◌≤◌, inl, arith}
use Rattle.std.proofs.Math.Logic.{∥∥₁_map}
use Rattle.std.proofs.lemmas.Bool.{cases_lt}
use Rattle.plain_moves.specs.PlainState.{key_by, view_by}
use Rattle.script_moves.specs.Script.{StopsAt}
use Rattle.script_moves.specs.ScriptMoves.{cues_by, next_by, plain_by}
use Rattle.script_moves.proofs.laws.scripts_are_honest.Goals as goal

pub returns-clause-stopped : goal.returns-clause-stopped
returns-clause-stopped c = λ m ws is exact.
    ∥∥₁_map is (λ (s : StopsAt (key_by (plain_by m)) m.stage.begun (view_by (plain_by m)) 0 (cues_by m) ws). (
      s.cue,
      (
        (s.place, s.is_cue),
        (
          ⊎_elim (λ lt. lt) (λ none. absurd (omega (arith, none.1))) (s.reached exact),
          s.stops,
        ),
      ),
    ))

pub returns-clause-unstopped : goal.returns-clause-unstopped
returns-clause-unstopped c = λ m k cue none is stops.
    ⊎_elim (λ (lt : cue.at < next_by m). absurd (none k cue is stops (inl lt))) (λ (ge : next_by m ≤ cue.at). ge)
    (cases_lt cue.at (next_by m))
