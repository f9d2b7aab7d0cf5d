-- What the members of moves by a script tell of their state: the laws of the trait hold of it.
use Rattle.std.specs.Prelude.{◌≡◌, ℕ, List, Option, Some}
use Rattle.std.proofs.Common.{arith}
use Rattle.std.proofs.Math.Logic.{∥∥₁_map}
use Rattle.frame_core.specs.Mover.{FitsOthers}
use Rattle.script_moves.specs.declared.script.ScriptMoves.{ScriptMoves}
use Rattle.script_moves.specs.declared.script.stage.Stage.{Stage}
use Rattle.plain_moves.specs.Plain.{plain_mover}
use Rattle.plain_moves.specs.PlainLaws.{plain_fits}
use Rattle.plain_moves.specs.PlainState.{key_by, words_by, view_by}
use Rattle.script_moves.specs.Script.{NoneAt}
use Rattle.script_moves.specs.ScriptMoves.{plain_by, stage_by, script_mover}
use Rattle.script_moves.specs.ScriptState.{at_by, stage_mover, IsOver}

-- all words fit with the caller's view and others; once all is over, each with a share is idle
pub stage_fits : (m : Stage) (ws : List ℕ)
    → ◌≡◌ {A = Option (List ℕ)} (Some (words_by m.plain)) (Some ws)
    → ∥ FitsOthers (stage_mover m) ws ∥₁
stage_fits m ws e =
    let p = m.plain in
    ∥∥₁_map (plain_fits (key_by p) p.them (words_by p) p.outs.items (view_by p) ws p.agrees e)
    (λ (f : FitsOthers (plain_mover (key_by p) p.them (words_by p) p.outs.items (view_by p)) ws).
    (f.0, (f.1.0, (f.1.1.0, (λ over. f.1.1.1 over.idle)))))

pub script_fits : (m : ScriptMoves) (ws : List ℕ)
    → ◌≡◌ {A = Option (List ℕ)} (Some (words_by (plain_by m))) (Some ws)
    → ∥ FitsOthers (script_mover m) ws ∥₁
script_fits m ws e = stage_fits (stage_by m) ws e

-- no cue stands at the next move once all are past
pub over_is_quiet : (m : Stage) → IsOver (at_by m) m.cues.items m.plain
    → NoneAt (at_by m) m.cues.items
over_is_quiet m over = λ k cue h e. absurd (omega (arith, over.past k cue h, e))
