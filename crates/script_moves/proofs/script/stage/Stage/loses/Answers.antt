use Rattle.std.proofs.Common.{true, ◌≢◌, ◌⊎◌, inl, inr, refl, sym, ◌∙◌}
use Rattle.std.specs.Prelude.{slice_index}
use Rattle.frame_core.specs.Moves.{place_of}
use Rattle.plain_moves.specs.PlainState.{key_by, words_by, Loses}
use Rattle.script_moves.specs.Script.{LosesAt}
use Rattle.script_moves.specs.ScriptState.{at_by}
use Rattle.script_moves.proofs.Scripts.{lost_found, played}
use Rattle.script_moves.proofs.script.stage.Stage.loses.Goals.{else-not-prompt-via-then-not-prompt+else-stands-seen}
use Rattle.script_moves.proofs.script.stage.Stage.loses.Goals.{else-not-prompt-via-else-not-prompt}
use Rattle.script_moves.proofs.script.stage.Stage.loses.Goals as goal

pub returns-clause-lost : goal.returns-clause-lost
returns-clause-lost c = λ yes.
    let m = c.args.self.now in
    let r = c.prompt.new.self in
    let why : LosesAt (at_by m) m.cues.items ⊎ (slice_index (words_by r.plain) (place_of (key_by r.plain) c.args.place) ≢ c.args.seen) =
    elim c.else-not-prompt.branch [
      | else-not-prompt-via-then-not-prompt+else-stands-seen w ↦ inr (λ e. w.if-stands-seen.false (sym w.stands.ensures.value ∙ e))
      | else-not-prompt-via-else-not-prompt w ↦ inl (c.prompt.ensures.loses.0 w.if-not-prompt.false).1
    ] in
    lost_found m r _ c.find.new.self c.args.place c.args.seen c.find.result c.prompt.ensures.ready c.lose.ensures
    c.find.ensures.found c.find.ensures.value c.find.ensures.here why refl refl refl refl

pub returns-clause-plays : goal.returns-clause-plays
returns-clause-plays c = λ yes.
    played true Loses c.args.self.now c.prompt.new.self c.find.new.self c.lose.new.self c.prompt.ensures.met c.lose.ensures
    c.find.ensures.found.plain c.find.ensures.silent
