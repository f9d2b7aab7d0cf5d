use Rattle.script_moves.proofs.Stops.{first_cue, first_view}
use Rattle.script_moves.proofs.laws.a_worked_stop_is_of_its_moment.Goals as goal

pub returns : goal.returns
returns c = λ old new found ws stands plays s exact.
    (first_cue old.stage new.stage found ws stands plays s, first_view old.stage new.stage found ws stands plays s exact)
