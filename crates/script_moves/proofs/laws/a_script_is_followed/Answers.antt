use Rattle.script_moves.proofs.Worked.{first_words, first_found, first_stop, first_skipped, second_words, second_stop, second_skipped}
use Rattle.script_moves.proofs.laws.a_script_is_followed.Goals as goal

pub returns-clause-pays : goal.returns-clause-pays
returns-clause-pays c = λ old new found stands plays. first_words old.stage new.stage found stands plays

pub returns-clause-found : goal.returns-clause-found
returns-clause-found c = λ old new found stands plays. first_found old.stage new.stage found stands plays

pub returns-clause-stopped : goal.returns-clause-stopped
returns-clause-stopped c = λ old new found stands plays. first_stop old.stage new.stage found stands plays

pub returns-clause-skipped : goal.returns-clause-skipped
returns-clause-skipped c = λ old new found stands plays. first_skipped old.stage new.stage found stands plays

pub returns-clause-lost : goal.returns-clause-lost
returns-clause-lost c = λ old new kind seen stands plays.
    (second_words old.stage new.stage stands plays, (second_stop old.stage new.stage stands plays, second_skipped old.stage new.stage stands plays))
