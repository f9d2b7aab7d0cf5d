use Rattle.llfree_trace.proofs.WrongTexts.{no_command, other_done, other_made, wrong_fault, wrong_reading}
use Rattle.llfree_trace.proofs.WrongTexts.{wrong_success}
use Rattle.llfree_trace.proofs.laws.wrong_ends_are_not_told.Goals as goal

pub returns : goal.returns
returns c = record {
  success = wrong_success;
  reading = wrong_reading;
  fault = wrong_fault;
  made = other_made;
  no_command = no_command;
  done = other_done;
}
