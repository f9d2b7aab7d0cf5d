use Rattle.llfree_trace.proofs.WrongEnds.{frame_is_shared, other_frames, other_is_answered}
use Rattle.llfree_trace.proofs.laws.wrong_outcomes_are_not_told.Goals as goal

pub returns : goal.returns
returns c = record {
  answers = other_is_answered;
  shared = frame_is_shared;
  held = other_frames;
}
