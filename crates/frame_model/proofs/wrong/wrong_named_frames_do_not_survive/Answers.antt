use Rattle.frame_model.proofs.WrongStates.{named_is_free, named_is_known, named_is_flying}
use Rattle.frame_model.proofs.wrong.wrong_named_frames_do_not_survive.Goals as goal

pub returns : goal.returns
returns c = record {
  named = named_is_free;
  named_known = named_is_known;
  named_flying = named_is_flying;
}
