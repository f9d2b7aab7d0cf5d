use Rattle.llfree_trace.proofs.WrongTexts.{no_trace, other_image, other_part, other_record, other_shown}
use Rattle.llfree_trace.proofs.WrongTexts.{wrong_refusal}
use Rattle.llfree_trace.proofs.laws.wrong_texts_are_not_shown.Goals as goal

pub returns : goal.returns
returns c = record {
  no_trace = no_trace;
  shown = other_shown;
  cores = wrong_refusal;
  image = other_image;
  record_refused = other_record;
  part_refused = other_part;
}
