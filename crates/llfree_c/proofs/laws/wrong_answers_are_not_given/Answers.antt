use Rattle.llfree_c.proofs.WrongCalls.{number_is_of_a_hole, no_block_is_unsought, count_is_too_high, split_is_refused_for_nothing, halves_are_refused_for_nothing, parts_are_refused_for_nothing, frame_is_refused_for_nothing}
use Rattle.llfree_c.proofs.laws.wrong_answers_are_not_given.Goals as goal

pub returns : goal.returns
returns c = record {
  holes = number_is_of_a_hole;
  unsought = no_block_is_unsought;
  counts = count_is_too_high;
  splits = split_is_refused_for_nothing;
  halves = halves_are_refused_for_nothing;
  parts = parts_are_refused_for_nothing;
  frames = frame_is_refused_for_nothing;
}
