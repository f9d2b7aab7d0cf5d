use Rattle.frame_model.proofs.WrongStates.{set_without_a_block, held_is_clear, flag_is_off}
use Rattle.frame_model.proofs.wrong.wrong_words_hold_other_blocks.Goals as goal

pub returns : goal.returns
returns c = record {
  set = set_without_a_block;
  clear = held_is_clear;
  flag = flag_is_off;
}
