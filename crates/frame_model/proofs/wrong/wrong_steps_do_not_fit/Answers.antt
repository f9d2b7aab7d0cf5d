use Rattle.frame_model.proofs.WrongSteps.Claims.{bits_before_the_charge, claims_uncharged, claims_singles_uncharged, claims_a_held_frame}
use Rattle.frame_model.proofs.WrongSteps.Entries.{refund_before_the_release, huge_from_511, flag_dropped_before_the_bits}
use Rattle.frame_model.proofs.WrongSteps.Seats.{hands_out_half}
use Rattle.frame_model.proofs.wrong.wrong_steps_do_not_fit.Goals as goal

pub returns : goal.returns
returns c = record {
  bits_before_the_charge = bits_before_the_charge;
  claims_uncharged = claims_uncharged;
  claims_singles_uncharged = claims_singles_uncharged;
  claims_a_held_frame = claims_a_held_frame;
  refund_before_the_release = refund_before_the_release;
  huge_from_511 = huge_from_511;
  hands_out_half = hands_out_half;
  flag_dropped_before_the_bits = flag_dropped_before_the_bits;
}
