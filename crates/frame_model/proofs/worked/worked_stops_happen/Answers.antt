use Rattle.frame_model.proofs.WorkedRuns.Splits.{stop_with_half_filled, stop_with_the_flag_dropped}
use Rattle.frame_model.proofs.WorkedRuns.Stops.{stop_after_the_charge, stop_after_one_claim, stop_after_two_claims}
use Rattle.frame_model.proofs.worked.worked_stops_happen.Goals as goal

pub returns : goal.returns
returns c = record {
  after_the_charge = stop_after_the_charge;
  after_one_claim = stop_after_one_claim;
  after_two_claims = stop_after_two_claims;
  with_half_filled = stop_with_half_filled;
  with_the_flag_dropped = stop_with_the_flag_dropped;
}
