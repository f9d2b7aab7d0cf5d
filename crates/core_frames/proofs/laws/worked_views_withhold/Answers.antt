use Rattle.core_frames.proofs.WorkedMisses.{reserving_withholds, paying_withholds, charging_withholds, all_rest_at_first}
use Rattle.core_frames.proofs.laws.worked_views_withhold.Goals as goal

pub returns : goal.returns
returns c = record {
  reserving = reserving_withholds;
  paying = paying_withholds;
  charging = charging_withholds;
  at_rest = all_rest_at_first;
}
