use Rattle.frame_model.proofs.WorkedReports.{one_is_held, every_other_is_held, trees_differ, rebuilt_from_bits, rebuilt_from_the_flag}
use Rattle.frame_model.proofs.worked.worked_reports_count.Goals as goal

pub returns : goal.returns
returns c = record {
  one_held = one_is_held;
  every_other_held = every_other_is_held;
  trees = trees_differ;
  from_bits = rebuilt_from_bits;
  from_the_flag = rebuilt_from_the_flag;
}
