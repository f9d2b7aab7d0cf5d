use Rattle.frame_model.proofs.WorkedRuns.Rebuilding.{opens_all_free}
use Rattle.frame_model.proofs.WorkedRuns.Splits.{split_of_a_huge_frame}
use Rattle.frame_model.proofs.WorkedRuns.Takes.{wide_take_loses, wider_take_loses}
use Rattle.frame_model.proofs.worked.worked_runs_happen.Goals as goal

pub returns : goal.returns
returns c = record {
  opening = opens_all_free;
  wide_take = wide_take_loses;
  wider_take = wider_take_loses;
  split = split_of_a_huge_frame;
}
