use Rattle.frame_model.proofs.Stopping.Existing.{every_rebuilding_exists, every_moment_can_stop}
use Rattle.frame_model.proofs.Stopping.Rebuilding.{every_rebuilding_is_exact}
use Rattle.frame_model.proofs.Stopping.Sample.{stopping}
use Rattle.frame_model.proofs.Stopping.Survival.{every_stop_is_survived, every_stop_loses_little, every_stop_is_exact}
use Rattle.frame_model.proofs.laws.every_stop_is_survived.Goals as goal

pub returns : goal.returns
returns c = record {
  survived = every_stop_is_survived;
  few_lost = every_stop_loses_little;
  exact = every_stop_is_exact;
  rebuilt = every_rebuilding_is_exact;
  exists =
      every_rebuilding_exists;
  can_stop = every_moment_can_stop;
  happens = stopping;
}
