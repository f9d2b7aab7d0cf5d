use Rattle.std.proofs.Common.{◌≡◌, ◌*◌, ◌-◌, ◌^◌, ◌<◌, ℕ}
use Rattle.frame_zones.proofs.looks.run_step.Given as goal

abbrev pub invariant-loop-step : goal.invariant-loop-step
invariant-loop-step l = (order : ℕ) × ((2 ^ order < 2 * l.count) × (l.step ≡ 512 * 2 ^ order))

abbrev pub decreases-loop-step : goal.decreases-loop-step
decreases-loop-step l = 512 * l.initial.count - l.step
