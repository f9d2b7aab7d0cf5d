use Rattle.std.proofs.Common.{◌≡◌, ℕ, ◌+◌, ◌-◌, ◌*◌, ◌%◌, ◌≤◌}
use Rattle.low_frames.specs.Alone.{FindsOf}
use Rattle.core_frames.specs.Cores.{memory_of, view_in, known_by, StepsAlone, StaysCoreOf, KeepsHabit}
use Rattle.core_frames.specs.Looks.{IsSameWithin}
use Rattle.frame_zones.specs.Looks.{HasNoFreeBefore}
use Rattle.frame_zones.proofs.looks.first_run.Given as goal

abbrev pub invariant-loop-frame : goal.invariant-loop-frame
invariant-loop-frame l = record {
  stays : StaysCoreOf l.memory l.fn.core l.core;
  seen : (n : ℕ) × (IsSameWithin n (view_in l.fn.core) (view_in l.core) × ((512 * n + l.first ≤ l.frame) × (512 * n ≤ l.frames)));
  same_habit : KeepsHabit l.fn.core l.core;
  multiple : l.frame % l.step ≡ 0;
  behind : l.from ≤ l.frame;
  inside : l.first ≤ l.frame;
  near : l.frame ≤ l.first + l.frames + l.step;
  none : StepsAlone l.memory l.fn.core
      → FindsOf (HasNoFreeBefore l.first l.count l.from l.frame (memory_of l.memory)) (known_by l.fn.core) (known_by l.core);
}

abbrev pub decreases-loop-frame : goal.decreases-loop-frame
decreases-loop-frame l = l.end + l.step - l.frame
