use Rattle.core_frames.specs.Cores.{memory_of, view_in, known_by, StepsAlone, StaysCoreOf, KeepsHabit}
use Rattle.core_frames.specs.Looks.{IsSameWithin}
use Rattle.low_frames.specs.Alone.{FindsOf}
use Rattle.frame_zones.specs.Looks.{AreFreeHuge}
use Rattle.frame_zones.proofs.looks.are_free.Given as goal

abbrev pub invariant-loop-i : goal.invariant-loop-i
invariant-loop-i l = record {
  stays : StaysCoreOf l.memory l.fn.core l.core;
  view : IsSameWithin l.i (view_in l.fn.core) (view_in l.core);
  same_habit : KeepsHabit l.fn.core l.core;
  free : StepsAlone l.memory l.fn.core → FindsOf (AreFreeHuge (memory_of l.memory) l.local l.i) (known_by l.fn.core) (known_by l.core);
}
