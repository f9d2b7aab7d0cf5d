use Rattle.std.proofs.Common.{◌≡◌, ◌*◌}
use Rattle.frame_core.specs.Mover.{Keeps}
use Rattle.low_frames.specs.Alone.{FindsOf}
use Rattle.core_frames.specs.Looks.{AreClearWords, AreReadClear, ReadsSameEntries, HasLoaded}
use Rattle.core_frames.proofs.looks.are_clear.Given as goal

abbrev pub invariant-loop-i : goal.invariant-loop-i
invariant-loop-i g l =
    let M = g.M.Moves in
    let m = M.at l.fn.m in
    let now = M.at l.m in
    record {
      keeps : Keeps m now;
      missed : now.missed ≡ m.missed;
      view : HasLoaded M.tick l.i m.view now.view;
      entries : ReadsSameEntries m.key m.read now.read;
      seen : AreReadClear m.key now.read (64 * l.first) (64 * l.i);
      clear : m.is_alone → FindsOf (AreClearWords m.key l.first l.i) m.words now.words;
    }
