use Rattle.std.proofs.Common.{◌+◌, ◌*◌}
use Rattle.frame_core.specs.Mover.{Keeps}
use Rattle.low_frames.specs.Takes.{Counts, IsAsBefore, StaysSure}
use Rattle.low_frames.specs.Alone.{FindsOf}
use Rattle.low_frames.specs.Groups.{WasReadClear}
use Rattle.low_frames.proofs.PlaceLemmas.{AreClear}
use Rattle.low_frames.proofs.places.claim_words_at.Given as goal

abbrev pub invariant-loop-i : goal.invariant-loop-i
invariant-loop-i g l =
    let M = g.M.Moves in
    let m = M.at l.fn.m in
    let now = M.at l.m in
    let first = 8 * l.fn.child + l.fn.first in
    record {
      keeps : Keeps m now;
      view : IsAsBefore m.view now.view;
      seen : WasReadClear m.key now.read first l.i;
      counts : Counts M.is_exact l.i m now;
      sure : StaysSure m now;
      clear : m.is_alone → FindsOf (AreClear m.key first l.i) m.words now.words;
    }
