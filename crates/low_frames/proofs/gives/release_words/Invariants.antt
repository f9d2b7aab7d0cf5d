use Rattle.std.proofs.Common.{◌+◌, ◌-◌, ◌*◌, ◌<◌}
use Rattle.frame_core.specs.Mover.{Keeps, KnowsWords}
use Rattle.low_frames.specs.Takes.{Counts, LosesNone, StaysSure}
use Rattle.low_frames.specs.Groups.{HoldsWords, ReadsOutside, HasGivenWords}
use Rattle.low_frames.proofs.AmountLemmas.{HasReleasedSome}
use Rattle.low_frames.proofs.gives.release_words.Given as goal

abbrev pub invariant-loop-i : goal.invariant-loop-i
invariant-loop-i g l =
    let M = g.M.Moves in
    let m = M.at l.fn.m in
    let now = M.at l.m in
    let first = 8 * l.child + l.first in
    record {
      keeps : Keeps m now;
      view : HasReleasedSome l.child (64 * l.i) m.view now.view;
      own : HoldsWords m.key now.view.own (first + l.i) (l.count - l.i);
      read : ReadsOutside m.key first l.count m.read now.read;
      counts : Counts M.is_exact l.i m now;
      sure : StaysSure m now;
      loses : LosesNone m now;
      knows : 0 < l.i → KnowsWords now;
      given : m.is_alone → HasGivenWords m.key m.recalled now.recalled first l.i;
    }
