use Rattle.std.proofs.Common.{◌+◌, ◌-◌, ◌*◌, ◌<◌}
use Rattle.frame_core.specs.Mover.{Keeps, IsApart}
use Rattle.low_frames.specs.Bounds.{won_attempt}
use Rattle.low_frames.specs.Takes.{Counts, LosesNone}
use Rattle.low_frames.specs.Groups.{HoldsWords, HasClaimedWords, WasReadClear, ReadsOutside, HasTakenWords, WhereFree}
use Rattle.low_frames.proofs.wide.claim_words.Given as goal

abbrev pub invariant-loop-i : goal.invariant-loop-i
invariant-loop-i g l =
    let M = g.M.Moves in
    let m = M.at l.fn.m in
    let now = M.at l.m in
    let first = 8 * l.child + l.first in
    record {
      keeps : Keeps m now;
      view : HasClaimedWords l.child (64 * l.i) m.view now.view;
      own : HoldsWords m.key now.view.own first l.i;
      seen : WasReadClear m.key now.read (first + l.i) (l.count - l.i);
      read : ReadsOutside m.key first l.count m.read now.read;
      counts : Counts M.is_exact (won_attempt * l.i) m now;
      apart : 0 < l.i → IsApart m.key now.view;
      taken : m.is_alone → WhereFree m.key m.words first l.count (HasTakenWords m.key m.words now.words first l.i × LosesNone m now);
    }
