use Rattle.std.proofs.Common.{◌≡◌, ◌+◌, ◌*◌, Some}
use Rattle.frame_words.specs.Words.{rest_in}
use Rattle.frame_model.specs.Words.{local_place, IsRest}
use Rattle.low_frames.specs.Takes.{IsAsBefore, IsSure}
use Rattle.core_frames.specs.Bounds.{most_to_load}
use Rattle.core_frames.specs.Alone.{SameFrames}
use Rattle.core_frames.specs.Searches.{Brings, IsKnown}
use Rattle.core_frames.proofs.search.own_tree.pay_own.Given as goal

abbrev pub invariant-loop-i : goal.invariant-loop-i
invariant-loop-i g l =
    let M = g.M.Moves in
    record {
      brings : Brings M.is_exact (most_to_load + 2 * l.i) IsAsBefore (SameFrames (M.at l.fn.m).key) (M.at l.fn.m) (M.at l.m);
      seen : (M.at l.m).read (local_place (M.at l.m).key l.core) ≡ Some l.seen;
      known : IsSure (M.at l.fn.m) → IsKnown (local_place (M.at l.m).key l.core) l.seen (M.at l.m);
      rest : IsRest (M.at l.fn.m).key (rest_in l.seen);
    }
