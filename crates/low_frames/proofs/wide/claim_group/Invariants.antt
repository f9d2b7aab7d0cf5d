use Rattle.std.proofs.Common.{◌≡◌, ◌+◌, ◌*◌, length}
use Rattle.frame_words.specs.Runs.{child_words}
use Rattle.frame_core.specs.Mover.{Keeps}
use Rattle.low_frames.specs.Bounds.{attempt}
use Rattle.low_frames.specs.Takes.{Counts, IsAsBefore, StaysSure}
use Rattle.low_frames.proofs.WideLemmas.{ReadClearGroups}
use Rattle.low_frames.proofs.WideAlone.{IsFirstLook}
use Rattle.low_frames.proofs.wide.claim_group.Given as goal

abbrev pub invariant-loop-i : goal.invariant-loop-i
invariant-loop-i g l =
    let M = g.M.Moves in
    let m = M.at l.fn.m in
    let now = M.at l.m in
    record {
      keeps : Keeps m now;
      view : IsAsBefore m.view now.view;
      seen : ReadClearGroups m.key now.read l.words l.order l.child l.count;
      size : length l.words ≡ 8;
      counts : Counts M.is_exact (child_words + attempt * (l.count * l._i)) m now;
      look : m.is_alone → IsFirstLook m.key l.child l._i l.words m.words now.words;
      sure : l._i ≡ 0 → StaysSure m now;
    }
