use Rattle.std.proofs.Common.{◌≡◌, ℕ, ◌+◌, ◌*◌, ◌<◌, Some, length}
use Rattle.std.specs.Prelude.{slice_index}
use Rattle.frame_model.specs.Words.{bits_place}
use Rattle.frame_core.specs.Mover.{Keeps}
use Rattle.low_frames.specs.Takes.{Counts, IsAsBefore, StaysSure}
use Rattle.low_frames.specs.Alone.{FindsOf}
use Rattle.low_frames.proofs.WideAlone.{AreFirstOf}
use Rattle.low_frames.proofs.wide.load_words.Given as goal

abbrev pub invariant-loop-i : goal.invariant-loop-i
invariant-loop-i g l =
    let M = g.M.Moves in
    let m = M.at l.fn.m in
    let now = M.at l.m in
    record {
      keeps : Keeps m now;
      view : IsAsBefore m.view now.view;
      read : (i : ℕ) → i < l.i → now.read (bits_place m.key (8 * l.child + i)) ≡ Some (slice_index l.words i);
      size : length l.words ≡ 8;
      counts : Counts M.is_exact (l.i) m now;
      sure : StaysSure m now;
      loaded : m.is_alone → FindsOf (AreFirstOf m.key l.child l.i l.words) m.words now.words;
    }
