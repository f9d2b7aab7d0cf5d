use Rattle.std.proofs.Common.{◌≡◌, ◌*◌, Some}
use Rattle.frame_model.specs.Words.{bits_place}
use Rattle.frame_core.specs.Moves.{ReadsBut}
use Rattle.frame_core.specs.Mover.{Keeps}
use Rattle.low_frames.specs.Takes.{Counts, IsAsBefore, LosesNone}
use Rattle.low_frames.specs.Groups.{WhereFree}
use Rattle.low_frames.proofs.wide.claim_word.Given as goal

abbrev pub invariant-loop-i : goal.invariant-loop-i
invariant-loop-i g l =
    let M = g.M.Moves in
    let m = M.at l.fn.m in
    let now = M.at l.m in
    record {
      keeps : Keeps m now;
      view : IsAsBefore m.view now.view;
      seen : now.read (bits_place m.key l.word) ≡ Some 0;
      read : ReadsBut (bits_place m.key l.word) m.read now.read;
      counts : Counts M.is_exact (2 * l._i) m now;
      first : m.is_alone → WhereFree m.key m.words l.word 1 ((l._i ≡ 0) × (now.words ≡ m.words));
      none : l._i ≡ 0 → LosesNone m now;
    }
