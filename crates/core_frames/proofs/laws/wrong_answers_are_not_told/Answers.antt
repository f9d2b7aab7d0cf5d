use Rattle.std.proofs.Common.{ℕ, List, Option, Some, subst, arith}
use Rattle.std.proofs.lemmas.List.Elements.{All-contains}
use Rattle.frame_table.specs.Closing.{kept_through, IsHeldIn}
use Rattle.frame_model.specs.Openings.{held_blocks}
use Rattle.frame_table.specs.Openings.{unsealed_key, IsLeft}
use Rattle.frame_table.specs.Seats.{block_in, view_of}
use Rattle.low_frames.specs.Alone.{WordsTake}
use Rattle.core_frames.specs.Cores.{memory_of, known_by}
use Rattle.core_frames.specs.WrongAnswers.{TakenWasHeld}
use Rattle.core_frames.proofs.laws.wrong_answers_are_not_told.Goals as goal

taken_was_held : TakenWasHeld
taken_was_held a n b c d words x alone known covered held taken =
    let found : WordsTake (memory_of a) (Some words) (known_by d) (block_in b) =
    subst (λ (o : Option (List ℕ)). WordsTake (memory_of a) o (known_by d) (block_in b)) known (taken.alone alone) in
    held (found.1.1.was_free x covered)

pub returns : goal.returns
returns c = record {
  past_the_end = λ a n b d e past taken. absurd (omega (arith, past, taken.inside));
  held = taken_was_held;
  clear = λ key seats image b x kept covered clear closing.
      clear (All-contains (IsHeldIn key image.words) (kept_through seats) b closing.tells.kept_held kept x covered);
  overlap = λ key seats image x twice closing. absurd (omega (arith, twice, closing.tells.kept_apart.disjoint x));
  lost = λ key seats image b kept lost closing.
      lost.1.1 (All-contains (IsLeft (unsealed_key image.geometry) (held_blocks (unsealed_key image.geometry) lost.0))
      (kept_through seats) b (closing.kept_left lost.0 lost.1.0) kept);
  clear_at_stop = λ key last image b x kept covered clear stop.
      clear (All-contains (IsHeldIn key image.words) (view_of last).kept b stop.kept_held kept x covered);
  overlap_at_stop = λ key last image x twice stop. absurd (omega (arith, twice, stop.kept_apart.disjoint x));
  lost_at_stop = λ key last image b kept lost stop.
      lost.1.1 (All-contains (IsLeft (unsealed_key image.geometry) (held_blocks (unsealed_key image.geometry) lost.0))
      (view_of last).kept b (stop.kept_left lost.0 lost.1.0) kept);
  elsewhere = λ key last image none stop. none stop.state stop.id stop.eye stop.words stop.fits stop.at stop.seat;
}
