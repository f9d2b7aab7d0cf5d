-- Outcomes that a run cannot have.
use Rattle.std.proofs.Common.{◌≡◌, ◌≤◌, ◌+◌, List, ℕ, Bool, [], replicate, arith}
use Rattle.std.proofs.lemmas.List.{length-replicate}
use Rattle.frame_model.specs.Holding.{holders}
use Rattle.frame_core.specs.Image.{Contents}
use Rattle.frame_model.proofs.Stopping.Known.{holders_both}
use Rattle.frame_model.specs.View.{boot_blocks}
use Rattle.held_blocks.specs.declared.labelled_block.LabelledBlock.{LabelledBlock}
use Rattle.llfree_trace.specs.Outcome.{IsAnsweredBy, all_blocks, key_under}
use Rattle.llfree_trace.specs.WrongRuns.{FrameIsShared, OtherFramesAreHeld, OtherIsAnswered, refusing}
use Rattle.llfree_trace.specs.WrongRuns.{times_given, times_taken}
use Rattle.llfree_trace.proofs.Tallies.{count_of_all, none_in_lists, runs_count, runs_named}
use Rattle.trace_text.specs.Trace.{core_count}
use Rattle.trace_text.specs.declared.line.Line.{Line}
use Rattle.trace_text.specs.declared.reply.Answer.{Answer}

-- the lists at the end hold a frame as often as it was taken and not given back
at_end : (alone : Bool) (lines : List Line) (answers : List Answer) (image : Contents) (x : ℕ)
    → core_count lines ≤ image.geometry.cores → (a : IsAnsweredBy (refusing alone) lines answers image)
    → holders x (all_blocks a.lists) + times_given x answers ≡ times_taken x answers
at_end alone lines answers image x inside a =
    let cores : ℕ = image.geometry.cores in
    let start : List (List LabelledBlock) = replicate cores [] in
    omega (
      arith,
      count_of_all x a.lists,
      none_in_lists x cores,
      runs_count (refusing alone) (key_under lines image) 1 x start lines answers a.lists
          (omega (arith, inside, length-replicate {A = List LabelledBlock} cores [])) a.runs,
    )

pub other_is_answered : OtherIsAnswered
other_is_answered alone lines answers image other a =
    other (runs_named (refusing alone) (key_under lines image) 1 (replicate image.geometry.cores []) lines answers a.lists a.runs)

pub frame_is_shared : FrameIsShared
frame_is_shared alone lines answers image x inside twice a =
    absurd (omega (arith, twice, at_end alone lines answers image x inside a, a.disjoint.disjoint x))

pub other_frames : OtherFramesAreHeld
other_frames alone lines answers image x inside within other a =
    other (omega (
      arith,
      a.holds x within,
      holders_both x (all_blocks a.lists) (boot_blocks (key_under lines image)),
      at_end alone lines answers image x inside a,
    ))
