use Rattle.std.proofs.Common.{ap, sym, subst}
use Rattle.frame_model.specs.declared.block.FrameBlock.{FrameBlock}
use Rattle.frame_model.specs.declared.view.View.{View}
use Rattle.frame_table.specs.Openings.{IsLeft}
use Rattle.frame_table.specs.Seats.{block_in}
use Rattle.core_frames.specs.Cores.{memory_of, kept_by}
use Rattle.core_frames.specs.Left.{left_blocks}
use Rattle.llfree_example.proofs.Surviving.{first_left, never_refused}
use Rattle.llfree_example.proofs.survivors.survive.Goals as goal

pub unreachable-requires : goal.unreachable-requires
unreachable-requires c =
    let again = c.in_ok-again.again in
    let left = left_blocks c.in_ok-again.survivors in
    let one : IsLeft (memory_of again) left (block_in c.args.block) =
    first_left (memory_of again) left (kept_by c.keep-frame.new.core) (kept_by c.args.core) (block_in c.args.block)
    (ap (λ (v : View). v.kept) c.keep-frame.ensures.keeps)
    (c.in_ok-again.ensures.kept (kept_by c.keep-frame.new.core) c.stop-image.ensures.kept_left) in
    never_refused again left _ c.in_default.field-0
    (subst (λ (b : FrameBlock). IsLeft (memory_of again) left b) (sym c.keep-frame.ensures.answer) one)
    c.in_default.ensures.adopts.err.0
