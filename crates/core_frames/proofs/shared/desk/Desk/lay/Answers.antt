use Rattle.std.proofs.Common.{◌≡◌, ◌∷◌, ◌∙◌, sym, ap, subst}
use Rattle.frame_model.specs.declared.block.FrameBlock.{FrameBlock}
use Rattle.frame_model.specs.declared.view.View.{View}
use Rattle.frame_model.specs.Block.{IsBlock}
use Rattle.frame_model.specs.Holding.{IsFreeBlock}
use Rattle.frame_table.specs.Seats.{block_in}
use Rattle.held_blocks.specs.Desk.{blocks_of}
use Rattle.held_blocks.proofs.HeldLemmas.{begins_apart}
use Rattle.core_frames.specs.Cores.{memory_of, kept_by}
use Rattle.core_frames.specs.Desks.{list_of, core_of}
use Rattle.core_frames.proofs.DeskLemmas.{free_beside, laid}
use Rattle.core_frames.proofs.shared.desk.Desk.lay.Goals as goal
use Rattle.core_frames.proofs.shared.desk.Desk.lay.Goals.{After-of}

-- the block is the one that was laid
same : (c : After-of) → c.of.result ≡ block_in c.args.block
same c = c.of.ensures ∙ c.keep-frame.ensures.answer

-- the core keeps it before the others
kept : (c : After-of) → kept_by c.look.new.core ≡ c.of.result ∷ kept_by (core_of c.args.self.now)
kept c =
    c.look.ensures.kept ∙ ap (λ (v : View). v.kept) c.keep-frame.ensures.keeps
    ∙ ap (λ (b : FrameBlock). b ∷ kept_by (core_of c.args.self.now)) (sym (same c))

free : (c : After-of) → IsFreeBlock (blocks_of (list_of c.args.self.now)) c.of.result
free c =
    free_beside (memory_of c.args.allocator.now) c.args.allocator.now c.args.self.now c.of.result c.requires.desk
    (rw (kept c) at c.look.ensures.apart)

pub add-requires-clause-apart : goal.add-requires-clause-apart
add-requires-clause-apart c =
    rw c.reserve.ensures.entries (begins_apart (list_of c.args.self.now) c.of.result (free (goal.at.add-requires-clause-apart c).After-of))

pub returns-clause-desk : goal.returns-clause-desk
returns-clause-desk c =
    let step = (goal.at.returns-clause-desk c).After-of in
    record {
      is_desk =
          laid c.args.allocator.now c.args.self.now c.add.new.self _ c.look.new.core c.requires.desk
          (rw c.reserve.ensures.entries at c.add.ensures.entries) c.look.ensures.core.is_core (kept step)
          (subst (IsBlock (memory_of c.args.allocator.now)) (sym (same step)) c.requires.block.is_block) (free step);
      same_number = c.look.ensures.core.same_number ∙ c.keep-frame.ensures.core.same_number;
    }
