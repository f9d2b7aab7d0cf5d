use Rattle.std.proofs.Common.{◌≡◌, List, ◌∷◌, ◌∙◌, refl, sym, ap, subst, arith}
use Rattle.frame_model.specs.declared.block.FrameBlock.{FrameBlock}
use Rattle.frame_model.specs.declared.view.View.{View}
use Rattle.frame_model.specs.Block.{IsBlock, block}
use Rattle.frame_model.specs.Holding.{IsFreeBlock}
use Rattle.frame_table.specs.Seats.{block_in}
use Rattle.held_blocks.specs.Desk.{blocks_of, TakesUnder}
use Rattle.held_blocks.proofs.HeldLemmas.{begins_apart}
use Rattle.core_frames.specs.Cores.{memory_of, kept_by}
use Rattle.core_frames.specs.Desks.{list_of, core_of}
use Rattle.core_frames.proofs.DeskLemmas.{free_under, laid, no_memory_take, refused_at_desk, refused_take}
use Rattle.core_frames.proofs.shared.desk.Desk.take.Goals as goal
use Rattle.core_frames.proofs.shared.desk.Desk.take.Goals.{After-of-block}

-- the block is the one that was taken
same : (c : After-of-block) → c.of-block.result ≡ block_in c.in-Ok.block
same c = c.of-block.ensures ∙ c.keep-frame.ensures.answer

-- no frame of it was in a block of the list
free : (c : After-of-block) → IsFreeBlock (blocks_of (list_of c.args.self.now)) c.of-block.result
free c =
    subst (IsFreeBlock (blocks_of (list_of c.args.self.now))) (sym (same c))
    (free_under c.args.allocator.now c.args.self.now (block_in c.in-Ok.block) c.requires c.in-Ok.ensures.takes.ok.apart)

-- it is one of the memory
is : (c : After-of-block) → IsBlock (memory_of c.args.allocator.now) c.of-block.result
is c = subst (IsBlock (memory_of c.args.allocator.now)) (sym (same c)) c.in-Ok.ensures.takes.ok.is_out.is_block

pub returns-then-order-gt-HUGE_ORDER-clause-takes : goal.returns-then-order-gt-HUGE_ORDER-clause-takes
unfolding TakesUnder
returns-then-order-gt-HUGE_ORDER-clause-takes c = (omega arith, refl)

pub returns-then-is_err-clause-takes : goal.returns-then-is_err-clause-takes
returns-then-is_err-clause-takes c =
    rw c.reserve.ensures.entries (no_memory_take _ _ c.args.label c.args.order (omega arith))

pub add-requires-clause-apart : goal.add-requires-clause-apart
add-requires-clause-apart c =
    rw c.reserve.ensures.entries
    (begins_apart (list_of c.args.self.now) c.of-block.result (free (goal.at.add-requires-clause-apart c).After-of-block))

pub returns-in-Ok-clause-desk : goal.returns-in-Ok-clause-desk
returns-in-Ok-clause-desk c =
    let step = (goal.at.returns-in-Ok-clause-desk c).After-of-block in
    record {
      is_desk =
          laid c.args.allocator.now c.args.self.now c.add.new.self _ c.keep-frame.new.core c.requires
          (rw c.reserve.ensures.entries at c.add.ensures.entries) c.keep-frame.ensures.core.is_core
          (ap (λ (v : View). v.kept) c.keep-frame.ensures.keeps
          ∙ ap (λ (bs : List FrameBlock). block_in c.in-Ok.block ∷ bs) c.in-Ok.ensures.takes.kept
          ∙ ap (λ (b : FrameBlock). b ∷ kept_by (core_of c.args.self.now)) (sym (same step)))
          (is step) (free step);
      same_number = c.keep-frame.ensures.core.same_number ∙ c.in-Ok.ensures.core.same_number;
    }

pub returns-in-Ok-clause-takes : goal.returns-in-Ok-clause-takes
unfolding TakesUnder
returns-in-Ok-clause-takes c =
    let step = (goal.at.returns-in-Ok-clause-takes c).After-of-block in
    let here : c.of-block.result ≡ block c.keep-frame.result.0 c.keep-frame.result.1 = c.of-block.ensures in
    let order : c.keep-frame.result.1 ≡ c.args.order =
    ap (λ (b : FrameBlock). b.order) c.keep-frame.ensures.answer ∙ c.in-Ok.ensures.takes.ok.order in
    record {
      is_block = subst (IsBlock (memory_of c.args.allocator.now)) here (is step);
      has_order = order;
      was_free = subst (IsFreeBlock (blocks_of (list_of c.args.self.now))) here (free step);
      last = rw (c.add.ensures.entries, c.reserve.ensures.entries, here) refl;
    }

pub returns-in-Err-clause-takes : goal.returns-in-Err-clause-takes
returns-in-Err-clause-takes c =
    rw (c.from.ensures, c.reserve.ensures.entries)
    (refused_take c.args.allocator.now (core_of c.args.self.now) c.take.new.core (list_of c.args.self.now) c.args.label c.args.order
    c.in-Err.refusal (omega arith) c.in-Err.ensures.takes.err.0)

pub returns-in-Err-clause-why : goal.returns-in-Err-clause-why
returns-in-Err-clause-why c =
    rw c.from.ensures
    (refused_at_desk c.args.allocator.now (core_of c.args.self.now) c.take.new.core c.args.order
    c.in-Err.refusal (omega arith) c.in-Err.ensures.takes.err.0)
