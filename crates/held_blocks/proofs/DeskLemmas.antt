-- What a desk answers leaves a list whose blocks are disjoint.
use Rattle.std.proofs.Common.{◌≡◌, ◌<◌, ◌≤◌, ℕ, List, Bool, true, false, nat_le, refl, arith, Result, Ok, Err}
use Rattle.std.proofs.lemmas.Grind.{common_steps}
use Rattle.frame_model.specs.Block.{block}
use Rattle.frame_model.specs.Holding.{IsHolding}
use Rattle.frame_model.specs.declared.block.FrameBlock.{FrameBlock}
use Rattle.frame_model.specs.declared.key.Key.{Key}
use Rattle.frame_words.specs.declared.fault.Fault.{Fault}
use Rattle.frame_words.specs.declared.fault.Fault.TheVariants as fault
use Rattle.held_blocks.specs.Desk.{blocks_of, PutsLast, TakesUnder, GivesFirst, GivesExactly}
use Rattle.held_blocks.specs.Desk.{pair_block}
use Rattle.held_blocks.specs.LabelledBlocks.{IsTheBlock}
use Rattle.held_blocks.specs.declared.labelled_block.LabelledBlock.{LabelledBlock}
use Rattle.held_blocks.proofs.HeldLemmas.{less_lawful, more_lawful}

-- a block that is free under a holding goes last
puts_lawful : (key : Key) (old : List LabelledBlock) (label : List ℕ) (order : ℕ) (b : FrameBlock)
    (new : List LabelledBlock) → IsHolding key (blocks_of old) → PutsLast key old label order b new
    → IsHolding key (blocks_of new)
puts_lawful key old label order b new lawful puts =
    rw puts.last
    (more_lawful key old (record { label = label; block = b }) lawful puts.is_block puts.was_free)

-- after a take
pub takes_lawful : (refuses : Key → List FrameBlock → ℕ → Fault → Type 0) (key : Key)
    (old : List LabelledBlock) (label : List ℕ) (order : ℕ) (r : Result (ℕ × ℕ) Fault)
    (new : List LabelledBlock) → IsHolding key (blocks_of old)
    → TakesUnder refuses key old label order r new → IsHolding key (blocks_of new)
unfolding TakesUnder
takes_lawful refuses key old label order (Ok b) new lawful step =
    puts_lawful key old label order (block b.0 b.1) new lawful step
takes_lawful refuses key old label order (Err fault.BadOrder) new lawful step = rw step.1 lawful
takes_lawful refuses key old label order (Err f) new lawful step = rw step.2 lawful

-- after a give of the oldest of a kind
pub gives_lawful : (key : Key) (kind : LabelledBlock → Type 0) (old : List LabelledBlock)
    (r : Result (ℕ × ℕ) Fault) (new : List LabelledBlock) → IsHolding key (blocks_of old)
    → GivesFirst pair_block kind old r new → IsHolding key (blocks_of new)
unfolding GivesFirst
gives_lawful key kind old (Ok b) new lawful step =
    let takes = step.2 in
    rw takes.stays (less_lawful key takes.front takes.back step.0 (rw takes.was at lawful))
gives_lawful key kind old (Err fault.NotHeld) new lawful step = rw step.1 lawful
gives_lawful key kind old (Err f) new lawful step = absurd step

-- after a give of exactly one block
pub gives_exactly_lawful : (key : Key) (old : List LabelledBlock) (frame order : ℕ)
    (r : Result (ℕ × ℕ) Fault) (new : List LabelledBlock) → IsHolding key (blocks_of old)
    → GivesExactly old frame order r new → IsHolding key (blocks_of new)
gives_exactly_lawful key old frame order r new lawful step = by_order (nat_le order 9) refl
  where
    by_order : (b : Bool) → nat_le order 9 ≡ b → IsHolding key (blocks_of new)
    by_order true e =
        let low : order ≤ 9 = grind (arith, common_steps) in
        gives_lawful key (IsTheBlock frame order) old r new lawful (step.1 low)
    by_order false e =
        let high : 9 < order = grind (arith, common_steps) in
        rw (step.0 high).1 lawful
