-- A block that leaves a holding and joins it again.
use Rattle.std.proofs.Common.{List, [], ◌∷◌, ◌++◌, arith}
use Rattle.frame_model.specs.Block.{IsBlock, covers}
use Rattle.frame_model.specs.Holding.{IsFreeBlock, IsHolding, holders}
use Rattle.frame_model.specs.declared.key.Key.{Key}
use Rattle.held_blocks.specs.Desk.{blocks_of}
use Rattle.held_blocks.specs.LabelledBlocks.{BeginsAt, HasNone, TakesFirst}
use Rattle.held_blocks.specs.declared.labelled_block.LabelledBlock.{LabelledBlock}
use Rattle.held_blocks.proofs.HeldLemmas.{all_split, begins_apart, blocks_append, less_lawful}
use Rattle.held_blocks.proofs.HeldLemmas.{more_lawful, sum_split}

-- what is left of a holding shares no frame with a block that left
free_of_others : (key : Key) (front back : List LabelledBlock) (e : LabelledBlock)
    → IsHolding key (blocks_of (front ++ e ∷ back)) → IsFreeBlock (blocks_of (front ++ back)) e.block
unfolding holders
free_of_others key front back e lawful =
    λ x c. omega (arith, lawful.disjoint x, sum_split (λ b. covers b x) front back e, c)

pub left_free : (key : Key) (P : LabelledBlock → Type 0) (held left : List LabelledBlock) (e : LabelledBlock)
    → IsHolding key (blocks_of held) → TakesFirst P held e left → IsFreeBlock (blocks_of left) e.block
left_free key P held left e lawful takes =
    rw takes.stays (free_of_others key takes.front takes.back e (rw takes.was at lawful))

-- no other block begins where it begins
pub left_apart : (key : Key) (P : LabelledBlock → Type 0) (held left : List LabelledBlock) (e : LabelledBlock)
    → IsHolding key (blocks_of held) → TakesFirst P held e left → HasNone (BeginsAt e.block.frame) left
left_apart key P held left e lawful takes = begins_apart left e.block (left_free key P held left e lawful takes)

-- it is a block of the memory
pub left_block : (key : Key) (P : LabelledBlock → Type 0) (held left : List LabelledBlock) (e : LabelledBlock)
    → IsHolding key (blocks_of held) → TakesFirst P held e left → IsBlock key e.block
left_block key P held left e lawful takes =
    let all = rw (takes.was, blocks_append takes.front (e ∷ takes.back)) at lawful.blocks in
    (all_split (IsBlock key) (blocks_of takes.front) e.block (blocks_of takes.back) all).0

-- with the block at its end the list is a holding again
pub moved_lawful : (key : Key) (P : LabelledBlock → Type 0) (held left : List LabelledBlock) (e : LabelledBlock)
    → IsHolding key (blocks_of held) → TakesFirst P held e left → IsHolding key (blocks_of (left ++ e ∷ []))
moved_lawful key P held left e lawful takes =
    let whole : IsHolding key (blocks_of (takes.front ++ e ∷ takes.back)) = rw takes.was at lawful in
    let rest : IsHolding key (blocks_of left) = rw takes.stays (less_lawful key takes.front takes.back e whole) in
    more_lawful key left e rest (left_block key P held left e lawful takes) (left_free key P held left e lawful takes)
