-- How the list of one core goes on agreeing with the allocator.
use Rattle.std.proofs.Common.{◌≡◌, ◌∙◌, ℕ, List, [], ◌∷◌, ◌++◌, refl, sym, ap, subst, arith, Err}
use Rattle.std.proofs.Common.{Contains, IsPermutation}
use Rattle.std.specs.List.{sum_by}
use Rattle.std.proofs.lemmas.List.Sorted.{sum_by_pushed}
use Rattle.std.proofs.lemmas.List.Sums.{sum_by-append}
use Rattle.core_frames.specs.PlainState.{PlainState, held_by, memory_by, HoldsExactly}
use Rattle.held_blocks.specs.LabelledBlocks.{TakesFirst}
use Rattle.held_blocks.specs.declared.labelled_block.LabelledBlock.{LabelledBlock}
use Rattle.frame_model.specs.Block.{covers}
use Rattle.frame_model.specs.View.{boot_blocks}
use Rattle.frame_model.specs.Holding.{IsFreeBlock, holders}
use Rattle.frame_model.specs.QuietTake.{QuietTake}
use Rattle.frame_model.specs.declared.block.FrameBlock.{FrameBlock}
use Rattle.frame_words.specs.Faults.{fault_of}
use Rattle.frame_words.specs.declared.fault.TakeFault.{TakeFault}
use Rattle.frame_words.specs.declared.fault.TakeFault.TheVariants as take_fault
use Rattle.held_blocks.specs.Desk.{TakesUnder, blocks_of}
use Rattle.held_blocks.proofs.HeldLemmas.{blocks_append, contained, count_same, counted_once, sum_split}
use Rattle.llfree_trace.specs.Desk.{HasOut}
use Rattle.llfree_trace.specs.Outcome.{HoldsFrames, MustRefuseHere}

-- what is held under the allocator is held by the list, or nobody is ever given it
pub holders_same : (a : PlainState) (held : List LabelledBlock) (x : ℕ) → HasOut a held
    → holders x (blocks_of held ++ boot_blocks (memory_by a)) ≡ holders x (held_by a)
unfolding holders
holders_same a held x agrees =
    let boot : List FrameBlock = boot_blocks (memory_by a) in
    omega (
      arith,
      agrees.out (λ b. covers b x),
      sum_by-append (λ b. covers b x) (blocks_of held) boot,
      sum_by-append (λ b. covers b x) (a.out ++ a.kept) boot,
      sum_by-append (λ b. covers b x) a.out a.kept,
      ap (sum_by (λ b. covers b x)) agrees.none_kept,
    )

-- those frames are held, and no others
pub held_exactly : (a : PlainState) (held : List LabelledBlock) (words : List ℕ) → HasOut a held
    → HoldsExactly (memory_by a) words (held_by a)
    → HoldsFrames (memory_by a) words (blocks_of held ++ boot_blocks (memory_by a))
held_exactly a held words agrees exact =
    λ x within. exact.frames x within ∙ sym (holders_same a held x agrees)

-- a part of what nobody holds
free_parts : (xs ys : List FrameBlock) (b : FrameBlock) → IsFreeBlock (xs ++ ys) b
    → IsFreeBlock xs b × IsFreeBlock ys b
unfolding holders
free_parts xs ys b free = (
  (λ x c. omega (arith, free x c, sum_by-append (λ d. covers d x) xs ys)),
  (λ x c. omega (arith, free x c, sum_by-append (λ d. covers d x) xs ys)),
)

-- what is free under the allocator is free under the list, and has no frame that nobody is given
pub free_under_list : (a : PlainState) (held : List LabelledBlock) (b : FrameBlock)
    → HasOut a held → IsFreeBlock (held_by a) b → IsFreeBlock (blocks_of held) b
free_under_list a held b agrees free =
    (free_parts (blocks_of held) (boot_blocks (memory_by a)) b (λ x c. holders_same a held x agrees ∙ free x c)).0

pub free_of_boot : (a : PlainState) (held : List LabelledBlock) (b d : FrameBlock)
    → HasOut a held → d ≡ b → IsFreeBlock (held_by a) b → IsFreeBlock (boot_blocks (memory_by a)) d
free_of_boot a held b d agrees same free =
    subst (IsFreeBlock (boot_blocks (memory_by a))) (sym same)
    (free_parts (blocks_of held) (boot_blocks (memory_by a)) b (λ x c. holders_same a held x agrees ∙ free x c)).1

-- and the other way round
pub free_under_allocator : (a : PlainState) (held : List LabelledBlock) (b : FrameBlock)
    → HasOut a held → IsFreeBlock (blocks_of held ++ boot_blocks (memory_by a)) b → IsFreeBlock (held_by a) b
free_under_allocator a held b agrees free = λ x c. sym (holders_same a held x agrees) ∙ free x c

-- a block that was taken goes last
pub agrees_more : (a b : PlainState) (held : List LabelledBlock) (e : LabelledBlock)
    → HasOut a held → IsPermutation (e.block ∷ a.out) b.out → b.kept ≡ a.kept → HasOut b (held ++ e ∷ [])
agrees_more a b held e agrees out kept = record {
  none_kept = kept ∙ agrees.none_kept;
  out = λ f. rw (blocks_append held (e ∷ []), sum_by-append f (blocks_of held) (e.block ∷ []))
      (omega (arith, agrees.out f, sum_by_pushed f e.block a.out b.out out));
}

-- a block of the list is out
pub is_out : (a : PlainState) (held : List LabelledBlock) (e : LabelledBlock)
    (P : LabelledBlock → Type 0) (left : List LabelledBlock)
    → HasOut a held → TakesFirst P held e left → Contains a.out e.block
is_out a held e P left agrees takes =
    let same = rw takes.was at (agrees.out (count_same e.block)) in
    let split = sum_split (count_same e.block) takes.front takes.back e in
    contained e.block a.out (omega (arith, same, split, counted_once e.block))

-- a block that is given leaves
pub agrees_less : (a b : PlainState) (held left : List LabelledBlock) (e : LabelledBlock)
    (P : LabelledBlock → Type 0)
    → HasOut a held → TakesFirst P held e left
    → IsPermutation (e.block ∷ b.out) a.out → b.kept ≡ a.kept → HasOut b left
agrees_less a b held left e P agrees takes out kept = record {
  none_kept = kept ∙ agrees.none_kept;
  out = λ f.
      let same = rw takes.was at (agrees.out f) in
      let split = sum_split f takes.front takes.back e in
      let pushed = sum_by_pushed f e.block b.out a.out out in
      rw takes.stays (omega (arith, same, split, pushed));
}

-- a block that goes from its place to the end
pub agrees_moved : (a : PlainState) (held left : List LabelledBlock) (e : LabelledBlock)
    (P : LabelledBlock → Type 0) → HasOut a held → TakesFirst P held e left → HasOut a (left ++ e ∷ [])
agrees_moved a held left e P agrees takes = record {
  none_kept = agrees.none_kept;
  out = λ f.
      let same = rw takes.was at (agrees.out f) in
      let split = sum_split f takes.front takes.back e in
      rw (
        takes.stays,
        blocks_append (takes.front ++ takes.back) (e ∷ []),
        sum_by-append f (blocks_of (takes.front ++ takes.back)) (e.block ∷ []),
      )
      (omega (arith, same, split));
}

-- a take that the allocator refuses is refused rightly under the list
pub refused_step : (a : PlainState) (held : List LabelledBlock) (new : List FrameBlock)
    (label : List ℕ) (order : ℕ) (refusal : TakeFault)
    → HasOut a held → QuietTake (memory_by a) (held_by a) new order (Err refusal)
    → TakesUnder MustRefuseHere (memory_by a) held label order (Err (fault_of refusal)) held
unfolding TakesUnder
refused_step a held new label order take_fault.BadOrder agrees quiet = (quiet.above, refl)
refused_step a held new label order take_fault.NoBlock agrees quiet =
    (quiet.lawful, (λ b is has free. quiet.none b is has (free_under_allocator a held b agrees free)), refl)
refused_step a held new label order take_fault.Contended agrees quiet = absurd quiet
