-- How a desk's list goes on agreeing with what its core keeps.
use Rattle.std.proofs.Common.{◌≡◌, ◌<◌, ◌≤◌, ◌∙◌, ℕ, List, [], ◌∷◌, ◌++◌, refl, sym, subst, arith, Ok, Err, Contains}
use Rattle.std.specs.List.{All, sum_by}
use Rattle.std.proofs.lemmas.List.Elements.{All-nil}
use Rattle.std.proofs.lemmas.List.Sums.{sum_by-append, sum_by-cons}
use Rattle.frame_model.specs.Block.{IsBlock, block, covers}
use Rattle.frame_model.specs.Holding.{IsFreeBlock, IsHolding, holders}
use Rattle.frame_model.specs.Without.{less_one}
use Rattle.frame_model.specs.declared.block.FrameBlock.{FrameBlock}
use Rattle.frame_model.specs.declared.key.Key.{Key}
use Rattle.frame_model.specs.declared.view.View.{View}
use Rattle.frame_core.specs.Mover.{IsApart}
use Rattle.frame_model.specs.View.{IsViewOf}
use Rattle.frame_model.proofs.Steps.SeatViews.{blocks_are}
use Rattle.frame_words.specs.declared.fault.Fault.{Fault}
use Rattle.frame_words.specs.declared.fault.Fault.TheVariants as fault
use Rattle.frame_words.specs.declared.fault.TakeFault.{TakeFault}
use Rattle.frame_words.specs.declared.fault.TakeFault.TheVariants as take_fault
use Rattle.frame_words.specs.Faults.{fault_of}
use Rattle.held_blocks.specs.Desk.{blocks_of, GivesFirst, TakesUnder, MayFail}
use Rattle.held_blocks.specs.LabelledBlocks.{LabelledList, TakesFirst}
use Rattle.held_blocks.specs.declared.labelled_block.LabelledBlock.{LabelledBlock}
use Rattle.held_blocks.proofs.HeldLemmas.{blocks_append, contained, count_same, counted_once, less_lawful, less_sum, more_lawful, sum_split}
use Rattle.core_frames.specs.declared.shared.allocator.Allocator.{Allocator}
use Rattle.core_frames.specs.declared.shared.allocator.Core.{Core}
use Rattle.core_frames.specs.declared.shared.desk.Desk.{Desk}
use Rattle.core_frames.specs.Cores.{memory_of, kept_by, IsCoreOf}
use Rattle.core_frames.specs.Uses.{IsRefusedFor, IsRefusedAtDesk}
use Rattle.core_frames.specs.Desks.{core_of, list_of, KeepsJust, IsDeskOf}

-- what a view keeps that has nothing in flight is a holding, once it is known to be apart
pub kept_apart : (key : Key) (v w : View) → w.own ≡ [] → w.kept ≡ v.kept → ∥ IsViewOf key v ∥₁
    → IsApart key w → IsHolding key w.kept
kept_apart key v w own kept is apart = record {
  blocks = subst (All (IsBlock key)) (sym kept) (blocks_are key v is).1;
  disjoint = λ x. subst (λ (own : List FrameBlock). holders x (own ++ w.kept) ≤ 1) own (apart.disjoint x);
}

none_held : (key : Key) → IsHolding key []
unfolding holders
none_held key = record { blocks = All-nil (IsBlock key); disjoint = λ x. omega arith }

-- a desk that holds nothing, whose core keeps nothing
pub new_desk : (a : Allocator) (d : Desk) → IsCoreOf a (core_of d) → list_of d ≡ []
    → kept_by (core_of d) ≡ [] → IsDeskOf a d
new_desk a d is empty none = record {
  is_core = is;
  keeps = λ f. rw (empty, none) refl;
  apart = rw empty (none_held (memory_of a));
}

-- a block of the list is kept
stands : (c : Core) (held left : List LabelledBlock) (e : LabelledBlock) (P : LabelledBlock → Type 0)
    → KeepsJust c (blocks_of held) → TakesFirst P held e left
    → 0 < sum_by (count_same e.block) (kept_by c)
stands c held left e P keeps takes =
    let same = rw takes.was at (keeps (count_same e.block)) in
    let split = sum_split (count_same e.block) takes.front takes.back e in
    omega (arith, same, split, counted_once e.block)

pub is_kept : (a : Allocator) (d : Desk) (left : List LabelledBlock) (e : LabelledBlock)
    (P : LabelledBlock → Type 0) → IsDeskOf a d → TakesFirst P (list_of d) e left
    → Contains (kept_by (core_of d)) e.block
is_kept a d left e P is takes =
    contained e.block (kept_by (core_of d)) (stands (core_of d) (list_of d) left e P is.keeps takes)

-- a block that is recalled leaves
pub lifted : (a : Allocator) (d : Desk) (left : LabelledList) (e : LabelledBlock)
    (P : LabelledBlock → Type 0) (c : Core) → IsDeskOf a d → TakesFirst P (list_of d) e left.entries
    → IsCoreOf a c → kept_by c ≡ less_one e.block (kept_by (core_of d))
    → IsDeskOf a (record { core = c; list = left })
lifted a d left e P c is takes core kept = record {
  is_core = core;
  keeps = λ f.
      let same = rw takes.was at (is.keeps f) in
      let split = sum_split f takes.front takes.back e in
      let less = less_sum f e.block (kept_by (core_of d)) (stands (core_of d) (list_of d) left.entries e P is.keeps takes) in
      rw (takes.stays, kept) (omega (arith, same, split, less));
  apart = rw takes.stays (less_lawful (memory_of a) takes.front takes.back e (rw takes.was at is.apart));
}

-- a block that is free under what the core keeps is free under the list
pub free_under : (a : Allocator) (d : Desk) (b : FrameBlock) → IsDeskOf a d
    → IsFreeBlock (kept_by (core_of d)) b → IsFreeBlock (blocks_of (list_of d)) b
unfolding holders
free_under a d b is free = λ x c. is.keeps (λ e. covers e x) ∙ free x c

-- a block that is kept goes last
pub laid : (a : Allocator) (d : Desk) (after : LabelledList) (e : LabelledBlock) (c : Core)
    → IsDeskOf a d → after.entries ≡ list_of d ++ e ∷ [] → IsCoreOf a c
    → kept_by c ≡ e.block ∷ kept_by (core_of d) → IsBlock (memory_of a) e.block
    → IsFreeBlock (blocks_of (list_of d)) e.block → IsDeskOf a (record { core = c; list = after })
laid a d after e c is more core kept lawful free = record {
  is_core = core;
  keeps = λ f.
      rw (more, kept, blocks_append (list_of d) (e ∷ []))
      (omega (
        arith,
        is.keeps f,
        sum_by-append f (blocks_of (list_of d)) (e.block ∷ []),
        sum_by-cons f e.block [],
        sum_by-cons f e.block (kept_by (core_of d)),
      ));
  apart = rw more (more_lawful (memory_of a) (list_of d) e is.apart lawful free);
}

-- where what is kept is apart with one block more, that block is free under the list
pub free_beside : (key : Key) (a : Allocator) (d : Desk) (b : FrameBlock) → IsDeskOf a d
    → IsHolding key (b ∷ kept_by (core_of d)) → IsFreeBlock (blocks_of (list_of d)) b
unfolding holders
free_beside key a d b is apart = λ x c.
    omega (arith, is.keeps (λ e. covers e x), apart.disjoint x, sum_by-cons (λ e. covers e x) b (kept_by (core_of d)), c)

-- a block that is lifted and then given is given
pub given_ok : {B : Type 0} (in_b : B → FrameBlock) (kind : LabelledBlock → Type 0)
    (old new : List LabelledBlock) (b : B) (answer : ℕ × ℕ)
    → block answer.0 answer.1 ≡ in_b b → GivesFirst in_b kind old (Ok b) new
    → GivesFirst (λ p. block p.0 p.1) kind old (Ok answer) new
unfolding GivesFirst
given_ok in_b kind old new b answer same step = (step.0, step.1 ∙ sym same, step.2)

-- where none was lifted, none is given
pub given_err : {B C : Type 0} (in_b : B → FrameBlock) (in_c : C → FrameBlock)
    (kind : LabelledBlock → Type 0) (old new : List LabelledBlock) (e : Fault)
    → GivesFirst in_b kind old (Err e) new → GivesFirst in_c kind old (Err e) new
unfolding GivesFirst
given_err in_b in_c kind old new fault.NotHeld step = step
given_err in_b in_c kind old new e step = absurd step

-- the allocator refuses an order
pub refused_take : (a : Allocator) (c d : Core) (old : List LabelledBlock) (label : List ℕ) (order : ℕ)
    (refusal : TakeFault) → order ≤ 9 → IsRefusedFor a order c d refusal
    → TakesUnder MayFail (memory_of a) old label order (Err (fault_of refusal)) old
unfolding TakesUnder
refused_take a c d old label order take_fault.BadOrder low why = (why.0, refl)
refused_take a c d old label order take_fault.NoBlock low why = (low, tt, refl)
refused_take a c d old label order take_fault.Contended low why = (low, tt, refl)

-- a desk says why as the allocator does, for an order that it let through
pub refused_at_desk : (a : Allocator) (c d : Core) (order : ℕ) (refusal : TakeFault) → order ≤ 9
    → IsRefusedFor a order c d refusal → IsRefusedAtDesk a order c d (fault_of refusal)
refused_at_desk a c d order take_fault.BadOrder low why = absurd (omega (arith, low, why.0))
refused_at_desk a c d order take_fault.NoBlock low why = why
refused_at_desk a c d order take_fault.Contended low why = why

-- memory is refused
pub no_memory_take : (key : Key) (old : List LabelledBlock) (label : List ℕ) (order : ℕ) → order ≤ 9
    → TakesUnder MayFail key old label order (Err fault.NoMemory) old
unfolding TakesUnder
no_memory_take key old label order low = (low, tt, refl)
