use Rattle.std.proofs.Common.{◌≡◌, ⊎_elim, ℕ, ◌<◌, ◌≤◌, List, Option, Some, ap, subst, ◌∙◌, arith}
use Rattle.frame_words.specs.declared.fault.TakeFault.{TakeFault}
use Rattle.frame_words.specs.declared.fault.TakeFault.TheVariants.{BadOrder, NoBlock, Contended}
use Rattle.frame_model.specs.declared.block.FrameBlock.{FrameBlock}
use Rattle.frame_model.specs.declared.view.View.{View}
use Rattle.frame_model.specs.Block.{covers}
use Rattle.frame_model.specs.Key.{frame_count}
use Rattle.frame_table.specs.Ties.{table_sizes}
use Rattle.low_frames.specs.Alone.{Turns, IsFreeIn}
use Rattle.low_frames.proofs.ViewLemmas.{covered_from}
use Rattle.core_frames.specs.Alone.{FindsNoBlock}
use Rattle.core_frames.specs.Cores.{memory_of, moves_by, known_by, StepsAlone}
use Rattle.core_frames.specs.Places.{HasSuchBlock, FindsHeld, WasHeldAt, IsRefusedAt}
use Rattle.core_frames.specs.Refusals.{FreeIsRefused, PlaceIsRefused, FreePlaceIsRefused}
use Rattle.core_frames.specs.declared.shared.allocator.Allocator.{Allocator}
use Rattle.core_frames.specs.declared.shared.allocator.Core.{Core}
use Rattle.core_frames.proofs.KeptFrames.{same_held, covered_inside}
use Rattle.core_frames.proofs.PlaceLemmas.{is_block_of}
use Rattle.core_frames.proofs.laws.wrong_refused_takes_are_not_told.Goals as goal

free_is_refused : FreeIsRefused
free_is_refused a n c d words b alone known is free = (
  λ why.
      let found : Turns (FindsNoBlock (memory_of a) n) (Some words) (known_by d) =
      subst (λ (o : Option (List ℕ)). Turns (FindsNoBlock (memory_of a) n) o (known_by d)) known (why.2 alone) in
      found.1.1.none b is (λ x covered. same_held (memory_of a) words found.0 x found.1.1.frames (inside x covered) ∙ free x covered),
  λ why. why.2 (alone, (words, known)),
)
  where
    inside : (x : ℕ) → covers b x ≡ 1 → x < frame_count (memory_of a)
    inside x covered = omega (arith, is.is_block.inside, (covered_from b x covered).1)

-- a free block at its place
no_free_place : (a : Allocator) (b : FrameBlock) (c d : Core) (words : List ℕ) → StepsAlone a c → known_by c ≡ Some words
    → IsFreeIn (memory_of a) words b → ¬ WasHeldAt a b c d
no_free_place a b c d words alone known free held =
    let found : Turns (FindsHeld (memory_of a) b) (Some words) (known_by d) =
    subst (λ (o : Option (List ℕ)). Turns (FindsHeld (memory_of a) b) o (known_by d)) known (held.alone alone) in
    found.1.1.held (λ x covered. same_held (memory_of a) words found.0 x found.1.1.frames (inside x covered) ∙ free x covered)
  where
    inside : (x : ℕ) → covers b x ≡ 1 → x < frame_count (memory_of a)
    inside x covered =
        covered_inside (memory_of a) b x (is_block_of (memory_of a) b (table_sizes a.table) held.has) covered

free_place_is_refused : FreePlaceIsRefused
free_place_is_refused a b c d words BadOrder alone known has free why = absurd (omega (arith, why.0, has.order))
free_place_is_refused a b c d words NoBlock alone known has free why =
    ⊎_elim (λ none. none.has_none has) (λ held. no_free_place a b c d words alone known free held.0) why
free_place_is_refused a b c d words Contended alone known has free why = why.2 (alone, (words, known))

moved : (a : Allocator) (b : FrameBlock) (c d : Core) (fault : TakeFault) → HasSuchBlock (memory_of a) b → moves_by d ≤ moves_by c
    → ¬ IsRefusedAt a b c d fault
moved a b c d BadOrder has none why = absurd (omega (arith, why.0, has.order))
moved a b c d NoBlock has none why =
    ⊎_elim (λ no. no.has_none has) (λ held. absurd (omega (arith, held.0.moved, none))) why
moved a b c d Contended has none why = absurd (omega (arith, why.0.moved, none))

place_is_refused : PlaceIsRefused
place_is_refused a b c d fault = (
  moved a b c d fault,
  λ some why.
      ⊎_elim (λ no. absurd (omega (arith, some, ap (λ (v : View). v.lost) no.view))) (λ held. absurd (omega (arith, some, held.1))) why,
  λ none why. absurd (omega (arith, none, why.1)),
)

pub returns : goal.returns
returns c = record {
  order_is_lawful = λ a n d e. (λ low why. absurd (omega (arith, low, why.0)), λ other why. other why.1);
  order_is_unlawful = λ a n d e high.
      (λ why. absurd (omega (arith, high, why.0.order)), λ why. absurd (omega (arith, high, why.0.order)));
  moves = λ a n d e few.
      (λ why. absurd (omega (arith, few, why.0.moved)), λ why. absurd (omega (arith, few, why.0.moved)));
  losses = λ a n d e.
      (λ none why. absurd (omega (arith, none, why.1)), λ some why. absurd (omega (arith, some, why.1)));
  free = free_is_refused;
  place = place_is_refused;
  free_place = free_place_is_refused;
  desk = λ a n d e. (
    λ other. (λ why. other why.1, λ why. other why.1),
    λ few. (λ why. absurd (omega (arith, few, why.0.moved)), λ why. absurd (omega (arith, few, why.0.moved))),
    λ none why. absurd (omega (arith, none, why.1)),
    λ some why. absurd (omega (arith, some, why.1)),
  );
}
