-- Desks over new cores.
use Rattle.std.proofs.Common.{◌≡◌, ◌<◌, ◌∙◌, List, [], ◌∷◌, ◌++◌, length, get_or, map, replicate}
use Rattle.std.proofs.Common.{pos, ◌+ℤ◌, refl, sym, ap, ap₂, subst, arith}
use Rattle.std.specs.List.{All}
use Rattle.std.proofs.lemmas.List.{get_or-map, length-map, map-append}
use Rattle.std.proofs.lemmas.List.Elements.{All-append, All-cons, All-head, All-nil, All-tail}
use Rattle.frame_table.specs.Closing.{lent_through}
use Rattle.core_frames.specs.Cores.{memory_of, IsCoreOf, IsNewCore}
use Rattle.held_blocks.specs.declared.labelled_block.LabelledBlock.{LabelledBlock}
use Rattle.core_frames.specs.Desks.{core_of, list_of, IsDeskOf}
use Rattle.core_frames.specs.declared.shared.allocator.Allocator.{Allocator}
use Rattle.core_frames.specs.declared.shared.allocator.Core.{Core}
use Rattle.core_frames.specs.declared.shared.desk.Desk.{Desk}
use Rattle.llfree_trace.specs.Rounds.{lent_by_desks}
use Rattle.llfree_trace.proofs.Running.{none_lawful}

new_desk : (al : Allocator) (d : Desk) → IsNewCore al (core_of d) → list_of d ≡ [] → IsDeskOf al d
new_desk al d n empty = record {
  is_core = n.is_core;
  keeps = λ f. rw (empty, n.kept) refl;
  apart = rw empty (none_lawful (memory_of al));
}

pub new_desks : (al : Allocator) (ds : List Desk) (cores : List Core) → map core_of ds ≡ cores
    → All (IsNewCore al) cores → All (λ d. list_of d ≡ []) ds → All (IsDeskOf al) ds
new_desks al ds cores e all empty k d lt =
    let low : k < length cores = omega (arith, lt, ap length e, length-map ds core_of) in
    let P : List Core → Type 0 = λ l. IsNewCore al (get_or l k (core_of d)) in
    let back : cores ≡ map core_of ds = sym e in
    let named : P (map core_of ds) = subst P back (all k (core_of d) low) in
    new_desk al (get_or ds k d) (subst (IsNewCore al) (get_or-map core_of ds k d (core_of d) lt) named) (empty k d lt)

pub empty_lists : (ds : List Desk) → All (λ d. list_of d ≡ []) ds → map list_of ds ≡ replicate (length ds) []
empty_lists [] empty = refl
empty_lists (d ∷ ds) empty =
    ap₂ (λ (x : List LabelledBlock) (xs : List (List LabelledBlock)). x ∷ xs)
    (All-head (λ d. list_of d ≡ []) d ds empty) (empty_lists ds (All-tail (λ d. list_of d ≡ []) d ds empty))

pub one_more_desk : (ds new : List Desk) (cores : List Core) (d : Desk) (c : Core) → new ≡ ds ++ d ∷ []
    → map core_of ds ≡ cores → All (λ d. list_of d ≡ []) ds → core_of d ≡ c → list_of d ≡ []
    → (map core_of new ≡ cores ++ c ∷ []) × All (λ d. list_of d ≡ []) new
one_more_desk ds new cores d c is before empty core none =
    rw is (
      map-append core_of ds (d ∷ []) ∙ ap₂ (λ (xs : List Core) (x : Core). xs ++ x ∷ []) before core,
      All-append (λ d. list_of d ≡ []) ds (d ∷ []) empty (All-cons (λ d. list_of d ≡ []) d [] none (All-nil (λ d. list_of d ≡ []))),
    )

-- the cores of desks belong to the allocator
pub all_cores : (al : Allocator) (ds : List Desk) (cores : List Core) → cores ≡ map core_of ds
    → All (IsDeskOf al) ds → All (IsCoreOf al) cores
all_cores al ds cores e all = rw e (by ds all)
  where
    by : (ds : List Desk) → All (IsDeskOf al) ds → All (IsCoreOf al) (map core_of ds)
    by [] all = All-nil (IsCoreOf al)
    by (d ∷ ds) all =
        All-cons (IsCoreOf al) (core_of d) (map core_of ds) (All-head (IsDeskOf al) d ds all).is_core
        (by ds (All-tail (IsDeskOf al) d ds all))

-- new cores lend nothing
pub none_lent : (al : Allocator) (ds : List Desk) (cores : List Core) → map core_of ds ≡ cores
    → All (IsNewCore al) cores → lent_by_desks ds ≡ pos 0
unfolding lent_through
none_lent al ds cores e all = by ds (rw e all)
  where
    by : (ds : List Desk) → All (IsNewCore al) (map core_of ds) → lent_by_desks ds ≡ pos 0
    by [] all = refl
    by (d ∷ ds) all =
        ap₂ ◌+ℤ◌ (All-head (IsNewCore al) (core_of d) (map core_of ds) all).lent
        (by ds (All-tail (IsNewCore al) (core_of d) (map core_of ds) all))
