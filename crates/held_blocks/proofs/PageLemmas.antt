-- How many blocks the pages count, after one more or one less.
use Rattle.std.proofs.Common.{ℕ, ◌+◌, ◌/◌, ◌≡◌, ◌≢◌, ◌<◌, ◌≤◌, ◌⊎◌, inl, inr, List, [], ◌∷◌, ◌++◌, length}
use Rattle.std.proofs.Common.{Option, Some, None, get_or, set, take, drop, suc, sym, ap, ◌∙◌, refl, arith}
use Rattle.std.specs.List.{sum_by}
use Rattle.std.proofs.lemmas.Bool.{cases_eq, cases_lt}
use Rattle.std.proofs.lemmas.Bool.Decides.{nat_tests}
use Rattle.std.proofs.lemmas.Grind.{common_steps}
use Rattle.std.proofs.lemmas.List.{get_or-set_same, get_or-set_other, get_or_past, get_or_default}
use Rattle.std.proofs.lemmas.List.Sums.{sum_by-append, sum_by-cons, sum_by_push}
use Rattle.held_blocks.specs.declared.labelled_block.LabelledBlock.{LabelledBlock}
use Rattle.held_blocks.specs.declared.slot_pages.SlotPages.{SlotPages}
use Rattle.held_blocks.specs.Slots.{held, StandsAt}
use Rattle.held_blocks.proofs.Slots.{held_at, held_without}
use Rattle.held_blocks.specs.declared.slot_page.SlotPage.{SlotPage}
use Rattle.held_blocks.specs.Pages.{blocks_in, page_in}
use Rattle.held_blocks.specs.SlotPages.{in_one_child, number_in, HasPage, KeepsPages}

pub here_counts : (here f : ℕ) → f / 512 ≡ here / 512 → in_one_child here f ≡ 1
unfolding in_one_child
here_counts here f same = grind (arith, nat_tests)

pub elsewhere_counts_not : (here f : ℕ) → f / 512 ≢ here / 512 → in_one_child here f ≡ 0
unfolding in_one_child
elsewhere_counts_not here f other = grind (arith, nat_tests)

pub one_at_most : (here f : ℕ) → in_one_child here f ≤ 1
unfolding in_one_child
one_at_most here f = grind (arith, nat_tests, common_steps)

-- a child that has a page stands in the directory
pub paged_within : (pages : List (Option SlotPage)) (k : ℕ) → 0 < blocks_in (page_in pages k) → k < length pages
paged_within pages k some =
    elim (cases_lt k (length pages)) [
      | inl within ↦ within
      | inr past ↦ let none = ap blocks_in (get_or_past pages k None past) in absurd (omega (arith, none, some))
    ]

-- what was read of the directory
pub read_page : (pages : List (Option SlotPage)) (k : ℕ) (read : Option SlotPage) (page : SlotPage) → k < length pages
    → read ≡ get_or pages k read → read ≡ Some page → blocks_in (page_in pages k) ≡ page.blocks
read_page pages k read page within is some =
    ap blocks_in (sym (get_or_default pages k read None within) ∙ sym is ∙ some)

-- no more blocks begin in a child than there are
pub number_le : (entries : List LabelledBlock) (f : ℕ) → number_in entries f ≤ length entries
number_le [] f = omega arith
number_le (e ∷ entries) f =
    omega (arith, sum_by-cons (λ e. in_one_child e.block.frame f) e entries, number_le entries f, one_at_most e.block.frame f)

-- one entry more
pub number_push : (entries : List LabelledBlock) (e : LabelledBlock) (f : ℕ)
    → number_in (entries ++ e ∷ []) f ≡ number_in entries f + in_one_child e.block.frame f
number_push entries e f = sum_by_push (λ e. in_one_child e.block.frame f) entries e

-- one entry less
pub number_less : (slots : List (Option LabelledBlock)) (i : ℕ) (e : LabelledBlock) (f : ℕ) → StandsAt slots i e
    → number_in (held (set slots i None)) f + in_one_child e.block.frame f ≡ number_in (held slots) f
number_less slots i e f stands =
    let here = λ (x : LabelledBlock). in_one_child x.block.frame f in
    let front = held (take i slots) in
    let back = held (drop (suc i) slots) in
    let was = ap (sum_by here) (held_at slots i e stands) ∙ sum_by-append here front (e ∷ back) in
    let now = ap (sum_by here) (held_without slots i) ∙ sum_by-append here front back in
    omega (arith, was, now, sum_by-cons here e back)

-- an entry is one of those in its child
pub number_some : (slots : List (Option LabelledBlock)) (i : ℕ) (e : LabelledBlock) → StandsAt slots i e
    → 0 < number_in (held slots) e.block.frame
number_some slots i e stands =
    omega (arith, number_less slots i e e.block.frame stands, here_counts e.block.frame e.block.frame refl)

-- the frames that have pages keep them, where the numbers stay
pub keeps_page : {old new : SlotPages} → KeepsPages old new → (f : ℕ) → HasPage old f → HasPage new f
keeps_page kept f page = omega (arith, kept.numbers f, page)

-- what the pages count, after the page of one child has come, changed or gone
pub number_set : (pages : List (Option SlotPage)) (here f : ℕ) (page : Option SlotPage)
    → here / 512 < length pages
    → ((blocks_in (page_in (set pages (here / 512) page) (f / 512)) ≡ blocks_in page)
    × (blocks_in (page_in pages (f / 512)) ≡ blocks_in (page_in pages (here / 512))) × (in_one_child here f ≡ 1))
    ⊎ ((blocks_in (page_in (set pages (here / 512) page) (f / 512)) ≡ blocks_in (page_in pages (f / 512)))
    × (in_one_child here f ≡ 0))
number_set pages here f page within =
    elim (cases_eq (f / 512) (here / 512)) [
      | inl same ↦
          inl (
            rw same (ap blocks_in (get_or-set_same pages (here / 512) page None within)),
            ap (λ k. blocks_in (page_in pages k)) same,
            here_counts here f same,
          )
      | inr other ↦
          inr (ap blocks_in (get_or-set_other pages (here / 512) (f / 512) page None other), elsewhere_counts_not here f other)
    ]

-- one block more in the child
pub one_more : (pages : List (Option SlotPage)) (here f : ℕ) (page : Option SlotPage) → here / 512 < length pages
    → blocks_in page ≡ blocks_in (page_in pages (here / 512)) + 1
    → blocks_in (page_in (set pages (here / 512) page) (f / 512)) ≡ blocks_in (page_in pages (f / 512)) + in_one_child here f
one_more pages here f page within more =
    elim (number_set pages here f page within) [
      | inl w ↦ omega (arith, w.0, w.1, w.2, more)
      | inr w ↦ omega (arith, w.0, w.1)
    ]

-- one block less
pub one_less : (pages : List (Option SlotPage)) (here f : ℕ) (page : Option SlotPage) → here / 512 < length pages
    → blocks_in page + 1 ≡ blocks_in (page_in pages (here / 512))
    → blocks_in (page_in (set pages (here / 512) page) (f / 512)) + in_one_child here f ≡ blocks_in (page_in pages (f / 512))
one_less pages here f page within less =
    elim (number_set pages here f page within) [
      | inl w ↦ omega (arith, w.0, w.1, w.2, less)
      | inr w ↦ omega (arith, w.0, w.1)
    ]
