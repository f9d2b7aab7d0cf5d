-- How a store stays fit.
use Rattle.std.proofs.Common.{ℕ, ◌+◌, ◌≡◌, ◌≢◌, inl, inr, true, List, [], ◌∷◌, ◌++◌, length}
use Rattle.std.proofs.Common.{get_or, set, Option, Some, None, sym, ap, ◌∙◌, refl, arith}
use Rattle.std.specs.Option.{is_some}
use Rattle.std.proofs.lemmas.Bool.{both_ways}
use Rattle.std.proofs.lemmas.List.{get_or_append_left, get_or_push, length_push}
use Rattle.held_blocks.specs.declared.labelled_block.LabelledBlock.{LabelledBlock}
use Rattle.held_blocks.specs.declared.label_chains.LabelChains.{LabelChains}
use Rattle.held_blocks.specs.declared.slot_pages.SlotPages.{SlotPages}
use Rattle.held_blocks.specs.Label.{is_label, packed}
use Rattle.held_blocks.specs.LabelChains.{Chained, IsFirstLive, NoneLive, is_live}
use Rattle.held_blocks.specs.SlotPages.{HasPage, KeepsSlots, CountsEachChild, counted_at, number_in, in_one_child, slot_at}
use Rattle.held_blocks.specs.LabelledBlocks.{IsUnder, IsTheBlock, BeginsAt, HasNone}
use Rattle.held_blocks.specs.Slots.{held, FindsEntries, IsFound, StandsAt, IsFirstAt, HoldsAt}
use Rattle.held_blocks.specs.Slots.{KnowsEachLabel, CanMove}
use Rattle.held_blocks.proofs.LabelLemmas.{same_label}
use Rattle.held_blocks.proofs.ChainLists.{chained_less}
use Rattle.held_blocks.proofs.PageLemmas.{number_less, number_some}
use Rattle.held_blocks.proofs.Slots.{held_push, held_less, none_held, all_at, below_from_some}
use Rattle.held_blocks.proofs.Slots.{some_from, still, old_or_new}

module _ {slots : List (Option LabelledBlock)} {chains : LabelChains} {pages : SlotPages} {live : ℕ} (fits : FindsEntries slots chains pages live) where
  -- the same entries, found in perhaps other ways
  pub fits_same : {slots' : List (Option LabelledBlock)} {chains' : LabelChains} {pages' : SlotPages}
      → slots' ≡ slots → Chained chains' slots → chains'.keys.items ≡ chains.keys.items
      → KeepsSlots pages pages' → FindsEntries slots' chains' pages' live
  fits_same same chained keys kept = record {
    chained = rw same chained;
    each = λ i e h.
        let was = fits.each i e (rw same at h) in
        record {
          lawful = was.lawful;
          key = ap (λ l. get_or l i 0) keys ∙ was.key;
          page = kept.pages e.block.frame was.page;
          slot = kept.slots e.block.frame was.page ∙ was.slot;
        };
    count = rw same fits.count;
  }

  -- an entry leaves, and its page counts one less
  pub fits_take : {slots' : List (Option LabelledBlock)} {pages' : SlotPages} {n : ℕ} (i : ℕ) (e : LabelledBlock)
      → StandsAt slots i e → slots' ≡ set slots i None → n + 1 ≡ live → CountsEachChild pages (held slots)
      → ((f : ℕ) → counted_at pages' f + in_one_child e.block.frame f ≡ counted_at pages f)
      → ((f : ℕ) → HasPage pages' f → slot_at pages' f ≡ slot_at pages f) → FindsEntries slots' chains pages' n
  fits_take {slots' = slots'} {pages' = pages'} i e stands less one_less counts numbers kept = record {
    chained = rw less (chained_less chains slots i fits.chained);
    each = λ j f h.
        let was = fits.each j f (still slots i j f (rw less at h)) in
        let frame = f.block.frame in
        let page : HasPage pages' frame =
        omega (arith, number_some slots' j f h, ap (λ l. number_in (held l) frame) less, number_less slots i e frame stands, counts frame, numbers frame) in
        record {
          lawful = was.lawful;
          key = was.key;
          page = page;
          slot = kept frame page ∙ was.slot;
        };
    count = rw less (omega (arith, held_less slots i e stands, fits.count));
  }

  -- one more entry
  pub fits_push : {slots' : List (Option LabelledBlock)} {chains' : LabelChains} {pages' : SlotPages}
      → (x : LabelledBlock) → is_label x.label ≡ true → slots' ≡ slots ++ Some x ∷ []
      → Chained chains' (slots ++ Some x ∷ [])
      → chains'.keys.items ≡ chains.keys.items ++ packed x.label ∷ []
      → HasPage pages' x.block.frame → slot_at pages' x.block.frame ≡ length slots
      → ((f : ℕ) → HasPage pages f → HasPage pages' f)
      → ((f : ℕ) → f ≢ x.block.frame → HasPage pages f → slot_at pages' f ≡ slot_at pages f)
      → HasNone (BeginsAt x.block.frame) (held slots) → FindsEntries slots' chains' pages' (live + 1)
  fits_push {chains' = chains'} {pages' = pages'} x lawful more chained keys page here kept others apart = record {
    chained = rw more chained;
    each = λ j e h.
        elim (old_or_new slots x j e (rw more at h)) [
          | inl w ↦
              let was = fits.each j e w.1 in
              record {
                lawful = was.lawful;
                key =
                    ap (λ l. get_or l j 0) keys
                    ∙ get_or_append_left chains.keys.items (packed x.label ∷ []) 0 j (omega (arith, w.0, fits.chained.key_len))
                    ∙ was.key;
                page = kept e.block.frame was.page;
                slot = others e.block.frame (all_at (λ f. ¬ BeginsAt x.block.frame f) slots j e apart w.1) was.page ∙ was.slot;
              }
          | inr w ↦
              let new_one : IsFound chains' pages' j x = record {
                lawful = lawful;
                key = ap (λ l. get_or l j 0) keys ∙ get_or_push chains.keys.items (packed x.label) 0 j (fits.chained.key_len ∙ sym w.0);
                page = page;
                slot = here ∙ sym w.0;
              } in rw w.1 at new_one
        ];
    count = rw (more, held_push) (omega (arith, length_push (held slots) x, fits.count));
  }

  -- entries under a label live in places with its number
  under_label : (label : List ℕ) (j : ℕ) (f : LabelledBlock) → StandsAt slots j f
      → IsUnder label f
      → (get_or chains.keys.items j 0 ≡ packed label) × (is_live slots j ≡ true)
  under_label label j f stands has = ((fits.each j f stands).key ∙ ap packed has, ap is_some stands)

  pub none_under : (label : List ℕ)
      → NoneLive chains.keys.items slots (packed label)
      → HasNone (IsUnder label) (held slots)
  none_under label none =
      none_held (IsUnder label) slots (λ j f stands has.
      let w = under_label label j f stands has in
      both_ways (is_live slots j) (none j (below_from_some slots j f stands) w.0) w.1)

  pub first_under : (label : List ℕ) (i : ℕ) → is_label label ≡ true
      → IsFirstLive chains.keys.items slots (packed label) i
      → IsFirstAt (IsUnder label) slots i
  first_under label i lawful found =
      let e = some_from (get_or slots i None) found.live in
      let was = fits.each i e.0 e.1 in
      record {
        entry = e.0;
        stands = e.1;
        holds = same_label e.0.label label was.lawful lawful (sym was.key ∙ found.here);
        before = λ j f below stands has.
            let w = under_label label j f stands has in both_ways (is_live slots j) (found.before j below w.0) w.1;
      }

  -- an entry that begins at a frame stands where the table says
  at_frame : (frame j : ℕ) (f : LabelledBlock) → StandsAt slots j f → f.block.frame ≡ frame
      → HasPage pages frame × (slot_at pages frame ≡ j)
  at_frame frame j f stands same =
      let was = fits.each j f stands in
      (rw same at was.page, rw same at was.slot)

  pub none_paged : (frame : ℕ) → ¬ HasPage pages frame
      → HasNone (BeginsAt frame) (held slots)
  none_paged frame none =
      none_held (BeginsAt frame) slots (λ j f stands same. none (at_frame frame j f stands same).0)

  -- the table leads to no entry that begins at the frame
  pub none_at : (frame place : ℕ) → place ≡ slot_at pages frame
      → ((f : LabelledBlock) → StandsAt slots place f → f.block.frame ≢ frame)
      → HasNone (BeginsAt frame) (held slots)
  none_at frame place at none =
      none_held (BeginsAt frame) slots (λ j f stands same.
      let one : place ≡ j = at ∙ (at_frame frame j f stands same).1 in
      none f (rw (← one) at stands) same)

  -- no two entries begin at one frame
  pub frames_apart : (i j : ℕ) (e f : LabelledBlock) → StandsAt slots i e
      → StandsAt slots j f → e.block.frame ≡ f.block.frame → i ≡ j
  frames_apart i j e f x y same = sym (at_frame f.block.frame i e x same).1 ∙ (at_frame f.block.frame j f y refl).1

  pub first_exact : (frame order place : ℕ) (e : LabelledBlock) → StandsAt slots place e
      → IsTheBlock frame order e → IsFirstAt (IsTheBlock frame order) slots place
  first_exact frame order place e stands is = record {
    entry = e;
    stands = stands;
    holds = is;
    before = λ j f below there same.
        let one = frames_apart j place f e there stands (same.0 ∙ sym is.0) in absurd (omega arith);
  }

  -- the entry that begins at the frame has another order
  pub none_exact : (frame order place : ℕ) (e : LabelledBlock)
      → StandsAt slots place e → e.block.frame ≡ frame
      → e.block.order ≢ order → HasNone (IsTheBlock frame order) (held slots)
  none_exact frame order place e stands here other =
      none_held (IsTheBlock frame order) slots (λ j f there is.
      let one = frames_apart j place f e there stands (is.0 ∙ sym here) in
      let again : StandsAt slots place f = rw one at there in
      let same : e ≡ f = cc in other (ap (λ x. x.block.order) same ∙ is.1))

  -- an entry begins at the frame
  pub some_begins : (frame place : ℕ) → HoldsAt (BeginsAt frame) slots place
      → ¬ HasNone (BeginsAt frame) (held slots)
  some_begins frame place h none =
      all_at (λ f. ¬ BeginsAt frame f) slots place h.entry none h.stands h.holds

  -- the entries can move to where their labels are known, and the pages are the same
  pub can_move : {moved : List (Option LabelledBlock)} {chains' : LabelChains} {pages' : SlotPages}
      → moved ≡ slots → pages' ≡ pages → KnowsEachLabel slots chains' → CanMove moved chains' pages'
  can_move same kept knows = record {
    knows = λ i e h. knows i e (rw same at h);
    pages = λ i e h. let p = (fits.each i e (rw same at h)).page in rw kept p;
    apart = λ i j e f x y. frames_apart i j e f (rw same at x) (rw same at y);
  }

-- pages that stay as they are
pub keeps_slots : {pages : SlotPages} → KeepsSlots pages pages
keeps_slots = record { pages = λ f h. h; slots = λ f h. refl }
