-- An outcome of two cores in numerals, and why others beside it are none.
use Rattle.std.proofs.Common.{◌≡◌, ◌≤◌, ◌<◌, ◌+◌, ◌∙◌, ℕ, [], ◌∷◌, ◌++◌, Bool, true, false, zero, suc}
use Rattle.std.proofs.Common.{refl, sym, ap, arith, length, ⊎_elim}
use Rattle.std.specs.Prelude.{nat_eq, ◌&&◌}
use Rattle.std.specs.List.{list_all, range_with_len}
use Rattle.std.proofs.lemmas.Bool.{cases_eq}
use Rattle.std.proofs.lemmas.Bool.Decides.{nat_tests}
use Rattle.std.proofs.lemmas.Grind.{common_steps}
use Rattle.std.proofs.lemmas.List.Elements.{All-nil}
use Rattle.frame_model.specs.Block.{IsBlock, block, covers}
use Rattle.frame_model.specs.Holding.{IsFreeBlock, IsHolding, holders}
use Rattle.frame_model.specs.Key.{is_boot_frame, sealed_key}
use Rattle.frame_model.specs.Report.{held_at}
use Rattle.frame_model.specs.View.{boot_blocks}
use Rattle.frame_model.specs.Words.{bit_of, bit_word_of, bits_place, huge_of, entry_of, entry_place}
use Rattle.frame_model.specs.declared.block.FrameBlock.{FrameBlock}
use Rattle.frame_model.specs.declared.key.Key.{Key}
use Rattle.frame_words.specs.Words.{flag_in, lane_in, lane_shift}
use Rattle.held_blocks.specs.Desk.{blocks_of, GivesFirst, TakesUnder}
use Rattle.held_blocks.specs.LabelledBlocks.{IsUnder, TakesFirst}
use Rattle.held_blocks.specs.declared.labelled_block.LabelledBlock.{LabelledBlock}
use Rattle.held_blocks.proofs.HeldLemmas.{more_lawful}
use Rattle.llfree_trace.specs.Outcome.{DeskStep, Moves, Runs, core_list}
use Rattle.llfree_trace.specs.WorkedOutcome.{TwoRoundsHappen, NoneGivesTheNewer, NoneIsLeftOut, NoneTakesTheOthers, NoOtherIsHeld}
use Rattle.llfree_trace.specs.WorkedOutcome.{TwoCoresAreWorkedOut, a, image_with, two_rounds}
use Rattle.frame_words.specs.declared.geometry.Geometry.{Geometry}
use Rattle.llfree_trace.specs.WrongRuns.{answered_from}
use Rattle.llfree_trace.proofs.WrongEnds.{other_frames, other_is_answered}
use Rattle.llfree_trace.proofs.Running.{none_lawful}
use Rattle.llfree_trace.proofs.WrongRecords.{first_is_one, head_first}
use Rattle.trace_text.specs.Trace.{core_count, ranges_in}

-- the memory
abbrev memory : Geometry
memory = record {
  children = 1;
  cores = 2;
  frames = 512;
  some_children = omega arith;
  few_children = omega arith;
  some_cores = omega arith;
  few_cores = omega arith;
  last_child_begun = omega arith;
  frames_in_children = omega arith;
}

abbrev key : Key
key = sealed_key memory []

abbrev entry : FrameBlock → LabelledBlock
entry b = record { label = a; block = b }

-- a test that each number of a range passes
both : (p q : Bool) → (p && q) ≡ true → (p ≡ true) × (q ≡ true)
both true q e = (refl, e)
both false q e = absurd (let f : false ≡ true = e in cc)

checked : (p : ℕ → Bool) (from n : ℕ) → list_all p (range_with_len from n) ≡ true → (i : ℕ) → from ≤ i → i < from + n
    → p i ≡ true
checked p from zero e i l h = absurd (omega arith)
checked p from (suc n) e i l h =
    let t = both (p from) (list_all p (range_with_len (from + 1) n)) e in
    ⊎_elim (λ s. ap p (sym s) ∙ t.0) (λ ne. checked p (from + 1) n t.1 i (omega arith) (omega arith)) (cases_eq from i)

is_equal : (m n : ℕ) → nat_eq m n ≡ true → m ≡ n
is_equal m n e = grind (arith, nat_tests)

none_is_boot : boot_blocks key ≡ []
unfolding boot_blocks is_boot_frame
none_is_boot = refl

-- frame 0 alone is held
holds_one : (x : ℕ) → x < 512 → held_at key (image_with memory 1).words x ≡ holders x (block 0 0 ∷ [])
unfolding held_at bit_of bit_word_of bits_place huge_of entry_of entry_place flag_in lane_in lane_shift holders covers
holds_one x below =
    is_equal _ _ (checked (λ i. nat_eq (held_at key (image_with memory 1).words i) (holders i (block 0 0 ∷ []))) 0 512 refl x (omega arith) below)

-- Holdings.

is_first : IsBlock key (block 0 0)
is_first = record { order = omega arith; aligned = refl; inside = omega arith }

is_pair : IsBlock key (block 2 1)
is_pair = record { order = omega arith; aligned = refl; inside = omega arith }

free_of_none : (b : FrameBlock) → IsFreeBlock [] b
unfolding holders
free_of_none b x h = refl

apart : IsFreeBlock (block 2 1 ∷ []) (block 0 0)
unfolding holders covers
apart x h = grind (arith, nat_tests, common_steps)

holds_first : IsHolding key (block 0 0 ∷ [])
holds_first = more_lawful key [] (entry (block 0 0)) (none_lawful key) is_first (free_of_none (block 0 0))

holds_pair : IsHolding key (block 2 1 ∷ [])
holds_pair = more_lawful key [] (entry (block 2 1)) (none_lawful key) is_pair (free_of_none (block 2 1))

holds_both : IsHolding key (block 2 1 ∷ block 0 0 ∷ [])
holds_both = more_lawful key (entry (block 2 1) ∷ []) (entry (block 0 0)) holds_pair is_first apart

happens : TwoRoundsHappen memory
unfolding Runs DeskStep TakesUnder Moves GivesFirst ranges_in
happens =
    let first = entry (block 0 0) in
    let pair = entry (block 2 1) in
    record {
      lists = [] ∷ (first ∷ []) ∷ [];
      runs = (
        refl,
        refl,
        first ∷ [],
        (
          record { is_block = is_first; has_order = refl; was_free = free_of_none (block 0 0); last = refl },
          rw none_is_boot (free_of_none (block 0 0)),
        ),
        holds_first,
        (
          refl,
          refl,
          pair ∷ [],
          (
            record { is_block = is_pair; has_order = refl; was_free = free_of_none (block 2 1); last = refl },
            rw none_is_boot (free_of_none (block 2 1)),
          ),
          holds_pair,
          (
            refl,
            refl,
            [] ∷ (pair ∷ first ∷ []) ∷ [],
            record { entry = first; left = []; is_block = refl; leaves = head_first a 0 0 []; goes_last = refl },
            none_lawful key,
            holds_both,
            (refl, refl, first ∷ [], (pair, refl, head_first a 2 1 (first ∷ [])), holds_first, refl),
          ),
        ),
      );
      disjoint = holds_first;
      holds = λ x below. rw none_is_boot (holds_one x below);
    }

none_takes : NoneTakesTheOthers memory
unfolding Runs DeskStep TakesUnder Moves holders covers
none_takes bits told =
    let start = told.runs in
    let rest = start.5 in
    let second : rest.2 ≡ entry (block 0 1) ∷ [] = rest.3.0.last in
    let after = rest.5 in
    let move = after.3 in
    let here : core_list after.2 1 ≡ rest.2 ++ move.entry ∷ [] = ap (λ l. core_list l 1) move.goes_last in
    let two = ap (λ l. holders 0 (blocks_of (l ++ move.entry ∷ []))) second ∙ ap (λ b. holders 0 (block 0 1 ∷ b ∷ [])) move.is_block in
    let held = ap (λ l. holders 0 (blocks_of l)) here ∙ two in
    omega (arith, after.5.disjoint 0, held)

none_gives : NoneGivesTheNewer memory
unfolding Runs DeskStep TakesUnder Moves GivesFirst
none_gives bits told =
    let start = told.runs in
    let rest = start.5 in
    let second : rest.2 ≡ entry (block 2 1) ∷ [] = rest.3.0.last in
    let after = rest.5 in
    let move = after.3 in
    let here : core_list after.2 1 ≡ entry (block 2 1) ∷ move.entry ∷ [] =
    ap (λ l. core_list l 1) move.goes_last ∙ ap (λ l. l ++ move.entry ∷ []) second in
    let give = after.6.3 in
    let oldest : TakesFirst (IsUnder a) (core_list after.2 1) (entry (block 2 1)) (move.entry ∷ []) =
    record { front = []; back = move.entry ∷ []; was = here; stays = refl; holds = refl; first = All-nil (λ x. ¬ IsUnder a x) } in
    let one = first_is_one (IsUnder a) (core_list after.2 1) (entry (block 2 1)) give.0 (move.entry ∷ []) after.6.2 oldest give.2 in
    let frame : 2 ≡ 0 = ap (λ e. e.block.frame) one ∙ ap (λ b. b.frame) give.1 in
    absurd (omega (arith, frame))

none_is_left : NoneIsLeftOut memory
unfolding answered_from
none_is_left bits = other_is_answered false two_rounds _ (image_with memory bits) (λ e. let n : 3 ≡ 4 = ap length e in absurd (omega (arith, n)))

few : core_count two_rounds ≤ 2
unfolding core_count
few = omega arith

no_other : NoOtherIsHeld memory
unfolding held_at bit_of bit_word_of bits_place huge_of entry_of entry_place flag_in lane_in lane_shift holders covers
    boot_blocks is_boot_frame ranges_in
no_other = (
  other_frames false two_rounds _ (image_with memory 0) 0 few (omega arith) (λ e. let n : 0 ≡ 1 = e in absurd (omega (arith, n))),
  other_frames false two_rounds _ (image_with memory 13) 2 few (omega arith) (λ e. let n : 2 ≡ 1 = e in absurd (omega (arith, n))),
)

pub worked_out : TwoCoresAreWorkedOut
worked_out = (
  memory,
  record {
    children = refl;
    cores = refl;
    frames = refl;
    happens = happens;
    taken = none_takes;
    given = none_gives;
    left_out = none_is_left;
    held = no_other;
  },
)
