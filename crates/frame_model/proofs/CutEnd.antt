-- A stop of a memory that ends inside its child and holds a range back.
use Rattle.std.proofs.Common.{◌≡◌, ⊎_elim, ℕ, zero, suc, ◌+◌, ◌<◌, ◌≤◌, List, [], ◌∷◌, Option, None, Some, Bool, true, false, cond, refl, ap, sym}
use Rattle.std.proofs.Common.{◌∙◌, arith}
use Rattle.std.specs.Prelude.{if◌then◌else◌, not, nat_eq, count_by}
use Rattle.std.specs.List.{range_with_len}
use Rattle.std.proofs.lemmas.Bool.{cases_lt}
use Rattle.std.proofs.lemmas.Bool.Decides.{nat_tests}
use Rattle.std.proofs.lemmas.List.Sums.{sum_by-cons}
use Rattle.frame_words.specs.Words.{entry_word, free_in, flag_in, lane_in, lane_put, lane_shift}
use Rattle.frame_model.specs.Key.{AreRanges, is_in_range, is_boot_frame, IsKey}
use Rattle.frame_model.specs.Block.{block, covers}
use Rattle.frame_model.specs.Words.{entry_place, tree_place, local_place, bits_place, word_count, run, entry_of, huge_of, tree_word_of}
use Rattle.frame_model.specs.Words.{tree_free_of, reserved_of, local_word_of, rest_of, bit_word_of, bit_of, set_of, IsRest, AreInRange}
use Rattle.frame_model.specs.View.{boot_blocks, fixed_ground}
use Rattle.frame_model.specs.Holding.{holders}
use Rattle.frame_model.specs.Rebuilt.{rebuilt_free, rebuilt_in_tree, rebuilt_bits, IsRebuilt}
use Rattle.frame_model.specs.Openings.{IsSealedOpening, set_blocks, huge_blocks}
use Rattle.frame_model.specs.Laws.{blocks_with}
use Rattle.frame_model.specs.Stops.{Passes, stays, stops, unsealed, known_of, flying_of, is_lost, range_blocks, Survives, EveryStopIsSurvived}
use Rattle.frame_model.specs.WorkedRuns.{one_child, full_word}
use Rattle.frame_model.specs.CutEnd.{cut_end, cut_words, cut_opens, cut_stops, HoldsSoMany, StopWithACutEnd}
use Rattle.frame_model.proofs.Bits.{ones_zero, ones_run, run-lt}
use Rattle.frame_model.proofs.HeldBack.{rebuilt_unsealed}
use Rattle.frame_model.proofs.Sets.{ones_full}
use Rattle.frame_model.proofs.WorkedRuns.Rebuilding.{no_bits, all_bits, rebuilt_by_bits, only_first}

is_sealed : true ≡ false → ⊥
is_sealed e = cc

cut_key : IsKey cut_end
unfolding AreRanges
cut_key = record {
  sizes = record {
    some_children = omega arith;
    few_children = omega arith;
    some_cores = omega arith;
    few_cores = omega arith;
    last_child = omega arith;
    inside = omega arith;
  };
  ranges = (omega arith, omega arith, omega arith, tt);
  few_ranges = omega arith;
  unsealed = λ e. absurd (is_sealed e);
}

-- words say the same of a memory of which fewer frames exist
in_range_cut : (ws : List ℕ) → AreInRange one_child ws → AreInRange cut_end ws
unfolding word_count tree_place local_place bits_place tree_word_of tree_free_of reserved_of local_word_of rest_of bit_word_of
in_range_cut ws r = record {
  count = r.count;
  anchor = r.anchor;
  entry_words = r.entry_words;
  free = r.free;
  huge = r.huge;
  absent = r.absent;
  behind = r.behind;
  tree_free = r.tree_free;
  reserved = r.reserved;
  locals = r.locals;
  rests = λ k h. is_rest (rest_of one_child ws k) (r.rests k h);
  bits = r.bits;
  between = r.between;
  beside = r.beside;
}
  where
    is_rest : (o : Option (ℕ × ℕ)) → IsRest one_child o → IsRest cut_end o
    is_rest None h = h
    is_rest (Some o) h = h

rebuilt_cut : (old new : List ℕ) → IsRebuilt one_child old new → IsRebuilt cut_end old new
unfolding word_count tree_place local_place bits_place tree_word_of tree_free_of reserved_of local_word_of rest_of
    bit_word_of set_of rebuilt_free rebuilt_in_tree rebuilt_bits
rebuilt_cut old new r = record {
  in_range = in_range_cut new r.in_range;
  huge = r.huge;
  free = r.free;
  bits = r.bits;
  trees = r.trees;
  unreserved = r.unreserved;
  resting = r.resting;
}

cut_again : IsRebuilt cut_end cut_words cut_words
cut_again =
    rebuilt_cut cut_words cut_words
    (rebuilt_by_bits 296 296 0 296 (run 8 4) 0 0 0 (run 44 20) full_word full_word full_word (omega arith)
    (omega (arith, ones_zero, ones_full, ones_run 8 4, ones_run 44 20))
    (run-lt 8 4 (omega arith)) no_bits no_bits no_bits (run-lt 44 20 (omega arith)) all_bits all_bits all_bits)

-- a test that no number of a range fails
abbrev fails : (ℕ → Bool) → ℕ → Bool
fails test x = not (test x)

not_counted : (b : Bool) → ◌≡◌ {A = ℕ} (cond (not b) 1 0) 0 → b ≡ true
not_counted true e = refl
not_counted false e = absurd (omega (arith, e))

all_pass : (test : ℕ → Bool) (a n : ℕ) → count_by (fails test) (range_with_len a n) ≡ 0
    → (x : ℕ) → a ≤ x → x < a + n → test x ≡ true
all_pass test a zero none x l h = absurd (omega arith)
all_pass test a (suc n) none x l h =
    let split = sum_by-cons (λ y. cond {A = ℕ} (fails test y) 1 0) a (range_with_len (a + 1) n) in
    ⊎_elim
    (λ here. let e : a ≡ x = omega arith in ap test (sym e) ∙ not_counted (test a) (omega (arith, split, none)))
    (λ behind. all_pass test (a + 1) n (omega (arith, split, none)) x behind (omega arith))
    (cases_lt x (a + 1))

same_if : (a b : ℕ) → nat_eq a b ≡ true → a ≡ b
same_if a b e = grind (arith, nat_tests)

-- the set frames are those that the key names, looked at one by one
abbrev is_as_named : ℕ → Bool
is_as_named x = nat_eq (bit_of cut_end cut_words x) (if is_boot_frame cut_end x then 1 else 0)

all_as_named : count_by (fails is_as_named) (range_with_len 0 512) ≡ 0
unfolding is_boot_frame is_in_range bit_of bit_word_of bits_place
all_as_named = refl

no_flag : huge_of cut_words 0 ≡ 0
unfolding huge_of entry_of entry_place flag_in lane_in lane_shift
no_flag = refl

cut_opening : IsSealedOpening cut_end cut_words
cut_opening = record {
  sealed = refl;
  exact = cut_again;
  unflagged = only_first (λ i. huge_of cut_words i ≡ 0) no_flag;
  boot_frames = λ x h. same_if (bit_of cut_end cut_words x) (if is_boot_frame cut_end x then 1 else 0)
      (all_pass is_as_named 0 512 all_as_named x (omega arith) (omega arith));
}

cut_passes : Passes cut_opens cut_stops
cut_passes = stops cut_opens cut_stops cut_words (rebuilt_unsealed cut_end cut_words cut_words cut_again) (stays cut_stops)

cut_holds_first : HoldsSoMany cut_opens 216 [] 0
unfolding is_lost known_of flying_of range_blocks is_boot_frame is_in_range holders covers blocks_with fixed_ground
    boot_blocks set_blocks huge_blocks bit_of huge_of entry_of bit_word_of entry_place bits_place tree_place
    local_place word_count free_in flag_in lane_in lane_put lane_shift entry_word
cut_holds_first = record { named_now = refl; known_now = refl; lost_now = refl }

cut_holds : HoldsSoMany cut_stops 212 (block 8 0 ∷ block 9 0 ∷ block 10 0 ∷ block 11 0 ∷ []) 0
unfolding is_lost known_of flying_of range_blocks is_boot_frame is_in_range holders covers blocks_with fixed_ground
    boot_blocks set_blocks huge_blocks bit_of huge_of entry_of bit_word_of entry_place bits_place tree_place
    local_place word_count free_in flag_in lane_in lane_put lane_shift entry_word
cut_holds = record { named_now = refl; known_now = refl; lost_now = refl }

in_the_range : (x : ℕ) → 8 ≤ x → x < 12 → is_boot_frame cut_end x ≡ true
unfolding is_boot_frame is_in_range
in_the_range x l h = grind (arith, nat_tests)

past_before : (x : ℕ) → 300 ≤ x → is_boot_frame cut_end x ≡ true
unfolding is_boot_frame is_in_range
past_before x l = grind (arith, nat_tests)

past_after : (x : ℕ) → 300 ≤ x → is_boot_frame (unsealed cut_end) x ≡ true
unfolding is_boot_frame is_in_range
past_after x l = grind (arith, nat_tests)

pub stop_with_a_cut_end : EveryStopIsSurvived → StopWithACutEnd
stop_with_a_cut_end survived =
    let opens : Survives 1 cut_opens = survived cut_end cut_words 1 cut_opens cut_key (omega arith) cut_opening (stays cut_opens) in
    let lives : Survives 1 cut_stops = survived cut_end cut_words 1 cut_stops cut_key (omega arith) cut_opening cut_passes in
    record {
      is_key = cut_key;
      opening = cut_opening;
      holds_first = cut_holds_first;
      range_first = λ x l h. opens.known.named_held x (omega arith) (in_the_range x l h);
      end_first = λ x l h. opens.known.named_held x (omega arith) (past_before x l);
      passes = cut_passes;
      holds = cut_holds;
      end = λ x l h. lives.known.named_held x (omega arith) (past_after x l);
      survives = lives;
    }
