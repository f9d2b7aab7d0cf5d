-- The run begins at an opening, and its events are of every form.
use Rattle.std.proofs.Common.{◌≡◌, ⊎_elim, ℕ, zero, suc, ◌+◌, ◌*◌, ◌^◌, ◌<◌, ◌≤◌, List, [], ◌∷◌, length, get_or, None, Bool, true, false, refl}
use Rattle.std.proofs.Common.{ap, sym, subst, ◌∙◌, arith}
use Rattle.std.specs.Prelude.{nat_eq, nat_lt, ◌&&◌}
use Rattle.std.specs.List.{list_all, range_with_len}
use Rattle.std.proofs.lemmas.Bool.{cases_eq}
use Rattle.std.proofs.lemmas.Bool.Decides.{nat_tests}
use Rattle.frame_words.specs.Words.{free_in, flag_in, lane_in, lane_shift, rest_in, local_word}
use Rattle.frame_model.specs.Block.{block}
use Rattle.frame_model.specs.Key.{IsKey, AreRanges}
use Rattle.frame_model.specs.Words.{entry_place, tree_place, local_place, bits_place, word_count, entry_of, free_of, huge_of, tree_word_of}
use Rattle.frame_model.specs.Words.{tree_free_of, reserved_of, local_word_of, rest_of, bit_word_of, bit_of, set_of, IsRest, AreInRange}
use Rattle.frame_model.specs.Rebuilt.{rebuilt_free, rebuilt_in_tree, rebuilt_bits, IsRebuilt}
use Rattle.frame_model.specs.Openings.{set_blocks, huge_blocks, held_blocks, reopener, opened}
use Rattle.frame_model.specs.Laws.{Happening, AreOfEveryForm, charging, refunding, claiming, claiming_singles, releasing, taking_huge}
use Rattle.frame_model.specs.Laws.{giving_huge, paying_tree, refunding_tree, reserving_tree, swapping_local}
use Rattle.frame_model.specs.Laws.{unreserving_tree, paying_local, refunding_local, collecting, filling_word}
use Rattle.frame_model.specs.Laws.{dropping_flag, parting_share, handing_out, recalling, parting_ground, adopting}
use Rattle.frame_model.specs.Laws.{joining_idle, handing_in, keeping_in, loading, losing, losing_at_will}
use Rattle.frame_model.specs.Events.{State, LeadsTo}
use Rattle.frame_model.proofs.Sample.Pieces.{key, words}
use Rattle.frame_model.proofs.Sample.Steps.{events, first, last, sample_run}

-- a test that each number of a range passes
both : (a b : Bool) → (a && b) ≡ true → (a ≡ true) × (b ≡ true)
both true b e = (refl, e)
both false b e = absurd (let f : false ≡ true = e in cc)

checked : (p : ℕ → Bool) (a n : ℕ) → list_all p (range_with_len a n) ≡ true → (i : ℕ) → a ≤ i → i < a + n
    → p i ≡ true
checked p a zero e i l h = absurd (omega arith)
checked p a (suc n) e i l h =
    let t = both (p a) (list_all p (range_with_len (a + 1) n)) e in
    ⊎_elim (λ s. ap p (sym s) ∙ t.0) (λ ne. checked p (a + 1) n t.1 i (omega arith) (omega arith)) (cases_eq a i)

is_equal : (m n : ℕ) → nat_eq m n ≡ true → m ≡ n
is_equal m n e = grind (arith, nat_tests)

is_below : (m n : ℕ) → nat_lt m n ≡ true → m < n
is_below m n e = grind (arith, nat_tests)

abbrev ws : List ℕ
ws = words 32768 0 0 (0 ∷ 0 ∷ 0 ∷ 0 ∷ 0 ∷ 0 ∷ 0 ∷ 0 ∷ [])

-- each number of a range at which two functions agree
same : (f g : ℕ → ℕ) (a n : ℕ) → list_all (λ i. nat_eq (f i) (g i)) (range_with_len a n) ≡ true → (i : ℕ)
    → a ≤ i → i < a + n → f i ≡ g i
same f g a n e i l h = is_equal (f i) (g i) (checked (λ j. nat_eq (f j) (g j)) a n e i l h)

in_range : AreInRange key ws
unfolding word_count entry_place tree_place local_place bits_place entry_of free_of huge_of tree_word_of tree_free_of
    reserved_of local_word_of rest_of bit_word_of free_in flag_in lane_in lane_shift rest_in local_word
in_range = record {
  count = refl;
  anchor = λ i h. same (λ j. get_or ws j 0) (λ j. 0) 0 8 refl i (omega arith) (omega arith);
  entry_words = λ c h. is_below (get_or ws (entry_place c) 0) (2 ^ 64)
      (checked (λ d. nat_lt (get_or ws (entry_place d) 0) (2 ^ 64)) 0 8 refl c (omega arith) (omega arith));
  free = λ c h. omega (arith, same (free_of ws) (λ d. 0) 0 1 refl c (omega arith) (omega arith));
  huge = λ c h. omega (arith, same (huge_of ws) (λ d. 1) 0 1 refl c (omega arith) (omega arith));
  absent = λ c l h. same (entry_of ws) (λ d. 0) 1 7 refl c (omega arith) (omega arith);
  behind = λ t i h l m. empty t i h l m;
  tree_free = λ t h. omega (arith, same (tree_free_of key ws) (λ u. 0) 0 1 refl t (omega arith) (omega arith));
  reserved = λ t h. omega (arith, same (reserved_of key ws) (λ u. 0) 0 1 refl t (omega arith) (omega arith));
  locals = λ k h. one_core k h;
  rests = λ k h. no_rest k h;
  bits = λ w h. is_below (bit_word_of key ws w) (2 ^ 64)
      (checked (λ v. nat_lt (bit_word_of key ws v) (2 ^ 64)) 0 8 refl w (omega arith) (omega arith));
  between = λ i h. same (λ j. get_or ws (tree_place key 1 + j) 0) (λ j. 0) 0 7 refl i (omega arith) (omega arith);
  beside = λ k i h l m. alone k i h l m;
}
  where
    one_core : (k : ℕ) → k < 1 → local_word_of key ws k ≡ local_word (rest_of key ws k)
    one_core zero h = refl
    one_core (suc k) h = absurd (omega arith)

    no_rest : (k : ℕ) → k < 1 → IsRest key (rest_of key ws k)
    no_rest zero h = tt
    no_rest (suc k) h = absurd (omega arith)

    empty : (t i : ℕ) → t < 1 → 1 < i → i < 8 → get_or ws (entry_place (8 * t) + i) 0 ≡ 0
    empty zero i h l m = same (λ j. get_or ws (entry_place 0 + j) 0) (λ j. 0) 2 6 refl i (omega arith) (omega arith)
    empty (suc t) i h l m = absurd (omega arith)

    alone : (k i : ℕ) → k < 1 → 0 < i → i < 8 → get_or ws (local_place key k + i) 0 ≡ 0
    alone zero i h l m = same (λ j. get_or ws (local_place key 0 + j) 0) (λ j. 0) 1 7 refl i (omega arith) (omega arith)
    alone (suc k) i h l m = absurd (omega arith)

exact : IsRebuilt key ws ws
unfolding word_count entry_place tree_place local_place bits_place entry_of free_of huge_of tree_word_of tree_free_of
    reserved_of local_word_of rest_of bit_word_of set_of free_in flag_in lane_in lane_shift rest_in local_word
    rebuilt_free rebuilt_in_tree rebuilt_bits
exact = record {
  in_range = in_range;
  huge = λ c h. refl;
  free = λ c h. same (free_of ws) (rebuilt_free key ws) 0 1 refl c (omega arith) (omega arith);
  bits = λ w h. same (bit_word_of key ws) (rebuilt_bits key ws) 0 8 refl w (omega arith) (omega arith);
  trees = λ t h. same (tree_free_of key ws) (rebuilt_in_tree key ws) 0 1 refl t (omega arith) (omega arith);
  unreserved = λ t h. same (reserved_of key ws) (λ u. 0) 0 1 refl t (omega arith) (omega arith);
  resting = λ k h. none_rests k h;
}
  where
    none_rests : (k : ℕ) → k < 1 → rest_of key ws k ≡ None
    none_rests zero h = refl
    none_rests (suc k) h = absurd (omega arith)

held : held_blocks key ws ≡ block 0 9 ∷ []
unfolding set_blocks huge_blocks bit_of huge_of entry_of bit_word_of entry_place bits_place free_in flag_in lane_in lane_shift
held = refl

starts : opened ws (reopener key ws 2) ≡ first
unfolding set_blocks huge_blocks bit_of huge_of entry_of bit_word_of entry_place bits_place free_in flag_in lane_in lane_shift
starts = refl

is_key : IsKey key
unfolding AreRanges
is_key = record {
  sizes = record {
    some_children = omega arith;
    few_children = omega arith;
    some_cores = omega arith;
    few_cores = omega arith;
    last_child = omega arith;
    inside = omega arith;
  };
  ranges = tt;
  few_ranges = omega arith;
  unsealed = λ e. refl;
}

-- where in the run each form comes first
every_form : AreOfEveryForm events
every_form charging = (47, omega arith, refl)
every_form refunding = (26, omega arith, refl)
every_form claiming = (51, omega arith, refl)
every_form claiming_singles = (49, omega arith, refl)
every_form releasing = (25, omega arith, refl)
every_form taking_huge = (11, omega arith, refl)
every_form giving_huge = (6, omega arith, refl)
every_form paying_tree = (9, omega arith, refl)
every_form refunding_tree = (7, omega arith, refl)
every_form reserving_tree = (30, omega arith, refl)
every_form swapping_local = (36, omega arith, refl)
every_form unreserving_tree = (33, omega arith, refl)
every_form paying_local = (38, omega arith, refl)
every_form refunding_local = (40, omega arith, refl)
every_form collecting = (43, omega arith, refl)
every_form filling_word = (12, omega arith, refl)
every_form dropping_flag = (20, omega arith, refl)
every_form parting_share = (1, omega arith, refl)
every_form handing_out = (21, omega arith, refl)
every_form recalling = (23, omega arith, refl)
every_form parting_ground = (0, omega arith, refl)
every_form adopting = (4, omega arith, refl)
every_form joining_idle = (2, omega arith, refl)
every_form handing_in = (5, omega arith, refl)
every_form keeping_in = (22, omega arith, refl)
every_form loading = (8, omega arith, refl)
every_form losing = (31, omega arith, refl)
every_form losing_at_will = (32, omega arith, refl)

pub happening : Happening
happening = record {
  key = key;
  words = ws;
  shares = 2;
  events = events;
  end = last;
  is_key = is_key;
  some_shares = omega arith;
  opening = record { unsealed = refl; exact = exact; past_end = λ x p h. absurd (omega arith) };
  some_held = omega (arith, ap length held);
  happens = subst (λ (s : State). LeadsTo key s events last) (sym starts) sample_run;
  every_form = every_form;
}
