-- Bits that are set run by run and range by range, in words that are not counted yet.
use Rattle.std.proofs.Common.{◌≡◌, ⊎_elim, ℕ, zero, suc, ◌+◌, ◌-◌, ◌*◌, ◌/◌, ◌%◌, ◌<◌, ◌≤◌, List, [], ◌∷◌, length, get_or, take, set, true}
use Rattle.std.proofs.Common.{false, refl, ap, sym, ◌∙◌, arith}
use Rattle.std.specs.Prelude.{Bool, if◌then◌else◌, ◌||◌, nat_le}
use Rattle.std.specs.List.{list_any}
use Rattle.std.specs.Int.{bit_at}
use Rattle.std.specs.Int.Bits.{bit_or}
use Rattle.std.proofs.lemmas.Bool.{cases_eq, cases_lt}
use Rattle.std.proofs.lemmas.Bool.Decides.{nat_tests}
use Rattle.std.proofs.lemmas.Nat.Bits.{bit_at_or, bit_at-lt}
use Rattle.std.proofs.lemmas.List.Folds.{list_any_more}
use Rattle.frame_model.specs.declared.key.Key.{Key}
use Rattle.frame_model.specs.Key.{frame_count, is_in_range, is_boot_frame, AreRanges}
use Rattle.frame_model.specs.Words.{bits_place, run, bit_of, bit_word_of, with_bits, AreInRange}
use Rattle.frame_core.specs.Image.{SetsRun, SetsRanges}
use Rattle.frame_model.proofs.Bits.{bit_at_run_inside, bit_at_run_below, bit_at_run_above}
use Rattle.frame_model.proofs.Words.{bits_written}
use Rattle.frame_model.proofs.Steps.Shared.{bit_is}

-- a run of ones set in one bit word: the frames of the run are set, and each other is as before
pub run_set : (key : Key) (ws : List ℕ) (w low high : ℕ) → AreInRange key ws → w < 8 * key.children
    → low ≤ high → high ≤ 64
    → SetsRun key (64 * w + low) (64 * w + high) ws (with_bits key ws w (bit_or (bit_word_of key ws w) (run low (high - low))))
run_set key ws w low high r h order inside =
    let old : ℕ = bit_word_of key ws w in
    let mask : ℕ = run low (high - low) in
    let b = bits_written key ws w (bit_or old mask) r h in
    let here : (x : ℕ) → x / 64 ≡ w → bit_at mask (x % 64) ≡ 0
    → bit_of key (with_bits key ws w (bit_or old mask)) x ≡ bit_of key ws x =
    λ x s clear. omega (arith, b.bits_here x s, bit_at_or old mask (x % 64), bit_is key ws x w s, clear) in
    record {
      inside = λ x l g.
          let s : x / 64 ≡ w = omega arith in
          omega (
            arith,
            b.bits_here x s,
            bit_at_or old mask (x % 64),
            bit_at_run_inside low (high - low) (x % 64) (omega arith) (omega arith),
            bit_at-lt old (x % 64),
          );
      below = λ x l. ⊎_elim
          (λ s. here x s (bit_at_run_below low (high - low) (x % 64) (omega arith)))
          (b.bits_else x)
          (cases_eq (x / 64) w);
      above = λ x g. ⊎_elim
          (λ s. here x s (bit_at_run_above low (high - low) (x % 64) (omega arith)))
          (b.bits_else x)
          (cases_eq (x / 64) w);
    }

-- a run, and one that begins where it ends
pub runs_set : (key : Key) (from middle end : ℕ) (ws mid new : List ℕ) → from ≤ middle → middle ≤ end
    → SetsRun key from middle ws mid → SetsRun key middle end mid new → SetsRun key from end ws new
runs_set key from middle end ws mid new l g a b = record {
  inside = λ x low high. ⊎_elim
      (λ lt. b.below x lt ∙ a.inside x low lt)
      (λ ge. b.inside x ge high)
      (cases_lt x middle);
  below = λ x lt. b.below x (omega arith) ∙ a.below x lt;
  above = λ x ge. b.above x ge ∙ a.above x (omega arith);
}

-- the word of a run, put where it stands
pub run_put : (key : Key) (ws : List ℕ) (place w low high found mask : ℕ) → place ≡ bits_place key w
    → found ≡ get_or ws place 0 → mask ≡ run low (high - low)
    → set ws place (bit_or found mask) ≡ with_bits key ws w (bit_or (bit_word_of key ws w) (run low (high - low)))
unfolding bit_word_of with_bits
run_put key ws place w low high found mask at is ones =
    ap (λ n. set ws place (bit_or n mask)) is
    ∙ ap (λ n. set ws place (bit_or (get_or ws place 0) n)) ones
    ∙ ap (λ p. set ws p (bit_or (get_or ws p 0) (run low (high - low)))) at

-- each range ends at or below the end of all
pub range_inside : (from end : ℕ) (ranges : List (ℕ × ℕ)) (i : ℕ) → AreRanges from end ranges → i < length ranges
    → (get_or ranges i (0, 0)).0 + (get_or ranges i (0, 0)).1 ≤ end
unfolding AreRanges
range_inside from end [] i all h = absurd (omega arith)
range_inside from end (range ∷ ranges) zero all h = all.2
range_inside from end (range ∷ ranges) (suc i) all h = range_inside (range.0 + range.1) end ranges i all.3 (omega arith)

is_inside : (x : ℕ) (range : ℕ × ℕ) → range.0 ≤ x → x < range.0 + range.1 → is_in_range x range ≡ true
unfolding is_in_range
is_inside x range l h = grind (arith, nat_tests)

is_below : (x : ℕ) (range : ℕ × ℕ) → x < range.0 → is_in_range x range ≡ false
unfolding is_in_range
is_below x range h = grind (arith, nat_tests)

is_above : (x : ℕ) (range : ℕ × ℕ) → range.0 + range.1 ≤ x → is_in_range x range ≡ false
unfolding is_in_range
is_above x range h = grind (arith, nat_tests)

or_true : (b c : Bool) → c ≡ true → (b || c) ≡ true
or_true true c e = refl
or_true false c e = e

or_false : (b c : Bool) → c ≡ false → (b || c) ≡ b
or_false true c e = refl
or_false false c e = e

-- one range more
pub range_set : (key : Key) (ranges : List (ℕ × ℕ)) (i : ℕ) (ws mid new : List ℕ) → i < length ranges
    → SetsRanges key (take i ranges) ws mid
    → SetsRun key (get_or ranges i (0, 0)).0 ((get_or ranges i (0, 0)).0 + (get_or ranges i (0, 0)).1) mid new
    → SetsRanges key (take (i + 1) ranges) ws new
range_set key ranges i ws mid new h before run x =
    let range : ℕ × ℕ = get_or ranges i (0, 0) in
    let any : Bool = list_any (is_in_range x) (take i ranges) in
    let next : Bool = list_any (is_in_range x) (take (i + 1) ranges) in
    let more : next ≡ (any || is_in_range x range) = list_any_more (is_in_range x) ranges i (0, 0) h in
    let P : Bool → ℕ = λ b. if b then 1 else bit_of key ws x in
    let out : is_in_range x range ≡ false → bit_of key new x ≡ bit_of key mid x → bit_of key new x ≡ P next =
    λ no same. same ∙ before x ∙ sym (ap P (more ∙ or_false any (is_in_range x range) no)) in
    ⊎_elim
    (λ (low : x < range.0). out (is_below x range low) (run.below x low))
    (λ (ge : range.0 ≤ x). ⊎_elim
    (λ (lt : x < range.0 + range.1).
    run.inside x ge lt ∙ sym (ap P (more ∙ or_true any (is_in_range x range) (is_inside x range ge lt))))
    (λ (high : range.0 + range.1 ≤ x). out (is_above x range high) (run.above x high))
    (cases_lt x (range.0 + range.1)))
    (cases_lt x range.0)

no_boot_frame : (end x : ℕ) (any : Bool) → x < end
    → ◌≡◌ {A = ℕ} (if any then 1 else 0) (if nat_le end x || any then 1 else 0)
no_boot_frame end x any h = grind (arith, nat_tests)

boot_frame : (end x : ℕ) (any : Bool) → end ≤ x
    → ◌≡◌ {A = ℕ} (if any then 1 else 1) (if nat_le end x || any then 1 else 0)
boot_frame end x any h = grind (arith, nat_tests)

-- the frames past the end are set, and then those of the ranges
pub boot_set : (key : Key) (ranges : List (ℕ × ℕ)) (from end : ℕ) (ws mid new : List ℕ) → from ≡ key.frames
    → end ≡ frame_count key → ((x : ℕ) → bit_of key ws x ≡ 0) → SetsRun key from end ws mid
    → SetsRanges key ranges mid new → (x : ℕ) → x < frame_count key
    → bit_of key new x ≡ (if is_boot_frame (record key { ranges = ranges }) x then 1 else 0)
unfolding is_boot_frame
boot_set key ranges from end ws mid new first last clear run more x h =
    let any : Bool = list_any (is_in_range x) ranges in
    let P : ℕ → ℕ = λ n. if any then 1 else n in
    ⊎_elim
    (λ (lt : x < from). more x ∙ ap P (run.below x lt ∙ clear x) ∙ no_boot_frame key.frames x any (omega arith))
    (λ (ge : from ≤ x). more x ∙ ap P (run.inside x ge (omega arith)) ∙ boot_frame key.frames x any (omega arith))
    (cases_lt x from)

-- a frame that was set stays set
pub range_stays : (key : Key) (ranges : List (ℕ × ℕ)) (ws new : List ℕ) → SetsRanges key ranges ws new → (x : ℕ)
    → bit_of key ws x ≡ 1 → bit_of key new x ≡ 1
range_stays key ranges ws new more x set = more x ∙ by (list_any (is_in_range x) ranges)
  where
    by : (b : Bool) → (if b then 1 else bit_of key ws x) ≡ 1
    by true = refl
    by false = set
