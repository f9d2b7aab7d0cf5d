-- How many frames of one child are lost after a stop at which nobody had been given a block.
use Rattle.std.proofs.Common.{◌≡◌, ℕ, zero, suc, ◌+◌, ◌<◌, ◌≤◌, List, [], ◌++◌, Bool, true, false, cond, refl, ap, ◌∙◌, arith}
use Rattle.std.specs.Prelude.{if◌then◌else◌, ◌&&◌, not, nat_eq, nat_lt}
use Rattle.std.specs.List.{sum_by, range_with_len}
use Rattle.std.proofs.lemmas.Bool.Decides.{nat_tests}
use Rattle.frame_model.specs.declared.key.Key.{Key}
use Rattle.frame_model.specs.Key.{child_of, is_boot_frame}
use Rattle.frame_model.specs.Words.{bits_place, bit_of, set_of, huge_of, AreInRange}
use Rattle.frame_model.specs.View.{fixed_ground}
use Rattle.frame_model.specs.Holding.{holders}
use Rattle.frame_model.specs.Laws.{blocks_with, holding_of}
use Rattle.frame_model.specs.Openings.{held_blocks}
use Rattle.frame_model.specs.Events.{State, views_of}
use Rattle.frame_model.specs.Stops.{known_of, flying_of, known_at, flying_at, is_lost, lost_frames, unsealed, range_blocks}
use Rattle.frame_model.specs.WorkedRuns.{one_child, stopped_at}
use Rattle.frame_model.proofs.Opening.{held_smalls, held_wholes, held_are_blocks}
use Rattle.frame_model.proofs.ReportLemmas.{bits_of_child, range_ones}
use Rattle.frame_model.proofs.Safe.{holders_are}
use Rattle.frame_model.proofs.Sums.{range_same}
use Rattle.frame_model.proofs.Steps.Shared.{bit-le}
use Rattle.frame_model.proofs.Stopping.Known.{holders_none, holders_both}
use Rattle.frame_model.proofs.Stopping.Sample.{is_key}
use Rattle.frame_model.proofs.Stopping.Stop.{names_split}

abbrev now : Key
now = unsealed one_child

not_named : (x : ℕ) → x < 512 → is_boot_frame one_child x ≡ false
unfolding is_boot_frame
not_named x h = grind (arith, nat_tests)

not_named_now : (x : ℕ) → x < 512 → is_boot_frame now x ≡ false
unfolding is_boot_frame
not_named_now x h = grind (arith, nat_tests)

some : (n : ℕ) → nat_lt 0 (suc n) ≡ true
some n = grind (arith, nat_tests)

not_none : (n : ℕ) → nat_eq (suc n) 0 ≡ false
not_none n = grind (arith, nat_tests)

held_once : (n m : ℕ) → n ≡ suc m → ◌≡◌ {A = ℕ} (if nat_eq n 0 then 0 else 1) 1
held_once n m e = rw (e, not_none m) refl

no_boot : (b : Bool) → b ≡ false → ◌≡◌ {A = ℕ} (if b then 1 else 0) 0
no_boot b e = rw e refl

module _ (end : State) (again : List ℕ) (none : known_of (views_of end) ≡ []) (range : AreInRange now again) where
  held_is : (x : ℕ) → x < 512
      → holders x (holding_of now (views_of (stopped_at end again).state)) ≡ bit_of now again x + huge_of again (child_of x)
  unfolding blocks_with fixed_ground
  held_is x h =
      omega (
        arith,
        holders_both x (held_blocks now again) ([] ++ ([] ++ [])),
        holders_none x,
        holders_are now x (held_blocks now again) (held_are_blocks now again),
        held_smalls now again x (omega arith),
        held_wholes now again (child_of x) (omega arith) (range.huge (child_of x) (omega arith)),
      )

  unknown : (x : ℕ) → x < 512 → holders x (known_at (stopped_at end again)) ≡ 0
  unfolding known_of
  unknown x h =
      omega (
        arith,
        holders_both x (known_of (views_of end) ++ []) (range_blocks one_child),
        holders_both x (known_of (views_of end)) [],
        ap (holders x) none,
        holders_none x,
        names_split one_child is_key x,
        no_boot (is_boot_frame one_child x) (not_named x h),
        no_boot (is_boot_frame now x) (not_named_now x h),
      )

  landed : (x : ℕ) → holders x (flying_at (stopped_at end again)) ≡ 0
  unfolding flying_of
  landed x = holders_none x

  test : (a b c : ℕ) (named : Bool) → b ≡ 0 → c ≡ 0 → named ≡ false
      → cond {A = ℕ} (nat_lt 0 a && nat_eq b 0 && nat_eq c 0 && not named) 1 0 ≡ (if nat_eq a 0 then 0 else 1)
  test zero b c named e f g = refl
  test (suc a) b c named e f g = rw (e, f, g, some a, not_none a) refl

  lost_is : (x : ℕ) → x < 512
      → cond {A = ℕ} (is_lost (stopped_at end again) x) 1 0
      ≡ (if nat_eq (bit_of now again x + huge_of again (child_of x)) 0 then 0 else 1)
  unfolding is_lost
  lost_is x h =
      test (holders x (holding_of now (views_of (stopped_at end again).state))) (holders x (known_at (stopped_at end again)))
      (holders x (flying_at (stopped_at end again))) (is_boot_frame now x) (unknown x h) (landed x) (not_named_now x h)
      ∙ ap (λ n. if nat_eq n 0 then 0 else 1) (held_is x h)

  lost_sum : (f : ℕ → ℕ)
      → ((x : ℕ) → x < 512 → (if nat_eq (bit_of now again x + huge_of again (child_of x)) 0 then 0 else 1) ≡ f x)
      → lost_frames (stopped_at end again) ≡ sum_by f (range_with_len 0 512)
  lost_sum f same = range_same f (λ x. cond {A = ℕ} (is_lost (stopped_at end again) x) 1 0) 0 512
      (λ d l h. lost_is d (omega arith) ∙ same d (omega arith))

  same_set : set_of now again 0 ≡ set_of one_child again 0
  unfolding set_of bits_place
  same_set = refl

  one_bit : (n : ℕ) → n ≤ 1 → (if nat_eq n 0 then 0 else 1) ≡ n
  one_bit zero h = refl
  one_bit (suc zero) h = refl
  one_bit (suc (suc n)) h = absurd (omega arith)

  -- without the flag just the set frames are held, and with it all of them
  pub lost_set : (n : ℕ) → huge_of again 0 ≡ 0 → set_of one_child again 0 ≡ n → lost_frames (stopped_at end again) ≡ n
  lost_set n clear set =
      lost_sum (bit_of now again)
      (λ x h.
      let here : child_of x ≡ 0 = omega arith in
      let none_whole : huge_of again (child_of x) ≡ 0 = ap (huge_of again) here ∙ clear in
      let just : bit_of now again x + huge_of again (child_of x) ≡ bit_of now again x = omega (arith, none_whole) in
      ap (λ m. if nat_eq m 0 then 0 else 1) just ∙ one_bit (bit_of now again x) (bit-le now again x))
      ∙ bits_of_child now again range 0 (omega arith) ∙ same_set ∙ set

  pub lost_whole : huge_of again 0 ≡ 1 → lost_frames (stopped_at end again) ≡ 512
  lost_whole up =
      lost_sum (λ x. 1)
      (λ x h.
      let here : child_of x ≡ 0 = omega arith in
      let whole : huge_of again (child_of x) ≡ 1 = ap (huge_of again) here ∙ up in
      let more : bit_of now again x + huge_of again (child_of x) ≡ suc (bit_of now again x) = omega (arith, whole) in
      held_once (bit_of now again x + huge_of again (child_of x)) (bit_of now again x) more)
      ∙ range_ones 0 512
