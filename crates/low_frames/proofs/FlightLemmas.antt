-- What the words say of frames that are charged or in flight.
use Rattle.std.proofs.Common.{◌≡◌, ℕ, ◌+◌, ◌*◌, ◌/◌, ◌<◌, ◌≤◌, List, ◌∷◌, refl, ap, ◌∙◌, arith}
use Rattle.std.proofs.Math.Logic.{∥∥₁_elim}
use Rattle.std.proofs.Math.Bridge.{le_prop}
use Rattle.std.proofs.Math.Nat.{ℕ_set}
use Rattle.frame_model.specs.declared.key.Key.{Key}
use Rattle.frame_model.specs.declared.view.View.{View}
use Rattle.frame_model.specs.Key.{frame_count}
use Rattle.frame_model.specs.Block.{smalls, wholes}
use Rattle.frame_model.specs.Words.{entry_of, free_of, huge_of, bit_of}
use Rattle.frame_model.specs.View.{small_in, charged_in, names}
use Rattle.frame_model.specs.Fit.{Fit}
use Rattle.frame_model.specs.Steps.Amounts.{IsRun}
use Rattle.frame_model.proofs.Words.{held_is}
use Rattle.frame_model.proofs.Steps.Shared.{bit-le, at-le-total, smalls-le-bit, flag_set, bit_filled, free_of_is, huge_of_is, free_is}
use Rattle.frame_model.proofs.Steps.Shared.{flag_is}
use Rattle.low_frames.specs.Takes.{IsAsBefore}
use Rattle.low_frames.proofs.RoomLemmas.{FitsAlone}

module _ (alone : Type 0) (key : Key) (ws : List ℕ) (v : View) (fits : FitsAlone alone key ws v) where
  by_fit : {P : Type 0} → IsProp P → ((shares : ℕ) (others : List View) → Fit key shares ws (v ∷ others) → P) → P
  by_fit is f = ∥∥₁_elim fits is (λ a. f a.0 a.1.0 a.1.1.0)

  -- where frames of a child are charged, it shows no huge frame and has room for them
  pub charged_no_flag : (c : ℕ) → c < key.children → 0 < charged_in c v → huge_of ws c ≡ 0
  charged_no_flag c h some_charged =
      by_fit (ℕ_set _ _) (λ s o fit. omega (
        arith,
        fit.entries_add_up c h,
        at-le-total key s ws (v ∷ o) 0 v fit refl
            (charged_in c),
        held_is key ws c,
        some_charged,
      ))

  pub charged_has_room : (c n : ℕ) → c < key.children → n ≤ charged_in c v → free_of ws c + n ≤ 512
  charged_has_room c n h enough =
      by_fit le_prop (λ s o fit. omega (arith, fit.entries_add_up c h, at-le-total key s ws (v ∷ o) 0 v fit refl (charged_in c), enough))

  -- a frame in flight is set, and its child shows no huge frame
  pub owned_no_flag : (x : ℕ) → x < frame_count key → 0 < smalls x v.own → huge_of ws (x / 512) ≡ 0
  owned_no_flag x h own =
      by_fit (ℕ_set _ _) (λ s o fit. omega (arith, fit.apart x h, at-le-total key s ws (v ∷ o) 0 v fit refl (small_in x), own))

  pub owned_is_set : (x : ℕ) → x < frame_count key → 0 < smalls x v.own → bit_of key ws x ≡ 1
  owned_is_set x h own =
      by_fit (ℕ_set _ _) (λ s o fit. omega (
        arith,
        smalls-le-bit key s ws (v ∷ o) 0 v fit refl x h,
        at-le-total key s ws (v ∷ o) 0 v fit refl (small_in x),
        bit-le key ws x,
        own,
      ))

  -- the entry of a huge frame in flight, and its bits where none was filled
  pub whole_entry : (c : ℕ) → c < key.children → 0 < wholes c v.own → entry_of ws c ≡ 32768
  whole_entry c h own =
      by_fit (ℕ_set _ _) (λ s o fit. omega (
        arith,
        flag_set key s ws (v ∷ o) 0 v fit refl c h own,
        fit.entries_add_up c h,
        held_is key ws c,
        free_of_is ws c,
        huge_of_is ws c,
        free_is (entry_of ws c),
        flag_is (entry_of ws c),
      ))

  pub whole_is_clear : (c x : ℕ) → c < key.children → 0 < wholes c v.own → names (x / 64) v.filled ≡ 0 → x / 512 ≡ c → bit_of key ws x ≡ 0
  whole_is_clear c x h own filled e =
      by_fit (ℕ_set _ _) (λ s o fit. bit_filled key s ws (v ∷ o) 0 v fit refl c x h own e ∙ filled)

-- where frames are charged, some still are in a view as before
pub still_charges : (child n : ℕ) (v w : View) → IsAsBefore v w → 0 < n → n ≤ charged_in child v → 0 < charged_in child w
still_charges child n v w before some_charged enough = omega (arith, ap (charged_in child) before)

-- a word is one run
pub is_word : (key : Key) (k : ℕ) → k < 8 * key.children → IsRun key k 0 6
is_word key k h = record { inside = h; small = omega arith; aligned = omega arith; fits = omega arith }
