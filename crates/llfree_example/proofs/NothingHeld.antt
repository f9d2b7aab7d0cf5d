-- A memory whose held frames are those of no block has no held frame.
use Rattle.std.proofs.Common.{◌≡◌, ◌∙◌, ℕ, zero, suc, ◌+◌, ◌<◌, List, [], ◌∷◌, ◌+ℤ◌, pos, map, true, false, refl, ap, arith}
use Rattle.std.specs.List.{sum_by, range_with_len}
use Rattle.std.proofs.lemmas.List.Sums.{sum_by-cons}
use Rattle.std.proofs.lemmas.Bool.Decides.{nat_tests}
use Rattle.std.proofs.Math.IntN.{+ℤ_idr}
use Rattle.frame_words.specs.declared.geometry.Geometry.{Geometry}
use Rattle.frame_model.specs.declared.key.Key.{Key}
use Rattle.frame_model.specs.Block.{smalls, wholes}
use Rattle.frame_model.specs.Key.{key_of, child_of, is_boot_frame}
use Rattle.frame_model.specs.Laws.{HoldsJust}
use Rattle.frame_model.specs.Report.{held_at, held_frames, held_within}
use Rattle.frame_model.specs.Words.{bit_of}
use Rattle.frame_core.specs.Moves.{HasSizes}
use Rattle.frame_table.specs.Closing.{kept_through, lent_through}
use Rattle.core_frames.specs.Cores.{kept_by, lent_by, seat_of}
use Rattle.core_frames.specs.declared.shared.allocator.Core.{Core}
use Rattle.llfree_example.specs.Memory.{eight_children}

zeros : (f : ℕ → ℕ) (a n : ℕ) → ((x : ℕ) → x < a + n → f x ≡ 0) → sum_by f (range_with_len a n) ≡ 0
zeros f a zero all = refl
zeros f a (suc n) all =
    omega (
      arith,
      sum_by-cons f a (range_with_len (a + 1) n),
      all a (omega arith),
      zeros f (a + 1) n (λ x l. all x (omega arith)),
    )

no_small : (x : ℕ) → smalls x [] ≡ 0
unfolding smalls
no_small x = refl

no_whole : (c : ℕ) → wholes c [] ≡ 0
unfolding wholes
no_whole c = refl

not_held_back : (x : ℕ) → x < 4096 → is_boot_frame eight_children x ≡ false
unfolding is_boot_frame
not_held_back x within = grind (arith, nat_tests)

is_clear : (words : List ℕ) → HoldsJust eight_children words [] → (x : ℕ) → x < 4096 → held_at eight_children words x ≡ 0
unfolding held_at
is_clear words just x within =
    let bit : bit_of eight_children words x ≡ smalls x [] + 0 = rw (not_held_back x within) at (just.bits x within) in
    omega (arith, bit, just.huge (child_of x) (omega (arith, within)), no_small x, no_whole (child_of x))

pub nothing_held : (words : List ℕ) → HoldsJust eight_children words [] → held_frames eight_children words ≡ 0
unfolding held_within
nothing_held words just = zeros (held_at eight_children words) 0 4096 (λ x l. is_clear words just x (omega (arith, l)))

sized : ℕ → ℕ → ℕ → Key
sized children cores frames = record {
  children = children;
  cores = cores;
  frames = frames;
  ranges = [];
  sealed = true;
}

-- the sizes of an image make its key
pub is_eight : (g : Geometry) → HasSizes eight_children g → key_of g ≡ eight_children
unfolding sized
is_eight g s =
    ap (λ n. sized n g.cores g.frames) s.0
    ∙ (ap (λ n. sized 8 n g.frames) s.1 ∙ ap (λ n. sized 8 2 n) s.2)

-- what two cores keep is nothing where each keeps nothing
pub kept_by_two : (a b : Core) → kept_by a ≡ [] → kept_by b ≡ [] → kept_through (map seat_of (a ∷ b ∷ [])) ≡ []
unfolding kept_through
kept_by_two a b p q = rw (p, q) refl

-- what two cores lend is the sum
pub lent_by_two : (a b : Core) → lent_by a +ℤ lent_by b ≡ pos 0 → lent_through (map seat_of (a ∷ b ∷ [])) ≡ pos 0
unfolding lent_through
lent_by_two a b p = ap (λ n. lent_by a +ℤ n) (+ℤ_idr (lent_by b)) ∙ p
