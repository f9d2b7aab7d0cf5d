-- Command lines by their number of words.
use Rattle.std.proofs.Common.{◌≡◌, ◌≢◌, ℕ, List, [], ◌∷◌, length, map, get_or, None, refl, arith}
use Rattle.llfree_trace.specs.Command.{command_in, command_of, run_in, sizes_in, cut_sizes_in}

pub of_one : {T : Type 0} (f : T → List ℕ) (words : List T) (a : T) → length words ≡ 1
    → a ≡ get_or words 0 a → command_in (f a) ≡ command_of (map f words)
unfolding command_of
of_one f (x ∷ []) a one p = rw p refl
of_one f _ a one p = absurd (omega arith)

pub of_three : {T : Type 0} (f : T → List ℕ) (words : List T) (a b c : T) → length words ≡ 3
    → a ≡ get_or words 0 a → b ≡ get_or words 1 b → c ≡ get_or words 2 c
    → run_in (f a) (sizes_in (f b) (f c)) ≡ command_of (map f words)
unfolding command_of
of_three f (x ∷ y ∷ z ∷ []) a b c three p q r = rw (p, q, r) refl
of_three f _ a b c three p q r = absurd (omega arith)

pub of_four : {T : Type 0} (f : T → List ℕ) (words : List T) (a b c d : T) → length words ≡ 4
    → a ≡ get_or words 0 a → b ≡ get_or words 1 b → c ≡ get_or words 2 c → d ≡ get_or words 3 d
    → run_in (f a) (cut_sizes_in (sizes_in (f b) (f c)) (f d)) ≡ command_of (map f words)
unfolding command_of
of_four f (x ∷ y ∷ z ∷ w ∷ []) a b c d four p q r s = rw (p, q, r, s) refl
of_four f _ a b c d four p q r s = absurd (omega arith)

pub of_others : {T : Type 0} (f : T → List ℕ) (words : List T)
    → length words ≢ 1 → length words ≢ 3 → length words ≢ 4 → None ≡ command_of (map f words)
unfolding command_of
of_others f (x ∷ []) h k l = absurd (h refl)
of_others f (x ∷ y ∷ z ∷ []) h k l = absurd (k refl)
of_others f (x ∷ y ∷ z ∷ w ∷ []) h k l = absurd (l refl)
of_others f _ h k l = refl
