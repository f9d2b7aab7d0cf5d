-- How counts of moves and losses add up.
use Rattle.std.proofs.Common.{◌≡◌, ℕ, ◌+◌, ◌<◌, ◌≤◌, refl, ap, sym, ◌∙◌, arith}
use Rattle.std.specs.Prelude.{Bool, true, false, ◌||◌, nat_lt}
use Rattle.std.proofs.lemmas.Bool.Decides.{nat_tests}
use Rattle.frame_model.specs.declared.block.FrameBlock.{FrameBlock}
use Rattle.frame_model.specs.declared.place.Place.{Place}
use Rattle.frame_model.specs.declared.view.View.{View}
use Rattle.frame_model.specs.Steps.{Kind, charge, refund, claim, claim_singles, release, take_huge, give_huge, tree_pay, tree_refund, reserve}
use Rattle.frame_model.specs.Steps.{swap_local, unreserve, local_pay, local_refund, collect, fill_word, drop_flag}
use Rattle.frame_core.specs.Moves.{after}
use Rattle.frame_core.specs.Mover.{Mover, Ticks, Loads, Tries, Makes, HandsOut, HandsIn}
use Rattle.low_frames.specs.Takes.{Counts}

pub or_false : (b : Bool) → (b || false) ≡ b
or_false true = refl
or_false false = refl

or_true : (b : Bool) → (b || true) ≡ true
or_true true = refl
or_true false = refl

or_or : (a b c : Bool) → ((a || b) || c) ≡ (a || (b || c))
or_or true b c = refl
or_or false b c = refl

not_below : (n : ℕ) → nat_lt n n ≡ false
not_below n = grind (arith, nat_tests)

below : (n m : ℕ) → n < m → nat_lt n m ≡ true
below n m h = grind (arith, nat_tests)

either_rose : (a b c : ℕ) → a ≤ b → b ≤ c → (nat_lt a b || nat_lt b c) ≡ nat_lt a c
either_rose a b c h k = grind (arith, nat_tests)

after_moves : (t : ℕ → ℕ) (kind : Kind) (v : View) → (after t kind v).moves ≡ t v.moves
after_moves t (charge c seen n) v = refl
after_moves t (refund c n) v = refl
after_moves t (claim w seen from o) v = refl
after_moves t (claim_singles w seen m) v = refl
after_moves t (release w from o rest) v = refl
after_moves t (take_huge c seen) v = refl
after_moves t (give_huge c rest) v = refl
after_moves t (tree_pay u seen n) v = refl
after_moves t (tree_refund u n) v = refl
after_moves t (reserve u seen) v = refl
after_moves t (swap_local k put) v = refl
after_moves t (unreserve u n) v = refl
after_moves t (local_pay k seen n) v = refl
after_moves t (local_refund k seen n) v = refl
after_moves t (collect u seen) v = refl
after_moves t (fill_word w) v = refl
after_moves t (drop_flag c rest) v = refl

pub after_lost : (t : ℕ → ℕ) (kind : Kind) (v : View) → (after t kind v).lost ≡ v.lost
after_lost t (charge c seen n) v = refl
after_lost t (refund c n) v = refl
after_lost t (claim w seen from o) v = refl
after_lost t (claim_singles w seen m) v = refl
after_lost t (release w from o rest) v = refl
after_lost t (take_huge c seen) v = refl
after_lost t (give_huge c rest) v = refl
after_lost t (tree_pay u seen n) v = refl
after_lost t (tree_refund u n) v = refl
after_lost t (reserve u seen) v = refl
after_lost t (swap_local k put) v = refl
after_lost t (unreserve u n) v = refl
after_lost t (local_pay k seen n) v = refl
after_lost t (local_refund k seen n) v = refl
after_lost t (collect u seen) v = refl
after_lost t (fill_word w) v = refl
after_lost t (drop_flag c rest) v = refl

module _ {T H : Type 0} {t : ℕ → ℕ} {exact : ℕ → Type 0} (ticks : Ticks t exact) where
  pub none_made : (a : Mover T H) → Counts exact 0 a a
  none_made a = record {
    moves = omega arith;
    lost = omega arith;
    rises = λ h. omega arith;
    risen = λ h. omega arith;
    missed = λ h. sym (ap (λ b. a.missed || b) (not_below a.view.lost) ∙ or_false a.missed);
  }

  -- what comes after
  pub both_counts : {a b c : Mover T H} {n k : ℕ} → Counts exact n a b → Counts exact k b c → Counts exact (n + k) a c
  both_counts {a} {b} {c} {n} {k} f g = record {
    moves = omega (arith, f.moves, g.moves);
    lost = omega (arith, f.lost, g.lost);
    rises = λ h. omega (
      arith,
      f.rises (ticks.below (a.view.moves + n) (a.view.moves + (n + k)) (omega arith) h),
      g.rises (ticks.below (b.view.moves + k) (a.view.moves + (n + k)) (omega (arith, f.moves)) h),
    );
    risen = λ h. omega (
      arith,
      f.risen (ticks.below (a.view.lost + n) (a.view.lost + (n + k)) (omega arith) h),
      g.risen (ticks.below (b.view.lost + k) (a.view.lost + (n + k)) (omega (arith, f.lost)) h),
    );
    missed = λ h.
        let first = ticks.below (a.view.lost + n) (a.view.lost + (n + k)) (omega arith) h in
        let then = ticks.below (b.view.lost + k) (a.view.lost + (n + k)) (omega (arith, f.lost)) h in
        g.missed then ∙ ap (λ x. x || nat_lt b.view.lost c.view.lost) (f.missed first)
        ∙ or_or a.missed (nat_lt a.view.lost b.view.lost) (nat_lt b.view.lost c.view.lost)
        ∙ ap (λ x. a.missed || x) (either_rose a.view.lost b.view.lost c.view.lost (f.risen first) (g.risen then));
  }

  -- a wider bound
  pub at_most : {a b : Mover T H} {n k : ℕ} → Counts exact n a b → n ≤ k → Counts exact k a b
  at_most {a} {b} {n} {k} f h = record {
    moves = omega (arith, f.moves);
    lost = omega (arith, f.lost);
    rises = λ q. f.rises (ticks.below (a.view.moves + n) (a.view.moves + k) (omega arith) q);
    risen = λ q. f.risen (ticks.below (a.view.lost + n) (a.view.lost + k) (omega arith) q);
    missed = λ q. f.missed (ticks.below (a.view.lost + n) (a.view.lost + k) (omega arith) q);
  }

  -- one move that is no lost exchange
  pub one_move : (a b : Mover T H) → b.view.moves ≡ t a.view.moves → b.view.lost ≡ a.view.lost → b.missed ≡ a.missed → Counts exact 1 a b
  one_move a b e f g = record {
    moves = omega (arith, ticks.most a.view.moves);
    lost = omega arith;
    rises = λ h. omega (arith, ticks.up a.view.moves (ticks.below a.view.moves (a.view.moves + 1) (omega arith) h));
    risen = λ h. omega arith;
    missed = λ h. g ∙ sym (ap (λ i. a.missed || nat_lt a.view.lost i) f
        ∙ ap (λ b. a.missed || b) (not_below a.view.lost) ∙ or_false a.missed);
  }

  -- a lost exchange
  one_loss : (a b : Mover T H) → b.view.moves ≡ t a.view.moves → b.view.lost ≡ t a.view.lost → b.missed ≡ true → Counts exact 1 a b
  one_loss a b e f g = record {
    moves = omega (arith, ticks.most a.view.moves);
    lost = omega (arith, ticks.most a.view.lost);
    rises = λ h. omega (arith, ticks.up a.view.moves (ticks.below a.view.moves (a.view.moves + 1) (omega arith) h));
    risen = λ h. omega (arith, ticks.up a.view.lost (ticks.below a.view.lost (a.view.lost + 1) (omega arith) h));
    missed = λ h. g ∙ sym (ap (λ b. a.missed || b) (below a.view.lost b.view.lost
        (omega (arith, ticks.up a.view.lost (ticks.below a.view.lost (a.view.lost + 1) (omega arith) h)))) ∙ or_true a.missed);
  }

  one_try : (a b : Mover T H) (kind : Kind) (seen : ℕ) (made : Bool) → Tries t kind seen made a b → Counts exact 1 a b
  one_try a b kind seen true m =
      one_move a b (ap (λ v. v.moves) m.view ∙ after_moves t kind a.view) (ap (λ v. v.lost) m.view ∙ after_lost t kind a.view)
      (m.missed ∙ or_false a.missed)
  one_try a b kind seen false m = one_loss a b (ap (λ v. v.moves) m.view) (ap (λ v. v.lost) m.view) (m.missed ∙ or_true a.missed)

  -- The moves.

  pub load_counts : {a b : Mover T H} {place : Place} {found : ℕ} → Loads t place found a b → Counts exact 1 a b
  load_counts {a} {b} m = one_move a b (ap (λ v. v.moves) m.view) (ap (λ v. v.lost) m.view) m.missed

  pub make_counts : {a b : Mover T H} {kind : Kind} → Makes t kind a b → Counts exact 1 a b
  make_counts {a} {b} {kind} m =
      one_move a b (ap (λ v. v.moves) m.view ∙ after_moves t kind a.view) (ap (λ v. v.lost) m.view ∙ after_lost t kind a.view) m.missed

  pub try_counts : {a b : Mover T H} {kind : Kind} {seen : ℕ} {made : Bool} → Tries t kind seen made a b → Counts exact 1 a b
  try_counts {a} {b} {kind} {seen} {made} m = one_try a b kind seen made m

  pub out_counts : {a b : Mover T H} {block_of : H → FrameBlock} {d : FrameBlock} {held : H} → HandsOut t block_of d held a b
      → Counts exact 1 a b
  out_counts {a} {b} m = one_move a b (ap (λ v. v.moves) m.view) (ap (λ v. v.lost) m.view) m.missed

  pub in_counts : {a b : Mover T H} {block_of : H → FrameBlock} {held : H} → HandsIn t block_of held a b → Counts exact 1 a b
  in_counts {a} {b} m = one_move a b (ap (λ v. v.moves) m.view) (ap (λ v. v.lost) m.view) m.missed
