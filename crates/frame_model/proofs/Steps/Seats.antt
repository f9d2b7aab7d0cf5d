-- What changes no word: a load, a lost exchange, a seat cut in two, and a seat that takes in another.
use Rattle.std.proofs.Common.{◌≡◌, inl, inr, ℕ, ℤ, pos, ◌+ℤ◌, ◌-ℤ◌, ◌+◌, ◌/◌, ◌<◌, List, [], ◌∷◌, Option, Some, Bool, true, false, length}
use Rattle.std.proofs.Common.{set, refl, ap, sym, subst, ◌∙◌, arith}
use Rattle.std.specs.Prelude.{if◌then◌else◌, nat_eq}
use Rattle.std.specs.List.{All}
use Rattle.std.proofs.lemmas.Int.{ints}
use Rattle.std.proofs.lemmas.Bool.Decides.{nat_tests}
use Rattle.std.proofs.lemmas.List.{nil_from_length}
use Rattle.std.proofs.lemmas.List.Elements.{All-cons}
use borrow.Author.Differences.{up, down}
use mathlib.Core.Option.{some}
use lib.ListN.{get_elem?}
use Rattle.frame_model.specs.declared.block.FrameBlock.{FrameBlock}
use Rattle.frame_model.specs.declared.key.Key.{Key}
use Rattle.frame_model.specs.declared.view.View.{View}
use Rattle.frame_model.specs.Block.{IsBlock, smalls, wholes}
use Rattle.frame_model.specs.View.{count_in, IsAmount, names, is_at, blocks_out, ground_blocks, ground_small_in, ground_in, spent, holder}
use Rattle.frame_model.specs.View.{IsViewOf}
use Rattle.frame_model.specs.Fit.{Fit}
use Rattle.frame_model.proofs.Amounts.{count_none, is_at_none, names_none}
use Rattle.frame_model.proofs.Blocks.{smalls_none, wholes_none}
use Rattle.frame_model.proofs.Balances.{view_step}
use Rattle.frame_model.proofs.Steps.Shared.{view_of}

pub lent_one : (z : ℤ) → up (z +ℤ pos 1) + down z ≡ up z + down (z +ℤ pos 1) + 1
lent_one z = omega (arith, ints)

pub lent_back : (z : ℤ) → up (z -ℤ pos 1) + down z + 1 ≡ up z + down (z -ℤ pos 1)
lent_back z = omega (arith, ints)

pub lent_both : (y z : ℤ) → up (y +ℤ z) + down y + down z ≡ up y + up z + down (y +ℤ z)
lent_both y z = omega (arith, ints)

-- Rights of a view by its form.

pub ground_is_out : (v : View) → v.is_ground ≡ true → blocks_out v ≡ 0
unfolding blocks_out
ground_is_out v q = rw q grind (arith, nat_tests)

pub one_out : (u : View) (b : FrameBlock) → u.is_ground ≡ false → u.share ≡ 0 → u.own ≡ b ∷ []
    → blocks_out u ≡ 1
unfolding blocks_out
one_out u b q e f = grind (arith, nat_tests)

pub spent_out : blocks_out spent ≡ 0
unfolding blocks_out
spent_out = refl

pub out_same : (v w : View) → w.is_ground ≡ v.is_ground → w.share ≡ v.share → length w.own ≡ length v.own
    → blocks_out w ≡ blocks_out v
unfolding blocks_out
out_same v w p s o = rw (p, s, o) refl

pub ground_yes : (v : View) → v.is_ground ≡ true → ground_in v ≡ 1
unfolding ground_in
ground_yes v e = rw e refl

pub ground_no : (v : View) → v.is_ground ≡ false → ground_in v ≡ 0
unfolding ground_in
ground_no v e = rw e refl

pub ground_same : (v w : View) → w.is_ground ≡ v.is_ground → ground_in w ≡ ground_in v
unfolding ground_in
ground_same v w e = rw e refl

-- Views by their form.

pub spent_is : (key : Key) → IsViewOf key spent
spent_is key = record {
  named = inl refl;
  own = λ k d h. absurd (omega arith);
  kept = λ k d h. absurd (omega arith);
  no_part = λ z. record { paid = refl; charged = refl; reserving = refl; kept = refl; filled = refl };
  one_block = λ z g. record { lent = refl; own = omega arith };
  one_child = λ z. absurd (omega arith);
  filled = λ w q. absurd (omega (arith, q, names_none w));
  charged = λ d far. count_none d;
  paid = λ d far. count_none d;
  reserving = λ d far. is_at_none d;
  some_charged = tt;
  some_paid = tt;
}

pub holder_is : (key : Key) (about : Option Key) (b : FrameBlock) → about ≡ Some key → IsBlock key b
    → IsViewOf key (holder about b)
holder_is key about b n i = record {
  named = inr n;
  own = All-cons (IsBlock key) b [] i (λ k d h. absurd (omega arith));
  kept = λ k d h. absurd (omega arith);
  no_part = λ z. record { paid = refl; charged = refl; reserving = refl; kept = refl; filled = refl };
  one_block = λ z g. record { lent = refl; own = omega arith };
  one_child = λ z. absurd (omega arith);
  filled = λ w q. absurd (omega (arith, q, names_none w));
  charged = λ d far. count_none d;
  paid = λ d far. count_none d;
  reserving = λ d far. is_at_none d;
  some_charged = tt;
  some_paid = tt;
}

pub idle_is : (key : Key) (about : Option Key) (n : ℕ) → about ≡ Some key → 0 < n
    → IsViewOf key (record spent { about = about; share = n })
idle_is key about n e h = record {
  named = inr e;
  own = λ k d q. absurd (omega arith);
  kept = λ k d q. absurd (omega arith);
  no_part = λ z. absurd (omega arith);
  one_block = λ z g. absurd (omega arith);
  one_child = λ z. (0, record { charged = λ d ne. count_none d; smalls = λ x ne. smalls_none x; wholes = λ d ne. wholes_none d });
  filled = λ w q. absurd (omega (arith, q, names_none w));
  charged = λ d far. count_none d;
  paid = λ d far. count_none d;
  reserving = λ d far. is_at_none d;
  some_charged = tt;
  some_paid = tt;
}

pub ground_is : (key : Key) (about : Option Key) (blocks : List FrameBlock) → about ≡ Some key
    → All (IsBlock key) blocks → IsViewOf key (record spent { about = about; is_ground = true; own = blocks })
ground_is key about blocks e all = record {
  named = inr e;
  own = all;
  kept = λ k d q. absurd (omega arith);
  no_part = λ z. record { paid = refl; charged = refl; reserving = refl; kept = refl; filled = refl };
  one_block = λ z g. let f : true ≡ false = g in cc;
  one_child = λ z. absurd (omega arith);
  filled = λ w q. absurd (omega (arith, q, names_none w));
  charged = λ d far. count_none d;
  paid = λ d far. count_none d;
  reserving = λ d far. is_at_none d;
  some_charged = tt;
  some_paid = tt;
}

-- the other view differs in its counts alone, and in the order of its blocks
pub record Alike (key : Key) (v w : View) : Type 0 where
  pub about : w.about ≡ v.about
  pub share : w.share ≡ v.share
  pub lent : w.lent ≡ v.lent
  pub is_ground : w.is_ground ≡ v.is_ground
  pub paid : w.paid ≡ v.paid
  pub charged : w.charged ≡ v.charged
  pub reserving : w.reserving ≡ v.reserving
  pub filled : w.filled ≡ v.filled
  pub own_smalls : (x : ℕ) → smalls x w.own ≡ smalls x v.own
  pub own_wholes : (c : ℕ) → wholes c w.own ≡ wholes c v.own
  pub own_length : length w.own ≡ length v.own
  pub own_blocks : All (IsBlock key) w.own
  pub kept_smalls : (x : ℕ) → smalls x w.kept ≡ smalls x v.kept
  pub kept_wholes : (c : ℕ) → wholes c w.kept ≡ wholes c v.kept
  pub kept_length : length w.kept ≡ length v.kept
  pub kept_blocks : All (IsBlock key) w.kept

-- and of what was held before the opening
ground_alike : (key : Key) (v w : View) → Alike key v w → (x : ℕ) → ground_small_in x w ≡ ground_small_in x v
unfolding ground_blocks
ground_alike key v w a x = rw (a.is_ground, a.share) (either v.is_ground (nat_eq v.share 0))
  where
    either : (b c : Bool)
        → smalls x (if b then (if c then w.own else w.kept) else [])
        ≡ smalls x (if b then (if c then v.own else v.kept) else [])
    either true true = a.own_smalls x
    either true false = a.kept_smalls x
    either false c = refl

-- a view that names its memory stays one of it
pub alike_is : (key : Key) (v w : View) → IsViewOf key v → v.about ≡ Some key → Alike key v w → IsViewOf key w
alike_is key v w i n a =
    record {
      named = inr (a.about ∙ n);
      own = a.own_blocks;
      kept = a.kept_blocks;
      no_part = λ z. let h = i.no_part (sym a.share ∙ z) in record {
        paid = a.paid ∙ h.paid;
        charged = a.charged ∙ h.charged;
        reserving = a.reserving ∙ h.reserving;
        kept = nil_from_length w.kept (a.kept_length ∙ ap length h.kept);
        filled = a.filled ∙ h.filled;
      };
      one_block = λ z g. let h = i.one_block (sym a.share ∙ z) (sym a.is_ground ∙ g) in
          record { lent = a.lent ∙ h.lent; own = omega (arith, a.own_length, h.own) };
      one_child = λ h.
          let t = i.one_child (omega (arith, a.share)) in (
            t.0,
            record {
              charged = λ d ne. ap (count_in d) a.charged ∙ t.1.charged d ne;
              smalls = λ x ne. a.own_smalls x ∙ t.1.smalls x ne;
              wholes = λ d ne. a.own_wholes d ∙ t.1.wholes d ne;
            },
          );
      filled = λ k q. let h = i.filled k (omega (arith, q, ap (names k) a.filled)) in
          record { inside = h.inside; share = omega (arith, h.share, a.share); own = omega (arith, h.own, a.own_wholes (k / 8)) };
      charged = λ d far. ap (count_in d) a.charged ∙ i.charged d far;
      paid = λ d far. ap (count_in d) a.paid ∙ i.paid d far;
      reserving = λ d far. ap (is_at d) a.reserving ∙ i.reserving d far;
      some_charged = subst IsAmount (sym a.charged) i.some_charged;
      some_paid = subst IsAmount (sym a.paid) i.some_paid;
    }

-- the view after a load or a lost exchange is like before
pub looked : (key : Key) (v : View) (m l : ℕ) → IsViewOf key v
    → Alike key v (record v { moves = m; lost = l })
looked key v m l i = record {
  about = refl;
  share = refl;
  lent = refl;
  is_ground = refl;
  paid = refl;
  charged = refl;
  reserving = refl;
  filled = refl;
  own_smalls = λ x. refl;
  own_wholes = λ c. refl;
  own_length = refl;
  own_blocks = i.own;
  kept_smalls = λ x. refl;
  kept_wholes = λ c. refl;
  kept_length = refl;
  kept_blocks = i.kept;
}

module _ (key : Key) (shares : ℕ) (ws : List ℕ) (vs : List View) (id : ℕ) (v : View)
    (fit : Fit key shares ws vs) (at : get_elem? vs id ≡ some v) where
  pub alike_keeps : (w : View) → v.about ≡ Some key → Alike key v w → Fit key shares ws (set vs id w)
  alike_keeps w n a =
      view_step key shares ws vs id v fit at w (record {
        wholes = λ c. omega (arith, a.own_wholes c, a.kept_wholes c);
        smalls = λ x. omega (arith, a.own_smalls x, a.kept_smalls x);
        marks = λ x. omega (arith, a.own_smalls x, a.kept_smalls x, ap (names (x / 64)) a.filled);
        charged = λ c. omega (arith, ap (count_in c) a.charged);
        paid = λ t. omega (arith, ap (count_in t) a.paid);
        reserves = λ t. omega (arith, ap (is_at t) a.reserving);
        shares = omega (arith, a.share);
        lents = omega (arith, ap up a.lent, ap down a.lent, out_same v w a.is_ground a.share a.own_length);
        grounds = omega (arith, ground_same v w a.is_ground);
        past_end = λ x p h. omega (arith, ground_alike key v w a x);
      }) (alike_is key v w (view_of key shares ws vs id v fit at) n a)

  -- a load or a lost exchange: of the view, its counts alone change
  pub look_keeps : (m l : ℕ) → v.about ≡ Some key
      → Fit key shares ws (set vs id (record v { moves = m; lost = l }))
  look_keeps m l n = alike_keeps (record v { moves = m; lost = l }) n (looked key v m l (view_of key shares ws vs id v fit at))
