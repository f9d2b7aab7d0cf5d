-- What no step changes of the view that makes it.
use Rattle.std.proofs.Common.{◌≡◌, ℕ, refl}
use Rattle.frame_model.specs.declared.view.View.{View}
use Rattle.frame_model.specs.Steps.{Kind, charge, refund, claim, claim_singles, release, take_huge, give_huge, tree_pay, tree_refund, reserve, swap_local}
use Rattle.frame_model.specs.Steps.{unreserve, local_pay, local_refund, collect, fill_word, drop_flag, effect}

pub record Untouched (v w : View) : Type 0 where
  pub about : w.about ≡ v.about
  pub share : w.share ≡ v.share
  pub lent : w.lent ≡ v.lent
  pub is_ground : w.is_ground ≡ v.is_ground
  pub kept : w.kept ≡ v.kept
  pub lost : w.lost ≡ v.lost

pub untouched : (t : ℕ → ℕ) (kind : Kind) (found : ℕ) (v : View) → Untouched v (effect t kind found v)
untouched t (charge c seen n) found v = record { about = refl; share = refl; lent = refl; is_ground = refl; kept = refl; lost = refl }
untouched t (refund c n) found v = record { about = refl; share = refl; lent = refl; is_ground = refl; kept = refl; lost = refl }
untouched t (claim w seen from o) found v = record { about = refl; share = refl; lent = refl; is_ground = refl; kept = refl; lost = refl }
untouched t (claim_singles w seen m) found v = record { about = refl; share = refl; lent = refl; is_ground = refl; kept = refl; lost = refl }
untouched t (release w from o rest) found v = record { about = refl; share = refl; lent = refl; is_ground = refl; kept = refl; lost = refl }
untouched t (take_huge c seen) found v = record { about = refl; share = refl; lent = refl; is_ground = refl; kept = refl; lost = refl }
untouched t (give_huge c rest) found v = record { about = refl; share = refl; lent = refl; is_ground = refl; kept = refl; lost = refl }
untouched t (tree_pay u seen n) found v = record { about = refl; share = refl; lent = refl; is_ground = refl; kept = refl; lost = refl }
untouched t (tree_refund u n) found v = record { about = refl; share = refl; lent = refl; is_ground = refl; kept = refl; lost = refl }
untouched t (reserve u seen) found v = record { about = refl; share = refl; lent = refl; is_ground = refl; kept = refl; lost = refl }
untouched t (swap_local k put) found v = record { about = refl; share = refl; lent = refl; is_ground = refl; kept = refl; lost = refl }
untouched t (unreserve u n) found v = record { about = refl; share = refl; lent = refl; is_ground = refl; kept = refl; lost = refl }
untouched t (local_pay k seen n) found v = record { about = refl; share = refl; lent = refl; is_ground = refl; kept = refl; lost = refl }
untouched t (local_refund k seen n) found v = record { about = refl; share = refl; lent = refl; is_ground = refl; kept = refl; lost = refl }
untouched t (collect u seen) found v = record { about = refl; share = refl; lent = refl; is_ground = refl; kept = refl; lost = refl }
untouched t (fill_word w) found v = record { about = refl; share = refl; lent = refl; is_ground = refl; kept = refl; lost = refl }
untouched t (drop_flag c rest) found v = record { about = refl; share = refl; lent = refl; is_ground = refl; kept = refl; lost = refl }
