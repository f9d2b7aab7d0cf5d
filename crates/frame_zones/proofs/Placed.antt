-- A take of just one block, in the zone that has its first frame.
use Rattle.std.proofs.Common.{◌≡◌, ℕ, ◌<◌, ◌≤◌, slice_set, Err, refl, sym, subst, arith, inl, inr}
use Rattle.std.proofs.lemmas.Bool.{cases_eq}
use Rattle.frame_words.specs.Geometry.{huge_order}
use Rattle.frame_words.specs.declared.fault.TakeFault.{TakeFault}
use Rattle.frame_words.specs.declared.fault.TakeFault.TheVariants.{BadOrder, NoBlock, Contended}
use Rattle.frame_model.specs.Block.{block}
use Rattle.core_frames.specs.Places.{IsRefusedAt, TakesPlaceThrough}
use Rattle.core_frames.specs.declared.shared.allocator.Allocator.{Allocator}
use Rattle.core_frames.specs.declared.shared.allocator.Core.{Core}
use Rattle.frame_zones.specs.Frames.{IsFrameIn}
use Rattle.frame_zones.specs.Places.{IsRefusedThere, AreRefusedAt, TakesPlaceAmong}
use Rattle.frame_zones.specs.Uses.{KeepsAll, LendsSame}
use Rattle.frame_zones.specs.Zones.{zone_count, zone_at, core_at, InEach, AreCoresOf}
use Rattle.frame_zones.specs.declared.zones.ZoneCore.{ZoneCore}
use Rattle.frame_zones.specs.declared.zones.Zones.{Zones}
use Rattle.frame_zones.proofs.Placing.{others_stay, at_any_zone}

-- what holds between the cores of that zone, and between a core and itself, holds of each zone
in_each : (P : Allocator → Core → Core → Type 0) (zs : Zones) (z : ℕ) (c d : ZoneCore) (a : Allocator) (u v : Core)
    → AreCoresOf zs c → z < zone_count zs → a ≡ zone_at zs z a → u ≡ core_at c z u
    → d.cores.items ≡ slice_set c.cores.items z v → ((e : Allocator) (y : Core) → P e y y) → P a u v → InEach zs P c d
in_each P zs z c d a u v are within a-is u-is is same here k e y k-within =
    elim (cases_eq k z) as (λ _. P (zone_at zs k e) (core_at c k y) (core_at d k y)) [
      | inl at ↦ subst (λ i. P (zone_at zs i e) (core_at c i y) (core_at d i y)) (sym at)
          (at_any_zone P zs c d z a e u v y within are.parts.count a-is u-is is here)
      | inr other ↦ subst (λ (g : Core). P (zone_at zs k e) (core_at c k y) g)
          (sym (others_stay zs c d z v is k y k-within other)) (same (zone_at zs k e) (core_at c k y))
    ]

-- of an order that there is, why the zone that has the frame refused it is why all do
refused_at : (zs : Zones) (x n : ℕ) (fault : TakeFault) (c d : ZoneCore) → n ≤ huge_order
    → ¬ (fault ≡ BadOrder) → IsRefusedThere zs x n c d fault → AreRefusedAt zs x n c d fault
refused_at zs x n BadOrder c d few other there = absurd (other refl)
refused_at zs x n NoBlock c d few other there = (few, inr there)
refused_at zs x n Contended c d few other there = (few, there)

-- of such an order no zone says that there is none
other_fault : (a : Allocator) (local n : ℕ) (fault : TakeFault) (u v : Core) → n ≤ huge_order
    → IsRefusedAt a (block local n) u v fault → ¬ (fault ≡ BadOrder)
other_fault a local n BadOrder u v few refused is = omega (arith, few, refused.0)
other_fault a local n NoBlock u v few refused is = cc
other_fault a local n Contended u v few refused is = cc

-- the zone that has the frame refused it
pub refused_there : (zs : Zones) (x z local n : ℕ) (fault : TakeFault) (c d : ZoneCore) (a : Allocator) (u v : Core)
    → n ≤ huge_order → AreCoresOf zs c → IsFrameIn zs x z local → a ≡ zone_at zs z a → u ≡ core_at c z u
    → d.cores.items ≡ slice_set c.cores.items z v → d.stays ≡ c.stays
    → TakesPlaceThrough a (block local n) (Err fault) u v → TakesPlaceAmong zs x n (Err fault) c d
refused_there zs x z local n fault c d a u v few are there a-is u-is is stays takes = record {
  kept = in_each KeepsAll zs z c d a u v are there.zone a-is u-is is (λ e y. refl) takes.kept;
  same_stays = stays;
  ok = tt;
  err = (
    refused_at zs x n fault c d few (other_fault a local n fault u v few takes.err.0) (record {
      zone = z;
      local = local;
      is_there = there;
      here = λ e y. at_any_zone (λ f g h. IsRefusedAt f (block local n) g h fault) zs c d z a e u v y there.zone
          are.parts.count a-is u-is is takes.err.0;
      others = others_stay zs c d z v is;
    }),
    in_each LendsSame zs z c d a u v are there.zone a-is u-is is (λ e y. refl) takes.err.1,
  );
}
