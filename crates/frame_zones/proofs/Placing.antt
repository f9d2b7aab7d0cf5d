-- One zone's core is written, and the others stay.
use Rattle.std.proofs.Common.{◌≡◌, ℕ, ◌<◌, List, length, slice_index_or, slice_set, refl, sym, ◌∙◌, ap, subst, length-set, get_or-set_same, get_or-set_other, inl, inr}
use Rattle.std.proofs.lemmas.Bool.{cases_eq}
use Rattle.std.proofs.lemmas.List.{get_or_default}
use Rattle.core_frames.specs.declared.shared.allocator.Allocator.{Allocator}
use Rattle.core_frames.specs.declared.shared.allocator.Core.{Core}
use Rattle.core_frames.specs.Cores.{IsCoreOf, StaysCoreOf}
use Rattle.frame_zones.specs.Zones.{zone_count, zone_at, core_at, InEach, AreCoresOf, StayCoresOf}
use Rattle.frame_zones.specs.Uses.{OthersStay}
use Rattle.frame_zones.specs.declared.zones.Zones.{Zones}
use Rattle.frame_zones.specs.declared.zones.ZoneCore.{ZoneCore}

-- the core of a zone belongs to it, as both were read
pub core_read : (zs : Zones) (c : ZoneCore) (z : ℕ) (a : Allocator) (x : Core) → AreCoresOf zs c
    → z < zone_count zs → a ≡ zone_at zs z a → x ≡ core_at c z x → IsCoreOf a x
core_read zs c z a x are within a-is x-is =
    subst (λ (b : Allocator). IsCoreOf b x) (sym a-is)
    (subst (λ (y : Core). IsCoreOf (zone_at zs z a) y) (sym x-is) (are.parts.each z a x within))

-- the core that was written, at each default
written : (c d : ZoneCore) (z : ℕ) (y x : Core) → z < length c.cores.items
    → d.cores.items ≡ slice_set c.cores.items z y → y ≡ core_at d z x
written c d z y x within is =
    sym (ap (λ (l : List Core). slice_index_or l z x) is ∙ get_or-set_same c.cores.items z y x within)

-- the cores of the other zones
pub others_stay : (zs : Zones) (c d : ZoneCore) (z : ℕ) (y : Core)
    → d.cores.items ≡ slice_set c.cores.items z y → OthersStay zs z c d
others_stay zs c d z y is = λ k x within other.
    ap (λ (l : List Core). slice_index_or l k x) is ∙ get_or-set_other c.cores.items z k y x other

-- what holds between the two cores of a zone as they were read and written holds at each default
pub at_any : (P : Core → Core → Type 0) (c d : ZoneCore) (z : ℕ) (x y other : Core)
    → z < length c.cores.items → x ≡ core_at c z x → d.cores.items ≡ slice_set c.cores.items z y
    → P x y → P (core_at c z other) (core_at d z other)
at_any P c d z x y other within x-is is holds =
    subst (λ (e : Core). P e (core_at d z other)) (x-is ∙ get_or_default c.cores.items z x other within)
    (subst (λ (e : Core). P x e) (written c d z y other within is) holds)

-- the same, where the zone is at a default too
pub at_any_zone : (P : Allocator → Core → Core → Type 0) (zs : Zones) (c d : ZoneCore) (z : ℕ)
    (a b : Allocator) (x y other : Core) → z < zone_count zs → length c.cores.items ≡ zone_count zs
    → a ≡ zone_at zs z a → x ≡ core_at c z x → d.cores.items ≡ slice_set c.cores.items z y
    → P a x y → P (zone_at zs z b) (core_at c z other) (core_at d z other)
at_any_zone P zs c d z a b x y other within count a-is x-is is holds =
    subst (λ (e : Allocator). P e (core_at c z other) (core_at d z other))
    (a-is ∙ get_or_default zs.zones.items z a b within)
    (at_any (P a) c d z x y other (subst (λ n. z < n) (sym count) within) x-is is holds)

-- what holds of a zone as it was read holds at each default
pub at_that_zone : (P : Allocator → Type 0) (zs : Zones) (z : ℕ) (a b : Allocator) → z < zone_count zs
    → a ≡ zone_at zs z a → P a → P (zone_at zs z b)
at_that_zone P zs z a b within a-is holds = subst P (a-is ∙ get_or_default zs.zones.items z a b within) holds

-- where the written core stays one of its zone, all do
pub stay_cores : (zs : Zones) (c d : ZoneCore) (z : ℕ) (a : Allocator) (x y : Core)
    → AreCoresOf zs c → z < zone_count zs → a ≡ zone_at zs z a → x ≡ core_at c z x
    → d.cores.items ≡ slice_set c.cores.items z y → d.home ≡ c.home → StaysCoreOf a x y
    → StayCoresOf zs c d
stay_cores zs c d z a x y are within a-is x-is is home stays =
    let each : InEach zs StaysCoreOf c d = λ k b e k-within.
    elim (cases_eq k z) as (λ _. StaysCoreOf (zone_at zs k b) (core_at c k e) (core_at d k e)) [
      | inl same ↦ subst (λ i. StaysCoreOf (zone_at zs i b) (core_at c i e) (core_at d i e)) (sym same)
          (at_any_zone (λ f g h. StaysCoreOf f g h) zs c d z a b x y e within are.parts.count a-is x-is is stays)
      | inr other ↦ subst (λ (g : Core). StaysCoreOf (zone_at zs k b) (core_at c k e) g)
          (sym (others_stay zs c d z y is k e k-within other))
          (record { is_core = are.parts.each k b e k-within; same_number = refl; stays_alone = λ alone. alone })
    ] in
    record {
      are_cores = record {
        parts = record {
          count = ap length is ∙ length-set c.cores.items z y ∙ are.parts.count;
          each = λ k b e k-within. (each k b e k-within).is_core;
        };
        home = subst (λ h. h < zone_count zs) (sym home) are.home;
      };
      same_home = home;
      same_numbers = λ k b e k-within. (each k b e k-within).same_number;
    }
