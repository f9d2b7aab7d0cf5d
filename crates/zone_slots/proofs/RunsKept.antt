-- What the cores keep is as before where a run is looked for, taken and given back.
use Rattle.std.proofs.Common.{◌≡◌, ℕ, inl, inr, sym, ◌∙◌, ap, subst}
use Rattle.std.proofs.lemmas.Bool.{cases_eq}
use Rattle.core_frames.specs.Cores.{kept_by}
use Rattle.frame_model.specs.declared.view.View.{View}
use Rattle.frame_zones.specs.Looks.{HasLookedAtChildren}
use Rattle.frame_zones.specs.Uses.{GivesIn, KeepsAll}
use Rattle.frame_zones.specs.Zones.{core_at, InEach}
use Rattle.frame_zones.specs.declared.zones.ZoneCore.{ZoneCore}
use Rattle.frame_zones.specs.declared.zones.Zones.{Zones}

pub kept_same : (zs : Zones) (c d : ZoneCore) → d ≡ c → InEach zs KeepsAll c d
kept_same zs c d same z a x within = ap (λ (e : ZoneCore). kept_by (core_at e z x)) same

pub kept_twice : (zs : Zones) (c d e : ZoneCore) → InEach zs KeepsAll c d → InEach zs KeepsAll d e → InEach zs KeepsAll c e
kept_twice zs c d e one two z a x within = two z a x within ∙ one z a x within

-- by a give
pub kept_by_give : (zs : Zones) (z : ℕ) (c d : ZoneCore) → GivesIn zs z c d → InEach zs KeepsAll c d
kept_by_give zs z c d gives k a x within =
    elim (cases_eq k z) as (λ _. kept_by (core_at d k x) ≡ kept_by (core_at c k x)) [
      | inl same ↦ subst (λ i. kept_by (core_at d i x) ≡ kept_by (core_at c i x)) (sym same) (gives.here x).kept
      | inr other ↦ ap kept_by (gives.others k x within other)
    ]

-- by a look for a run
pub kept_by_look : (zs : Zones) (c d : ZoneCore) → InEach zs HasLookedAtChildren c d → InEach zs KeepsAll c d
kept_by_look zs c d looked z a x within = ap (λ (v : View). v.kept) (looked z a x within).view.1.1
