use Rattle.std.proofs.Common.{rules, ◌≡◌, zero, suc, List, [], ◌∷◌, ◌++◌, ap, sym, subst, ◌∙◌, arith}
use Rattle.std.specs.List.{All}
use Rattle.frame_zones.specs.Zones.{HasCoresIn, AreCoresOf}
use Rattle.frame_zones.specs.declared.zones.Zones.{Zones}
use Rattle.frame_zones.specs.declared.zones.ZoneCore.{ZoneCore}
use Rattle.zone_tests.proofs.tests.closings.closing_wants_each_core.Goals as goal

-- what holds of two cores holds of each in their list
two : (P : ZoneCore → Type 0) (first second : ZoneCore) → P first → P second → All P (first ∷ second ∷ [])
two P first second one other zero d within = one
two P first second one other (suc zero) d within = other
two P first second one other (suc (suc k)) d within = absurd (omega (arith, within))

-- two cores of zones are cores of the same zones, handed back
both : (zones back : Zones) (cores : List ZoneCore) (first second : ZoneCore) → back ≡ zones → cores ≡ first ∷ second ∷ []
    → AreCoresOf zones first → AreCoresOf zones second → All (HasCoresIn back.zones.items) cores
both zones back cores first second same are one other =
    subst (λ (z : Zones). All (HasCoresIn z.zones.items) cores) (sym same)
    (subst (λ (l : List ZoneCore). All (HasCoresIn zones.zones.items) l) (sym are)
    (two (HasCoresIn zones.zones.items) first second one.parts other.parts))

pub held_in_each-requires : goal.held_in_each-requires
held_in_each-requires g c =
    let first : ZoneCore = c.taken.new.core in
    let second : ZoneCore = c.in_ok-zones.second in
    let same = c.in-Err.ensures.missing (first_of (search rules, cc)) in
    both c.in_ok-zones.zones c.in-Err.field-0.zones c.push.new.self.items first second same.0
    (c.in_ok-push.ensures.items
    ∙ ap (λ (l : List ZoneCore). l ++ second ∷ [])
    (ap (λ v. v.items) same.1
    ∙ (c.push_reserved.ensures.items ∙ ap (λ (l : List ZoneCore). l ++ first ∷ []) c.in_ok-cores.ensures.items)))
    c.taken.ensures c.in_ok-zones.ensures.second
