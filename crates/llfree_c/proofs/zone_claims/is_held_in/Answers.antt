use Rattle.std.proofs.Common.{◌≡◌, ℕ, List, ap, drop, subst, sym, ◌∙◌}
use Rattle.frame_model.specs.declared.block.FrameBlock.{FrameBlock}
use Rattle.frame_slots.specs.Claims.{IsHeldAs}
use Rattle.zone_slots.specs.Layouts.{Stretch, stretch_at}
use Rattle.zone_slots.specs.ZoneClaims.{block_within}
use Rattle.llfree_c.specs.ZoneClaims.{numbers_of_zone}
use Rattle.llfree_c.proofs.ClaimedZones.{held_here}
use Rattle.llfree_c.proofs.zone_claims.is_held_in.Goals as goal

pub returns-then-not-is_held_as : goal.returns-then-not-is_held_as
returns-then-not-is_held_as c =
    let z : ℕ = c.in-Some.zone in
    let zones : List Stretch = c.args.zones.now in
    let numbers : List ℕ = c.args.numbers.now in
    let b : FrameBlock = c.args.block.now in
    let from : c.behind.result.now ≡ numbers_of_zone zones numbers z =
    c.behind.ensures ∙ ap (λ n. drop n numbers) (c.requires.starts.each z c.in-Some.ensures.0) in
    λ held. c.if-not-is_held_as.ensures
    (subst (λ (l : List ℕ). IsHeldAs (stretch_at zones z).1 l (block_within (stretch_at zones z) b)) (sym from)
    (held_here zones numbers b z c.requires.zones c.in-Some.ensures.0 c.in-Some.ensures.1 held))
