use Rattle.std.proofs.Common.{◌≡◌, ⊎_elim, ℕ, ◌<◌, ◌≤◌, List, arith, length, subst, slice_index_or}
use Rattle.std.proofs.lemmas.Bool.{cases_lt}
use Rattle.std.proofs.lemmas.List.{get_or_default}
use Rattle.frame_model.specs.declared.block.FrameBlock.{FrameBlock}
use Rattle.llfree_c.specs.ZoneClaims.{IsHeldInOne}
use Rattle.llfree_c.proofs.zone_claims.are_held_in.Goals as goal

pub loop-block-preserved : goal.loop-block-preserved
loop-block-preserved c =
    let z : ℕ = c.loop-block.block-index in
    let blocks : List FrameBlock = c.args.blocks.now in
    let Held : FrameBlock → Type 0 = IsHeldInOne c.args.zones.now c.args.numbers.now in
    let within : z < length blocks = c.loop-block-test.true in
    λ k d less.
    ⊎_elim (λ (h : k < z). c.loop-block.invariant k d h)
    (λ (h : z ≤ k). let same : z ≡ k = omega (arith, h, less) in
    subst (λ (n : ℕ). Held (slice_index_or blocks n d)) same
    (subst Held (get_or_default blocks z _ d within) c.if-not-is_held_in.ensures))
    (cases_lt k z)
