-- Blocks that an image of zones holds.
use Rattle.std.proofs.Common.{◌≡◌, ⊎_elim, ℕ, ◌<◌, ◌≤◌, List, length, sym, subst, arith}
use Rattle.std.specs.List.{All}
use Rattle.std.specs.List.Sorted.{IsPermutation}
use Rattle.std.proofs.lemmas.Bool.{cases_lt}
use Rattle.std.proofs.lemmas.List.Sorted.{All-permutation, IsPermutation-sym}
use Rattle.frame_model.specs.declared.block.FrameBlock.{FrameBlock}
use Rattle.frame_slots.specs.Claims.{Ascend, IsHeldAs, ShareNoFrame}
use Rattle.zone_slots.specs.Layouts.{Stretch, stretch_at, LiesInStretch, LieInOrder, MayBeLaidOut}
use Rattle.zone_slots.specs.ZoneClaims.{block_within}
use Rattle.zone_slots.proofs.Laid.{laid_ascend}
use Rattle.llfree_c.specs.Reopenings.{claimed_blocks}
use Rattle.llfree_c.specs.ZoneClaims.{numbers_of_zone, AreImagesOf, IsHeldInZone, IsHeldInOne, AreClaimedOf, MayBeClaimedIn}
use Rattle.llfree_c.specs.declared.blocks.ClaimedBlock.{ClaimedBlock}
use Rattle.llfree_c.proofs.Replays.{apart_still}

-- a frame lies in one zone alone
in_one : (zones : List Stretch) (x y z : ℕ) → LieInOrder zones → y < length zones → z < length zones
    → LiesInStretch x (stretch_at zones y) → LiesInStretch x (stretch_at zones z) → y ≡ z
in_one zones x y z up first second a b =
    ⊎_elim (λ (h : y < z). absurd (omega (arith, up y z h second, a.1, b.0)))
    (λ (h : z ≤ y). ⊎_elim (λ (l : z < y). absurd (omega (arith, up z y l first, a.0, b.1)))
    (λ (l : y ≤ z). omega (arith, h, l)) (cases_lt z y))
    (cases_lt y z)

-- a block that some zone holds is held by the one that it begins in
pub held_here : (zones : List Stretch) (numbers : List ℕ) (b : FrameBlock) (z : ℕ) → MayBeLaidOut zones
    → z < length zones → LiesInStretch b.frame (stretch_at zones z) → IsHeldInOne zones numbers b
    → IsHeldAs (stretch_at zones z).1 (numbers_of_zone zones numbers z) (block_within (stretch_at zones z) b)
held_here zones numbers b z laid within lies held =
    let at : IsHeldInZone zones numbers b held.0 = held.1 in
    let same : held.0 ≡ z = in_one zones b.frame held.0 z (laid_ascend zones laid) at.zone within at.begins lies in
    subst (λ (n : ℕ). IsHeldAs (stretch_at zones n).1 (numbers_of_zone zones numbers n) (block_within (stretch_at zones n) b)) same at.held

-- blocks as they were read are claimed
pub are_claimed : (zones : List Stretch) (numbers : List ℕ) (claims : List ClaimedBlock) (blocks held apart : List FrameBlock)
    → AreImagesOf zones numbers → held ≡ blocks → All (IsHeldInOne zones numbers) held
    → IsPermutation (claimed_blocks claims) blocks → Ascend blocks → apart ≡ blocks
    → (Ascend apart → ShareNoFrame apart) → AreClaimedOf zones numbers claims blocks
are_claimed zones numbers claims blocks held apart image is all same up too none = record {
  image = image;
  held = subst (λ (bs : List FrameBlock). All (IsHeldInOne zones numbers) bs) is all;
  same = same;
  ascend = up;
  apart = subst (λ (bs : List FrameBlock). ShareNoFrame bs) too
      (none (subst (λ (bs : List FrameBlock). Ascend bs) (sym too) up));
}

-- what was claimed may be
pub may_be_claimed : (zones : List Stretch) (numbers : List ℕ) (claims : List ClaimedBlock) (blocks : List FrameBlock)
    → AreClaimedOf zones numbers claims blocks → MayBeClaimedIn zones numbers claims
may_be_claimed zones numbers claims blocks are =
    let named : List FrameBlock = claimed_blocks claims in
    let back : IsPermutation blocks named = IsPermutation-sym named blocks are.same in
    record {
      held = All-permutation (IsHeldInOne zones numbers) blocks named back are.held;
      apart = apart_still blocks named back are.apart;
    }
