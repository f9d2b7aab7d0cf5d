-- The image of a memory of zones, and the blocks of it that an opening is told to hold.
use Rattle.std.specs.Prelude.{◌≡◌, ◌⊎◌, ℕ, ◌*◌, ◌<◌, List, length, drop, take}
use Rattle.std.specs.List.{All}
use Rattle.std.specs.List.Sorted.{IsPermutation}
use Rattle.frame_model.specs.declared.block.FrameBlock.{FrameBlock}
use Rattle.frame_slots.specs.Claims.{Ascend, IsHeldAs, ShareNoFrame}
use Rattle.frame_slots.specs.Numbers.{child_count_of, IsImageOf}
use Rattle.zone_slots.specs.ImageParts.{image_numbers_of}
use Rattle.zone_slots.specs.Layouts.{Stretch, stretch_at, LiesInStretch}
use Rattle.zone_slots.specs.ZoneClaims.{block_within}
use Rattle.llfree_c.specs.Reopenings.{claimed_blocks, NamesAnOrder}
use Rattle.llfree_c.specs.Status.{bad_image, bad_order, contended, no_memory, not_held}
use Rattle.llfree_c.specs.declared.blocks.ClaimedBlock.{ClaimedBlock}

-- the numbers of an image from those of a zone on: nine for each child, zone after zone
abbrev pub numbers_of_zone : List Stretch → List ℕ → ℕ → List ℕ
numbers_of_zone zones numbers z = drop (image_numbers_of (take z zones)) numbers

-- those of the zone alone
abbrev pub own_numbers : List Stretch → List ℕ → ℕ → List ℕ
own_numbers zones numbers z = take (9 * child_count_of (stretch_at zones z).1) (numbers_of_zone zones numbers z)

-- the numbers are those of an image of these zones, zone after zone
pub record AreImagesOf (zones : List Stretch) (numbers : List ℕ) : Type 0 where
  pub count : length numbers ≡ image_numbers_of zones
  pub each : (z : ℕ) → z < length zones → IsImageOf (stretch_at zones z).1 (own_numbers zones numbers z)

-- the block begins in this zone, and the zone's image holds all of it there in its own form
pub record IsHeldInZone (zones : List Stretch) (numbers : List ℕ) (b : FrameBlock) (z : ℕ) : Type 0 where
  pub zone : z < length zones
  pub begins : LiesInStretch b.frame (stretch_at zones z)
  pub held : IsHeldAs (stretch_at zones z).1 (numbers_of_zone zones numbers z) (block_within (stretch_at zones z) b)

-- the image of some zone holds the block in its own form
abbrev pub IsHeldInOne : List Stretch → List ℕ → FrameBlock → Type 0
IsHeldInOne zones numbers b = (z : ℕ) × IsHeldInZone zones numbers b z

-- an image of these zones holds each of the blocks in its own form, in one zone, and no two share a frame
pub record MayBeClaimedIn (zones : List Stretch) (numbers : List ℕ) (claims : List ClaimedBlock) : Type 0 where
  pub held : All (IsHeldInOne zones numbers) (claimed_blocks claims)
  pub apart : ShareNoFrame (claimed_blocks claims)

-- an image of these zones was left with these numbers, and just these blocks, which ascend and share no frame,
-- are claimed
pub record AreClaimedOf (zones : List Stretch) (numbers : List ℕ) (claims : List ClaimedBlock)
    (blocks : List FrameBlock) : Type 0 where
  pub image : AreImagesOf zones numbers
  pub held : All (IsHeldInOne zones numbers) blocks
  pub same : IsPermutation (claimed_blocks claims) blocks
  pub ascend : Ascend blocks
  pub apart : ShareNoFrame blocks

-- the numbers are those of an image of these zones, and each claim names an order
pub record AreImagesAndClaims (zones : List Stretch) (numbers : List ℕ) (claims : List ClaimedBlock) : Type 0 where
  pub images : AreImagesOf zones numbers
  pub orders : All NamesAnOrder claims

-- why blocks of these zones are not claimed: the numbers are no image's; or they are, but an order is none; or each
-- is one, but a block is not held by itself in one zone or shares a frame with another one, or memory was wanting
abbrev pub HasNoClaimsIn : List Stretch → List ℕ → List ClaimedBlock → (status : ℕ) → Type 0
HasNoClaimsIn zones numbers claims status =
    ((status ≡ bad_image) × ¬ AreImagesOf zones numbers)
    ⊎ ((status ≡ bad_order) × AreImagesOf zones numbers × ¬ All NamesAnOrder claims)
    ⊎ ((status ≡ not_held) × AreImagesAndClaims zones numbers claims × ¬ MayBeClaimedIn zones numbers claims)
    ⊎ ((status ≡ no_memory) × AreImagesAndClaims zones numbers claims)

-- a block was not reached, of an image's of these zones that may be claimed
abbrev pub IsUnreachedIn : List Stretch → List ℕ → List ClaimedBlock → (status : ℕ) → Type 0
IsUnreachedIn zones numbers claims status =
    (status ≡ contended) × AreImagesOf zones numbers × MayBeClaimedIn zones numbers claims
