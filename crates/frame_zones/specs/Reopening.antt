-- What zones that are opened at images find there.
use Rattle.std.specs.Prelude.{◌≡◌, ℕ, ◌<◌, List, Result, IfOk, IfErr, length, slice_index_or}
use Rattle.frame_words.specs.declared.fault.Fault.{Fault}
use Rattle.frame_model.specs.declared.block.FrameBlock.{FrameBlock}
use Rattle.frame_model.specs.Rebuilt.{IsRebuilt}
use Rattle.frame_model.specs.Openings.{held_blocks}
use Rattle.frame_model.specs.Without.{without}
use Rattle.frame_table.specs.Openings.{unsealed_key}
use Rattle.core_frames.specs.declared.shared.allocator.Allocator.{Allocator}
use Rattle.core_frames.specs.declared.shared.survivors.Survivors.{Survivors}
use Rattle.core_frames.specs.Left.{left_blocks, IsSurvivorsOf, IsAdopted, IsUnadoptedFor}
use Rattle.frame_zones.specs.Zones.{zone_count, zone_at}
use Rattle.frame_zones.specs.declared.image.ZoneImage.{ZoneImage}
use Rattle.frame_zones.specs.declared.zones.Zones.{Zones}
use Rattle.frame_zones.specs.declared.block.ZoneBlock.{ZoneBlock}

-- the image equals its own rebuilding
abbrev pub IsReopenable : ZoneImage → Type 0
IsReopenable i = IsRebuilt (unsealed_key i.image.geometry) i.image.words i.image.words

-- the blocks that the image holds
abbrev pub held_in_image : ZoneImage → List FrameBlock
held_in_image i = held_blocks (unsealed_key i.image.geometry) i.image.words

-- for each of these allocators what was held before its opening
pub record AreLeftOf (zones : List Allocator) (left : List Survivors) : Type 0 where
  pub count : length left ≡ length zones
  pub each : (z : ℕ) (a : Allocator) (s : Survivors) → z < length zones
      → IsSurvivorsOf (slice_index_or zones z a) (slice_index_or left z s)

-- for each zone what was held before its opening
abbrev pub AreSurvivorsOf : Zones → List Survivors → Type 0
AreSurvivorsOf zs left = AreLeftOf zs.zones.items left

-- in so many zones just what the images hold is left
abbrev pub AreHeldAt : ℕ → List ZoneImage → List Survivors → Type 0
AreHeldAt zones images left = (z : ℕ) (i : ZoneImage) (s : Survivors) → z < zones
    → left_blocks (slice_index_or left z s) ≡ held_in_image (slice_index_or images z i)

-- the block of this zone is adopted and leaves what is left there; or it is refused, and nothing
-- leaves; of the other zones all is left as before
pub record AdoptsIn (zs : Zones) (z : ℕ) (b : FrameBlock) (answer : Result ZoneBlock Fault)
    (old new : List Survivors) : Type 0 where
  pub ok : IfOk answer (λ held. (held.zone ≡ z) × ((a : Allocator) (s : Survivors)
      → IsAdopted (zone_at zs z a) b held.block (left_blocks (slice_index_or old z s))
      × (left_blocks (slice_index_or new z s) ≡ without b (left_blocks (slice_index_or old z s)))))
  pub err : IfErr answer (λ fault. (a : Allocator) (s : Survivors)
      → IsUnadoptedFor (zone_at zs z a) b (left_blocks (slice_index_or old z s)) fault
      × (left_blocks (slice_index_or new z s) ≡ left_blocks (slice_index_or old z s)))
  pub others : (k : ℕ) (s : Survivors) → k < zone_count zs → ¬ (k ≡ z)
      → slice_index_or new k s ≡ slice_index_or old k s
