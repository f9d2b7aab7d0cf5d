-- The numbers of an image of all zones: nine for each child, zone after zone.
use Rattle.std.specs.Prelude.{◌≡◌, ℕ, ◌*◌, ◌<◌, List, length, drop, take, sum_by, slice_index}
use Rattle.core_frames.specs.Cores.{memory_of}
use Rattle.frame_slots.specs.Numbers.{child_count_of}
use Rattle.frame_zones.specs.declared.zones.Zones.{Zones}
use Rattle.zone_slots.specs.Layouts.{Stretch}

-- how many numbers an image of these zones has
abbrev pub image_numbers_of : List Stretch → ℕ
image_numbers_of zones = sum_by (λ zone. 9 * child_count_of zone.1) zones

-- the numbers of each zone begin behind those of the zones before it
pub record AreStarts (zones : List Stretch) (starts : List ℕ) : Type 0 where
  pub count : length starts ≡ length zones
  pub each : (z : ℕ) → z < length zones → slice_index starts z ≡ image_numbers_of (take z zones)

-- how many numbers an image of all zones has before those of a zone
abbrev pub numbers_before : Zones → ℕ → ℕ
numbers_before zs z = 9 * sum_by (λ a. (memory_of a).children) (take z zs.zones.items)

-- the numbers from those of a zone on
abbrev pub numbers_from : Zones → List ℕ → ℕ → List ℕ
numbers_from zs numbers z = drop (numbers_before zs z) numbers
