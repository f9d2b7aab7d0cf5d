use Rattle.std.proofs.Common.{◌≡◌, ◌*◌, ◌≤◌, ℕ, ◌<◌, length, take}
use Rattle.frame_slots.specs.Numbers.{IsImageOf}
use Rattle.zone_slots.specs.ImageParts.{image_numbers_of}
use Rattle.zone_slots.specs.Layouts.{stretch_at}
use Rattle.llfree_c.specs.ZoneClaims.{own_numbers}
use Rattle.llfree_c.proofs.zone_claims.are_images.Given as goal

abbrev pub invariant-loop-zone : goal.invariant-loop-zone
invariant-loop-zone l = record {
  count : length l.numbers ≡ image_numbers_of l.zones;
  next : l.start ≡ image_numbers_of (take l.zone l.zones);
  bound : l.start ≤ 36864 * l.zone;
  each : (z : ℕ) → z < l.zone → IsImageOf (stretch_at l.zones z).1 (own_numbers l.zones l.numbers z);
}
