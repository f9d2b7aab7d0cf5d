use Rattle.std.proofs.Common.{◌≡◌, ◌*◌, ◌≤◌, take}
use Rattle.zone_slots.specs.ImageParts.{image_numbers_of}
use Rattle.zone_slots.proofs.image_parts.image_numbers.Given as goal

abbrev pub invariant-loop-frames : goal.invariant-loop-frames
invariant-loop-frames l = record {
  sum : l.sum ≡ image_numbers_of (take l.frames-index l.zones);
  bound : l.sum ≤ 36864 * l.frames-index;
}
