use Rattle.std.proofs.Common.{◌≡◌, ◌*◌, ◌≤◌, ℕ, ◌<◌, take, length}
use Rattle.std.specs.Prelude.{slice_index, vec_len, vec_capacity}
use Rattle.zone_slots.specs.ImageParts.{image_numbers_of}
use Rattle.zone_slots.proofs.image_parts.image_starts.Given as goal

abbrev pub invariant-loop-frames : goal.invariant-loop-frames
invariant-loop-frames l = record {
  count : vec_len l.starts ≡ l.frames-index;
  room : vec_capacity l.starts ≡ length l.zones;
  next : l.start ≡ image_numbers_of (take l.frames-index l.zones);
  bound : l.start ≤ 36864 * l.frames-index;
  each : (z : ℕ) → z < l.frames-index → slice_index l.starts.items z ≡ image_numbers_of (take z l.zones);
}
