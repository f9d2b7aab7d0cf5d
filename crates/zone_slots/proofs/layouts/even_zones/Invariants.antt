use Rattle.std.proofs.Common.{◌≡◌, ℕ, ◌-◌, ◌*◌, ◌<◌}
use Rattle.std.specs.Prelude.{min, vec_len, vec_capacity}
use Rattle.zone_slots.specs.Layouts.{stretch_at}
use Rattle.frame_slots.specs.Numbers.{most_frames}
use Rattle.zone_slots.proofs.layouts.even_zones.Given as goal

abbrev pub invariant-loop-zone : goal.invariant-loop-zone
invariant-loop-zone l = record {
  count : vec_len l.zones ≡ l.zone;
  room : vec_capacity l.zones ≡ l.count;
  firsts : (k : ℕ) → k < l.zone → (stretch_at l.zones.items k).0 ≡ most_frames * k;
  sizes : (k : ℕ) → k < l.zone → (stretch_at l.zones.items k).1 ≡ min most_frames (l.frames - most_frames * k);
}
