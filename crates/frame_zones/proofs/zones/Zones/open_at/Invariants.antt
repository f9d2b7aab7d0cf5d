use Rattle.std.proofs.Common.{◌≡◌, ◌≤◌, length, map, vec_capacity}
use Rattle.frame_zones.specs.Reopening.{AreLeftOf, AreHeldAt}
use Rattle.frame_zones.specs.Sizes.{AreSized}
use Rattle.frame_zones.specs.Spans.{place_at, MayBeZones}
use Rattle.frame_zones.proofs.Begun.{IsOpening}
use Rattle.frame_zones.proofs.zones.Zones.open_at.Given as goal

abbrev pub invariant-loop-image : goal.invariant-loop-image
invariant-loop-image l = record {
  lawful : MayBeZones l.cores (map place_at l.images);
  opening : IsOpening (length l.images) l.cores (map place_at l.images) l.zones.items l.firsts.items l.all.items;
  survivors : AreLeftOf l.zones.items l.left.items;
  held : AreHeldAt l.image-index l.images l.left.items;
  count : length l.zones.items ≡ l.image-index;
  room : length l.images ≤ vec_capacity l.zones;
  firsts_room : length l.images ≤ vec_capacity l.firsts;
  frames_room : length l.images ≤ vec_capacity l.frames;
  sized : AreSized l.zones.items l.frames.items;
  left_room : length l.images ≤ vec_capacity l.left;
}
