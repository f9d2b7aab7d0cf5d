use Rattle.std.proofs.Common.{◌≡◌, ◌≤◌, length, map, vec_capacity}
use Rattle.std.specs.List.{All}
use Rattle.frame_zones.specs.Sizes.{AreSized}
use Rattle.frame_zones.specs.Spans.{place_of_span, MayBeZones, HoldsLawful}
use Rattle.frame_zones.proofs.Begun.{IsOpening}
use Rattle.frame_zones.proofs.zones.Zones.open.Given as goal

abbrev pub invariant-loop-span : goal.invariant-loop-span
invariant-loop-span l = record {
  lawful : MayBeZones l.cores (map place_of_span l.spans);
  opening : IsOpening (length l.spans) l.cores (map place_of_span l.spans) l.zones.items l.firsts.items l.all.items;
  holds : All HoldsLawful l.spans;
  count : length l.zones.items ≡ l.span-index;
  room : length l.spans ≤ vec_capacity l.zones;
  firsts_room : length l.spans ≤ vec_capacity l.firsts;
  frames_room : length l.spans ≤ vec_capacity l.frames;
  sized : AreSized l.zones.items l.frames.items;
}
