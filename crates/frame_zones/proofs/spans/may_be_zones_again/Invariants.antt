use Rattle.std.proofs.Common.{◌≤◌, length, drop, map}
use Rattle.frame_zones.specs.Spans.{most_zones, AreSpans, place_at}
use Rattle.frame_zones.proofs.spans.may_be_zones_again.Given as goal

abbrev pub invariant-loop-zone : goal.invariant-loop-zone
invariant-loop-zone l =
    let places = map place_at l.images in
    record {
      some : 1 ≤ length l.images;
      few : length l.images ≤ most_zones;
      whole : AreSpans l.cores l.from (drop l.zone-index places) → AreSpans l.cores 0 places;
      part : AreSpans l.cores 0 places → AreSpans l.cores l.from (drop l.zone-index places);
    }
