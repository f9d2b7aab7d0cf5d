use Rattle.std.proofs.Common.{◌≤◌, length, drop, map}
use Rattle.frame_zones.specs.Spans.{most_zones, AreSpans, place_of_span}
use Rattle.frame_zones.proofs.spans.may_be_zones.Given as goal

abbrev pub invariant-loop-span : goal.invariant-loop-span
invariant-loop-span l =
    let places = map place_of_span l.spans in
    record {
      some : 1 ≤ length l.spans;
      few : length l.spans ≤ most_zones;
      whole : AreSpans l.cores l.from (drop l.span-index places) → AreSpans l.cores 0 places;
      part : AreSpans l.cores 0 places → AreSpans l.cores l.from (drop l.span-index places);
    }
