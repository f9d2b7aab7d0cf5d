use Rattle.std.proofs.Common.{◌≡◌, ℕ, ◌<◌, length, get_or}
use Rattle.std.specs.Prelude.{vec_len, vec_capacity}
use Rattle.frame_zones.specs.declared.spans.Span.{Span}
use Rattle.zone_slots.specs.Layouts.{stretch_at}
use Rattle.zone_slots.specs.ZoneSpans.{IsSpanOf}
use Rattle.zone_slots.proofs.zone_spans.spans_of.Given as goal

abbrev pub invariant-loop-first : goal.invariant-loop-first
invariant-loop-first l = record {
  count : vec_len l.spans ≡ l.first-index;
  room : vec_capacity l.spans ≡ length l.zones;
  each : (z : ℕ) (s : Span) → z < l.first-index
      → IsSpanOf l.cores l.ranges (stretch_at l.zones z) (get_or l.spans.items z s);
}
