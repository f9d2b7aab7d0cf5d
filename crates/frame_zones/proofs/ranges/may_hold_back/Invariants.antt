use Rattle.std.proofs.Common.{ℕ, ◌<◌, slice_index_or}
use Rattle.frame_zones.specs.Spans.{HoldsLawful}
use Rattle.frame_zones.specs.declared.spans.Span.{Span}
use Rattle.frame_zones.proofs.ranges.may_hold_back.Given as goal

abbrev pub invariant-loop-span : goal.invariant-loop-span
invariant-loop-span l = (k : ℕ) (d : Span) → k < l.span-index → HoldsLawful (slice_index_or l.spans k d)
