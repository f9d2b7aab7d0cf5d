use Rattle.std.proofs.Common.{ℕ, ◌<◌, slice_index_or}
use Rattle.frame_zones.specs.declared.spans.Span.{Span}
use Rattle.zone_slots.specs.Openings.{HasNumbers}
use Rattle.zone_slots.proofs.openings.have_numbers.Given as goal

abbrev pub invariant-loop-span : goal.invariant-loop-span
invariant-loop-span l = (k : ℕ) (d : Span) → k < l.span-index → HasNumbers (slice_index_or l.spans k d)
