use Rattle.std.proofs.Common.{ℕ, ◌<◌}
use Rattle.zone_slots.specs.Layouts.{LiesInOne}
use Rattle.zone_slots.specs.ZoneClaims.{first_frame_at}
use Rattle.zone_slots.proofs.zone_claims.are_in_zones.Given as goal

abbrev pub invariant-loop-block : goal.invariant-loop-block
invariant-loop-block l = (k : ℕ) → k < l.block-index → LiesInOne (first_frame_at l.blocks k) l.zones
