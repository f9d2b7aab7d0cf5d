use Rattle.std.proofs.Common.{◌≡◌, take}
use Rattle.zone_slots.specs.ZoneClaims.{blocks_within}
use Rattle.zone_slots.proofs.zone_claims.blocks_in.Given as goal

abbrev pub invariant-loop-i : goal.invariant-loop-i
invariant-loop-i l = l.own.items ≡ blocks_within (l.first, l.frames) (take l.i l.blocks)
