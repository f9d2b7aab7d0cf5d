use Rattle.std.proofs.Common.{◌≡◌, ◌<◌, ◌≤◌, ◌⊎◌}
use Rattle.frame_zones.specs.Uses.{HadNone}
use Rattle.core_frames.specs.declared.shared.allocator.Core.{Core}
use Rattle.frame_zones.specs.Zones.{core_at, StayCoresOf}
use Rattle.frame_zones.specs.declared.zones.ZoneCore.{ZoneCore}
use Rattle.frame_zones.proofs.zones.Zones.take_elsewhere.Given as goal

abbrev pub invariant-loop-zone : goal.invariant-loop-zone
invariant-loop-zone l =
    StayCoresOf l.self l.fn.core l.core
    × ((c : ZoneCore) → HadNone l.self (λ z. z ≡ l.first) l.order l.lost c l.fn.core
    → HadNone l.self (λ k. (l.first ≤ k) × (k < l.zone)) l.order l.contended c l.core)
    × (l.core.stays ≡ l.fn.core.stays)
    × ((x : Core) → core_at l.core l.first x ≡ core_at l.fn.core l.first x)

abbrev pub invariant-loop-zone-2 : goal.invariant-loop-zone-2
invariant-loop-zone-2 l =
    StayCoresOf l.self l.fn.core l.core
    × ((c : ZoneCore) → HadNone l.self (λ z. z ≡ l.first) l.order l.lost c l.fn.core
    → HadNone l.self (λ k. (l.first ≤ k) ⊎ (k < l.zone)) l.order l.contended c l.core)
    × (l.core.stays ≡ l.fn.core.stays)
    × ((x : Core) → core_at l.core l.first x ≡ core_at l.fn.core l.first x)
