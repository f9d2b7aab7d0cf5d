-- Why splits are refused.
use Rattle.std.specs.Prelude.{◌≡◌, ℕ, ◌<◌}
use Rattle.frame_zones.specs.declared.zones.ZoneCore.{ZoneCore}
use Rattle.frame_zones.specs.declared.zones.Zones.{Zones}
use Rattle.zone_slots.specs.Calls.{zones_of, KeepsAllInEach}
use Rattle.zone_slots.specs.Parts.{LeavesPartsOut}
use Rattle.zone_slots.specs.Uses.{one_more}
use Rattle.zone_slots.specs.declared.core_state.CoreState.{CoreState}
use Rattle.zone_slots.specs.declared.refusal.Refusal.{Refusal}
use Rattle.zone_slots.specs.declared.refusal.Refusal.TheVariants.{NotHeld, NoParts, NoSlot}

-- of order 0 there are no halves; else it was not held, or a half found no slot, which alone is
-- counted: then at most one half is lent
abbrev pub IsRefusedSplit : Zones → (order frame : ℕ) → ZoneCore → ZoneCore → (count later : ℕ) → Refusal → Type 0
IsRefusedSplit zs n frame c d count later NoParts = (n ≡ 0) × (later ≡ count)
IsRefusedSplit zs n frame c d count later NotHeld = (0 < n) × (later ≡ count)
IsRefusedSplit zs n frame c d count later NoSlot =
    (0 < n) × (later ≡ one_more count) × LeavesPartsOut zs n 2 frame c d

-- why a split of this block through the core was refused; what it keeps in each zone is as before
abbrev pub RefusesSplit : (order frame : ℕ) → CoreState → CoreState → Refusal → Type 0
RefusesSplit n frame s t refusal =
    IsRefusedSplit (zones_of s) n frame s.core t.core s.slotless t.slotless refusal × KeepsAllInEach s t
