-- The home zone of a core.
use Rattle.std.specs.Prelude.{◌≡◌, ℕ}
use Rattle.std.specs.List.{All}
use Rattle.frame_zones.specs.declared.zones.ZoneCore.{ZoneCore}

-- no order stays in another zone
abbrev pub StaysNowhere : ZoneCore → Type 0
StaysNowhere c = All (λ s. s.left ≡ 0) c.stays

-- the home is this zone, no order stays in another one, and the core's part in each zone is as before
pub record MovesHome (z : ℕ) (c d : ZoneCore) : Type 0 where
  pub home : d.home ≡ z
  pub nowhere : StaysNowhere d
  pub parts : d.cores ≡ c.cores
