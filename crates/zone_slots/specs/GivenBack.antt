-- Huge frames of a run that are looked for at their slots, one after the other, to be given back.
use Rattle.std.specs.Prelude.{◌≡◌, ℕ, ◌+◌, ◌<◌, ◌≤◌, Result, IfOk, IfErr}
use Rattle.frame_words.specs.Geometry.{huge_order}
use Rattle.frame_zones.specs.Looks.{most_in_run}
use Rattle.frame_zones.specs.declared.block.GivenBlock.{GivenBlock}
use Rattle.zone_slots.specs.Runs.{frame_in_run}
use Rattle.zone_slots.specs.declared.given_back.GivenBack.{GivenBack}
use Rattle.zone_slots.specs.declared.given_back.Missed.{Missed}

-- at this frame of the zone begins the huge frame right behind those that were looked for
abbrev pub IsRightBehind : GivenBack → (zone frame : ℕ) → Type 0
IsRightBehind b zone frame = (zone ≡ b.parts.zone) × (frame ≡ frame_in_run b.parts.frame (b.given + b.missed))

-- the huge frame right behind them was given, or was missed; and they are fewer than were laid down
pub record IsNextBack (b : GivenBack) (answer : Result GivenBlock Missed) : Type 0 where
  pub given : IfOk answer (λ g. (g.order ≡ huge_order) × IsRightBehind b g.zone g.frame)
  pub missed : IfErr answer (λ m. IsRightBehind b m.zone m.frame)
  pub fewer : b.given + b.missed < b.parts.count
  pub few : b.parts.count ≤ most_in_run

-- one huge frame of them more was given, or one more was missed
pub record IsOneMoreBack (b : GivenBack) (answer : Result GivenBlock Missed) (c : GivenBack) : Type 0 where
  pub parts : c.parts ≡ b.parts
  pub given : IfOk answer (λ _. (c.given ≡ b.given + 1) × (c.missed ≡ b.missed))
  pub missed : IfErr answer (λ _. (c.given ≡ b.given) × (c.missed ≡ b.missed + 1))
