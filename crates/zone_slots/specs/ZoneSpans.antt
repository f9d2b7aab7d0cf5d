-- What an opening of zones is asked for: where each lies, and what it holds back.
use Rattle.std.specs.Prelude.{◌≡◌, ◌⊎◌, ℕ, ◌<◌, ◌≤◌, List, length, slice_index_or}
use Rattle.frame_words.specs.Geometry.{most_cores}
use Rattle.frame_words.specs.declared.fault.Fault.{Fault}
use Rattle.frame_words.specs.declared.fault.Fault.TheVariants.{BadGeometry, BadRange, NoMemory}
use Rattle.frame_zones.specs.Spans.{HoldsLawful}
use Rattle.frame_zones.specs.declared.spans.Span.{Span}
use Rattle.zone_slots.specs.Layouts.{Stretch, stretch_at, MayBeLaidOut}
use Rattle.zone_slots.specs.Cuts.{AreIn, MayBeHeldBack}

-- zones may lie so, for so many cores
pub record MayBeUsed (cores : ℕ) (zones : List Stretch) : Type 0 where
  pub some_cores : 1 ≤ cores
  pub few_cores : cores ≤ most_cores
  pub laid_out : MayBeLaidOut zones

-- the span is the zone's, for so many cores; it holds back just those of its frames that the ranges have
pub record IsSpanOf (cores : ℕ) (ranges : List Stretch) (zone : Stretch) (s : Span) : Type 0 where
  pub first : s.first ≡ zone.0
  pub frames : s.geometry.frames ≡ zone.1
  pub same_cores : s.geometry.cores ≡ cores
  pub held_back : AreIn zone ranges s.ranges.items
  pub lawful : HoldsLawful s

-- these are the spans of the zones, in order
pub record AreSpansOf (cores : ℕ) (zones ranges : List Stretch) (spans : List Span) : Type 0 where
  pub count : length spans ≡ length zones
  pub each : (z : ℕ) (s : Span) → z < length zones
      → IsSpanOf cores ranges (stretch_at zones z) (slice_index_or spans z s)

-- why there are no such spans: zones may not lie so, or not for so many cores; the ranges may not be
-- held back; or memory was wanting
abbrev pub AreNoSpansFor : ℕ → (zones ranges : List Stretch) → Fault → Type 0
AreNoSpansFor cores zones ranges fault =
    ((fault ≡ BadGeometry) × ¬ MayBeUsed cores zones)
    ⊎ ((fault ≡ BadRange) × MayBeUsed cores zones × ¬ MayBeHeldBack zones ranges)
    ⊎ ((fault ≡ NoMemory) × MayBeUsed cores zones × MayBeHeldBack zones ranges)
