-- Where zones lie, and the rule for it.
use Rattle.std.specs.Prelude.{◌≡◌, ℕ, ◌+◌, ◌*◌, ◌%◌, ◌^◌, ◌≤◌, List, [], ◌∷◌, length}
use Rattle.frame_model.specs.declared.key.Key.{Key}
use Rattle.frame_model.specs.Key.{sealed_key}
use Rattle.frame_table.specs.Openings.{unsealed_key}
use Rattle.core_frames.specs.Ranges.{MayHoldBack}
use Rattle.frame_zones.specs.declared.image.ZoneImage.{ZoneImage}
use Rattle.frame_zones.specs.declared.spans.Span.{Span}

-- the most zones
abbrev pub most_zones : ℕ
most_zones = 1024

-- as many frames of 4 KiB as 64 bits address
abbrev pub most_zone_frames : ℕ
most_zone_frames = 2 ^ 52

-- where a zone lies: its first frame, and the key of its memory
pub record Place : Type 0 where
  pub first : ℕ
  pub key : Key

-- where an opening of the span lies
abbrev pub place_of_span : Span → Place
place_of_span s = record { first = s.first; key = sealed_key s.geometry s.ranges.items }

-- where an opening at the image lies
abbrev pub place_at : ZoneImage → Place
place_at i = record { first = i.first; key = unsealed_key i.image.geometry }

-- the frame past the last one of so many children
abbrev pub end_at : (first children : ℕ) → ℕ
end_at first children = first + 512 * children

-- a zone of so many cores and children may lie from this first frame on, behind those that end at a
-- frame: it has as many cores as they, begins at a whole child, there or behind it, and ends within
-- all frames
pub record MayLie (as_many from first cores children : ℕ) : Type 0 where
  pub same_cores : cores ≡ as_many
  pub aligned : first % 512 ≡ 0
  pub behind : from ≤ first
  pub inside : end_at first children ≤ most_zone_frames

-- the frame past the last child
abbrev pub end_of_place : Place → ℕ
end_of_place p = end_at p.first p.key.children

-- the zone may lie behind those that end at a frame
abbrev pub MayComeAfter : (cores from : ℕ) → Place → Type 0
MayComeAfter cores from p = MayLie cores from p.first p.key.cores p.key.children

-- each zone may lie behind the one before it, and the first one behind a frame
unfoldable pub AreSpans : (cores from : ℕ) → List Place → Type 0
AreSpans cores from [] = Unit {0}
AreSpans cores from (p ∷ places) = MayComeAfter cores from p × AreSpans cores (end_of_place p) places

-- there are some, and few enough, and each may lie behind the one before it
pub record MayBeZones (cores : ℕ) (places : List Place) : Type 0 where
  pub some : 1 ≤ length places
  pub few : length places ≤ most_zones
  pub apart : AreSpans cores 0 places

-- the ranges of the span may be held back
abbrev pub HoldsLawful : Span → Type 0
HoldsLawful s = MayHoldBack s.geometry s.ranges.items
