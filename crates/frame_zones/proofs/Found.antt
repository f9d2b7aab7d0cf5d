-- Which zone has a frame, and how many frames all have.
use Rattle.std.proofs.Common.{◌≡◌, ℕ, suc, ◌-◌, ◌<◌, ◌≤◌, List, [], ◌∷◌, length, slice_index_or, refl, subst, arith, inl, inr}
use Rattle.std.specs.List.{sum_by}
use Rattle.std.proofs.lemmas.Bool.{cases_lt, cases_order}
use Rattle.std.proofs.lemmas.List.Sums.{sum_by-cons}
use Rattle.frame_model.specs.Key.{AreSizes}
use Rattle.frame_table.specs.Ties.{table_sizes}
use Rattle.core_frames.specs.declared.shared.allocator.Allocator.{Allocator}
use Rattle.core_frames.specs.Cores.{memory_of}
use Rattle.frame_zones.specs.Frames.{IsFrameIn, IsInNoZone, IsNotIn, IsLastFrom, BeginBehind}
use Rattle.frame_zones.specs.FreeCounts.{frames_among}
use Rattle.frame_zones.specs.Zones.{zone_count, zone_at, first_frame_of}
use Rattle.frame_zones.specs.declared.zones.Zones.{Zones}
use Rattle.frame_zones.proofs.Parted.{some_of}

sizes_at : (zs : Zones) (z : ℕ) (a : Allocator) → AreSizes (memory_of (zone_at zs z a))
sizes_at zs z a = table_sizes (zone_at zs z a).table

-- first frames do not fall
pub firsts_rise : (zs : Zones) (i j : ℕ) → i ≤ j → j < length zs.firsts.items
    → slice_index_or zs.firsts.items i 0 ≤ slice_index_or zs.firsts.items j 0
firsts_rise zs i j up within =
    let last : j < zone_count zs = subst (λ n. j < n) zs.laid_out.count within in
    let a : Allocator = some_of zs.zones.items (omega (arith, last)) in
    elim (cases_lt i j) as (λ _. slice_index_or zs.firsts.items i 0 ≤ slice_index_or zs.firsts.items j 0) [
      | inl less ↦ omega (arith, zs.laid_out.ascend i j a less last)
      | inr past ↦
          let same : i ≡ j = omega (arith, up, past) in
          subst (λ k. slice_index_or zs.firsts.items i 0 ≤ slice_index_or zs.firsts.items k 0) same (omega arith)
    ]

pub found_in : (zs : Zones) (x z local : ℕ) → z < zone_count zs → first_frame_of zs z ≤ x
    → local ≡ x - first_frame_of zs z → local < slice_index_or zs.frames.items z 0 → IsFrameIn zs x z local
found_in zs x z local within from local-is few = record {
  zone = within;
  sum = omega (arith, from, local-is);
  inside = λ a. subst (λ n. local < n) (zs.sized.each z a within) few;
}

-- what a zone has lies from its first frame on, and below its last one
pub not_in : (zs : Zones) (x z : ℕ) → first_frame_of zs z ≤ x
    → slice_index_or zs.frames.items z 0 ≤ x - first_frame_of zs z → IsNotIn zs x z
not_in zs x z from past local is =
    let a : Allocator = some_of zs.zones.items (omega (arith, is.zone)) in
    omega (arith, is.sum, is.inside a, zs.sized.each z a is.zone, past)

-- a later zone begins behind the frame where this one begins
pub strictly : (zs : Zones) (i j : ℕ) → i < j → j < zone_count zs → first_frame_of zs i < first_frame_of zs j
strictly zs i j less within =
    let a : Allocator = some_of zs.zones.items (omega (arith, within)) in
    omega (arith, zs.laid_out.ascend i j a less within, (sizes_at zs i a).some_children)

pub at_its_first : (zs : Zones) (x z : ℕ) → z < zone_count zs → first_frame_of zs z ≡ x → IsLastFrom zs x z
at_its_first zs x z within is = record {
  zone = within;
  from = omega (arith, is);
  last = λ k past k-within. omega (arith, strictly zs z k past k-within, is);
}

-- where the frame stands among the first frames
pub before_the_next : (zs : Zones) (x past : ℕ) → ¬ (past ≡ 0) → past ≤ length zs.firsts.items
    → ((k : ℕ) → k < past → slice_index_or zs.firsts.items k 0 < x)
    → ((k : ℕ) → past ≤ k → k < length zs.firsts.items → x < slice_index_or zs.firsts.items k 0) → IsLastFrom zs x (past - 1)
before_the_next zs x past some few below above = record {
  zone = omega (arith, some, few, zs.laid_out.count);
  from = omega (arith, below (past - 1) (omega (arith, some)));
  last = λ k behind within. above k (omega (arith, behind, some)) (omega (arith, within, zs.laid_out.count));
}

-- no zone has the frame that the last one from there does not have
pub in_no_zone : (zs : Zones) (x z : ℕ) → IsLastFrom zs x z → IsNotIn zs x z → IsInNoZone zs x
in_no_zone zs x z last none k local is =
    elim (cases_order k z) as (λ _. ⊥) [
      | inl same ↦ none local (subst (λ n. IsFrameIn zs x n local) same is)
      | inr other ↦ elim other as (λ _. ⊥) [
        | inl below ↦
            let a : Allocator = some_of zs.zones.items (omega (arith, is.zone)) in
            omega (arith, zs.laid_out.ascend k z a below last.zone, last.from, is.sum, is.inside a, (sizes_at zs k a).inside)
        | inr above ↦ omega (arith, last.last k above is.zone, is.sum)
      ]
    ]

pub behind_all : (zs : Zones) (x : ℕ) → BeginBehind zs x → IsInNoZone zs x
behind_all zs x behind k local is = omega (arith, behind k is.zone, is.sum)

-- the frames of all zones add up to those that are counted
sums_alike : (zones : List Allocator) (frames : List ℕ) → length frames ≡ length zones
    → ((z : ℕ) (a : Allocator) → z < length zones → slice_index_or frames z 0 ≡ (memory_of (slice_index_or zones z a)).frames)
    → sum_by (λ n. n) frames ≡ sum_by (λ a. (memory_of a).frames) zones
sums_alike [] [] count each = refl
sums_alike [] (n ∷ frames) count each = absurd (omega (arith, count))
sums_alike (a ∷ zones) [] count each = absurd (omega (arith, count))
sums_alike (a ∷ zones) (n ∷ frames) count each =
    let here : n ≡ (memory_of a).frames = each 0 a (omega arith) in
    omega (
      arith,
      here,
      sum_by-cons (λ m. m) n frames,
      sum_by-cons (λ (b : Allocator). (memory_of b).frames) a zones,
      sums_alike zones frames (omega (arith, count)) (λ z b within. each (suc z) b (omega (arith, within))),
    )

pub frames_add_up : (zs : Zones) → sum_by (λ n. n) zs.frames.items ≡ frames_among zs
frames_add_up zs = sums_alike zs.zones.items zs.frames.items zs.sized.count zs.sized.each
