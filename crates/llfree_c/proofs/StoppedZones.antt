-- Images of zones, whose numbers are written one behind the other.
use Rattle.std.proofs.Common.{◌≡◌, ⊎_elim, ℕ, zero, suc, ◌+◌, ◌-◌, ◌*◌, ◌<◌, ◌≤◌, List, ◌++◌, length, take, drop, ap, sym, subst, ◌∙◌, arith}
use Rattle.std.specs.Prelude.{slice_index, slice_index_or}
use Rattle.std.specs.List.{sum_by}
use Rattle.std.proofs.Math.Seq.{take-add}
use Rattle.std.proofs.lemmas.Bool.{cases_lt}
use Rattle.std.proofs.lemmas.List.{get_or-drop, get_or-append_right, length-append, length-drop, length-take}
use Rattle.std.proofs.lemmas.List.Sums.{sum_by-append, sum_by_more}
use Rattle.core_frames.specs.Cores.{memory_of, seat_of}
use Rattle.core_frames.specs.declared.shared.allocator.Allocator.{Allocator}
use Rattle.core_frames.specs.declared.shared.allocator.Core.{Core}
use Rattle.frame_core.specs.Image.{Contents}
use Rattle.frame_zones.specs.Stops.{AreStopped}
use Rattle.frame_zones.specs.Zones.{zone_count, zone_at, core_at}
use Rattle.frame_zones.specs.declared.image.ZoneImage.{ZoneImage}
use Rattle.frame_zones.specs.declared.zones.Zones.{Zones}
use Rattle.frame_zones.specs.declared.zones.ZoneCore.{ZoneCore}
use Rattle.frame_zones.proofs.Parted.{some_of}
use Rattle.zone_slots.specs.Calls.{zones_of, image_numbers_by}
use Rattle.zone_slots.specs.FrameCalls.{StopsWithout}
use Rattle.zone_slots.specs.ImageParts.{numbers_before, numbers_from}
use Rattle.zone_slots.specs.declared.core_state.CoreState.{CoreState}
use Rattle.zone_slots.proofs.Reopened.{before_more}
use Rattle.llfree_c.specs.CoreImages.{numbers_ahead, SaysEach, SaysImage, StopsCore}
use Rattle.llfree_c.specs.Images.{StaysBehind}
use Rattle.llfree_c.proofs.RebuiltNumbers.{leaves_stop}

abbrev children_in : ZoneImage → ℕ
children_in i = i.image.geometry.children

-- the numbers of one image more
pub ahead_more : (images : List ZoneImage) (z : ℕ) (i : ZoneImage) → z < length images
    → numbers_ahead images (z + 1) ≡ numbers_ahead images z + 9 * children_in (slice_index_or images z i)
ahead_more images z i within = omega (arith, sum_by_more children_in images z i within)

-- no fewer numbers are ahead of a later one
pub ahead_le : (images : List ZoneImage) (y z : ℕ) → y ≤ z → numbers_ahead images y ≤ numbers_ahead images z
ahead_le images y z before =
    let same : y + (z - y) ≡ z = omega (arith, before) in
    omega (
      arith,
      ap (λ (is : List ZoneImage). sum_by children_in is) (ap (λ n. take n images) (sym same) ∙ take-add y (z - y) images),
      sum_by-append children_in (take y images) (take (z - y) (drop y images)),
    )

-- what is written from a place on leaves what lies behind it
pub written_behind : (from n : ℕ) (numbers front rest new : List ℕ) → front ≡ take from numbers → rest ≡ drop from numbers
    → from ≤ length numbers → StaysBehind n rest new → StaysBehind (from + n) numbers (front ++ new)
written_behind from n numbers front rest new is_front is_rest few behind =
    let long : length front ≡ from = ap (λ (l : List ℕ). length l) is_front ∙ omega (arith, few, length-take from numbers) in
    let left : length rest ≡ length numbers - from = ap (λ (l : List ℕ). length l) is_rest ∙ length-drop from numbers in
    record {
      count = length-append front new ∙ omega (arith, long, behind.count, left, few);
      same = λ i past less.
          let at : from + (i - from) ≡ i = omega (arith, past) in
          get_or-append_right front new from i 0 long (omega (arith, past))
          ∙ (behind.same (i - from) (omega (arith, past)) (omega (arith, past, less, left))
          ∙ (ap (λ (l : List ℕ). slice_index l (i - from)) is_rest
          ∙ (get_or-drop from numbers (i - from) 0 ∙ ap (slice_index numbers) at)));
    }

-- what was said of an image stays where its numbers do
says_still : (image : Contents) (from end : ℕ) (old new : List ℕ)
    → ((i : ℕ) → i < end → slice_index new i ≡ slice_index old i) → from + 9 * image.geometry.children ≤ end
    → SaysImage image (drop from old) → SaysImage image (drop from new)
says_still image from end old new same before says = λ c less.
    let s = says c less in
    let read : (j : ℕ) → j < 9 * image.geometry.children → slice_index (drop from new) j ≡ slice_index (drop from old) j =
    λ j h. get_or-drop from new j 0 ∙ (same (from + j) (omega (arith, h, before)) ∙ sym (get_or-drop from old j 0)) in
    record {
      entry = read (9 * c) (omega (arith, less)) ∙ s.entry;
      bits = λ w h. read (9 * c + 1 + w) (omega (arith, less, h)) ∙ s.bits w h;
    }

-- one image more is said
pub says_one_more : (images : List ZoneImage) (z : ℕ) (old new : List ℕ) → z < length images
    → ((i : ℕ) → i < numbers_ahead images z → slice_index new i ≡ slice_index old i)
    → ((k : ℕ) (i : ZoneImage) → k < z → SaysImage (slice_index_or images k i).image (drop (numbers_ahead images k) old))
    → ((i : ZoneImage) → SaysImage (slice_index_or images z i).image (drop (numbers_ahead images z) new))
    → (k : ℕ) (i : ZoneImage) → k < z + 1 → SaysImage (slice_index_or images k i).image (drop (numbers_ahead images k) new)
says_one_more images z old new within same all one k i less =
    ⊎_elim
    (λ (below : k < z). says_still (slice_index_or images k i).image (numbers_ahead images k) (numbers_ahead images z) old new same
    (omega (arith, ahead_more images k i (omega (arith, below, within)), ahead_le images (k + 1) z (omega (arith, below)))) (all k i below))
    (λ (above : z ≤ k). let e : z ≡ k = omega (arith, above, less) in
    subst (λ (n : ℕ). SaysImage (slice_index_or images n i).image (drop (numbers_ahead images n) new)) e (one i))
    (cases_lt k z)

module _ (zs : Zones) (c : ZoneCore) (x : Core) (images : List ZoneImage) (are : AreStopped zs c images) (some : 0 < zone_count zs) where
  -- images have as many numbers ahead as their zones
  pub ahead_is : (z : ℕ) → z ≤ zone_count zs → numbers_ahead images z ≡ numbers_before zs z
  ahead_is zero few = omega arith
  ahead_is (suc z) few =
      let next : suc z ≡ z + 1 = omega arith in
      let within : z < zone_count zs = omega (arith, few) in
      let a : Allocator = some_of zs.zones.items some in
      let i : ZoneImage = some_of images (omega (arith, some, are.count)) in
      ap (numbers_ahead images) next
      ∙ (omega (
        arith,
        ahead_more images z i (omega (arith, within, are.count)),
        ((are.each z i within).stopped a x).sizes.0,
        ahead_is z (omega (arith, few)),
        before_more zs z a within,
      ) ∙ ap (numbers_before zs) (sym next))

-- all of them have as many together as the image of the core's zones
pub all_ahead : (s : CoreState) (images : List ZoneImage) → StopsWithout s images
    → numbers_ahead images (length images) ≡ image_numbers_by s
all_ahead s images left =
    let zs : Zones = zones_of s in
    let some : 0 < zone_count zs = omega (arith, s.is_core.home) in
    let x : Core = some_of left.core.cores.items (omega (arith, some, left.rest.are_cores.parts.count)) in
    ap (numbers_ahead images) left.stopped.count ∙ ahead_is zs left.core x images left.stopped some (zone_count zs) (omega arith)

pub stops : (s : CoreState) (images : List ZoneImage) (numbers : List ℕ) → StopsWithout s images
    → SaysEach images numbers → StopsCore s numbers
stops s images numbers left says =
    let zs : Zones = zones_of s in
    let are : AreStopped zs left.core images = left.stopped in
    record {
      core = left.core;
      rest = left.rest;
      zones = λ z within a x.
          let i : ZoneImage = some_of images (omega (arith, within, are.count)) in
          let image : Contents = (slice_index_or images z i).image in
          let said : SaysImage image (numbers_from zs numbers z) =
          subst (λ (n : ℕ). SaysImage image (drop n numbers)) (ahead_is zs left.core x images are (omega (arith, within)) z (omega (arith, within)))
          (says z i (omega (arith, within, are.count))) in
          leaves_stop (memory_of (zone_at zs z a)) (seat_of (core_at left.core z x)) image (numbers_from zs numbers z)
          ((are.each z i within).stopped a x) said;
    }
