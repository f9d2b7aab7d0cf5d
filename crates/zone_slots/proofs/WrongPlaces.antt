-- What no take of just one block through a core of all zones says.
use Rattle.std.proofs.Common.{◌≡◌, ℕ, ◌<◌, List, Option, Some, ⊎_elim, inl, inr, sym, ◌∙◌, ap, subst, arith}
use Rattle.std.proofs.Math.Nat.{one-le-pow}
use Rattle.std.proofs.lemmas.Bool.{cases_eq, cases_order}
use Rattle.frame_words.specs.declared.fault.TakeFault.{TakeFault}
use Rattle.frame_words.specs.declared.fault.TakeFault.TheVariants.{BadOrder, NoBlock, Contended}
use Rattle.frame_model.specs.Block.{block, covers}
use Rattle.frame_model.specs.declared.block.FrameBlock.{FrameBlock}
use Rattle.frame_model.specs.declared.view.View.{View}
use Rattle.frame_model.specs.Key.{frame_count}
use Rattle.frame_table.specs.Ties.{table_sizes}
use Rattle.low_frames.proofs.ViewLemmas.{covered_from}
use Rattle.low_frames.specs.Alone.{Turns}
use Rattle.core_frames.specs.Cores.{memory_of, known_by, losses_by}
use Rattle.core_frames.specs.Places.{FindsHeld, WasHeldAt, IsRefusedAt}
use Rattle.core_frames.specs.declared.shared.allocator.Allocator.{Allocator}
use Rattle.core_frames.specs.declared.shared.allocator.Core.{Core}
use Rattle.core_frames.proofs.KeptFrames.{same_held}
use Rattle.frame_zones.proofs.Rounds.{some_zone, some_core}
use Rattle.frame_zones.specs.Frames.{IsFrameIn, IsNotIn}
use Rattle.frame_zones.specs.Places.{IsRefusedThere}
use Rattle.frame_zones.specs.Zones.{zone_count, zone_at, core_at, first_frame_of, AreCoresOf}
use Rattle.frame_zones.specs.declared.zones.ZoneCore.{ZoneCore}
use Rattle.frame_zones.specs.declared.zones.Zones.{Zones}
use Rattle.zone_slots.specs.Calls.{zones_of}
use Rattle.zone_slots.specs.Places.{TakesPlaceFor, RefusesTakeAt}
use Rattle.zone_slots.specs.WrongPlaces.{PlaceFromBoot, PlaceInAHole, PlaceElsewhere, KnowsFree, KnowsFreePlace}
use Rattle.zone_slots.specs.WrongPlaces.{KnownPlaceIsRefused, PlaceLossIsUntold, PlaceContendedForNothing}
use Rattle.zone_slots.specs.WrongPlaces.{PlaceOrderIsAnother}
use Rattle.zone_slots.specs.declared.core_state.CoreState.{CoreState}
use Rattle.zone_slots.proofs.WrongTakes.{taken_from_boot, taken_from_a_hole}

pub place_from_boot : PlaceFromBoot
place_from_boot n frame x s t held lies takes = taken_from_boot n frame x s t held lies takes.takes

pub place_in_a_hole : PlaceInAHole
place_in_a_hole n frame x s t none lies takes = taken_from_a_hole n frame x s t none lies takes.takes

-- a later zone does not have the frame
later_has_none : (zs : Zones) (x y z i j : ℕ) → IsFrameIn zs x y i → IsFrameIn zs x z j → ¬ (y < z)
later_has_none zs x y z i j one two less =
    let a : Allocator = some_zone zs y one.zone in
    omega (
      arith,
      zs.laid_out.ascend y z a less two.zone,
      one.sum,
      two.sum,
      one.inside a,
      (table_sizes (zone_at zs y a).table).inside,
    )

-- one zone has the frame
one_has : (zs : Zones) (x y z i j : ℕ) → IsFrameIn zs x y i → IsFrameIn zs x z j → y ≡ z
one_has zs x y z i j one two =
    elim (cases_order y z) as (λ _. y ≡ z) [
      | inl same ↦ same
      | inr other ↦ elim other as (λ _. y ≡ z) [
        | inl below ↦ absurd (later_has_none zs x y z i j one two below)
        | inr above ↦ absurd (later_has_none zs x z y j i two one above)
      ]
    ]

-- a core of some zone, which is there
core_of : (s : CoreState) (z : ℕ) → z < zone_count (zones_of s) → Core
core_of s z within = some_core s.core z (subst (λ k. z < k) (sym s.is_core.parts.count) within)

-- a free block of a memory is not refused
not_refused : (a : Allocator) (b : FrameBlock) (c d : Core) (fault : TakeFault) → KnowsFree a b c
    → ¬ IsRefusedAt a b c d fault
not_refused a b c d BadOrder knows why = omega (arith, why.0, knows.has.order)
not_refused a b c d NoBlock knows why = ⊎_elim (λ none. none.has_none knows.has) (λ held. found held.0) why
  where
    inside : (x : ℕ) → covers b x ≡ 1 → x < frame_count (memory_of a)
    inside x covered = omega (arith, (covered_from b x covered).1, knows.has.inside, (table_sizes a.table).inside)

    found : ¬ WasHeldAt a b c d
    found held =
        let turned : Turns (FindsHeld (memory_of a) b) (Some knows.words) (known_by d) =
        subst (λ (o : Option (List ℕ)). Turns (FindsHeld (memory_of a) b) o (known_by d)) knows.known
        (held.alone knows.alone) in
        turned.1.1.held (λ x covered.
        same_held (memory_of a) knows.words turned.0 x turned.1.1.frames (inside x covered) ∙ knows.free x covered)
not_refused a b c d Contended knows why = why.2 (knows.alone, (knows.words, knows.known))

-- nor is one of the zone that has its frame
not_refused_there : (zs : Zones) (n frame : ℕ) (c d : ZoneCore) (fault : TakeFault) → AreCoresOf zs c
    → KnowsFreePlace zs n frame c → ¬ IsRefusedThere zs frame n c d fault
not_refused_there zs n frame c d fault are knows there =
    let a : Allocator = some_zone zs knows.zone knows.is_there.zone in
    let y : Core = some_core c knows.zone (subst (λ k. knows.zone < k) (sym are.parts.count) knows.is_there.zone) in
    let zone : there.zone ≡ knows.zone =
    one_has zs frame there.zone knows.zone there.local knows.local there.is_there knows.is_there in
    let local : there.local ≡ knows.local =
    omega (arith, there.is_there.sum, knows.is_there.sum, ap (λ k. first_frame_of zs k) zone) in
    let z : ℕ = knows.zone in
    let i : ℕ = there.local in
    let here = subst (λ k. IsRefusedAt (zone_at zs k a) (block i n) (core_at c k y) (core_at d k y) fault) zone
    (there.here a y) in
    not_refused (zone_at zs knows.zone a) (block knows.local n) (core_at c knows.zone y) (core_at d knows.zone y) fault
    (knows.free a y)
    (subst (λ k. IsRefusedAt (zone_at zs z a) (block k n) (core_at c z y) (core_at d z y) fault) local here)

pub free_place_is_refused : KnownPlaceIsRefused
free_place_is_refused n frame s t BadOrder knows uncounted why =
    let zs : Zones = zones_of s in
    let a : Allocator = some_zone zs knows.zone knows.is_there.zone in
    let y : Core = core_of s knows.zone knows.is_there.zone in
    omega (arith, why.0.0.0, (knows.free a y).has.order)
free_place_is_refused n frame s t NoBlock knows uncounted why =
    ⊎_elim (λ none. none.0 knows.zone knows.local knows.is_there)
    (λ there. not_refused_there (zones_of s) n frame s.core t.core NoBlock s.is_core knows there) why.0.0.1
free_place_is_refused n frame s t Contended knows uncounted why =
    ⊎_elim (λ h. not_refused_there (zones_of s) n frame s.core t.core Contended s.is_core knows h.0.0.1)
    (λ h. uncounted h.no_slot.counted) why

-- where a zone refused it as without a block, no exchange was lost in any
no_loss : (a : Allocator) (b : FrameBlock) (c d : Core) → IsRefusedAt a b c d NoBlock → losses_by d ≡ losses_by c
no_loss a b c d why = ⊎_elim (λ none. ap (λ (v : View). v.lost) none.view) (λ held. held.1) why

no_loss_there : (zs : Zones) (x n z : ℕ) (c d : ZoneCore) (y : Core) → IsRefusedThere zs x n c d NoBlock
    → z < zone_count zs → losses_by (core_at d z y) ≡ losses_by (core_at c z y)
no_loss_there zs x n z c d y there within =
    elim (cases_eq z there.zone) as (λ _. losses_by (core_at d z y) ≡ losses_by (core_at c z y)) [
      | inl same ↦ subst (λ k. losses_by (core_at d k y) ≡ losses_by (core_at c k y)) (sym same)
          (no_loss _ _ _ _ (there.here (some_zone zs z within) y))
      | inr other ↦ ap losses_by (there.others z y within other)
    ]

pub place_loss_is_untold : PlaceLossIsUntold
place_loss_is_untold n frame s t loses why =
    let y : Core = core_of s loses.0 loses.1 in
    ⊎_elim (λ none. omega (arith, loses.2 y, ap (λ (d : ZoneCore). losses_by (core_at d loses.0 y)) none.1))
    (λ there. omega (arith, loses.2 y, no_loss_there (zones_of s) frame n loses.0 s.core t.core y there loses.1))
    why.0.0.1

pub place_contended_for_nothing : PlaceContendedForNothing
place_contended_for_nothing n frame s t uncounted none why =
    ⊎_elim
    (λ h.
    let there : IsRefusedThere (zones_of s) frame n s.core t.core Contended = h.0.0.1 in
    let a : Allocator = some_zone (zones_of s) there.zone there.is_there.zone in
    let y : Core = core_of s there.zone there.is_there.zone in
    omega (arith, none there.zone y there.is_there.zone, (there.here a y).1))
    (λ h. uncounted h.no_slot.counted) why

pub place_order_is_another : PlaceOrderIsAnother
place_order_is_another n frame s t = (
  λ low why. omega (arith, low, why.0.0.0),
  λ high. (
    λ why. omega (arith, high, why.0.0.0),
    λ why. ⊎_elim (λ h. omega (arith, high, h.0.0.0)) (λ h. omega (arith, high, h.no_slot.order)) why,
  ),
)

-- a zone that has the frame is none that does not have it
other_zone : (zs : Zones) (x y z local : ℕ) → IsFrameIn zs x y local → IsNotIn zs x z → ¬ (z ≡ y)
other_zone zs x y z local there none same = none local (subst (λ k. IsFrameIn zs x k local) (sym same) there)

-- so where that zone refused it, the others did not turn
turned_there : (zs : Zones) (x n z : ℕ) (c d : ZoneCore) (fault : TakeFault) (y : Core)
    → IsRefusedThere zs x n c d fault → z < zone_count zs → IsNotIn zs x z → core_at d z y ≡ core_at c z y
turned_there zs x n z c d fault y there within none =
    there.others z y within (other_zone zs x there.zone z there.local there.is_there none)

-- the zone where it was taken has its first frame
taken_here : (n frame : ℕ) (s t : CoreState) (takes : TakesPlaceFor n frame s t)
    → IsFrameIn (zones_of s) frame takes.takes.taken.zone takes.takes.taken.local
taken_here n frame s t takes =
    let y : Core = core_of s takes.takes.taken.zone takes.takes.taken.within in
    record {
      zone = takes.takes.taken.within;
      sum = sym takes.takes.taken.number;
      inside = λ a. omega (arith, (takes.takes.taken.holds.here a y).inside, one-le-pow n 2 (omega arith));
    }

refused_here : (n frame z : ℕ) (s t : CoreState) (fault : TakeFault) (y : Core) → z < zone_count (zones_of s)
    → IsNotIn (zones_of s) frame z → RefusesTakeAt n frame s t fault
    → core_at t.core z y ≡ core_at s.core z y
refused_here n frame z s t BadOrder y within none why = ap (λ (d : ZoneCore). core_at d z y) why.0.0.1
refused_here n frame z s t NoBlock y within none why =
    ⊎_elim (λ nowhere. ap (λ (d : ZoneCore). core_at d z y) nowhere.1)
    (λ there. turned_there (zones_of s) frame n z s.core t.core NoBlock y there within none) why.0.0.1
refused_here n frame z s t Contended y within none why =
    ⊎_elim (λ h. turned_there (zones_of s) frame n z s.core t.core Contended y h.0.0.1 within none)
    (λ h. h.others z y within (other_zone (zones_of s) frame h.zone z h.local h.is_there none)) why

pub place_elsewhere : PlaceElsewhere
place_elsewhere n frame s t fault turns =
    let y : Core = core_of s turns.0 turns.1 in (
      λ takes. turns.3 y (takes.others turns.0 y turns.1 (other_zone (zones_of s) frame takes.takes.taken.zone turns.0
          takes.takes.taken.local (taken_here n frame s t takes) turns.2)),
      λ why. turns.3 y (refused_here n frame turns.0 s t fault y turns.1 turns.2 why),
    )
