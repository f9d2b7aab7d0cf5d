-- What no take through a core of all zones says.
use Rattle.std.proofs.Common.{◌≡◌, ℕ, ◌+◌, ◌-◌, ◌*◌, ◌^◌, ◌<◌, ◌≤◌, true, ⊎_elim, inl, inr, sym, ◌∙◌, ap, subst, arith}
use Rattle.std.proofs.lemmas.Bool.{cases_order}
use Rattle.std.proofs.lemmas.Bool.Decides.{nat_tests}
use Rattle.frame_model.specs.Block.{block, covers}
use Rattle.frame_model.specs.declared.block.FrameBlock.{FrameBlock}
use Rattle.frame_model.specs.Key.{is_boot_frame}
use Rattle.frame_table.specs.Ties.{table_sizes}
use Rattle.core_frames.specs.Cores.{memory_of}
use Rattle.core_frames.specs.declared.shared.allocator.Allocator.{Allocator}
use Rattle.core_frames.specs.declared.shared.allocator.Core.{Core}
use Rattle.frame_zones.proofs.Rounds.{some_zone, some_core}
use Rattle.frame_zones.specs.Frames.{IsFrameIn, IsInNoZone}
use Rattle.frame_zones.specs.Zones.{zone_count, zone_at, core_at, first_frame_of}
use Rattle.frame_zones.specs.declared.zones.Zones.{Zones}
use Rattle.zone_slots.specs.Calls.{zones_of}
use Rattle.zone_slots.specs.Uses.{TakesAt, TakesByNumber, FindsNothingAnywhere}
use Rattle.zone_slots.specs.WrongTakes.{LiesFrom, SkipsTrees, LosesSome, TakenFromBoot, TakenFromAHole, TakenOfTwoZones}
use Rattle.zone_slots.specs.WrongTakes.{NoneIsUnsought, ContendedForNothing, OrderIsAnother}
use Rattle.zone_slots.specs.declared.core_state.CoreState.{CoreState}

-- a frame that lies in a block is covered by it
lies_covered : (b : FrameBlock) (x : ℕ) → b.frame ≤ x → x < b.frame + 2 ^ b.order → covers b x ≡ 1
unfolding covers
lies_covered b x from to = grind (arith, nat_tests)

-- frames of two zones do not have one number
one_zone : (zs : Zones) (y z i j : ℕ) (a : Allocator) → y < zone_count zs → z < zone_count zs
    → i < 512 * (memory_of (zone_at zs y a)).children → j < 512 * (memory_of (zone_at zs z a)).children
    → first_frame_of zs y + i ≡ first_frame_of zs z + j → y ≡ z
one_zone zs y z i j a y-in z-in i-in j-in same =
    elim (cases_order y z) as (λ _. y ≡ z) [
      | inl is ↦ is
      | inr less ↦ elim less as (λ _. y ≡ z) [
        | inl below ↦ absurd (omega (arith, zs.laid_out.ascend y z a below z-in, i-in, same))
        | inr above ↦ absurd (omega (arith, zs.laid_out.ascend z y a above y-in, j-in, same))
      ]
    ]

-- a zone and a core, where a block was taken
zone_in : (n frame : ℕ) (s t : CoreState) → TakesByNumber (zones_of s) n frame s.core t.core → Allocator
zone_in n frame s t takes = some_zone (zones_of s) takes.zone takes.within

core_in : (n frame : ℕ) (s t : CoreState) → TakesByNumber (zones_of s) n frame s.core t.core → Core
core_in n frame s t takes =
    some_core s.core takes.zone (subst (λ k. takes.zone < k) (sym s.is_core.parts.count) takes.within)

-- what a take says of the zone's memory
here : (n frame : ℕ) (s t : CoreState) (takes : TakesByNumber (zones_of s) n frame s.core t.core) (a : Allocator)
    → TakesAt (zone_at (zones_of s) takes.zone a) n takes.local
    (core_at s.core takes.zone (core_in n frame s t takes)) (core_at t.core takes.zone (core_in n frame s t takes))
here n frame s t takes a = takes.holds.here a (core_in n frame s t takes)

-- a frame of a block that was taken lies in the block's zone, so far behind its first one
lies_there : (n frame x : ℕ) (s t : CoreState) (takes : TakesByNumber (zones_of s) n frame s.core t.core) → LiesFrom frame n x
    → IsFrameIn (zones_of s) x takes.zone (takes.local + (x - frame))
lies_there n frame x s t takes lies = record {
  zone = takes.within;
  sum = omega (arith, takes.number, lies.0);
  inside = λ a. omega (arith, (here n frame s t takes a).inside, lies.0, lies.1);
}

-- it lies within the zone's children
within_children : (n frame x : ℕ) (s t : CoreState) (takes : TakesByNumber (zones_of s) n frame s.core t.core) → LiesFrom frame n x → (a : Allocator)
    → takes.local + (x - frame) < 512 * (memory_of (zone_at (zones_of s) takes.zone a)).children
within_children n frame x s t takes lies a = omega (arith, (here n frame s t takes a).is_block.inside, lies.0, lies.1)

-- no frame of a block that was taken has a number in a hole
pub number_in_no_zone : (n frame x : ℕ) (s t : CoreState) → IsInNoZone (zones_of s) x → LiesFrom frame n x
    → ¬ TakesByNumber (zones_of s) n frame s.core t.core
number_in_no_zone n frame x s t none lies takes =
    none takes.zone (takes.local + (x - frame)) (lies_there n frame x s t takes lies)

pub taken_from_a_hole : TakenFromAHole
taken_from_a_hole n frame x s t none lies takes = number_in_no_zone n frame x s t none lies takes.taken

pub taken_of_two_zones : TakenOfTwoZones
taken_of_two_zones n m i j x s t u v same one two other in_one in_two =
    let a : Allocator = zone_in n i s t one.taken in
    let zs : Zones = zones_of s in
    let first : IsFrameIn zs x one.taken.zone (one.taken.local + (x - i)) = lies_there n i x s t one.taken in_one in
    let second : IsFrameIn zs x two.taken.zone (two.taken.local + (x - j)) =
    subst (λ (w : Zones). IsFrameIn w x two.taken.zone (two.taken.local + (x - j))) same (lies_there m j x u v two.taken in_two) in
    other (one_zone zs one.taken.zone two.taken.zone (one.taken.local + (x - i)) (two.taken.local + (x - j)) a
    first.zone second.zone (within_children n i x s t one.taken in_one a)
    (subst (λ (w : Zones). two.taken.local + (x - j) < 512 * (memory_of (zone_at w two.taken.zone a)).children) same
    (within_children m j x u v two.taken in_two a))
    (first.sum ∙ sym second.sum))

-- a core of some zone, which is there
zone_at_home : (s : CoreState) → Allocator
zone_at_home s = some_zone (zones_of s) s.core.home s.is_core.home

core_of : (s : CoreState) (z : ℕ) → z < zone_count (zones_of s) → Core
core_of s z within = some_core s.core z (subst (λ k. z < k) (sym s.is_core.parts.count) within)

-- a search that found nothing skipped no tree
pub fewer_moves_unsought : (n : ℕ) (s t : CoreState) → SkipsTrees s t → ¬ FindsNothingAnywhere (zones_of s) n s.core t.core
fewer_moves_unsought n s t skips none =
    let a = zone_at_home s in
    let x = core_of s skips.0 skips.1 in
    omega (arith, skips.2 a x, (none.in_each skips.0 a x skips.1).looked.moved)

-- and lost no exchange
pub loss_unsought : (n : ℕ) (s t : CoreState) → LosesSome s t → ¬ FindsNothingAnywhere (zones_of s) n s.core t.core
loss_unsought n s t loses none =
    let a = zone_at_home s in
    let x = core_of s loses.0 loses.1 in
    omega (arith, loses.2 x, (none.in_each loses.0 a x loses.1).unlost)

pub none_is_unsought : NoneIsUnsought
none_is_unsought n s t = (
  λ skips why. fewer_moves_unsought n s t skips why.0,
  λ loses why. loss_unsought n s t loses why.0,
)

pub contended_for_nothing : ContendedForNothing
contended_for_nothing n s t uncounted = (
  λ skips why. ⊎_elim
      (λ h.
      let a = zone_at_home s in
      let x = core_of s skips.0 skips.1 in
      absurd (omega (arith, skips.2 a x, (h.0.looked skips.0 a x skips.1).moved)))
      (λ h. uncounted h.counted) why,
  λ none why. ⊎_elim
      (λ h.
      let z = h.0.lost.0 in
      let x = core_of s z h.0.lost.1 in
      absurd (omega (arith, none z x h.0.lost.1, h.0.lost.2 x)))
      (λ h. uncounted h.counted) why,
)

pub order_is_another : OrderIsAnother
order_is_another n s t =
    let a = zone_at_home s in
    let home = s.is_core.home in
    let x = core_of s s.core.home home in (
      λ low why. absurd (omega (arith, low, why.0)),
      λ high. (
        λ why. absurd (omega (arith, high, (why.0.in_each s.core.home a x home).looked.order)),
        λ why. ⊎_elim (λ h. absurd (omega (arith, high, (h.0.looked s.core.home a x home).order)))
            (λ h. absurd (omega (arith, high, h.order))) why,
      ),
    )

pub taken_from_boot : TakenFromBoot
taken_from_boot n frame x s t held lies takes =
    let a : Allocator = zone_in n frame s t takes.taken in
    let zs : Zones = zones_of s in
    let z : ℕ = takes.taken.zone in
    let y : ℕ = takes.taken.local + (x - frame) in
    let there : IsFrameIn zs x z y = lies_there n frame x s t takes.taken lies in
    let same : held.0 ≡ z = one_zone zs held.0 z held.1 y a held.2.zone takes.taken.within
    (omega (arith, held.2.inside a, (table_sizes (zone_at zs held.0 a).table).inside)) (within_children n frame x s t takes.taken lies a)
    (held.2.sum ∙ sym there.sum) in
    let place : held.1 ≡ y = omega (arith, held.2.sum, there.sum, ap (λ k. first_frame_of zs k) same) in
    let back = subst (λ k. ((memory_of (zone_at zs k a)).sealed ≡ true) × (is_boot_frame (memory_of (zone_at zs k a)) held.1 ≡ true))
    same (held.3 a) in
    let none : covers (block takes.taken.local n) y ≡ 0 = subst (λ k. covers (block takes.taken.local n) k ≡ 0) place
    ((here n frame s t takes.taken a).no_boot_frame held.1 back.0 back.1) in
    absurd (omega (arith, none, lies_covered (block takes.taken.local n) y (omega arith) (omega (arith, lies.0, lies.1))))
