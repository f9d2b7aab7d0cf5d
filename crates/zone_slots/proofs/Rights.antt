-- The zone of a right, by the number of its block.
use Rattle.std.proofs.Common.{◌≡◌, ℕ, zero, suc, ◌-◌, ◌*◌, ◌<◌, ◌≤◌, inl, inr, sym, ◌∙◌, ap, subst, arith}
use Rattle.std.proofs.lemmas.Bool.{cases_eq, cases_lt, cases_order}
use Rattle.std.proofs.Math.Nat.{one-le-pow}
use Rattle.atomic_table.specs.declared.shared.Seat.{Seat}
use Rattle.atomic_table.specs.Seated.{TableId}
use Rattle.atomic_table.specs.Table.{Me}
use Rattle.core_frames.specs.declared.shared.allocator.Allocator.{Allocator}
use Rattle.core_frames.specs.Cores.{memory_of}
use Rattle.frame_model.specs.Block.{block, IsBlock}
use Rattle.frame_table.specs.declared.rule.Watch.{Watch}
use Rattle.frame_table.specs.declared.block.Block.{Block}
use Rattle.frame_zones.proofs.Rounds.{some_zone}
use Rattle.frame_zones.specs.Frames.{IsLastFrom, BeginBehind}
use Rattle.frame_zones.specs.Zones.{zone_count, zone_at, first_frame_of, first_frame_in, IsOutOfItsZone}
use Rattle.frame_zones.specs.declared.block.ZoneBlock.{ZoneBlock}
use Rattle.frame_zones.specs.declared.zones.Zones.{Zones}
use Rattle.zone_slots.specs.Rights.{IsRightAt, IsRightIn, IsRightFrom}
use Rattle.zone_slots.specs.Layouts.{most_numbers}
use Rattle.zone_slots.specs.Memories.{HaveNumbers}

-- the block lies within the children of its zone
within_children : (zs : Zones) (frame order : ℕ) (id : TableId) (me : Me (Unit {0}) Watch)
    (right : IsRightIn zs frame order id me) (a : Allocator)
    → right.local < 512 * (memory_of (zone_at zs right.zone a)).children
within_children zs frame order id me right a =
    omega (arith, (right.holds.is_block a).inside, one-le-pow order 2 (omega arith))

-- its zone is the last one that begins at its number or before it
pub zone_found : (zs : Zones) (frame order z : ℕ) (id : TableId) (me : Me (Unit {0}) Watch)
    (right : IsRightIn zs frame order id me) → IsLastFrom zs frame z → right.zone ≡ z
zone_found zs frame order z id me right last =
    let a : Allocator = some_zone zs z last.zone in
    elim (cases_order right.zone z) as (λ _. right.zone ≡ z) [
      | inl is ↦ is
      | inr less ↦ elim less as (λ _. right.zone ≡ z) [
        | inl below ↦ absurd (omega (
          arith,
          zs.laid_out.ascend right.zone z a below last.zone,
          within_children zs frame order id me right a,
          right.number,
          last.from,
        ))
        | inr above ↦ absurd (omega (arith, last.last right.zone above right.within, right.number))
      ]
    ]

-- some zone begins there or before it
pub zone_there : (zs : Zones) (frame order : ℕ) (id : TableId) (me : Me (Unit {0}) Watch) → IsRightIn zs frame order id me
    → ¬ BeginBehind zs frame
zone_there zs frame order id me right behind = omega (arith, behind right.zone right.within, right.number)

-- the right, said of the zone that was found
pub right_found : (zs : Zones) (frame order z : ℕ) (id : TableId) (me : Me (Unit {0}) Watch)
    (right : IsRightIn zs frame order id me) → IsLastFrom zs frame z
    → IsRightAt zs order id me z (frame - first_frame_of zs z)
right_found zs frame order z id me right last =
    let zone : right.zone ≡ z = zone_found zs frame order z id me right last in
    let local : right.local ≡ frame - first_frame_of zs right.zone = omega (arith, right.number) in
    subst (λ k. IsRightAt zs order id me k (frame - first_frame_of zs k)) zone
    (subst (λ k. IsRightAt zs order id me right.zone k) local right.holds)

-- so it is the right, said of that zone
pub right_from : (zs : Zones) (frame order : ℕ) (id : TableId) (me : Me (Unit {0}) Watch) → IsRightIn zs frame order id me
    → IsRightFrom zs frame order id me
right_from zs frame order id me right = record {
  some = zone_there zs frame order id me right;
  right = λ z last. right_found zs frame order z id me right last;
}

-- of the zones below this one some begins there or before it, where the others begin behind it
last_below : (zs : Zones) (frame n : ℕ) → n ≤ zone_count zs
    → ((k : ℕ) → n ≤ k → k < zone_count zs → frame < first_frame_of zs k) → ¬ BeginBehind zs frame
    → (z : ℕ) × IsLastFrom zs frame z
last_below zs frame zero few behind some = absurd (some (λ k within. behind k (omega arith) within))
last_below zs frame (suc n) few behind some =
    elim (cases_lt frame (first_frame_of zs n)) as (λ _. (z : ℕ) × IsLastFrom zs frame z) [
      | inl less ↦ last_below zs frame n (omega (arith, few)) (λ k past within.
          elim (cases_eq k n) as (λ _. frame < first_frame_of zs k) [
            | inl same ↦ subst (λ i. frame < first_frame_of zs i) (sym same) less
            | inr other ↦ behind k (above n k past other) within
          ]) some
      | inr from ↦ (
        n,
        record {
          zone = omega (arith, few);
          from = from;
          last = λ k past within. behind k (omega (arith, past)) within;
        },
      )
    ]
  where
    above : (n k : ℕ) → n ≤ k → ¬ (k ≡ n) → suc n ≤ k
    above n k past other = elim (cases_lt n k) as (λ _. suc n ≤ k) [
      | inl less ↦ omega (arith, less)
      | inr not ↦ absurd (other (omega (arith, past, not)))
    ]

-- the right, with its zone
pub right_in : (zs : Zones) (frame order : ℕ) (id : TableId) (me : Me (Unit {0}) Watch) → IsRightFrom zs frame order id me
    → IsRightIn zs frame order id me
right_in zs frame order id me right =
    let found = last_below zs frame (zone_count zs) (omega arith) (λ k past within. absurd (omega (arith, past, within))) right.some in
    record {
      zone = found.0;
      local = frame - first_frame_of zs found.0;
      within = found.1.zone;
      number = omega (arith, found.1.from);
      holds = right.right found.0 found.1;
    }

-- the number of a block that is out is one of all numbers
pub out_fits : (zs : Zones) (b : ZoneBlock) → HaveNumbers zs → IsOutOfItsZone zs b → first_frame_in zs b < most_numbers
out_fits zs b numbered out =
    let a : Allocator = some_zone zs b.zone out.zone in
    omega (arith, numbered b.zone a out.zone, (out.is_out a).is_block.inside, one-le-pow b.block.order 2 (omega arith))

-- the block with the right is out in the zone
pub right_out : (zs : Zones) (order z local : ℕ) (b : Block) (seat : Seat (Unit {0}) Watch) → z < zone_count zs
    → IsRightAt zs order seat.table_id seat.me z local
    → b.frame ≡ local → b.order ≡ order → b.seat ≡ seat → IsOutOfItsZone zs (record { zone = z; block = b })
right_out zs order z local b seat within right frame-is order-is seat-is = record {
  zone = within;
  is_out = λ a. record {
    table = ap (λ (s : Seat (Unit {0}) Watch). s.table_id) seat-is ∙ right.table a;
    about = ap (λ (s : Seat (Unit {0}) Watch). s.me.0.view.about) seat-is ∙ right.about a;
    is_block = subst (λ k. IsBlock (memory_of (zone_at zs z a)) (block k b.order)) (sym frame-is)
        (subst (λ k. IsBlock (memory_of (zone_at zs z a)) (block local k)) (sym order-is) (right.is_block a));
  };
}
