-- Blocks lie within their zones, and zones are apart.
use Rattle.std.proofs.Common.{◌≡◌, ◌≢◌, ◌<◌, ◌≤◌, ◌+◌, ◌-◌, ◌*◌, ◌/◌, ◌%◌, ◌^◌, ℕ, sym, ap, ◌∙◌, List, [], ◌∷◌, length, arith, inl, inr}
use Rattle.std.proofs.lemmas.Bool.{cases_order}
use Rattle.std.proofs.lemmas.Nat.{pow-add}
use Rattle.std.proofs.Math.Nat.{one-le-pow, mul_assoc, add_comm, add-mul-mod_self_right}
use Rattle.core_frames.specs.declared.shared.allocator.Allocator.{Allocator}
use Rattle.frame_zones.specs.Spans.{most_zone_frames}
use Rattle.frame_zones.specs.Zones.{first_frame_of, IsOutOfItsZone}
use Rattle.frame_zones.specs.Laws.{LiesInZone, AreFramesApart}
use Rattle.frame_zones.specs.declared.zones.Zones.{Zones}
use Rattle.frame_zones.specs.declared.block.ZoneBlock.{ZoneBlock}

some_item : (l : List Allocator) → 0 < length l → Allocator
some_item [] within = absurd (omega (arith, within))
some_item (a ∷ l) within = a

-- a whole child is whole blocks of each order
whole : (order : ℕ) → order ≤ 9 → 2 ^ (9 - order) * 2 ^ order ≡ 512
whole order few =
    let nine : 9 - order + order ≡ 9 = omega (arith, few) in
    sym (pow-add 2 (9 - order) order) ∙ ap (λ n. 2 ^ n) nine

-- from a whole child on, blocks are aligned as they are from frame 0 on
stays_aligned : (first frame order : ℕ) → order ≤ 9 → first % 512 ≡ 0 → frame % 2 ^ order ≡ 0
    → (first + frame) % 2 ^ order ≡ 0
stays_aligned first frame order few from at =
    let q : ℕ = first / 512 in
    let quotient : first ≡ q * 512 = omega (arith, from) in
    let blocks : first ≡ q * 2 ^ (9 - order) * 2 ^ order =
    quotient ∙ ap (λ n. q * n) (sym (whole order few)) ∙ sym (mul_assoc q (2 ^ (9 - order)) (2 ^ order)) in
    ap (λ n. (n + frame) % 2 ^ order) blocks
    ∙ ap (λ n. n % 2 ^ order) (add_comm (q * 2 ^ (9 - order) * 2 ^ order) frame)
    ∙ add-mul-mod_self_right frame (q * 2 ^ (9 - order)) (2 ^ order)
    ∙ at

pub lies_inside : (zs : Zones) (b : ZoneBlock) → IsOutOfItsZone zs b → LiesInZone zs b
lies_inside zs b out =
    let a : Allocator = some_item zs.zones.items (omega (arith, out.zone)) in
    record {
      from = omega arith;
      to = λ e. omega (arith, (out.is_out e).is_block.inside);
      aligned = stays_aligned (first_frame_of zs b.zone) b.block.frame b.block.order (out.is_out a).is_block.order
          (zs.laid_out.aligned b.zone out.zone) (out.is_out a).is_block.aligned;
    }

-- blocks of different zones
pub are_apart : (zs : Zones) (b c : ZoneBlock) → IsOutOfItsZone zs b → IsOutOfItsZone zs c → b.zone ≢ c.zone → AreFramesApart zs b c
are_apart zs b c one two other x both =
    let a : Allocator = some_item zs.zones.items (omega (arith, one.zone)) in
    elim (cases_order b.zone c.zone) as (λ _. ⊥) [
      | inl same ↦ other same
      | inr less ↦ elim less as (λ _. ⊥) [
        | inl below ↦ omega (arith, zs.laid_out.ascend b.zone c.zone a below two.zone, (lies_inside zs b one).to a, both.0.1, both.1.0)
        | inr above ↦ omega (arith, zs.laid_out.ascend c.zone b.zone a above one.zone, (lies_inside zs c two).to a, both.1.1, both.0.0)
      ]
    ]

-- the number of a block's first frame is one of all frames
pub fits_frame : (zs : Zones) (b : ZoneBlock) → IsOutOfItsZone zs b → first_frame_of zs b.zone + b.block.frame < most_zone_frames
fits_frame zs b out =
    let a : Allocator = some_item zs.zones.items (omega (arith, out.zone)) in
    let some : 1 ≤ 2 ^ b.block.order = one-le-pow b.block.order 2 (omega arith) in
    grind (arith, some, (lies_inside zs b out).to a, zs.laid_out.inside b.zone a out.zone)
