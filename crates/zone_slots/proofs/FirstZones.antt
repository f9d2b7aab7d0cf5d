-- The first zone, as each core knows it.
use Rattle.std.proofs.Common.{◌≡◌, ℕ, ◌+◌, ◌-◌, ◌<◌, List, [], ◌∷◌, length, slice_index_or, ◌∙◌, subst, arith}
use Rattle.std.proofs.lemmas.List.{get_or_default}
use Rattle.frame_table.specs.Ties.{table_sizes}
use Rattle.atomic_table.specs.Seated.{TableId}
use Rattle.atomic_table.specs.Table.{Me}
use Rattle.core_frames.specs.declared.shared.allocator.Allocator.{Allocator}
use Rattle.frame_table.specs.declared.rule.Watch.{Watch}
use Rattle.frame_zones.proofs.Found.{found_in}
use Rattle.frame_zones.proofs.Rounds.{some_zone}
use Rattle.frame_zones.specs.Frames.{IsFrameIn, IsLastFrom}
use Rattle.frame_zones.specs.Zones.{zone_count, zone_at, first_frame_of}
use Rattle.frame_zones.specs.declared.zones.Zones.{Zones}
use Rattle.zone_slots.specs.Rights.{IsRightAt, IsRightFrom}
use Rattle.zone_slots.specs.Layouts.{most_numbers}
use Rattle.zone_slots.specs.Memories.{HaveNumbers, IsFirstOf}
use Rattle.zone_slots.specs.declared.first_zone.FirstZone.{FirstZone}

-- a list whose first number is above another one has a first number
some_number : (l : List ℕ) (n : ℕ) → n < slice_index_or l 0 0 → 0 < length l
some_number [] n below = absurd (omega (arith, below))
some_number (m ∷ l) n below = omega arith

there_is_one : (zs : Zones) (f : FirstZone) (local : ℕ) → IsFirstOf zs f → local < f.frames → 0 < zone_count zs
there_is_one zs f local known few =
    omega (arith, some_number zs.frames.items local (subst (λ n. local < n) known.frames few), zs.sized.count)

-- the first zone has the frame
pub in_first : (zs : Zones) (f : FirstZone) (frame local : ℕ) → IsFirstOf zs f → f.first + local ≡ frame
    → local < f.frames → IsFrameIn zs frame 0 local
in_first zs f frame local known sum few =
    found_in zs frame 0 local (there_is_one zs f local known few) (omega (arith, known.first, sum))
    (omega (arith, known.first, sum)) (subst (λ n. local < n) known.frames few)

-- it is the last one that begins there or before
pub first_is_last : (zs : Zones) (f : FirstZone) (frame local : ℕ) → IsFirstOf zs f → f.first + local ≡ frame
    → local < f.frames → IsLastFrom zs frame 0
first_is_last zs f frame local known sum few =
    let zone : 0 < zone_count zs = there_is_one zs f local known few in
    let a : Allocator = some_zone zs 0 zone in
    record {
      zone = zone;
      from = omega (arith, known.first, sum);
      last = λ k past within. omega (
        arith,
        zs.laid_out.ascend 0 k a past within,
        zs.sized.each 0 a zone,
        (table_sizes (zone_at zs 0 a).table).inside,
        known.first,
        known.frames,
        sum,
        few,
      );
    }

-- where the first zone begins has a number
pub first_fits : (zs : Zones) (first : ℕ) → HaveNumbers zs → 0 < zone_count zs
    → first ≡ slice_index_or zs.firsts.items 0 first → first < most_numbers
first_fits zs first numbered some is =
    let a : Allocator = some_zone zs 0 some in
    omega (
      arith,
      numbered 0 a some,
      (table_sizes (zone_at zs 0 a).table).some_children,
      is ∙ get_or_default zs.firsts.items 0 first 0 (omega (arith, some, zs.laid_out.count)),
    )

-- the right, said of the place that was found
pub right_placed : (zs : Zones) (frame order z local : ℕ) (id : TableId) (me : Me (Unit {0}) Watch)
    → IsRightFrom zs frame order id me → IsLastFrom zs frame z → first_frame_of zs z + local ≡ frame
    → IsRightAt zs order id me z local
right_placed zs frame order z local id me right last sum =
    let here : frame - first_frame_of zs z ≡ local = omega (arith, sum) in
    subst (λ k. IsRightAt zs order id me z k) here (right.right z last)
