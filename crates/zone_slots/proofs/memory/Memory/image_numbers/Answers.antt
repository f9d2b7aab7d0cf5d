use Rattle.std.proofs.Common.{rules, arith, ◌≡◌, ℕ, ◌*◌, ◌<◌}
use Rattle.std.specs.Prelude.{slice_index_or}
use Rattle.frame_slots.specs.Numbers.{child_count_of}
use Rattle.frame_table.specs.Ties.{table_sizes}
use Rattle.core_frames.specs.Cores.{memory_of}
use Rattle.core_frames.specs.declared.shared.allocator.Allocator.{Allocator}
use Rattle.frame_zones.specs.Zones.{zone_count, zone_at}
use Rattle.frame_zones.specs.declared.zones.Zones.{Zones}
use Rattle.frame_zones.proofs.Parted.{some_of}
use Rattle.zone_slots.proofs.Reopened.{children_of, before_more}
use Rattle.zone_slots.proofs.memory.Memory.image_numbers.Goals as goal

pub loop-frames-preserved : goal.loop-frames-preserved
loop-frames-preserved c =
    let inv = c.loop-frames.invariant in
    let zs : Zones = c.args.self.now.zones in
    let i : ℕ = c.loop-frames.frames-index in
    let within : i < zone_count zs = search rules in
    let a : Allocator = some_of zs.zones.items (omega (arith, within)) in
    let n : ℕ = slice_index_or zs.frames.items i 0 in
    let here : c.numbers_for-sum.result ≡ 9 * child_count_of n = search rules in
    let children : child_count_of n ≡ (memory_of (zone_at zs i a)).children =
    children_of (zone_at zs i a) n (zs.sized.each i a within) in
    let few = (table_sizes (zone_at zs i a).table).few_children in
    record {
      sum = omega (arith, inv.sum, here, before_more zs i a within, children);
      bound = omega (arith, inv.bound, here, children, few);
    }
