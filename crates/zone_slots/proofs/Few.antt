-- All zones together have few enough frames for 32 bits.
use Rattle.std.proofs.Common.{◌*◌, ◌^◌, ◌<◌, ◌≤◌, List, [], ◌∷◌, length, arith}
use Rattle.std.specs.List.{sum_by}
use Rattle.std.proofs.lemmas.List.Sums.{sum_by-cons}
use Rattle.frame_table.specs.Ties.{table_sizes}
use Rattle.core_frames.specs.declared.shared.allocator.Allocator.{Allocator}
use Rattle.core_frames.specs.Cores.{memory_of}
use Rattle.frame_zones.specs.FreeCounts.{frames_among}
use Rattle.frame_zones.specs.declared.zones.Zones.{Zones}

few_each : (zones : List Allocator) → sum_by (λ a. (memory_of a).frames) zones ≤ 2 ^ 21 * length zones
few_each [] = omega arith
few_each (a ∷ zones) =
    omega (
      arith,
      sum_by-cons (λ b. (memory_of b).frames) a zones,
      (table_sizes a.table).inside,
      (table_sizes a.table).few_children,
      few_each zones,
    )

pub few_among : (zs : Zones) → frames_among zs < 2 ^ 32
few_among zs = omega (arith, few_each zs.zones.items, zs.laid_out.few)
