use Rattle.std.proofs.Common.{◌≡◌, ◌++◌, Some, length, map, take, vec_len, ◌+◌}
use Rattle.std.specs.Prelude.{reverse}
use Rattle.std.specs.List.{All, AllWithin}
use Rattle.zone_slots.specs.declared.memory.Memory.{Memory}
use Rattle.llfree_c.specs.OpenCores.{BoxShares, IsBoxUnused, IsCoreBehind, IsUnusedBehind, core_behind, states_in}
use Rattle.llfree_c.proofs.core_openings.hand_over.Given as goal

abbrev pub invariant-loop-handle : goal.invariant-loop-handle
invariant-loop-handle l = record {
  left : (m : Memory) → All (BoxShares m) l.fn.cores.items → All (BoxShares m) l.cores.items;
  done : (m : Memory) → All (BoxShares m) l.fn.cores.items
      → AllWithin (IsCoreBehind m) l.handle-items 0 l.handle-index;
  unused : All IsBoxUnused l.fn.cores.items
      → All IsBoxUnused l.cores.items × AllWithin IsUnusedBehind l.handle-items 0 l.handle-index;
  order : map core_behind (take l.handle-index l.handle-items) ++ map Some (reverse (states_in l.cores.items))
      ≡ map Some (reverse (states_in l.fn.cores.items));
  count : vec_len l.cores + l.handle-index ≡ length l.handle-items;
}
