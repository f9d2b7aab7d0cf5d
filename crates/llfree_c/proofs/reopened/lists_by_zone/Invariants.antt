use Rattle.std.proofs.Common.{◌≡◌, ◌≤◌, ℕ, ◌<◌, length, vec_len, vec_capacity, slice_index_or}
use Rattle.std.specs.declared.alloc.Global.{Global}
use Rattle.std.specs.declared.vec.Vec.{Vec}
use Rattle.frame_model.specs.declared.block.FrameBlock.{FrameBlock}
use Rattle.zone_slots.specs.Layouts.{stretch_at}
use Rattle.zone_slots.specs.ZoneClaims.{blocks_within}
use Rattle.llfree_c.proofs.reopened.lists_by_zone.Given as goal

abbrev pub invariant-loop-first : goal.invariant-loop-first
invariant-loop-first l = record {
  count : vec_len l.lists ≡ l.first-index;
  room : length l.zones ≤ vec_capacity l.lists;
  each : (z : ℕ) (v : Vec FrameBlock Global) → z < l.first-index
      → (slice_index_or l.lists.items z v).items ≡ blocks_within (stretch_at l.zones z) l.blocks;
}
