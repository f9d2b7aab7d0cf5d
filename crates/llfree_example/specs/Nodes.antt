-- A machine with two nodes, and the hole between them.
use Rattle.std.specs.Prelude.{◌≡◌, ◌⊎◌, ℕ, ◌+◌, ◌^◌, ◌<◌, ◌≤◌}
use Rattle.core_frames.specs.declared.shared.allocator.Allocator.{Allocator}
use Rattle.frame_zones.specs.Sizes.{end_from}
use Rattle.frame_zones.specs.Zones.{zone_count, zone_at, first_frame_of, first_frame_in}
use Rattle.frame_zones.specs.declared.block.ZoneBlock.{ZoneBlock}
use Rattle.frame_zones.specs.declared.zones.Zones.{Zones}

-- how many frames a node has: 4 GiB
abbrev pub node_frames : ℕ
node_frames = 2 ^ 20

-- the first frame of the second node
abbrev pub second_node : ℕ
second_node = 2 ^ 22

-- a node begins at this frame, and ends before that one
abbrev pub IsNode : (first end : ℕ) → Type 0
IsNode first end = ((first ≡ 0) ⊎ (first ≡ second_node)) × (end ≡ first + node_frames)

-- each zone is a node
abbrev pub AreNodes : Zones → Type 0
AreNodes zs = (z : ℕ) (a : Allocator) → z < zone_count zs
    → IsNode (first_frame_of zs z) (end_from (first_frame_of zs z) (zone_at zs z a))

-- the frame is one of a node, and not of the hole
abbrev pub IsOnNode : ℕ → Type 0
IsOnNode x = (x < node_frames) ⊎ ((second_node ≤ x) × (x < second_node + node_frames))

-- each frame of so many from the block's first one on is one of a node
abbrev pub LiesOnNode : ℕ → Zones → ZoneBlock → Type 0
LiesOnNode frames zs b = (x : ℕ) → first_frame_in zs b ≤ x → x < first_frame_in zs b + frames → IsOnNode x
