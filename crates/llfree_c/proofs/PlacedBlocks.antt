-- Blocks that were taken at their place, as C carries them.
use Rattle.std.proofs.Common.{◌≡◌, ◌∙◌, ℕ}
use Rattle.std.specs.Arc.{arc_value}
use Rattle.frame_zones.specs.Zones.{first_frame_in}
use Rattle.frame_zones.specs.declared.block.ZoneBlock.{ZoneBlock}
use Rattle.zone_slots.specs.Calls.{zones_of}
use Rattle.zone_slots.specs.Places.{TakesBlockAtFor}
use Rattle.zone_slots.specs.declared.core_state.CoreState.{CoreState}
use Rattle.llfree_c.specs.Blocks.{IsCarriedFor}
use Rattle.llfree_c.specs.Places.{TakesHeldAt}
use Rattle.llfree_c.specs.declared.block_handle.BlockHandle.{BlockHandle}
use Rattle.llfree_c.proofs.CarriedBlocks.{out_still}

-- just this block was taken, and the struct carries it
pub placed_held : (order place : ℕ) (s t : CoreState) (b : ZoneBlock) (h : BlockHandle) → t.shared ≡ s.shared
    → TakesBlockAtFor order place s t b → IsCarriedFor t b h → TakesHeldAt order place h s t
placed_held order place s t b h same placed carried =
    let there : first_frame_in (zones_of t) b ≡ first_frame_in (zones_of s) b =
    λ i. first_frame_in (arc_value (same i)).zones b in
    let number = carried.frame ∙ there in record {
      takes = record {
        live = carried.live;
        order = carried.order ∙ placed.takes.order;
        out = out_still s t h same carried.out;
        taken = record {
          zone = b.zone;
          local = b.block.frame;
          within = placed.takes.is_out.zone;
          number = number;
          holds = placed.takes.taken;
        };
      };
      begins = number ∙ placed.begins;
      others = placed.others;
      moves = placed.moves;
    }
