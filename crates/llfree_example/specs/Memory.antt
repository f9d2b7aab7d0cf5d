-- The memory of the program, and what its threads hand back.
use Rattle.std.specs.Prelude.{◌≡◌, ℤ, pos, [], Option, None, Some, IfSome, true}
use Rattle.frame_model.specs.declared.key.Key.{Key}
use Rattle.frame_table.specs.declared.block.Block.{Block}
use Rattle.core_frames.specs.Cores.{kept_by, lent_by, IsCoreOf, IsOutOf}
use Rattle.core_frames.specs.declared.shared.allocator.Allocator.{Allocator}
use Rattle.core_frames.specs.declared.shared.allocator.Core.{Core}

-- eight children, 4,096 page frames, none of which is held back, and two cores
abbrev pub eight_children : Key
eight_children = record {
  children = 8;
  cores = 2;
  frames = 4096;
  ranges = [];
  sealed = true;
}

-- how many blocks are in hand
abbrev pub blocks_in_hand : Option Block → ℤ
blocks_in_hand None = pos 0
blocks_in_hand (Some block) = pos 1

-- the core keeps nothing, and lends just the block in hand, which is out
pub record HasInHand (a : Allocator) (core : Core) (block : Option Block) : Type 0 where
  pub is_core : IsCoreOf a core
  pub kept : kept_by core ≡ []
  pub lent : lent_by core ≡ blocks_in_hand block
  pub out : IfSome block (IsOutOf a)
