-- What contracts see of a core with single frames at hand.
use Rattle.std.specs.Prelude.{◌≡◌, ℕ, ℤ, pos, ◌-◌, ◌/◌, ◌-ℤ◌, ◌≤◌, List, length, vec_capacity}
use Rattle.std.specs.List.{All}
use Rattle.frame_table.specs.Seats.{block_in}
use Rattle.frame_table.specs.declared.block.Block.{Block}
use Rattle.core_frames.specs.declared.shared.allocator.Allocator.{Allocator}
use Rattle.core_frames.specs.declared.shared.allocator.Core.{Core}
use Rattle.core_frames.specs.Cores.{number_of, lent_by, StepsAlone, IsCoreOf, IsOutOf}
use Rattle.frame_caches.specs.declared.cached_core.CachedCore.{CachedCore}

-- the most frames that a list has room for
abbrev pub most_cached : ℕ
most_cached = 128

-- half of it
abbrev pub most_refilled : ℕ
most_refilled = 64

-- its core
abbrev pub core_in : CachedCore → Core
core_in c = c.core

-- what rests with it, the oldest first
abbrev pub cached_in : CachedCore → List Block
cached_in c = c.rest.items

-- how many may rest
abbrev pub room_in : CachedCore → ℕ
room_in c = c.size

-- half of them, rounded up
abbrev pub half_of : CachedCore → ℕ
half_of c = c.size - c.size / 2

-- how many blocks more callers were handed than they handed in: what rests is lent to nobody
abbrev pub lent_out : CachedCore → ℤ
lent_out c = lent_by (core_in c) -ℤ pos (length (cached_in c))

-- a single frame of the allocator that is out
pub record IsSingleOf (a : Allocator) (b : Block) : Type 0 where
  pub is_out : IsOutOf a b
  pub order : (block_in b).order ≡ 0

-- the core is the allocator's, and no more single frames rest than there is room for
pub record IsCacheOf (a : Allocator) (c : CachedCore) : Type 0 where
  pub is_core : IsCoreOf a (core_in c)
  pub are_singles : All (IsSingleOf a) (cached_in c)
  pub fits : length (cached_in c) ≤ room_in c
  pub room : room_in c ≤ vec_capacity c.rest
  pub few : room_in c ≤ most_cached

-- it still is, as the same one of the allocator's cores, with room for as many; and whose core had all
-- shares, its core has them
pub record StaysCacheOf (a : Allocator) (c d : CachedCore) : Type 0 where
  pub is_cache : IsCacheOf a d
  pub same_number : number_of (core_in d) ≡ number_of (core_in c)
  pub same_size : room_in d ≡ room_in c
  pub stays_alone : StepsAlone a (core_in c) → StepsAlone a (core_in d)
