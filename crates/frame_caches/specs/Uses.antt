-- What takes and gives through a cache leave.
use Rattle.std.specs.Prelude.{◌≡◌, ℕ, pos, ◌+◌, ◌*◌, ◌+ℤ◌, ◌<◌, ◌≤◌, ◌∷◌, ◌++◌, [], length, Result, Ok}
use Rattle.frame_words.specs.Geometry.{huge_order}
use Rattle.frame_words.specs.declared.fault.TakeFault.{TakeFault}
use Rattle.frame_table.specs.Seats.{block_in}
use Rattle.frame_table.specs.declared.block.Block.{Block}
use Rattle.core_frames.specs.Bounds.{most_in_give}
use Rattle.core_frames.specs.Cores.{number_of, kept_by, moves_by, StepsAlone, IsSureOf, IsCoreOf, IsOutOf}
use Rattle.core_frames.specs.Uses.{IsRefusedFor}
use Rattle.core_frames.specs.declared.shared.allocator.Allocator.{Allocator}
use Rattle.core_frames.specs.declared.shared.allocator.Core.{Core}
use Rattle.frame_caches.specs.Caches.{core_in, cached_in, lent_out, StaysCacheOf}
use Rattle.frame_caches.specs.declared.cached_core.CachedCore.{CachedCore}

-- a block of the order is out, and callers have one more
pub record TakesBehind (a : Allocator) (n : ℕ) (b : Block) (c d : CachedCore) : Type 0 where
  pub is_out : IsOutOf a b
  pub order : (block_in b).order ≡ n
  pub lent : lent_out d ≡ lent_out c +ℤ pos 1

-- the answer is the frame that came last, which rests no more; the core has made no step
pub record TakesLast (answer : Result Block TakeFault) (c d : CachedCore) : Type 0 where
  pub block : Block
  pub is_it : answer ≡ Ok block
  pub last : cached_in c ≡ cached_in d ++ block ∷ []
  pub same_core : core_in d ≡ core_in c

-- refused as the allocator refuses it, from where the core was when its last take began: nothing rests then;
-- of an order that there is not all rests as before. Who stepped alone does so still at that take, and who
-- was sure of the words is
pub record IsRefusedBehind (a : Allocator) (n : ℕ) (fault : TakeFault) (c d : CachedCore) : Type 0 where
  pub core : Core
  pub is_core : IsCoreOf a core
  pub same_number : number_of core ≡ number_of (core_in c)
  pub alone : StepsAlone a (core_in c) → StepsAlone a core
  pub sure : IsSureOf a (core_in c) → IsSureOf a core
  pub why : IsRefusedFor a n core (core_in d) fault
  pub lent : lent_out d ≡ lent_out c
  pub empty : n ≤ huge_order → cached_in d ≡ []
  pub same : huge_order < n → cached_in d ≡ cached_in c

-- so many of those that rested went back; if any, who steps alone is sure of the words then
pub record GivesRestBack (a : Allocator) (n : ℕ) (c d : CachedCore) : Type 0 where
  pub stays : StaysCacheOf a c d
  pub sure : StepsAlone a (core_in c) → 0 < n → IsSureOf a (core_in d)
  pub kept : kept_by (core_in d) ≡ kept_by (core_in c)
  pub less : length (cached_in d) + n ≡ length (cached_in c)
  pub lent : lent_out d ≡ lent_out c
  pub moves : moves_by (core_in d) ≤ moves_by (core_in c) + most_in_give * n
