-- What a search through a core leaves, whose answer is a block without its order.
use Rattle.std.specs.Prelude.{◌≡◌, ℕ, ◌+◌, ◌<◌, ◌≤◌, [], None, Result, IfOk, IfErr, Bool, nat_lt}
use Rattle.frame_words.specs.declared.fault.TakeFault.TheVariants.{NoBlock, Contended}
use Rattle.frame_model.specs.Block.{block}
use Rattle.frame_table.specs.Rule.{watch}
use Rattle.frame_model.specs.View.{holder}
use Rattle.frame_table.specs.declared.block.Block.{Block}
use Rattle.core_frames.specs.declared.shared.allocator.Allocator.{Allocator}
use Rattle.core_frames.specs.declared.shared.allocator.Core.{Core}
use Rattle.core_frames.specs.declared.shared.found.Found.{Found}
use Rattle.core_frames.specs.Bounds.{most_moves}
use Rattle.core_frames.specs.Cores.{memory_of, kept_by, lent_by, moves_by, losses_by, known_by, StepsAlone, IsSureOf, IsOutOf, StaysCoreOf}
use Rattle.core_frames.specs.Alone.{KeepsFrames, FindsNoBlock}
use Rattle.low_frames.specs.Alone.{Turns}
use Rattle.core_frames.specs.Uses.{HasTaken, HasMovedForEach, IsRefusedFor}

-- the seat owns exactly the block of this order, and that block is out
pub record IsOutAs (a : Allocator) (n : ℕ) (f : Found) : Type 0 where
  pub owns : f.seat.me ≡ (watch (holder f.seat.me.0.view.about (block f.frame n)) [] None, [])
  pub is_out : (b : Block) → b.frame ≡ f.frame → b.order ≡ n → b.seat ≡ f.seat → IsOutOf a b

-- the seat owns exactly the block of this order, and that block was taken
pub record HasFound (a : Allocator) (n : ℕ) (f : Found) (c d : Core) : Type 0 where
  pub owns : f.seat.me ≡ (watch (holder f.seat.me.0.view.about (block f.frame n)) [] None, [])
  pub taken : (b : Block) → b.frame ≡ f.frame → b.order ≡ n → b.seat ≡ f.seat → HasTaken a n b c d

-- a search for a block of an order up to 9: it was taken; or it is refused, as contended exactly where
-- the answer is above 0, and nothing more is lent
pub record FindsThrough (a : Allocator) (n : ℕ) (answer : Result Found ℕ) (c d : Core) : Type 0 where
  pub kept : kept_by d ≡ kept_by c
  pub same_gives : d.habit.gives ≡ c.habit.gives
  pub ok : IfOk answer (λ f. HasFound a n f c d)
  pub contended : IfErr answer (λ lost. 0 < lost → IsRefusedFor a n c d Contended)
  pub no_block : IfErr answer (λ lost. lost ≡ 0 → IsRefusedFor a n c d NoBlock)
  pub lent : IfErr answer (λ _. lent_by d ≡ lent_by c)

-- such a search by a core, which stays the allocator's, in the moves that a take may make
pub record FindsAsCore (a : Allocator) (n : ℕ) (answer : Result Found ℕ) (c d : Core) : Type 0 where
  pub stays : StaysCoreOf a c d
  pub finds : FindsThrough a n answer c d
  pub few : moves_by d ≤ moves_by c + most_moves (memory_of a)

-- who is sure of the words stays so, and loses no exchange
pub record StaysSureOf (a : Allocator) (c d : Core) : Type 0 where
  pub is_sure : IsSureOf a c → IsSureOf a d
  pub loses_none : IsSureOf a c → losses_by d ≡ losses_by c

-- nothing was found and nothing is lent, and where nobody else steps each frame is held or free as before
pub record FindsNoneOwn (a : Allocator) (c d : Core) : Type 0 where
  pub lent : lent_by d ≡ lent_by c
  pub alone : StepsAlone a c → KeepsFrames (memory_of a) (known_by c) (known_by d)

-- nothing was found in any tree and nothing is lent, and where nobody else steps no block of the order
-- is free
pub record FindsNoneAtAll (a : Allocator) (n : ℕ) (c d : Core) : Type 0 where
  pub moved : HasMovedForEach a n c d
  pub lent : lent_by d ≡ lent_by c
  pub alone : StepsAlone a c → Turns (FindsNoBlock (memory_of a) n) (known_by c) (known_by d)

-- in at most so many moves the core keeps and remembers what it did; and whether an exchange was lost
pub record HasLooked (most : ℕ) (lost : Bool) (c d : Core) : Type 0 where
  pub kept : kept_by d ≡ kept_by c
  pub same_gives : d.habit.gives ≡ c.habit.gives
  pub rises : moves_by c ≤ moves_by d
  pub few : moves_by d ≤ moves_by c + most
  pub risen : losses_by c ≤ losses_by d
  pub noted : nat_lt (losses_by c) (losses_by d) ≡ lost
