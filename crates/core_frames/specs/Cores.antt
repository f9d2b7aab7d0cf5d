-- What contracts see of a shared allocator and of its cores.
use Rattle.std.specs.Prelude.{◌≡◌, ℕ, ℤ, pos, ◌<◌, List, [], Option, Some, length, slice_index_or}
use Rattle.std.specs.List.{All}
use Rattle.frame_model.specs.declared.block.FrameBlock.{FrameBlock}
use Rattle.frame_model.specs.declared.key.Key.{Key}
use Rattle.frame_model.specs.declared.view.View.{View}
use Rattle.frame_model.specs.Key.{IsKey, tree_of}
use Rattle.frame_table.specs.Mover.{HasAllShares}
use Rattle.frame_table.specs.Seats.{key_at, view_of, words_known_by, IsIdleSeat, IsOut}
use Rattle.frame_table.specs.declared.block.Block.{Block}
use Rattle.frame_table.specs.declared.seats.CoreSeat.{CoreSeat}
use Rattle.core_frames.specs.Habits.{RecordsGive}
use Rattle.core_frames.specs.declared.shared.allocator.Allocator.{Allocator}
use Rattle.core_frames.specs.declared.shared.allocator.Core.{Core}

-- the key of the allocator's memory
abbrev pub memory_of : Allocator → Key
memory_of a = key_at a.table

-- the place of a core among those of its opening
abbrev pub number_of : Core → ℕ
number_of c = c.habit.core

-- what the core steps through
abbrev pub seat_of : Core → CoreSeat
seat_of c = c.seat

-- what the core has in flight, lends and keeps
abbrev pub view_in : Core → View
view_in c = view_of c.seat

-- the blocks that the core keeps
abbrev pub kept_by : Core → List FrameBlock
kept_by c = (view_in c).kept

-- how many blocks more were handed out by the core than it took in
abbrev pub lent_by : Core → ℤ
lent_by c = (view_in c).lent

-- how many moves the core has made
abbrev pub moves_by : Core → ℕ
moves_by c = (view_in c).moves

-- how many exchanges the core has lost
abbrev pub losses_by : Core → ℕ
losses_by c = (view_in c).lost

-- all words of the memory, where the core knows them
abbrev pub known_by : Core → Option (List ℕ)
known_by c = words_known_by c.seat

-- the core has all shares of the memory, so nobody else steps
abbrev pub StepsAlone : Allocator → Core → Type 0
StepsAlone a c = HasAllShares a.table c.seat

-- and knows the words
abbrev pub IsSureOf : Allocator → Core → Type 0
IsSureOf a c = StepsAlone a c × ((words : List ℕ) × (known_by c ≡ Some words))

-- the block was handed out by this allocator
abbrev pub IsOutOf : Allocator → Block → Type 0
IsOutOf a b = IsOut a.table b

-- the core belongs to the allocator, and has nothing in flight
pub record IsCoreOf (a : Allocator) (c : Core) : Type 0 where
  pub seat : IsIdleSeat a.table c.seat
  pub number : number_of c < (memory_of a).cores

-- it still does, as the same one of its cores; and who had all shares has them
pub record StaysCoreOf (a : Allocator) (c d : Core) : Type 0 where
  pub is_core : IsCoreOf a d
  pub same_number : number_of d ≡ number_of c
  pub stays_alone : StepsAlone a c → StepsAlone a d

-- what the core remembers of its takes and gives is as before
abbrev pub KeepsHabit : Core → Core → Type 0
KeepsHabit c d = d.habit ≡ c.habit

-- it recorded a give into the tree of the frame
abbrev pub RecordsGiveAt : ℕ → Core → Core → Type 0
RecordsGiveAt frame c d = RecordsGive (tree_of frame) c.habit.gives d.habit.gives

-- a core as an opening gives it: idle, with nothing lent and nothing kept; where it is the only one, it
-- is sure of the words
pub record IsNewCore (a : Allocator) (c : Core) : Type 0 where
  pub is_core : IsCoreOf a c
  pub lent : lent_by c ≡ pos 0
  pub kept : kept_by c ≡ []
  pub sure : (memory_of a).cores ≡ 1 → IsSureOf a c

-- each core has its place as its number
abbrev pub AreNumbered : List Core → Type 0
AreNumbered cores = (k : ℕ) (d : Core) → k < length cores
    → number_of (slice_index_or cores k d) ≡ k

-- the allocator is one of this memory, and these are its cores, in order and as an opening gives them
pub record IsOpened (key : Key) (a : Allocator) (cores : List Core) : Type 0 where
  pub memory : memory_of a ≡ key
  pub is_key : IsKey key
  pub count : length cores ≡ key.cores
  pub each : All (IsNewCore a) cores
  pub numbers : AreNumbered cores
