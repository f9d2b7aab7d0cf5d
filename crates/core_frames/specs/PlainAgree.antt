-- When the moves, the bytes and the records of the cores of an allocator for one thread agree. No
-- public clause cites this module.
use Rattle.std.specs.Prelude.{◌≡◌, ℕ, ◌<◌, ◌≤◌, List, [], ◌++◌, length, Some, get_or}
use Rattle.std.specs.List.{Contains}
use Rattle.frame_model.specs.declared.block.FrameBlock.{FrameBlock}
use Rattle.frame_model.specs.declared.key.Key.{Key}
use Rattle.frame_model.specs.Key.{frame_count}
use Rattle.frame_model.specs.Holding.{IsHolding}
use Rattle.frame_core.specs.Mover.{Mover}
use Rattle.frame_model.specs.Stops.{unsealed}
use Rattle.frame_model.specs.View.{boot_blocks, IsIdle}
use Rattle.plain_moves.specs.declared.plain.party.Company.{Company}
use Rattle.core_frames.specs.declared.search.habit.Habit.{Habit}
use Rattle.core_frames.specs.Alone.{HasNoneOf}
use Rattle.core_frames.specs.PlainBytes.{out_of, kept_of}
use Rattle.core_frames.specs.PlainState.{HoldsExactly}

-- the blocks that the bytes name
abbrev pub named_by : List ℕ → List FrameBlock
named_by bytes = out_of bytes ++ kept_of bytes

-- the blocks that the bytes name, and the frames that nobody is ever given
abbrev pub held_with : Key → List ℕ → List FrameBlock
held_with key bytes = named_by bytes ++ boot_blocks key

-- each record is that of the core at its place, and each core has one
abbrev pub AreOfCores : ℕ → List Habit → Type 0
AreOfCores cores habits =
    (length habits ≡ cores)
    × ((k : ℕ) (d : Habit) → k < cores → (get_or habits k d).core ≡ k)

-- Nothing is in flight and nobody else steps. The words hold just the blocks that the bytes name, all
-- of which are out, and what nobody is given; no block of an order that is remembered is free.
pub record AgreeWith (key : Key) (m : Mover Company FrameBlock) (words bytes : List ℕ)
    (habits : List Habit) (least : ℕ) : Type 0 where
  pub by_itself : m.tie.parties.items ≡ []
  pub same_key : m.key ≡ unsealed key
  pub idle : IsIdle m.view
  pub shares : m.view.share ≡ key.cores
  pub alone : m.is_alone
  pub known : m.words ≡ Some words
  pub count : length bytes ≡ frame_count key
  pub are_out : (b : FrameBlock) → Contains (named_by bytes) b → m.is_out b
  pub exact : HoldsExactly key words (held_with key bytes)
  pub lawful : IsHolding key (held_with key bytes)
  pub none : (n : ℕ) → least ≤ n → HasNoneOf key n words
  pub cores : AreOfCores key.cores habits
