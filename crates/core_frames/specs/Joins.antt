-- What a join asks and leaves.
use Rattle.std.specs.Prelude.{◌≡◌, ◌≢◌, ℕ, ◌+◌, ◌%◌, ◌^◌, ◌<◌, Result, IfOk, IfErr}
use Rattle.frame_words.specs.Runs.{four_order}
use Rattle.frame_model.specs.declared.block.FrameBlock.{FrameBlock}
use Rattle.frame_model.specs.View.{IsIdle}
use Rattle.frame_core.specs.Mover.{Mover, KnowsWords}
use Rattle.low_frames.specs.Takes.{Counts}
use Rattle.low_frames.specs.Alone.{Turns}
use Rattle.core_frames.specs.Bounds.{most_in_join}
use Rattle.core_frames.specs.Search.{HasTakenOne}
use Rattle.core_frames.specs.Splits.{AreHalves, SameWords}

-- buddies below order 8: two blocks of one order, side by side, of which the lower begins where a
-- block of both would
pub record AreBuddies (lower upper : FrameBlock) : Type 0 where
  pub small : lower.order < four_order
  pub same_order : upper.order ≡ lower.order
  pub aligned : lower.frame % 2 ^ (lower.order + 1) ≡ 0
  pub beside : upper.frame ≡ lower.frame + 2 ^ lower.order

-- nothing is in flight, and both blocks are out
pub record MayJoinBlocks {T H : Type 0} (lower upper : H) (m : Mover T H) : Type 0 where
  pub idle : IsIdle m.view
  pub lower_held : m.is_out lower
  pub upper_held : m.is_out upper

-- what the moves of taking these two blocks in do not change
pub record KeepsAllBut {T H : Type 0} (block_of : H → FrameBlock) (lower upper : FrameBlock)
    (old new : Mover T H) : Type 0 where
  pub same_tie : new.tie ≡ old.tie
  pub same_key : new.key ≡ old.key
  pub stays_alone : old.is_alone → new.is_alone
  pub others_out : (c : H) → block_of c ≢ lower → block_of c ≢ upper → old.is_out c → new.is_out c

-- the block of both buddies is out in their place, and one block less is lent; where nobody else
-- steps no word has changed, if the words are known after it
pub record HandsOutWhole {T H : Type 0} (block_of : H → FrameBlock) (lower upper b : H)
    (old new : Mover T H) : Type 0 where
  pub are_buddies : AreBuddies (block_of lower) (block_of upper)
  pub are_halves : AreHalves (block_of b) (block_of lower) (block_of upper)
  pub is_out : new.is_out b
  pub view : HasTakenOne old.view new.view
  pub alone : old.is_alone → KnowsWords new → Turns SameWords old.words new.words

-- a join: the block of both is out; or they are no buddies, and were handed back
pub record JoinsBy {T H : Type 0} (block_of : H → FrameBlock) (exact : ℕ → Type 0) (lower upper : H)
    (answer : Result H (H × H)) (old new : Mover T H) : Type 0 where
  pub keeps : KeepsAllBut block_of (block_of lower) (block_of upper) old new
  pub counts : Counts exact most_in_join old new
  pub ok : IfOk answer (λ b. HandsOutWhole block_of lower upper b old new)
  pub err : IfErr answer (λ same. (same.0 ≡ lower) × (same.1 ≡ upper)
      × ¬ AreBuddies (block_of lower) (block_of upper))
