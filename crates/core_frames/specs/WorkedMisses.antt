-- What searches of worked words miss, and what worked views withhold, in numbers.
use Rattle.std.specs.Prelude.{◌≡◌, ℕ, List, [], ◌∷◌, Some}
use Rattle.std.specs.List.{All}
use Rattle.frame_words.specs.Geometry.{tree_frames}
use Rattle.frame_model.specs.declared.block.FrameBlock.{FrameBlock}
use Rattle.frame_model.specs.declared.view.View.{View}
use Rattle.frame_model.specs.Block.{block}
use Rattle.frame_model.specs.View.{counted, idle, charged_in, paid_on, reserves}
use Rattle.frame_model.specs.Fit.{total}
use Rattle.frame_model.specs.Events.{State, LeadsTo, views_of}
use Rattle.frame_model.specs.WorkedRuns.{one_child, words_of_one, all_free, at_first, both_charge, still_huge}
use Rattle.frame_model.specs.WorkedProgress.{with_a_rest}
use Rattle.frame_model.specs.WorkedReports.{nine_children, odd}
use Rattle.frame_core.specs.Moves.{IsAtRest}
use Rattle.low_frames.specs.Alone.{IsFreeIn}
use Rattle.core_frames.specs.Search.{IsBlockOf}
use Rattle.core_frames.specs.Alone.{IsPassedBy, NothingRests}
use Rattle.core_frames.specs.Missed.{WasLookedAt, WasSearched, IsWithheld}

-- once two seats have paid and charged 129 of 512 frames, of which none is held, a search for the huge frame
-- passes by its tree, or looks at its child, and misses it; it is withheld
pub record MissesAHugeFrame : Type 0 where
  pub end : State
  pub run : LeadsTo one_child at_first both_charge end
  pub nothing_rests : NothingRests one_child end.words
  pub passed : IsPassedBy one_child 0 512 tree_frames end.words
  pub looked : WasLookedAt one_child 9 end.words 0
  pub is_block : IsBlockOf one_child 9 (block 0 9)
  pub is_free : IsFreeIn one_child end.words (block 0 9)
  pub withheld : IsWithheld one_child (views_of end) (block 0 9)
  pub paid : total one_child (paid_on 0) (views_of end) ≡ 129
  pub charged : total one_child (charged_in 0) (views_of end) ≡ 129
  pub reserving : total one_child (reserves 0) (views_of end) ≡ 0

-- words of one child of which every other frame is held, and the tree counts the others
abbrev pub every_other : List ℕ
every_other = words_of_one 256 256 0 odd odd odd odd odd odd odd odd

-- a reserved tree was searched for a frame, and one without a free pair of frames for a pair
abbrev pub AreSearched : Type 0
AreSearched = WasSearched one_child 0 with_a_rest 0 × WasSearched one_child 1 every_other 0

-- a child that is a huge frame was looked at
abbrev pub LooksAtAHugeFrame : Type 0
LooksAtAHugeFrame = WasLookedAt one_child 0 still_huge 0

-- no tree whose huge frame is free, and not withheld, was searched for one
abbrev pub FindsAHugeFrame : Type 0
FindsAHugeFrame = ¬ WasSearched one_child 9 all_free 0

-- of two blocks a view withholds the first and not the second
abbrev pub WithholdsTheFirst : View → FrameBlock → FrameBlock → Type 0
WithholdsTheFirst v first second =
    IsWithheld nine_children (v ∷ []) first × ¬ IsWithheld nine_children (v ∷ []) second

-- who is reserving the second tree withholds its huge frame, and none of the first tree
abbrev pub ReservingWithholds : Type 0
ReservingWithholds =
    WithholdsTheFirst (record (idle nine_children 1) { reserving = Some 1 }) (block 4096 9) (block 3584 9)

-- so does who has paid one of its frames
abbrev pub PayingWithholds : Type 0
PayingWithholds =
    WithholdsTheFirst (record (idle nine_children 1) { paid = counted 1 1 }) (block 4096 9) (block 3584 9)

-- who has charged one frame of a child withholds that child, and none beside it in its tree
abbrev pub ChargingWithholds : Type 0
ChargingWithholds =
    WithholdsTheFirst (record (idle nine_children 1) { charged = counted 7 1 }) (block 3584 9) (block 3072 9)

-- before anything happened all are at rest
abbrev pub AllRestAtFirst : Type 0
AllRestAtFirst = All IsAtRest (views_of at_first)
