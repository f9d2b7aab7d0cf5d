-- What no search of all trees misses, wherever other cores stopped in their calls.
use Rattle.std.specs.Prelude.{◌≡◌, ℕ, ◌<◌, List}
use Rattle.frame_model.specs.declared.block.FrameBlock.{FrameBlock}
use Rattle.frame_model.specs.declared.key.Key.{Key}
use Rattle.frame_model.specs.declared.view.View.{View}
use Rattle.frame_model.specs.Key.{tree_count, child_of, tree_of}
use Rattle.frame_model.specs.View.{charged_in, paid_on, reserves}
use Rattle.frame_model.specs.Fit.{total, Fit}
use Rattle.low_frames.specs.Alone.{IsFreeIn}
use Rattle.core_frames.specs.Alone.{NothingRests}
use Rattle.core_frames.specs.Missed.{WasSearched}
use Rattle.core_frames.specs.Search.{IsBlockOf}

-- nobody is reserving the block's tree, has paid frames of it, or has charged frames of its child
pub record NobodyHasPartOf (key : Key) (views : List View) (b : FrameBlock) : Type 0 where
  pub reserving : total key (reserves (tree_of b.frame)) views ≡ 0
  pub paid : total key (paid_on (tree_of b.frame)) views ≡ 0
  pub charged : total key (charged_in (child_of b.frame)) views ≡ 0

-- where no core has a reservation, and each tree was searched for a block of the order and none was found, no
-- such block is free that nobody has a part of
abbrev pub MissesNothingElse : Type 0
MissesNothingElse = (key : Key) (shares : ℕ) (words : List ℕ) (views : List View) (order : ℕ) (b : FrameBlock)
    → Fit key shares words views → NothingRests key words
    → ((tree : ℕ) → tree < tree_count key → WasSearched key order words tree)
    → IsBlockOf key order b → NobodyHasPartOf key views b → ¬ IsFreeIn key words b
