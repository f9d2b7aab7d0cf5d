-- A seat takes in that of a block, which owns exactly the block.
use Rattle.std.proofs.Common.{◌≡◌, ◌<◌, Option, refl, sym, subst}
use Rattle.frame_model.specs.declared.block.FrameBlock.{FrameBlock}
use Rattle.frame_model.specs.declared.key.Key.{Key}
use Rattle.frame_model.specs.declared.view.View.{View}
use Rattle.frame_model.specs.Key.{child_of}
use Rattle.frame_model.specs.View.{LiesIn, holder}
use Rattle.frame_model.specs.Seats.{CanTakeIn, CanHandIn}

module _ (v u : View) (about : Option Key) (b : FrameBlock) (share : 0 < v.share)
    (is : u ≡ holder about b) where
  pub takes_in : CanTakeIn v u
  takes_in =
      subst (CanTakeIn v) (sym is)
      (record { share = share; out = refl; not_ground = refl; block = b; owns = refl })

  pub hands_in : LiesIn v (child_of b.frame) → CanHandIn v u
  hands_in lies =
      subst (CanHandIn v) (sym is)
      (record {
        takes = record { share = share; out = refl; not_ground = refl; block = b; owns = refl };
        one_child = lies;
      })
