-- The frames that nobody is ever given.
use Rattle.std.proofs.Common.{◌≡◌, ◌+◌, ◌<◌, ◌^◌, ℕ, Bool, true, false}
use Rattle.std.proofs.Common.{refl, arith}
use Rattle.std.specs.Prelude.{if◌then◌else◌}
use Rattle.std.specs.List.{All}
use Rattle.std.proofs.lemmas.Bool.Decides.{nat_tests}
use Rattle.frame_model.specs.Block.{IsBlock, covers}
use Rattle.frame_model.specs.Holding.{IsFreeBlock, holders}
use Rattle.frame_model.specs.Key.{child_of, frame_count, is_boot_frame}
use Rattle.frame_model.specs.View.{boot_blocks}
use Rattle.frame_model.specs.declared.block.FrameBlock.{FrameBlock}
use Rattle.frame_model.specs.declared.key.Key.{Key}
use Rattle.frame_model.proofs.Chosen.{frames_are_blocks}
use Rattle.frame_model.proofs.Opening.{boot_smalls, boot_wholes}
use Rattle.frame_model.proofs.Safe.{holders_are}
use Rattle.low_frames.specs.Outcomes.{HasNoBootFrame}

boot_lawful : (key : Key) → All (IsBlock key) (boot_blocks key)
unfolding boot_blocks
boot_lawful key = frames_are_blocks key (is_boot_frame key)

-- each is a block of order 0
pub boot_are : (key : Key) (x : ℕ) → x < frame_count key
    → holders x (boot_blocks key) ≡ (if is_boot_frame key x then 1 else 0)
boot_are key x h = omega (arith, holders_are key x (boot_blocks key) (boot_lawful key), boot_smalls key x h, boot_wholes key (child_of x))

covered_below : (b : FrameBlock) (x : ℕ) → covers b x ≡ 1 → x < b.frame + 2 ^ b.order
unfolding covers
covered_below b x h = grind (arith, nat_tests)

-- a block without such frames is free beside them
pub boot_free : (key : Key) (b : FrameBlock) → key.sealed ≡ true → IsBlock key b → HasNoBootFrame key b
    → IsFreeBlock (boot_blocks key) b
boot_free key b sealed is none x c =
    let inside : x < frame_count key = omega (arith, covered_below b x c, is.inside) in
    by (is_boot_frame key x) refl inside
  where
    by : (t : Bool) → is_boot_frame key x ≡ t → x < frame_count key → holders x (boot_blocks key) ≡ 0
    by true e inside = absurd (omega (arith, none x sealed e, c))
    by false e inside = rw e at (boot_are key x inside)
