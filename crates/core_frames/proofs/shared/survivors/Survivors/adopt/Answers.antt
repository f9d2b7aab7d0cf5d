use Rattle.std.proofs.Common.{◌≡◌, List, inr, ap, sym, subst, ◌∙◌, refl, arith}
use Rattle.frame_model.specs.declared.block.FrameBlock.{FrameBlock}
use Rattle.frame_model.specs.declared.view.View.{View}
use Rattle.frame_model.specs.Block.{block}
use Rattle.frame_core.specs.Movers.{sizes_of}
use Rattle.frame_model.specs.Without.{without}
use Rattle.frame_model.proofs.Steps.SeatViews.{blocks_are}
use Rattle.frame_table.specs.Openings.{ground_view, IsLeft}
use Rattle.core_frames.specs.Cores.{memory_of}
use Rattle.core_frames.specs.Left.{left_blocks, StayLeft}
use Rattle.core_frames.specs.LeftFrames.{Shows, IsShown}
use Rattle.core_frames.proofs.LeftLemmas.{shown_is_left, left_is_shown, shows_without}
use Rattle.core_frames.proofs.Adopting.{stay_left}
use Rattle.core_frames.proofs.shared.survivors.Survivors.adopt.Goals as goal

pub returns-then-not-shows-clause-adopts : goal.returns-then-not-shows-clause-adopts
returns-then-not-shows-clause-adopts c =
    let s = c.args.self.now in
    let key = memory_of c.args.allocator.now in
    let b = block c.args.frame c.args.order in
    let is = c.requires in
    let frames = c.frames.ensures.value ∙ is.sizes.2 in
    let shown : IsLeft key (left_blocks s) b → IsShown c.frames.result s.left.bits.items s.left.huge.items b =
    λ l. subst (λ n. IsShown n s.left.bits.items s.left.huge.items b) (sym frames)
    (left_is_shown key (sizes_of key s.geometry is.sizes) s.left.bits.items s.left.huge.items (left_blocks s) is.shown b l) in
    record {
      ok = tt;
      others = tt;
      err = (inr (refl, omega (arith, c.if-order-gt-HUGE_ORDER.false), λ l. c.if-not-shows.ensures (shown l)), refl);
    }

pub part-requires-clause-block : goal.part-requires-clause-block
part-requires-clause-block c =
    let s = c.args.self.now in
    let key = memory_of c.args.allocator.now in
    let b = block c.args.frame c.args.order in
    let is = c.requires in
    let frames = c.frames.ensures.value ∙ is.sizes.2 in
    shown_is_left key (sizes_of key s.geometry is.sizes) s.left.bits.items s.left.huge.items (left_blocks s) is.shown b
    (omega (arith, c.if-order-gt-HUGE_ORDER.false))
    (subst (λ n. IsShown n s.left.bits.items s.left.huge.items b) frames c.if-not-shows.ensures)

pub returns-clause-survivors : goal.returns-clause-survivors
returns-clause-survivors c =
    let s = c.args.self.now in
    let key = memory_of c.args.allocator.now in
    let b = block c.args.frame c.args.order in
    let is = c.requires in
    let frames = c.frames.ensures.value ∙ is.sizes.2 in
    let sizes = sizes_of key s.geometry is.sizes in
    let new = c.clear_block.new.self in
    let was = shown_is_left key sizes s.left.bits.items s.left.huge.items (left_blocks s) is.shown b
    (omega (arith, c.if-order-gt-HUGE_ORDER.false))
    (subst (λ n. IsShown n s.left.bits.items s.left.huge.items b) frames c.if-not-shows.ensures) in
    let own : (ground_view c.part.new.self).own ≡ without b (left_blocks s) = ap (λ (v : View). v.own) c.part.ensures.view in
    record {
      seat = c.part.ensures.seat;
      sizes = is.sizes;
      shown = subst (λ (bs : List FrameBlock). Shows key new.bits.items new.huge.items bs) (sym own)
          (shows_without key sizes s.left.bits.items s.left.huge.items (left_blocks s) is.shown b
          new.bits.items new.huge.items was c.clear_block.ensures);
    }

pub returns-clause-adopts : goal.returns-clause-adopts
returns-clause-adopts c =
    let s = c.args.self.now in
    let key = memory_of c.args.allocator.now in
    let b = block c.args.frame c.args.order in
    let is = c.requires in
    let frames = c.frames.ensures.value ∙ is.sizes.2 in
    let was = shown_is_left key (sizes_of key s.geometry is.sizes) s.left.bits.items s.left.huge.items (left_blocks s) is.shown b
    (omega (arith, c.if-order-gt-HUGE_ORDER.false))
    (subst (λ n. IsShown n s.left.bits.items s.left.huge.items b) frames c.if-not-shows.ensures) in
    let own : (ground_view c.part.new.self).own ≡ without b (left_blocks s) = ap (λ (v : View). v.own) c.part.ensures.view in
    record {
      ok = (
        record { was_left = was; is_block = c.part.ensures.block.0; is_out = c.part.ensures.block.1 },
        own,
      );
      others = subst (StayLeft key b (left_blocks s)) (sym own)
          (stay_left key b (left_blocks s) (blocks_are key (ground_view s.seat) is.seat.at.is_view).0 was);
      err = tt;
    }
