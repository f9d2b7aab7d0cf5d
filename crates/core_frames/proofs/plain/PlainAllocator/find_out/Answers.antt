use Rattle.std.proofs.Common.{◌≡◌, ◌<◌, ◌≤◌, ◌+◌, length, get_or, sym, subst, ◌∙◌, arith}
use Rattle.std.specs.List.{Contains}
use Rattle.std.proofs.lemmas.List.{get_or_default}
use Rattle.frame_model.specs.declared.block.FrameBlock.{FrameBlock}
use Rattle.frame_model.specs.Block.{block}
use Rattle.core_frames.specs.PlainBytes.{out_of, first_out}
use Rattle.core_frames.specs.PlainState.{PlainState}
use Rattle.core_frames.proofs.PlainBytes.{out_byte, out_named}
use Rattle.core_frames.proofs.plain.PlainAllocator.find_out.Goals as goal
use Rattle.core_frames.proofs.plain.PlainAllocator.find_out.Goals.{else-order-le-HUGE_ORDER-via-then-order-le-HUGE_ORDER+else-start-out_byte}
use Rattle.core_frames.proofs.plain.PlainAllocator.find_out.Goals.{else-order-le-HUGE_ORDER-via-else-order-le-HUGE_ORDER}

pub returns-then-start-out_byte-clause-some : goal.returns-then-start-out_byte-clause-some
returns-then-start-out_byte-clause-some c =
    let a = c.self.inside in
    let low : c.args.order ≤ 9 = omega (arith, c.if-order-le-HUGE_ORDER.true) in
    let inside : c.args.frame < length a.starts.items = omega (arith, c.len.ensures, c.if-place-len.false, a.starts.ok.0) in
    let read : c.index-start.result.now ≡ get_or a.starts.items c.args.frame 0 =
    c.index-start.ensures ∙ get_or_default a.starts.items c.args.frame c.index-start.result.now 0 inside in
    let is : get_or a.starts.items c.args.frame 0 ≡ first_out + c.args.order = sym read ∙ c.if-start-out_byte.true ∙ c.out_byte.ensures in
    let has : Contains (out_of a.starts.items) (block c.args.frame c.args.order) =
    out_named a.starts.items c.args.frame c.args.order low inside is in (
      c.of.ensures,
      subst (λ (b : FrameBlock). Contains c.args.self.now.out b) (sym c.of.ensures)
          (subst (λ (s : PlainState). Contains s.out (block c.args.frame c.args.order)) c.self.view_is has),
    )

pub returns-else-order-le-HUGE_ORDER-clause-none :
    goal.returns-else-order-le-HUGE_ORDER-clause-none
returns-else-order-le-HUGE_ORDER-clause-none c has =
    let a = c.self.inside in
    let at = out_byte a.starts.items (block c.args.frame c.args.order)
    (subst (λ (s : PlainState). Contains s.out (block c.args.frame c.args.order)) (sym c.self.view_is) has) in
    let read : c.index-start.result.now ≡ get_or a.starts.items c.args.frame 0 =
    c.index-start.ensures ∙ get_or_default a.starts.items c.args.frame c.index-start.result.now 0 at.0 in
    elim c.else-order-le-HUGE_ORDER.branch [
      | else-order-le-HUGE_ORDER-via-then-order-le-HUGE_ORDER+else-start-out_byte w ↦
          absurd (w.if-start-out_byte.false (read ∙ at.2 ∙ sym w.out_byte.ensures))
      | else-order-le-HUGE_ORDER-via-else-order-le-HUGE_ORDER w ↦ absurd (omega (arith, at.1, w.if-order-le-HUGE_ORDER.false))
    ]
