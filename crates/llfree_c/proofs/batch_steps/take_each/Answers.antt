use Rattle.std.proofs.Common.{rules, arith, ◌≡◌, ◌≢◌, ◌<◌, ◌+◌, length, set, subst}
use Rattle.llfree_c.specs.Status.{ok}
use Rattle.llfree_c.proofs.FrameBatches.{Filled, one_filled, short_of, is_refusal}
use Rattle.llfree_c.proofs.batch_steps.take_each.Goals as goal

pub returns-then-status-ne-OK-clause-taken : goal.returns-then-status-ne-OK-clause-taken
returns-then-status-ne-OK-clause-taken c =
    let refused : c.take_frame-status.result ≢ ok = search rules in
    let inside : c.loop-block.block-index < length c.loop-block.block-items = search rules in
    short_of c.loop-block.count c.loop-block.block-index c.args.held.now c.loop-block.block-items c.take_frame-status.new.held
    c.block-item.result c.take_frame-status.result c.args.state.now c.loop-block.state c.take_frame-status.new.state
    c.loop-block.invariant.count inside c.loop-block.invariant.long c.requires (c.take_frame-status.ensures.stays refused)
    c.loop-block.invariant.filled c.take_frame-status.ensures.shared (c.take_frame-status.ensures.refused refused)

pub returns-then-status-ne-OK-clause-known : goal.returns-then-status-ne-OK-clause-known
returns-then-status-ne-OK-clause-known c =
    let refused : c.take_frame-status.result ≢ ok = search rules in
    let inside : c.loop-block.block-index < length c.loop-block.block-items = search rules in
    is_refusal c.loop-block.count c.loop-block.block-index c.args.held.now c.loop-block.block-items c.block-item.result
    c.take_frame-status.result c.args.state.now c.loop-block.state c.take_frame-status.new.state c.loop-block.invariant.count
    inside c.loop-block.invariant.long c.requires c.loop-block.invariant.filled (c.take_frame-status.ensures.refused refused)

pub loop-block-preserved : goal.loop-block-preserved
loop-block-preserved c =
    let n = c.loop-block.count in
    let taken : c.take_frame-status.result ≡ ok = search rules in
    let inside : c.loop-block.block-index < length c.loop-block.block-items = search rules in
    let at : n ≡ c.loop-block.block-index = c.loop-block.invariant.count in
    record {
      filled = subst
          (λ k. Filled (n + 1) c.args.held.now (set c.loop-block.block-items k c.take_frame-status.new.held) c.args.state.now
          c.take_frame-status.new.state)
          at
          (one_filled n c.args.held.now c.loop-block.block-items c.take_frame-status.new.held c.args.state.now c.loop-block.state
          c.take_frame-status.new.state (omega (arith, inside, at)) c.loop-block.invariant.long c.loop-block.invariant.filled
          c.take_frame-status.ensures.shared (c.take_frame-status.ensures.taken taken).1);
      count = omega (arith, at);
      long = search (rules, c.loop-block.invariant.long);
    }
