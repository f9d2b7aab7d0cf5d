use Rattle.std.proofs.Common.{ap, arith}
use Rattle.frame_model.specs.declared.view.View.{View}
use Rattle.low_frames.specs.Bounds.{attempt}
use Rattle.core_frames.specs.Bounds.{most_to_refund}
use Rattle.core_frames.specs.Search.{HasRefunded}
use Rattle.core_frames.proofs.Carried.{can_refund_tree, refunded_tree}
use Rattle.core_frames.proofs.KeptFrames.{upper_tree}
use Rattle.core_frames.proofs.SearchSteps.{make_brings, brings_within}
use Rattle.core_frames.proofs.search.own_tree.refund.Goals as goal

pub tree_refund-requires : goal.tree_refund-requires
tree_refund-requires g c =
    let M = g.M.Moves in
    let m = M.at c.args.m.now in
    let u = M.at c.try_refund_own.new.m in
    record {
      share = omega (arith, c.requires.share, ap (λ (x : View). x.share) c.if-try_refund_own.ensures.view);
      may = can_refund_tree u.key m.key m.view u.view c.args.tree c.args.n c.try_refund_own.ensures.keeps.same_key c.requires.tree
          c.requires.paid c.if-try_refund_own.ensures.view;
    }

pub returns-then-try_refund_own : goal.returns-then-try_refund_own
returns-then-try_refund_own g c = brings_within g.met.M.Moves.ticks attempt most_to_refund (omega arith) c.if-try_refund_own.ensures

pub returns : goal.returns
returns g c =
    let M = g.M.Moves in
    let m = M.at c.args.m.now in
    let u = M.at c.try_refund_own.new.m in
    let w = M.at c.tree_refund.new.self in
    make_brings g.met.M.Moves.ticks HasRefunded attempt most_to_refund (omega arith) (g.met.M.Moves.stays_alone c.try_refund_own.new.m)
    (upper_tree m.key c.args.tree c.requires.tree) c.if-try_refund_own.ensures c.tree_refund.ensures
    (refunded_tree M.tick m.view u.view w.view c.if-try_refund_own.ensures.view c.args.tree c.args.n c.requires.paid
    c.tree_refund.ensures.view)
