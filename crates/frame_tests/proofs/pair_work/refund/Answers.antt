use Rattle.std.proofs.Common.{◌^◌, rules}
use Rattle.frame_tests.proofs.PayLemmas.{can_refund, refunds}
use Rattle.frame_tests.proofs.pair_work.refund.Goals as goal

pub tree_refund-requires : goal.tree_refund-requires
tree_refund-requires g c =
    let m = g.M.Moves.at c.args.m.now in
    record {
      share = search rules;
      may = can_refund m.key c.args.tree c.frames_of.result (2 ^ c.args.order) m.view c.frames_of.ensures.value c.requires.tree
          c.requires.paid;
    }

pub returns : goal.returns
returns g c =
    let M = g.M.Moves in
    record {
      keeps = c.tree_refund.ensures.keeps;
      view = refunds M.tick c.args.tree c.frames_of.result (2 ^ c.args.order) (M.at c.args.m.now).view
          (M.at c.tree_refund.new.self).view c.frames_of.ensures.value c.requires.paid c.tree_refund.ensures.view;
    }
