use Rattle.std.proofs.Common.{◌≡◌, ◌^◌, ap, sym, ◌∙◌, arith, rules}
use Rattle.frame_model.specs.Block.{IsBlock}
use Rattle.frame_model.specs.Key.{tree_of}
use Rattle.frame_model.specs.View.{counted}
use Rattle.frame_tests.proofs.PayLemmas.{none_but_none, paid_back, has_one_back, tree_is_there}
use Rattle.frame_tests.proofs.blocks.give_refunded.Goals as goal

pub give_low-requires : goal.give_low-requires
give_low-requires g c =
    let b = g.M.Held.HeldBlock.block_of c.args.held in
    record {
      share = search rules;
      held = search rules;
      charged = search rules;
      own = search rules;
      paid = none_but_none (tree_of b.frame) (g.M.Moves.at c.args.m.now).view.paid c.requires.idle.paid;
    }

pub refund-requires : goal.refund-requires
refund-requires g c =
    let M = g.M.Moves in
    let m = M.at c.args.m.now in
    let w = (M.at c.give_low.new.m).view in
    let b = g.M.Held.HeldBlock.block_of c.args.held in
    let is : IsBlock m.key b = g.met.M.Moves.outs_are_blocks c.args.m.now c.args.held c.requires.held in
    let tree : c.tree_of-tree.result ≡ tree_of b.frame = c.tree_of-tree.ensures ∙ ap tree_of c.frame.ensures in
    let back = paid_back b m.view w c.requires.idle.paid c.give_low.ensures.back in
    record {
      tree = tree_is_there (M.at c.give_low.new.m).key m.key b c.tree_of-tree.result c.give_low.ensures.keeps.same_key is tree;
      order = omega (arith, is.order, c.order-order.ensures);
      share = search rules;
      paid = back ∙ ap (λ t. counted t (2 ^ b.order)) (sym tree)
          ∙ ap (λ o. counted c.tree_of-tree.result (2 ^ o)) (sym c.order-order.ensures);
      charged = search rules;
      reserving = search rules;
      own = search rules;
    }

pub returns : goal.returns
returns g c =
    let M = g.M.Moves in
    let b = g.M.Held.HeldBlock.block_of c.args.held in
    let gave = c.give_low.ensures in
    let back = c.refund.ensures in
    record {
      there = record {
        same_tie = back.keeps.same_tie ∙ gave.keeps.same_tie;
        same_key = back.keeps.same_key ∙ gave.keeps.same_key;
      };
      view = has_one_back b (M.at c.args.m.now).view (M.at c.give_low.new.m).view (M.at c.refund.new.m).view c.requires.idle.paid
          gave.back back.view;
    }
