use Rattle.std.proofs.Common.{◌^◌, ◌∙◌, arith, rules}
use Rattle.frame_model.specs.Key.{tree_of}
use Rattle.frame_tests.proofs.PayLemmas.{paid_there, none_but_none, taken_none_paid, pair_as_before}
use Rattle.frame_tests.proofs.pair_work.pair.Goals as goal

pub take_in_tree-requires : goal.take_in_tree-requires
take_in_tree-requires g c =
    let m = g.M.Moves.at c.args.m.now in
    record {
      tree = search rules;
      order = c.requires.order;
      share = search rules;
      charged = search rules;
      own = search rules;
      paid = omega (arith, paid_there c.args.tree (2 ^ c.args.order) m.view c.requires.paid);
    }

pub give_low-requires : goal.give_low-requires
give_low-requires g c =
    let M = g.M.Moves in
    let v = (M.at c.args.m.now).view in
    let u = (M.at c.take_in_tree.new.m).view in
    let b = g.M.Held.HeldBlock.block_of c.in-Some.block in
    record {
      share = search rules;
      held = search rules;
      charged = search rules;
      own = search rules;
      paid = none_but_none (tree_of b.frame) u.paid
          (taken_none_paid c.args.tree c.args.order v u c.requires.paid c.in-Some.ensures.some.view);
    }

pub returns : goal.returns
returns g c =
    let M = g.M.Moves in
    let b = g.M.Held.HeldBlock.block_of c.in-Some.block in
    let took = c.in-Some.ensures in
    let gave = c.give_low.ensures in
    record {
      there = record {
        same_tie = gave.keeps.same_tie ∙ took.keeps.same_tie;
        same_key = gave.keeps.same_key ∙ took.keeps.same_key;
      };
      view = pair_as_before c.args.tree c.args.order b (M.at c.args.m.now).view (M.at c.take_in_tree.new.m).view
          (M.at c.give_low.new.m).view took.some.is_one.has_order took.some.is_one.in_tree c.requires.paid took.some.view gave.back;
    }
