use Rattle.std.proofs.Common.{◌^◌, ◌∙◌, ap, arith, rules}
use Rattle.frame_model.specs.declared.view.View.{View}
use Rattle.frame_tests.proofs.PayLemmas.{paid_there, lends_one}
use Rattle.frame_tests.proofs.blocks.take_paid.Goals as goal

pub take_in_tree-requires : goal.take_in_tree-requires
take_in_tree-requires g c =
    let w = (g.M.Moves.at c.pay.new.m).view in
    record {
      tree = search rules;
      order = c.requires.order;
      share = search rules;
      charged = search rules;
      own = search rules;
      paid = omega (arith, paid_there c.args.tree (2 ^ c.args.order) w (ap (λ (v : View). v.paid) c.if-not-pay.ensures.view));
    }

pub returns : goal.returns
returns g c =
    let M = g.M.Moves in
    let paid = c.if-not-pay.ensures in
    let took = c.in-Some.ensures in
    record {
      there = record {
        same_tie = took.keeps.same_tie ∙ paid.keeps.same_tie;
        same_key = took.keeps.same_key ∙ paid.keeps.same_key;
      };
      block = record { out = took.some.is_out; order = took.some.is_one.has_order; tree = took.some.is_one.in_tree };
      some = lends_one c.args.tree c.args.order (M.at c.args.m.now).view (M.at c.pay.new.m).view (M.at c.take_in_tree.new.m).view
          c.requires.idle.paid paid.view took.some.view;
      none = tt;
    }
