use Rattle.std.proofs.Common.{rules, ap, ◌∙◌, arith}
use Rattle.frame_model.specs.declared.view.View.{View}
use Rattle.frame_model.specs.View.{count_in}
use Rattle.frame_model.specs.Steps.Amounts.{more}
use Rattle.frame_model.proofs.Amounts.{count_none}
use Rattle.low_frames.proofs.ViewLemmas.{charged_here}
use Rattle.core_tests.proofs.tests.batches.pay.Goals as goal

pub tree_pay-requires : goal.tree_pay-requires
tree_pay-requires c = record {
  share = search rules;
  seen = search rules;
  may = record {
    inside = search rules;
    enough = search rules;
    paid = λ other ne.
        ap (count_in other) (ap (λ (v : View). v.paid) c.load-seen.ensures.view ∙ c.requires.idle.paid) ∙ count_none other;
  };
}

pub returns-clause-paid : goal.returns-clause-paid
returns-clause-paid c made =
    let none = ap (λ (v : View). v.paid) c.load-seen.ensures.view ∙ c.requires.idle.paid in
    let paid = ap (λ (v : View). v.paid) c.if-not-tree_pay.ensures.view ∙ ap (more 0 c.args.n) none in
    record {
      tree = search rules;
      share = search rules;
      charged = search rules;
      own = search rules;
      paid = omega (arith, ap (count_in 0) paid, charged_here 0 c.args.n);
    }
