use Rattle.std.proofs.Common.{◌+◌, ◌*◌, ◌≤◌, refl, arith, rules}
use Rattle.low_frames.proofs.TakeLemmas.{keeps_both}
use Rattle.low_frames.proofs.Counts.{at_most, both_counts}
use Rattle.low_frames.proofs.Sure.{sure_both}
use Rattle.low_frames.proofs.AloneTakes.{none_more, none_past, none_of_tree}
use Rattle.low_frames.proofs.in_tree.take_in_tree.Goals as goal
use Rattle.low_frames.proofs.in_tree.take_in_tree.Goals.{then-child-children+in_default, else-child-children}

pub loop-i-preserved : goal.loop-i-preserved
loop-i-preserved g c =
    let M = g.M.Moves in
    let ticks = g.met.M.Moves.ticks in
    let key = (M.at c.args.m.now).key in
    let words = (M.at c.args.m.now).words in
    let was = c.loop-i.invariant in
    let child = 8 * c.args.tree + c.loop-i.i in
    elim c.if-child-children.branch [
      | then-child-children+in_default w ↦
          let now = w.in_default.ensures in
          record {
            keeps = rw w.m-is (keeps_both was.keeps now.keeps);
            view = rw w.m-is (search rules);
            counts = rw w.m-is (at_most ticks (both_counts ticks was.counts now.counts) (omega arith));
            sure = rw w.m-is (sure_both was.sure now.sure);
            none = λ alone. rw w.m-is
                (none_more key (M.at c.loop-i.m).key (8 * c.args.tree) c.loop-i.i c.args.order child words (M.at c.loop-i.m).words
                (M.at w.take_in_child.new.m).words was.keeps.same_key refl (was.none alone) (now.none.alone (was.keeps.stays_alone alone)));
          }
      | else-child-children w ↦
          let past : key.children ≤ child =
          omega (arith, w.if-child-children.false, c.children-children.ensures.value, c.geometry.ensures.0) in
          record {
            keeps = rw w.m-is was.keeps;
            view = rw w.m-is was.view;
            counts = rw w.m-is (at_most ticks was.counts (omega arith));
            sure = rw w.m-is was.sure;
            none = λ alone. rw w.m-is
                (none_past key (8 * c.args.tree) c.loop-i.i c.args.order child words (M.at c.loop-i.m).words refl past (was.none alone));
          }
    ]

pub returns : goal.returns
returns g c =
    let M = g.M.Moves in
    record {
      keeps = c.loop-i.invariant.keeps;
      counts = at_most g.met.M.Moves.ticks c.loop-i.invariant.counts (omega (arith, c.loop-i.auto.i-end));
      sure = c.loop-i.invariant.sure;
      some = tt;
      none = record {
        view = c.loop-i.invariant.view;
        alone = λ alone.
            none_of_tree (M.at c.args.m.now).key c.args.tree c.loop-i.i c.args.order (M.at c.args.m.now).words (M.at c.loop-i.m).words
            (omega (arith, c.loop-i-test.false)) (c.loop-i.invariant.none alone);
      };
    }
