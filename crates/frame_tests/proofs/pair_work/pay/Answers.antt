use Rattle.std.proofs.Common.{◌∙◌, ◌^◌, ◌≤◌, arith, rules}
use Rattle.frame_words.specs.Words.{free_in}
use Rattle.low_frames.specs.Takes.{IsAsBefore}
use Rattle.low_frames.proofs.TakeLemmas.{still_as_before, keeps_both}
use Rattle.frame_tests.proofs.PayLemmas.{can_pay, pays}
use Rattle.frame_tests.proofs.pair_work.pay.Goals as goal

pub tree_pay-requires : goal.tree_pay-requires
tree_pay-requires g c =
    let M = g.M.Moves in
    let v = (M.at c.args.m.now).view in
    let u = (M.at c.loop-i.m).view in
    let w = (M.at c.load-seen.new.self).view in
    let was = c.loop-i.invariant in
    let load = c.load-seen.ensures in
    let before : IsAsBefore v w = still_as_before v u w (M.tick u.moves) u.lost was.view load.view in
    let enough : c.frames_of-n.result ≤ free_in c.load-seen.result = omega (arith, c.if-tree_free-n.false, c.tree_free.ensures.value) in
    record {
      share = search rules;
      seen = search rules;
      may = can_pay (M.at c.load-seen.new.self).key (M.at c.args.m.now).key c.args.tree c.load-seen.result c.frames_of-n.result v w
          (load.keeps.same_key ∙ was.keeps.same_key) c.requires.tree before c.requires.idle.paid enough;
    }

pub returns-then-tree_free-n : goal.returns-then-tree_free-n
returns-then-tree_free-n g c = record {
  keeps = keeps_both c.loop-i.invariant.keeps c.load-seen.ensures.keeps;
  view = search rules;
}

pub returns-then-tree_pay : goal.returns-then-tree_pay
returns-then-tree_pay g c =
    let M = g.M.Moves in
    let v = (M.at c.args.m.now).view in
    let u = (M.at c.loop-i.m).view in
    let w = (M.at c.load-seen.new.self).view in
    let was = c.loop-i.invariant in
    let load = c.load-seen.ensures in
    let before : IsAsBefore v w = still_as_before v u w (M.tick u.moves) u.lost was.view load.view in
    record {
      keeps = keeps_both was.keeps (keeps_both load.keeps c.tree_pay.ensures.keeps);
      view = pays M.tick c.args.tree c.load-seen.result c.frames_of-n.result (2 ^ c.args.order) v w (M.at c.tree_pay.new.self).view
          c.frames_of-n.ensures.value c.requires.idle.paid before c.if-tree_pay.ensures.view;
    }

pub loop-i-preserved : goal.loop-i-preserved
loop-i-preserved g c = record {
  keeps = keeps_both c.loop-i.invariant.keeps (keeps_both c.load-seen.ensures.keeps c.tree_pay.ensures.keeps);
  view = search rules;
}
