use Rattle.std.proofs.Common.{◌≡◌, ◌≤◌, ◌<◌, ℕ, ◌*◌, ◌-◌, ◌+◌, List, sym, subst, ◌∙◌, arith}
use Rattle.frame_model.specs.declared.key.Key.{Key}
use Rattle.frame_model.specs.Key.{tree_count}
use Rattle.low_frames.proofs.Sure.{sure_both}
use Rattle.low_frames.proofs.TakeLemmas.{keeps_both, then_counts, wider}
use Rattle.core_frames.specs.Bounds.{most_visit}
use Rattle.core_frames.specs.declared.search.trees.Pass.TheVariants.{AnyFree}
use Rattle.core_frames.specs.Alone.{WereTried}
use Rattle.core_frames.proofs.Carried.{idle_still, before_twice}
use Rattle.core_frames.proofs.KeptFrames.{keeps_found}
use Rattle.core_frames.proofs.AloneSearch.{tried_more, tried_as_far}
use Rattle.core_frames.proofs.SearchSteps.{made_both, out_then}
use Rattle.core_frames.proofs.search.trees.take_between.Goals as goal

pub take_in-requires : goal.take_in-requires
take_in-requires g c =
    let M = g.M.Moves in
    let m = M.at c.args.m.now in
    let u = M.at c.loop-tree.m in
    let was = c.loop-tree.invariant in
    record {
      core = subst (λ (i : Key). c.args.core < i.cores) (sym was.keeps.same_key) c.requires.core;
      tree = subst (λ (i : Key). c.loop-tree.tree < tree_count i) (sym was.keeps.same_key)
          (omega (arith, c.loop-tree-test.true, c.requires.ends));
      order = c.requires.order;
      enough = omega (arith, c.bounds-least.ensures.enough, c.frames_of.ensures.value);
      idle = idle_still m.view u.view c.requires.idle was.misses.view;
    }

pub loop-tree-preserved : goal.loop-tree-preserved
loop-tree-preserved g c =
    let M = g.M.Moves in
    let ticks = g.met.M.Moves.ticks in
    let m = M.at c.args.m.now in
    let u = M.at c.loop-tree.m in
    let w = M.at c.take_in.new.m in
    let was = c.loop-tree.invariant in
    let now = c.in_default.ensures in
    let i = c.loop-tree.tree - c.args.from in
    let j = c.loop-tree.tree + 1 - c.args.from in
    let next : j ≡ i + 1 = omega (arith, c.loop-tree.auto.tree, c.requires.begins) in
    record {
      keeps = keeps_both was.keeps now.keeps;
      counts = then_counts M.tick M.is_exact ticks (most_visit * i) most_visit (most_visit * j) (omega (arith, next)) was.counts now.counts;
      sure = sure_both was.sure now.sure;
      misses = record {
        view = before_twice m.view u.view w.view was.misses.view now.none.view;
        made = made_both ticks m u w i 1 j (most_visit * i) (most_visit * i) most_visit (most_visit * j)
            (omega (arith, next)) (omega (arith, next)) (omega (arith, next))
            was.counts was.misses.made now.none.made;
        alone = λ alone.
            tried_more m.key u.key (c.args.pass ≡ AnyFree) c.args.order c.args.from c.loop-tree.tree c.bounds-least.result.0
            c.bounds-least.result.1 m.words u.words w.words was.keeps.same_key
            (λ e. let b = c.bounds-least.ensures.all e in (b.0 ∙ c.frames_of.ensures.value, b.1)) (was.misses.alone alone)
            (now.none.alone (was.keeps.stays_alone alone));
      };
    }

pub returns-in-Some : goal.returns-in-Some
returns-in-Some g c =
    let M = g.M.Moves in
    let m = M.at c.args.m.now in
    let u = M.at c.loop-tree.m in
    let was = c.loop-tree.invariant in
    let now = c.in-Some.ensures in
    let i = c.loop-tree.tree - c.args.from in
    let n = c.args.to - c.args.from in
    let more : i + 1 ≤ n = omega (arith, c.loop-tree.auto.tree, c.requires.begins, c.loop-tree-test.true) in
    record {
      keeps = keeps_both was.keeps now.keeps;
      counts = then_counts M.tick M.is_exact g.met.M.Moves.ticks (most_visit * i) most_visit (most_visit * n) (omega (arith, more)) was.counts now.counts;
      sure = sure_both was.sure now.sure;
      some = out_then was.keeps was.misses.view
          (λ alone. keeps_found m.key
          (λ (ws : List ℕ). c.args.pass ≡ AnyFree → WereTried m.key c.args.order c.args.from c.loop-tree.tree ws)
          m.words u.words (was.misses.alone alone))
          now.some;
      none = tt;
    }

pub returns : goal.returns
returns g c =
    let M = g.M.Moves in
    let ticks = g.met.M.Moves.ticks in
    let m = M.at c.args.m.now in
    let u = M.at c.loop-tree.m in
    let was = c.loop-tree.invariant in
    let i = c.loop-tree.tree - c.args.from in
    let n = c.args.to - c.args.from in
    let most : i ≤ n = omega (arith, c.loop-tree.auto.tree-end) in
    let least : n ≤ i = omega (arith, c.loop-tree-test.false) in
    record {
      keeps = was.keeps;
      counts = wider M.tick M.is_exact ticks (most_visit * i) (most_visit * n) (omega (arith, most)) was.counts;
      sure = was.sure;
      some = tt;
      none = record {
        view = was.misses.view;
        made = made_both ticks m u u i 0 n (most_visit * i) (most_visit * i) 0 (most_visit * n)
            (omega (arith, least)) (omega (arith, most)) (omega (arith, most))
            was.counts was.misses.made (λ h. omega arith);
        alone = λ alone.
            tried_as_far m.key (c.args.pass ≡ AnyFree) c.args.order c.args.from
            c.loop-tree.tree c.args.to m.words u.words c.loop-tree-test.false
            (was.misses.alone alone);
      };
    }
