use Rattle.std.proofs.Common.{◌+◌, ◌*◌, arith}
use Rattle.low_frames.proofs.Sure.{sure_both}
use Rattle.low_frames.proofs.TakeLemmas.{then_counts, wider, keeps_both}
use Rattle.core_frames.specs.Bounds.{most_to_drain}
use Rattle.core_frames.proofs.Carried.{before_twice}
use Rattle.core_frames.proofs.PlaceLemmas.{drained_on, drained_up}
use Rattle.core_frames.proofs.search.drain.drain_tree.Goals as goal

pub loop-core-preserved : goal.loop-core-preserved
loop-core-preserved g c =
    let M = g.M.Moves in
    let m = M.at c.args.m.now in
    let u = M.at c.loop-core.m in
    let w = M.at c.drain_core_of.new.m in
    let was = c.loop-core.invariant.brings in
    let now = c.drain_core_of.ensures in
    let k = c.loop-core.core in
    record {
      brings = record {
        keeps = keeps_both was.keeps now.keeps;
        counts = then_counts M.tick M.is_exact g.met.M.Moves.ticks (most_to_drain * k) most_to_drain (most_to_drain * (k + 1)) (omega arith)
            was.counts now.counts;
        sure = sure_both was.sure now.sure;
        view = before_twice m.view u.view w.view was.view now.view;
        alone = λ alone.
            drained_on m.key u.key c.args.tree k m.words u.words w.words was.keeps.same_key
            (was.alone alone) (now.alone (was.keeps.stays_alone alone));
      };
    }

pub returns : goal.returns
returns g c =
    let M = g.M.Moves in
    let m = M.at c.args.m.now in
    let u = M.at c.loop-core.m in
    let was = c.loop-core.invariant.brings in
    record {
      keeps = was.keeps;
      counts = wider M.tick M.is_exact g.met.M.Moves.ticks (most_to_drain * c.loop-core.core) (most_to_drain * m.key.cores)
          (omega (arith, c.loop-core.auto.core-end, c.geometry.ensures.1, c.cores-cores.ensures)) was.counts;
      sure = was.sure;
      view = was.view;
      alone = λ alone. drained_up m.key c.args.tree c.loop-core.core m.words u.words
          (omega (arith, c.loop-core-test.false, c.geometry.ensures.1, c.cores-cores.ensures)) (was.alone alone);
    }
