use Rattle.std.proofs.Common.{◌≡◌, ◌+◌, ◌*◌, ◌<◌, ap, arith}
use Rattle.frame_model.specs.declared.key.Key.{Key}
use Rattle.frame_model.specs.Words.{entry_word_count}
use Rattle.core_frames.proofs.EntriesRead.{entries_in, looks_more, looks_all, loads_idle}
use Rattle.core_frames.proofs.free_counts.free_counts_by.Goals as goal

pub load-word-requires : goal.load-word-requires
load-word-requires g c =
    let M = g.M.Moves in
    let was = c.loop-i.invariant.looks in
    record {
      inside = omega (
        arith,
        ap (λ (k : Key). k.children) was.keeps.same_key,
        c.loop-i-test.true,
        c.div_ceil-i-end.ensures,
        c.children-children.ensures.value,
        c.geometry.ensures.0,
      );
      share = (loads_idle M.tick c.loop-i.i (M.at c.args.m.now).view (M.at c.loop-i.m).view was.view c.requires).share;
    }

pub loop-i-preserved : goal.loop-i-preserved
loop-i-preserved g c =
    let M = g.M.Moves in
    let was = c.loop-i.invariant in
    let m = M.at c.args.m.now in
    let i = c.loop-i.i in
    let word = c.load-word.result in
    let some : 4 * i < m.key.children = omega (
      arith,
      c.loop-i-test.true,
      c.div_ceil-i-end.ensures,
      c.children-children.ensures.value,
      c.geometry.ensures.0,
    ) in
    let end : c.min.result ≡ entries_in m.key (i + 1) = omega (arith, c.min.ensures, c.children-children.ensures.value, c.geometry.ensures.0) in
    let sums = c.count_entries-counts.ensures in
    record {
      looks = looks_more M.tick m (M.at c.loop-i.m) (M.at c.load-word.new.self) i word c.loop-i.counts.frames c.loop-i.counts.huge
          (g.met.M.Moves.stays_alone c.loop-i.m) some was.looks c.load-word.ensures _ _ c.min.result end sums.frames sums.huge;
      frames = omega (arith, sums.few.0, end);
      huge = omega (arith, sums.few.1, end);
    }

pub returns : goal.returns
returns g c =
    let M = g.M.Moves in
    let m = M.at c.args.m.now in
    let words : c.loop-i.i ≡ entry_word_count m.key = omega (
      arith,
      c.loop-i-test.false,
      c.loop-i.auto.i-end,
      c.div_ceil-i-end.ensures,
      c.children-children.ensures.value,
      c.geometry.ensures.0,
    ) in
    looks_all M.tick m (M.at c.loop-i.m) c.loop-i.i c.loop-i.counts words (g.met.M.Moves.fits c.loop-i.m) c.requires
    c.loop-i.invariant.looks
