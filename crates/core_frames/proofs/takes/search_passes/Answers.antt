use Rattle.std.proofs.Common.{◌≡◌, ℕ, List, ◌+◌, ◌*◌, refl, ap, subst, arith}
use Rattle.frame_model.specs.declared.key.Key.{Key}
use Rattle.frame_model.specs.Key.{tree_count}
use Rattle.low_frames.specs.Alone.{Turns, FindsOf}
use Rattle.low_frames.proofs.RoomLemmas.{FitsAlone}
use Rattle.core_frames.specs.Bounds.{most_to_drain, most_in_pass, most_elsewhere}
use Rattle.core_frames.specs.Alone.{WereTried, IsDrained, FindsNoBlock}
use Rattle.core_frames.specs.declared.search.trees.Pass.TheVariants.{AnyFree}
use Rattle.core_frames.proofs.Carried.{idle_still}
use Rattle.core_frames.proofs.AloneSearch.{none_left, none_left_before}
use Rattle.core_frames.proofs.SearchSteps.{drained_brings, begun, pass_brings, brings_within, pass_out, made_none, made_both}
use Rattle.core_frames.proofs.takes.search_passes.Goals as goal

pub returns-in-Some-take_anywhere : goal.returns-in-Some-take_anywhere
returns-in-Some-take_anywhere g c =
    let M = g.M.Moves in
    let ticks = g.met.M.Moves.ticks in
    let m = M.at c.args.m.now in
    let T = tree_count m.key in
    let two = pass_brings ticks 0 (most_in_pass m.key) (omega arith) (begun ticks m) c.in_default.ensures in
    pass_out ticks T (Turns (FindsNoBlock m.key c.args.order)) (most_in_pass m.key) (most_elsewhere m.key) (omega arith) two
    c.in-Some-take_anywhere.ensures

pub returns-then-not-drain : goal.returns-then-not-drain
returns-then-not-drain g c =
    let M = g.M.Moves in
    let ticks = g.met.M.Moves.ticks in
    let m = M.at c.args.m.now in
    let w = M.at c.take_partly_free.new.m in
    let x = M.at c.take_anywhere.new.m in
    let y = M.at c.drain.new.m in
    let T = tree_count m.key in
    let all = c.in_default-take_anywhere.ensures in
    let two = pass_brings ticks 0 (most_in_pass m.key) (omega arith) (begun ticks m) c.in_default.ensures in
    let three = pass_brings ticks (most_in_pass m.key) (2 * most_in_pass m.key) (omega arith) two all in
    let four = drained_brings ticks (2 * most_in_pass m.key) (2 * most_in_pass m.key + most_to_drain * m.key.cores) (omega arith) three c.drain.ensures.brings in
    let n : tree_count w.key ≡ T = ap tree_count two.keeps.same_key in
    let cores : x.key.cores ≡ m.key.cores = ap (λ (i : Key). i.cores) three.keeps.same_key in
    let made_all = made_both ticks m w x 0 (tree_count w.key) T (most_in_pass m.key) (most_in_pass m.key)
    (most_in_pass w.key) (2 * most_in_pass m.key) (omega (arith, n)) (omega arith) (omega (arith, n)) two.counts
    (made_none ticks (most_in_pass m.key) two.counts) all.none.made in
    record {
      keeps = four.keeps;
      counts = (brings_within ticks (2 * most_in_pass m.key + most_to_drain * m.key.cores) (most_elsewhere m.key) (omega arith) four).counts;
      sure = four.sure;
      some = tt;
      none = record {
        view = four.view;
        made = made_both ticks m x y T 0 T (2 * most_in_pass m.key) (2 * most_in_pass m.key)
            (most_to_drain * x.key.cores) (most_elsewhere m.key) (omega arith) (omega arith) (omega (arith, cores)) three.counts
            made_all (made_none ticks (most_to_drain * x.key.cores) c.drain.ensures.brings.counts);
        alone = λ alone.
            none_left_before y.is_alone (AnyFree ≡ AnyFree) m.key y.view c.args.order m.words w.words x.words y.words
            (λ ws e. subst (λ i. FitsAlone y.is_alone i ws y.view) four.keeps.same_key (g.met.M.Moves.fits c.drain.new.m ws e))
            (four.keeps.stays_alone alone) (idle_still m.view y.view c.requires.search.idle four.view) refl (two.alone alone)
            (subst (λ i. FindsOf (λ (ws : List ℕ). AnyFree ≡ AnyFree → WereTried i c.args.order 0 (tree_count i) ws) w.words x.words)
            two.keeps.same_key (all.none.alone (two.keeps.stays_alone alone)))
            (subst (λ i. Turns (IsDrained i) x.words y.words) three.keeps.same_key (c.drain.ensures.brings.alone (three.keeps.stays_alone alone)))
            (c.drain.ensures.nothing c.if-not-drain.true (three.keeps.stays_alone alone));
      };
    }

pub returns-in_default-take_anywhere-2 : goal.returns-in_default-take_anywhere-2
returns-in_default-take_anywhere-2 g c =
    let M = g.M.Moves in
    let ticks = g.met.M.Moves.ticks in
    let m = M.at c.args.m.now in
    let x = M.at c.take_anywhere.new.m in
    let y = M.at c.drain.new.m in
    let z = M.at c.take_anywhere-2.new.m in
    let T = tree_count m.key in
    let all = c.in_default-take_anywhere.ensures in
    let last = c.in_default-take_anywhere-2.ensures in
    let two = pass_brings ticks 0 (most_in_pass m.key) (omega arith) (begun ticks m) c.in_default.ensures in
    let three = pass_brings ticks (most_in_pass m.key) (2 * most_in_pass m.key) (omega arith) two all in
    let four = drained_brings ticks (2 * most_in_pass m.key) (2 * most_in_pass m.key + most_to_drain * m.key.cores) (omega arith) three c.drain.ensures.brings in
    let n : tree_count y.key ≡ T = ap tree_count four.keeps.same_key in
    let five = pass_brings ticks (2 * most_in_pass m.key + most_to_drain * m.key.cores) (most_elsewhere m.key) (omega arith) four last in
    record {
      keeps = five.keeps;
      counts = five.counts;
      sure = five.sure;
      some = tt;
      none = record {
        view = five.view;
        made = made_both ticks m y z 0 (tree_count y.key) T (2 * most_in_pass m.key + most_to_drain * m.key.cores) (2 * most_in_pass m.key + most_to_drain * m.key.cores)
            (most_in_pass y.key) (most_elsewhere m.key) (omega (arith, n)) (omega arith) (omega (arith, n)) four.counts
            (made_none ticks (2 * most_in_pass m.key + most_to_drain * m.key.cores) four.counts) last.none.made;
        alone = λ alone.
            none_left y.is_alone (AnyFree ≡ AnyFree) m.key y.view c.args.order m.words x.words y.words z.words
            (λ ws e. subst (λ i. FitsAlone y.is_alone i ws y.view) four.keeps.same_key (g.met.M.Moves.fits c.drain.new.m ws e))
            (four.keeps.stays_alone alone) (idle_still m.view y.view c.requires.search.idle four.view) refl (three.alone alone)
            (subst (λ i. Turns (IsDrained i) x.words y.words) three.keeps.same_key (c.drain.ensures.brings.alone (three.keeps.stays_alone alone)))
            (subst (λ i. FindsOf (λ (ws : List ℕ). AnyFree ≡ AnyFree → WereTried i c.args.order 0 (tree_count i) ws) y.words z.words)
            four.keeps.same_key (last.none.alone (four.keeps.stays_alone alone)));
      };
    }

pub returns : goal.returns
returns g c =
    let M = g.M.Moves in
    let ticks = g.met.M.Moves.ticks in
    let m = M.at c.args.m.now in
    let T = tree_count m.key in
    let all = c.in_default-take_anywhere.ensures in
    let two = pass_brings ticks 0 (most_in_pass m.key) (omega arith) (begun ticks m) c.in_default.ensures in
    let three = pass_brings ticks (most_in_pass m.key) (2 * most_in_pass m.key) (omega arith) two all in
    let four = drained_brings ticks (2 * most_in_pass m.key) (2 * most_in_pass m.key + most_to_drain * m.key.cores) (omega arith) three c.drain.ensures.brings in
    pass_out ticks T (Turns (FindsNoBlock m.key c.args.order)) (2 * most_in_pass m.key + most_to_drain * m.key.cores) (most_elsewhere m.key) (omega arith) four
    c.in-Some-take_anywhere-2.ensures
