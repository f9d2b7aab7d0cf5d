use Rattle.std.proofs.Common.{◌≡◌, ℕ, ◌*◌, ◌-◌, List, ap, subst, ◌∙◌, arith}
use Rattle.frame_words.specs.Geometry.{trees_for}
use Rattle.frame_model.specs.Key.{tree_count}
use Rattle.low_frames.specs.Alone.{FindsOf}
use Rattle.low_frames.proofs.TakeLemmas.{wider}
use Rattle.core_frames.specs.Bounds.{most_visit}
use Rattle.core_frames.specs.Alone.{WereTried}
use Rattle.core_frames.specs.declared.search.trees.Pass.TheVariants.{AnyFree}
use Rattle.core_frames.proofs.KeptFrames.{keeps_found}
use Rattle.core_frames.proofs.SearchSteps.{searched_twice}
use Rattle.core_frames.proofs.AloneSearch.{tried_on}
use Rattle.core_frames.proofs.search.trees.take_onward.Goals as goal

pub take_between-requires : goal.take_between-requires
take_between-requires g c =
    let m = g.M.Moves.at c.args.m.now in
    let all : c.trees-trees.result ≡ tree_count m.key = c.trees-trees.ensures.value ∙ ap trees_for c.geometry-geometry.ensures.0 in
    record {
      core = c.requires.core;
      order = c.requires.order;
      begins = omega (arith, c.max-last.ensures);
      ends = omega (arith, all, c.max-last.ensures, c.requires.ends);
      idle = c.requires.idle;
    }

pub returns-in-Some : goal.returns-in-Some
returns-in-Some g c =
    let M = g.M.Moves in
    let m = M.at c.args.m.now in
    let all : c.trees-trees.result ≡ tree_count m.key = c.trees-trees.ensures.value ∙ ap trees_for c.geometry-geometry.ensures.0 in
    let now = c.in-Some.ensures in
    record {
      keeps = now.keeps;
      counts = wider M.tick M.is_exact g.met.M.Moves.ticks (most_visit * (c.max-last.result - c.args.from))
          (most_visit * (tree_count m.key - c.args.from)) (omega (arith, all, c.max-last.ensures, c.requires.ends)) now.counts;
      sure = now.sure;
      some = now.some;
      none = tt;
    }

pub returns : goal.returns
returns g c =
    let M = g.M.Moves in
    let m = M.at c.args.m.now in
    let u = M.at c.take_between.new.m in
    let w = M.at c.take_between-2.new.m in
    let E = c.args.pass ≡ AnyFree in
    let from = c.args.from in
    let last = c.max-last.result in
    let trees = c.trees-trees.result in
    let all : trees ≡ tree_count m.key = c.trees-trees.ensures.value ∙ ap trees_for c.geometry-geometry.ensures.0 in
    let one = c.in_default.ensures in
    searched_twice g.met.M.Moves.ticks {a = m} {b = u} {c = w} (last - from)
    (trees - last) (tree_count m.key - from) (most_visit * (last - from)) (most_visit * (trees - last))
    (most_visit * (tree_count m.key - from))
    (omega (arith, all, c.max-last.ensures, c.requires.ends)) (omega (arith, all, c.max-last.ensures, c.requires.ends)) one
    (λ alone. keeps_found m.key (λ (ws : List ℕ). E → WereTried m.key c.args.order from last ws) m.words u.words (one.none.alone alone))
    (FindsOf (λ (ws : List ℕ). E → WereTried m.key c.args.order from (tree_count m.key) ws))
    (λ x y.
    subst (λ (n : ℕ). FindsOf (λ (ws : List ℕ). E → WereTried m.key c.args.order from n ws) m.words w.words) all
    (tried_on m.key u.key E c.args.order from last trees m.words u.words w.words one.keeps.same_key x y))
    c.take_between-2.ensures
