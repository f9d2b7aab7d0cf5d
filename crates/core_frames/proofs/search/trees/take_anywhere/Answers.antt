use Rattle.std.proofs.Common.{◌≡◌, ◌≤◌, ℕ, ◌*◌, ◌-◌, List, refl, arith}
use Rattle.frame_model.specs.Key.{tree_count}
use Rattle.low_frames.specs.Alone.{FindsOf}
use Rattle.low_frames.proofs.TakeLemmas.{wider}
use Rattle.core_frames.specs.Bounds.{most_visit, most_in_pass}
use Rattle.core_frames.specs.Alone.{WereTried}
use Rattle.core_frames.specs.declared.search.trees.Pass.TheVariants.{AnyFree}
use Rattle.core_frames.proofs.KeptFrames.{keeps_found}
use Rattle.core_frames.proofs.SearchSteps.{searched_twice}
use Rattle.core_frames.proofs.AloneSearch.{tried_all}
use Rattle.core_frames.proofs.search.trees.take_anywhere.Goals as goal

pub take_onward-requires : goal.take_onward-requires
take_onward-requires g c = record {
  core = c.requires.search.core;
  order = c.requires.search.order;
  begins = c.requires.start;
  ends = omega arith;
  idle = c.requires.search.idle;
}

pub returns-in-Some : goal.returns-in-Some
returns-in-Some g c =
    let M = g.M.Moves in
    let m = M.at c.args.m.now in
    let now = c.in-Some.ensures in
    record {
      keeps = now.keeps;
      counts = wider M.tick M.is_exact g.met.M.Moves.ticks (most_visit * (tree_count m.key - c.args.start)) (most_in_pass m.key)
          (omega arith) now.counts;
      sure = now.sure;
      some = now.some;
      none = tt;
    }

pub returns : goal.returns
returns g c =
    let M = g.M.Moves in
    let m = M.at c.args.m.now in
    let u = M.at c.take_onward.new.m in
    let w = M.at c.take_between.new.m in
    let E = c.args.pass ≡ AnyFree in
    let start = c.args.start in
    let trees = tree_count m.key in
    let low : start ≤ trees = c.requires.start in
    let one = c.in_default.ensures in
    searched_twice g.met.M.Moves.ticks {a = m} {b = u} {c = w} (trees - start)
    (start - 0) trees (most_visit * (trees - start)) (most_visit * (start - 0))
    (most_in_pass m.key)
    (omega (arith, low)) (omega (arith, low)) one
    (λ alone. keeps_found m.key (λ (ws : List ℕ). E → WereTried m.key c.args.order start trees ws) m.words u.words (one.none.alone alone))
    (FindsOf (λ (ws : List ℕ). E → WereTried m.key c.args.order 0 trees ws))
    (λ x y. tried_all m.key u.key E c.args.order start trees m.words u.words w.words one.keeps.same_key refl x y)
    c.take_between.ensures
