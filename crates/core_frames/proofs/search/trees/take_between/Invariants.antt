use Rattle.std.proofs.Common.{◌≡◌, ◌*◌, ◌-◌}
use Rattle.frame_core.specs.Mover.{Keeps}
use Rattle.low_frames.specs.Takes.{Counts, StaysSure}
use Rattle.low_frames.specs.Alone.{FindsOf}
use Rattle.core_frames.specs.Bounds.{most_visit}
use Rattle.core_frames.specs.declared.search.trees.Pass.TheVariants.{AnyFree}
use Rattle.core_frames.specs.Alone.{WereTried}
use Rattle.core_frames.specs.Searches.{Misses}
use Rattle.core_frames.proofs.search.trees.take_between.Given as goal

abbrev pub invariant-loop-tree : goal.invariant-loop-tree
invariant-loop-tree g l =
    let M = g.M.Moves in
    record {
      keeps : Keeps (M.at l.fn.m) (M.at l.m);
      counts : Counts M.is_exact (most_visit * (l.tree - l.fn.from)) (M.at l.fn.m) (M.at l.m);
      sure : StaysSure (M.at l.fn.m) (M.at l.m);
      misses : Misses M.is_exact (l.tree - l.fn.from) (most_visit * (l.tree - l.fn.from))
          (FindsOf (λ ws. l.fn.pass ≡ AnyFree → WereTried (M.at l.fn.m).key l.fn.order l.fn.from l.tree ws)) (M.at l.fn.m) (M.at l.m);
    }
