use Rattle.frame_caches.specs.Caches.{IsCacheOf}
use Rattle.llfree_bench.proofs.cached_works.pairs.Given as goal

abbrev pub invariant-loop-i : goal.invariant-loop-i
invariant-loop-i l = IsCacheOf l.memory l.cache
