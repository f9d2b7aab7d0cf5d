use Rattle.std.proofs.Common.{◌≡◌, map}
use Rattle.llfree_c.proofs.core_openings.boxed.Given as goal

abbrev pub invariant-loop-state : goal.invariant-loop-state
invariant-loop-state l = map (λ b. b.value) l.cores.items ≡ l.yielded
