use Rattle.std.proofs.Common.{◌≡◌, [], map}
use Rattle.std.specs.List.{All}
use Rattle.core_frames.specs.Desks.{core_of, list_of}
use Rattle.llfree_trace.proofs.run_desks.desks_over.Given as goal

abbrev pub invariant-loop-core : goal.invariant-loop-core
invariant-loop-core l =
    (map core_of l.desks.items ≡ l.yielded) × All (λ d. list_of d ≡ []) l.desks.items
