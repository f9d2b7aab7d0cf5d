use Rattle.std.proofs.Common.{ℕ, ◌<◌, slice_index_or}
use Rattle.llfree_c.specs.OpenCores.{IsClosedHandle}
use Rattle.llfree_c.specs.declared.core_handle.CoreHandle.{CoreHandle}
use Rattle.llfree_c.proofs.zone_cores.cores_for.Given as goal

abbrev pub invariant-loop-handle : goal.invariant-loop-handle
invariant-loop-handle l =
    (k : ℕ) (d : CoreHandle) → k < l.handle-index → IsClosedHandle (slice_index_or l.handles k d)
