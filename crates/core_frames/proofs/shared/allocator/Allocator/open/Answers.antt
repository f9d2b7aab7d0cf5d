use Rattle.std.proofs.Common.{[]}
use Rattle.core_frames.proofs.RangeLemmas.{only_memory, no_ranges}
use Rattle.core_frames.proofs.shared.allocator.Allocator.open.Goals as goal

pub returns-clause-err : goal.returns-clause-err
returns-clause-err c =
    only_memory c.args.geometry [] c.open_with.result (no_ranges c.args.geometry) c.open_with.ensures.refused
