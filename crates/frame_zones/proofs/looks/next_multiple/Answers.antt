use Rattle.std.proofs.Common.{◌+◌, ◌-◌}
use Rattle.frame_zones.proofs.Looked.{low_is}
use Rattle.frame_zones.proofs.looks.next_multiple.Goals as goal

pub returns-clause-multiple : goal.returns-clause-multiple
returns-clause-multiple c = low_is c.args.step (c.args.low + (c.args.step - 1)) c.requires.some
