use Rattle.std.proofs.Common.{refl}
use Rattle.frame_zones.proofs.Reopened.{left_read, left_written}
use Rattle.frame_zones.proofs.zones.Zones.adopt.Goals as goal

pub adopt-requires : goal.adopt-requires
adopt-requires c =
    left_read c.args.self.now c.args.survivors.now.items c.args.zone _ _ c.requires.survivors c.requires.zone
    c.index.ensures c.index_mut.ensures.value

pub returns-in-Ok-clause-survivors : goal.returns-in-Ok-clause-survivors
returns-in-Ok-clause-survivors c =
    left_written c.args.self.now c.args.survivors.now.items _ c.args.zone _ _ c.requires.survivors c.requires.zone
    c.index.ensures refl c.adopt.ensures.survivors

pub returns-in-Err-clause-survivors : goal.returns-in-Err-clause-survivors
returns-in-Err-clause-survivors c =
    left_written c.args.self.now c.args.survivors.now.items _ c.args.zone _ _ c.requires.survivors c.requires.zone
    c.index.ensures refl c.adopt.ensures.survivors
