use Rattle.frame_zones.proofs.Pairing.{cores_are}
use Rattle.frame_zones.proofs.zones.Zones.unpair.Goals as goal

pub returns-clause-are_cores : goal.returns-clause-are_cores
returns-clause-are_cores c = cores_are _ _ _ c.requires c.unpaired.ensures
