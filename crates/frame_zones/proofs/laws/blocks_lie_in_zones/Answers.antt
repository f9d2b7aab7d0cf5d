use Rattle.frame_zones.proofs.Apart.{lies_inside, are_apart}
use Rattle.frame_zones.proofs.laws.blocks_lie_in_zones.Goals as goal

pub returns-clause-inside : goal.returns-clause-inside
returns-clause-inside c = lies_inside c.args.zones.now c.args.one.now c.requires.one

pub returns-clause-apart : goal.returns-clause-apart
returns-clause-apart c = are_apart c.args.zones.now c.args.one.now c.args.two.now c.requires.one c.requires.two
