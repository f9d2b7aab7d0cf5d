use Rattle.std.proofs.Common.{◌≡◌, ◌+◌, ◌/◌, length, arith}
use Rattle.frame_zones.proofs.Pairing.{halves_paired}
use Rattle.frame_zones.proofs.zones.Zones.pair.Goals as goal

pub returns-clause-paired : goal.returns-clause-paired
returns-clause-paired c =
    let even : length c.args.cores.items ≡ c.len-half.result / 2 + c.len-half.result / 2 =
    omega (arith, c.requires.even, c.len-half.ensures, c.args.cores.ok.0) in
    let half : length c.split_off.new.self.items ≡ c.len-half.result / 2 =
    omega (arith, c.in-Ok-split_off.ensures.len, c.split_off.new.self.ok.0) in
    halves_paired _ (c.len-half.result / 2) _ c.args.cores.items c.split_off.new.self.items _ _ even
    c.in-Ok-split_off.ensures.items c.in-Ok-split_off.ensures.tail half c.paired.ensures.paired
