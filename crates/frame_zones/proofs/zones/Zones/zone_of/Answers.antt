use Rattle.std.proofs.Common.{rules}
use Rattle.frame_zones.proofs.Found.{in_no_zone}
use Rattle.frame_zones.proofs.zones.Zones.zone_of.Goals as goal

pub returns-in_err-local-clause-none : goal.returns-in_err-local-clause-none
returns-in_err-local-clause-none c =
    let none = in_no_zone c.args.self.now c.args.frame c.in_ok-zone.zone c.in_ok-zone.ensures.last c.in_err-local.ensures.none in
    search (rules, none)
