use Rattle.zone_slots.proofs.Opened.{holding_back, numbered, unused_in}
use Rattle.zone_slots.proofs.openings.open_zones.Goals as goal

pub returns-clause-numbered : goal.returns-clause-numbered
returns-clause-numbered c =
    numbered c.args.cores c.args.spans.now c.in_ok-zones.zones c.in_ok-zones.parts.items c.in_ok-zones.ensures.opened
    c.if-not-have_numbers.ensures

pub returns-clause-cores : goal.returns-clause-cores
returns-clause-cores c =
    unused_in c.args.cores _ c.in_ok-zones.zones c.in_ok-zones.parts.items c.in_ok-zones.ensures.opened

pub returns-clause-held_back : goal.returns-clause-held_back
returns-clause-held_back c =
    holding_back c.args.cores c.args.spans.now c.in_ok-zones.zones c.in_ok-zones.parts.items c.in_ok-zones.ensures.opened
