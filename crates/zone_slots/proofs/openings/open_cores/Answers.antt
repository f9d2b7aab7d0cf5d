use Rattle.std.proofs.Common.{rules, List, subst, sym}
use Rattle.frame_zones.specs.Openings.{HaveHomes}
use Rattle.frame_zones.specs.declared.zones.ZoneCore.{ZoneCore}
use Rattle.frame_zones.specs.Zones.{zone_count}
use Rattle.zone_slots.specs.Openings.{parts_from_last}
use Rattle.zone_slots.proofs.openings.open_cores.Goals as goal

pub returns-clause-cores : goal.returns-clause-cores
returns-clause-cores c = record {
  count = search rules;
  one = (c.in_ok-memory.memory, c.in_ok-memory.ensures.zones, c.in_ok-memory.ensures.slots, search rules);
  homes = subst (λ n. HaveHomes c.args.cores n (parts_from_last c.in_ok-states.states.items)) c.in_ok-memory.ensures.zones.count
      (subst (λ (l : List ZoneCore). HaveHomes c.args.cores (zone_count c.in_ok-memory.memory.zones) l) (sym c.in_ok-states.ensures.order) c.in_ok-memory.ensures.homes);
  unused = c.in_ok-states.ensures.unused c.in_ok-memory.ensures.cores.unused;
}
