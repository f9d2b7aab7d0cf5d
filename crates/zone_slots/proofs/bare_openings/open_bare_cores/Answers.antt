use Rattle.std.proofs.Common.{rules, List, subst, sym}
use Rattle.frame_zones.specs.Openings.{HaveHomes}
use Rattle.frame_zones.specs.declared.zones.ZoneCore.{ZoneCore}
use Rattle.std.specs.Prelude.{false}
use Rattle.zone_slots.proofs.Opened.{slotted}
use Rattle.frame_zones.specs.Zones.{zone_count}
use Rattle.zone_slots.specs.Openings.{parts_from_last}
use Rattle.zone_slots.proofs.bare_openings.open_bare_cores.Goals as goal

pub of-memory-requires-clause-slots : goal.of-memory-requires-clause-slots
of-memory-requires-clause-slots c = slotted false c.in_ok-zones.zones c.in_ok-lists.lists.items c.in_ok-lists.ensures.lists

pub returns-clause-cores : goal.returns-clause-cores
returns-clause-cores c = record {
  count = search rules;
  one = (c.of-memory.result, search rules, search rules, search rules);
  homes = subst (λ n. HaveHomes c.args.cores n (parts_from_last c.in_ok-states.states.items)) c.in_ok-zones.ensures.zones.count
      (subst (λ (l : List ZoneCore). HaveHomes c.args.cores (zone_count c.in_ok-zones.zones) l) (sym c.in_ok-states.ensures.order) c.in_ok-zones.ensures.homes);
  unused = c.in_ok-states.ensures.unused c.in_ok-zones.ensures.cores.unused;
}
