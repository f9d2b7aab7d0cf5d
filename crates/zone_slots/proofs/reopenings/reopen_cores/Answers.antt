use Rattle.std.proofs.Common.{◌≡◌, ◌∷◌, ◌∙◌, ap, rules, List, sym, subst}
use Rattle.std.specs.Arc.{arc_value}
use Rattle.std.specs.List.{All}
use Rattle.std.proofs.lemmas.List.Elements.{All-push}
use Rattle.frame_zones.specs.Openings.{HaveHomes}
use Rattle.frame_zones.specs.Zones.{zone_count}
use Rattle.frame_zones.specs.declared.zones.ZoneCore.{ZoneCore}
use Rattle.zone_slots.specs.Openings.{Shares, parts_from_last}
use Rattle.zone_slots.specs.Reopenings.{KeepsRests}
use Rattle.zone_slots.specs.declared.core_state.CoreState.{CoreState}
use Rattle.zone_slots.specs.declared.memory.Memory.{Memory}
use Rattle.zone_slots.proofs.KeptHomes.{part_more}
use Rattle.zone_slots.proofs.reopenings.reopen_cores.Goals as goal

pub returns-clause-cores : goal.returns-clause-cores
returns-clause-cores c =
    let memory : Memory = c.in_ok-memory.memory in
    let one : arc_value c.in-Ok.shared ≡ memory = search rules in
    let before : All (Shares memory) c.in_ok-states.states.items =
    subst (λ (m : Memory). All (Shares m) c.in_ok-states.states.items) one c.in_ok-states.ensures.shared in
    let last : Shares memory c.in_ok-keeper.keeper =
    subst (λ (m : Memory). Shares m c.in_ok-keeper.keeper) one c.in_ok-keeper.ensures.shared in
    let parts : parts_from_last c.push.new.self.items ≡ c.in_ok-memory.keeper ∷ c.in_ok-memory.parts.items =
    ap parts_from_last c.in-Ok-push.ensures.items
    ∙ part_more c.in_ok-states.states.items c.in_ok-keeper.keeper c.in_ok-memory.keeper c.in_ok-keeper.ensures.core
    ∙ ap (λ (l : List ZoneCore). c.in_ok-memory.keeper ∷ l) c.in_ok-states.ensures.order in
    record {
      count = search rules;
      memory = memory;
      zones = c.in_ok-memory.ensures.zones;
      slots = c.in_ok-memory.ensures.slots;
      homes = subst (λ n. HaveHomes c.args.cores n (parts_from_last c.push.new.self.items)) c.in_ok-memory.ensures.zones.count
          (subst (λ (l : List ZoneCore). HaveHomes c.args.cores (zone_count memory.zones) l) (sym parts) c.in_ok-memory.ensures.homes);
      laid = c.in_ok-memory.ensures.laid;
      share = subst (λ (states : List CoreState). All (Shares memory) states) (sym c.in-Ok-push.ensures.items)
          (All-push (Shares memory) c.in_ok-states.states.items c.in_ok-keeper.keeper before last);
      keeper = record {
        others = c.in_ok-states.states.items;
        keeper = c.in_ok-keeper.keeper;
        are = c.in-Ok-push.ensures.items;
        unused = c.in_ok-states.ensures.unused c.in_ok-memory.ensures.cores.0.unused;
        keeps = subst (λ (d : ZoneCore). KeepsRests c.args.numbers.now c.args.claimed.now memory.zones d)
            (sym c.in_ok-keeper.ensures.core) c.in_ok-memory.ensures.rest;
      };
    }
