use Rattle.std.proofs.Common.{sym, subst}
use Rattle.frame_zones.specs.Zones.{zone_at}
use Rattle.zone_slots.specs.Uses.{HasBlock}
use Rattle.zone_slots.proofs.memory.Memory.look.Goals as goal

pub returns-in-Some-clause-is_block : goal.returns-in-Some-clause-is_block
returns-in-Some-clause-is_block c = record {
  zone = c.in_ok-zone.zone;
  local = c.in_ok-zone.local;
  within = c.in_ok-zone.ensures.zone;
  number = sym c.in_ok-zone.ensures.sum;
  holds = λ a. subst (λ n. HasBlock n c.in_ok-zone.local (zone_at c.args.self.now.zones c.in_ok-zone.zone a))
      (sym c.in-Some.ensures.seen.same_order) (c.in-Some.ensures.is_block a);
}
