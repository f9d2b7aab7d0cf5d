use Rattle.std.proofs.Common.{sym, subst, arith}
use Rattle.zone_slots.proofs.Reopened.{All-remove_first}
use Rattle.frame_zones.specs.Zones.{AreCoresOf}
use Rattle.frame_zones.specs.declared.zones.Zones.{Zones}
use Rattle.zone_slots.specs.Openings.{IsUnusedCore, AreUnusedIn}
use Rattle.zone_slots.specs.Reopenings.{KeepsRests}
use Rattle.zone_slots.proofs.reopenings.reopen_memory.Goals as goal

pub returns-clause-cores : goal.returns-clause-cores
returns-clause-cores c =
    let kept = sym c.replay.ensures.zones in
    let unused : AreUnusedIn c.in_ok-memory.memory.zones c.remove-part.new.self.items =
    record {
      are_cores =
          (All-remove_first (AreCoresOf c.in_ok-memory.memory.zones) c.in_ok-memory.parts.items c.remove-part.new.self.items c.remove-part.result
          c.remove-part.ensures.items c.remove-part.ensures.value (omega arith) c.in_ok-memory.ensures.cores.are_cores).0;
      unused =
          (All-remove_first IsUnusedCore c.in_ok-memory.parts.items c.remove-part.new.self.items c.remove-part.result
          c.remove-part.ensures.items c.remove-part.ensures.value (omega arith) c.in_ok-memory.ensures.cores.unused).0;
    } in (
      subst (λ (zs : Zones). AreUnusedIn zs c.remove-part.new.self.items) kept unused,
      subst (λ (zs : Zones). AreCoresOf zs c.replay.new.core) kept c.replay.ensures.core,
    )

pub returns-clause-rest : goal.returns-clause-rest
returns-clause-rest c = subst (λ (zs : Zones). KeepsRests c.args.numbers.now c.args.claimed.now zs c.replay.new.core)
    (sym c.replay.ensures.zones) c.in_ok-replay.ensures.rest
