use Rattle.std.proofs.Common.{refl, rules}
use Rattle.frame_zones.proofs.Placing.{core_read}
use Rattle.zone_slots.proofs.Opened.{cores_still}
use Rattle.zone_slots.proofs.Slotted.{list_read}
use Rattle.zone_slots.proofs.memory.Memory.replay_in.Goals as goal

pub replay-requires-clause-slots : goal.replay-requires-clause-slots
replay-requires-clause-slots c =
    list_read c.args.self.now.zones c.args.self.now.slots.items c.args.zone _ _ c.args.self.now.slotted c.requires.zone
    c.index-2.ensures c.index.ensures

pub replay-requires-clause-core : goal.replay-requires-clause-core
replay-requires-clause-core c = record {
  is_core = core_read c.args.self.now.zones c.args.core.now c.args.zone _ _ c.requires.core c.requires.zone c.index-2.ensures
      c.index_mut.ensures.value;
  unused = search rules;
}

pub returns-clause-core : goal.returns-clause-core
returns-clause-core c = record {
  are_cores = cores_still c.args.self.now.zones c.args.core.now _ c.args.zone _ _ _ c.requires.core c.requires.zone c.index-2.ensures
      c.index_mut.ensures.value refl refl c.replay.ensures.core;
  others = search rules;
}
