use Rattle.zone_slots.proofs.Slotted.{list_read}
use Rattle.zone_slots.proofs.memory.Memory.look_at.Goals as goal

pub find-requires : goal.find-requires
find-requires c =
    list_read c.args.self.now.zones c.args.self.now.slots.items c.args.zone _ _ c.args.self.now.slotted c.requires
    c.index-allocator.ensures c.index.ensures
