use Rattle.zone_slots.proofs.Slotted.{list_read}
use Rattle.zone_slots.proofs.memory.Memory.fetch_in.Goals as goal

pub fetch-requires : goal.fetch-requires
fetch-requires c =
    list_read c.args.self.now.zones c.args.self.now.slots.items c.args.zone _ _ c.args.self.now.slotted c.requires
    c.index-allocator.ensures c.index.ensures
