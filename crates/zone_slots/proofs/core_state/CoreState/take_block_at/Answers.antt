use Rattle.std.proofs.Common.{subst}
use Rattle.frame_zones.specs.Places.{TakesPlaceAmong, MovesForPlace}
use Rattle.zone_slots.specs.Calls.{zones_of}
use Rattle.zone_slots.specs.declared.memory.Memory.{Memory}
use Rattle.zone_slots.proofs.Placed.{placed_block, refused_block_at}
use Rattle.zone_slots.proofs.core_state.CoreState.take_block_at.Goals as goal

pub returns-clause-taken : goal.returns-clause-taken
returns-clause-taken c =
    placed_block (zones_of c.args.self.now) c.args.frame c.args.order c.take_this.result c.args.self.now.core
    c.take_this.new.core c.args.self.now.is_core
    (subst (λ (m : Memory). MovesForPlace m.zones c.args.frame c.args.self.now.core c.take_this.new.core)
    c.deref.ensures c.take_this.ensures.all_moves)
    (subst (λ (m : Memory). TakesPlaceAmong m.zones c.args.frame c.args.order c.take_this.result c.args.self.now.core
    c.take_this.new.core) c.deref.ensures c.take_this.ensures.takes)

pub returns-clause-refused : goal.returns-clause-refused
returns-clause-refused c =
    refused_block_at (zones_of c.args.self.now) c.args.frame c.args.order c.take_this.result c.args.self.now.core
    c.take_this.new.core
    (subst (λ (m : Memory). MovesForPlace m.zones c.args.frame c.args.self.now.core c.take_this.new.core)
    c.deref.ensures c.take_this.ensures.all_moves)
    (subst (λ (m : Memory). TakesPlaceAmong m.zones c.args.frame c.args.order c.take_this.result c.args.self.now.core
    c.take_this.new.core) c.deref.ensures c.take_this.ensures.takes)
