use Rattle.zone_slots.proofs.FirstZones.{right_placed}
use Rattle.zone_slots.proofs.Rights.{right_out}
use Rattle.zone_slots.proofs.memory.Memory.block_at.Goals as goal

pub place_of-zone-requires-clause-some : goal.place_of-zone-requires-clause-some
place_of-zone-requires-clause-some c = c.requires.right.some

pub of-block-requires : goal.of-block-requires
of-block-requires c =
    (right_placed c.args.self.now.zones c.args.frame c.args.order c.place_of-zone.result.0 c.place_of-zone.result.1
    c.args.seat.table_id c.args.seat.me c.requires.right c.place_of-zone.ensures.zone c.place_of-zone.ensures.local).owns

pub returns-clause-out : goal.returns-clause-out
returns-clause-out c =
    right_out c.args.self.now.zones c.args.order c.place_of-zone.result.0 c.place_of-zone.result.1 c.of-block.result
    c.args.seat c.place_of-zone.ensures.zone.zone
    (right_placed c.args.self.now.zones c.args.frame c.args.order c.place_of-zone.result.0 c.place_of-zone.result.1
    c.args.seat.table_id c.args.seat.me c.requires.right c.place_of-zone.ensures.zone c.place_of-zone.ensures.local)
    c.of-block.ensures.0 c.of-block.ensures.1 c.of-block.ensures.2
