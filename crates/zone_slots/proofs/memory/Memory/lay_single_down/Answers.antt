use Rattle.std.proofs.Common.{Some, None, subst}
use Rattle.frame_zones.specs.Uses.{GivesIn}
use Rattle.zone_slots.proofs.FrameNumbers.{single_laid, single_back}
use Rattle.zone_slots.proofs.memory.Memory.lay_single_down.Goals as goal

pub returns-in-Ok-clause-very : goal.returns-in-Ok-clause-very
returns-in-Ok-clause-very c =
    single_laid c.args.self.now.zones c.block_at-held.result c.args.frame.frame (Some c.in-Ok.receipt)
    c.block_at-held.ensures.frame c.block_at-held.ensures.order c.in-Ok.ensures.laid

pub returns-in-Err-clause-given : goal.returns-in-Err-clause-given
returns-in-Err-clause-given c =
    let zs = c.args.self.now.zones in
    single_back zs c.block_at-held.result c.args.frame.frame None c.args.core.now c.give_back.new.core
    c.block_at-held.ensures.out c.block_at-held.ensures.frame c.block_at-held.ensures.order c.give_back.ensures.moves
    (subst (λ z. GivesIn zs z c.args.core.now c.give_back.new.core) c.in-Err.ensures.zone c.give_back.ensures.given)
