use Rattle.std.proofs.Common.{◌∙◌, arith}
use Rattle.zone_slots.proofs.Running.{one_more_given}
use Rattle.zone_slots.proofs.memory.Memory.give_each.Goals as goal

pub loop-i-preserved : goal.loop-i-preserved
loop-i-preserved c =
    let inv = c.loop-i.invariant in
    record {
      cores = c.give_in.ensures.core;
      seen = c.add.ensures.seen ∙ inv.seen;
      count = omega (arith, c.add.ensures.count, inv.count);
      given = one_more_given c.args.self.now.zones c.loop-i.i c.args.seen.zone c.args.seen.frame c.args.core.now c.loop-i.core
          c.give_in.new.core inv.given c.in-Ok.ensures.given;
    }
