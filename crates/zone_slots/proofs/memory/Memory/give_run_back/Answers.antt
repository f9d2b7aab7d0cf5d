use Rattle.std.proofs.Common.{◌∙◌}
use Rattle.zone_slots.proofs.GoingBack.{one_more_fewer, one_more_back}
use Rattle.zone_slots.proofs.RunsKept.{kept_twice}
use Rattle.zone_slots.proofs.memory.Memory.give_run_back.Goals as goal

pub loop-i-preserved : goal.loop-i-preserved
loop-i-preserved c =
    let zs = c.args.self.now.zones in
    let inv = c.loop-i.invariant in
    record {
      cores = c.give_part-answer.ensures.core;
      kept = kept_twice zs c.args.core.now c.loop-i.core c.give_part-answer.new.core inv.kept c.give_part-answer.ensures.kept;
      parts = c.add.ensures.parts ∙ inv.parts;
      all = one_more_back c.loop-i.i c.loop-i.back c.add.new.self c.give_part-answer.result c.add.ensures inv.all;
      lent = one_more_fewer zs c.args.parts.zone c.loop-i.back c.add.new.self c.give_part-answer.result c.args.core.now
          c.loop-i.core c.give_part-answer.new.core c.add.ensures c.give_part-answer.ensures.given
          c.give_part-answer.ensures.same inv.lent;
    }
