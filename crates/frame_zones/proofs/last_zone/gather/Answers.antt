use Rattle.std.proofs.Common.{refl, rules, arith}
use Rattle.frame_zones.proofs.Gathering.{gather_one}
use Rattle.frame_zones.proofs.last_zone.gather.Goals as goal

pub loop-number-preserved : goal.loop-number-preserved
loop-number-preserved c = record {
  gathering = gather_one c.loop-number.number c.args.cores.now.items c.loop-number.cores.items _ c.loop-number.parts.items _
      c.take_last.result c.index_mut.result.now c.take_last.new.self c.loop-number.invariant.gathering
      (omega (arith, c.loop-number-test.true, c.len-number-end.ensures, c.args.cores.now.ok.0))
      c.index_mut.ensures.value refl c.push_reserved.ensures.items c.take_last.ensures.shorter c.take_last.ensures.room;
  room = search rules;
}
