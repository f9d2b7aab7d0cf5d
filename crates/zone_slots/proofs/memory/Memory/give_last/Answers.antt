use Rattle.zone_slots.proofs.Rested.{besides_twice, one_shorter}
use Rattle.zone_slots.proofs.memory.Memory.give_last.Goals as goal

pub loop-i-preserved : goal.loop-i-preserved
loop-i-preserved c =
    let all = c.args.rest.now.list.items in
    let rest = c.loop-i.rest.list.items in
    let left = c.give_one.new.rest.list.items in (
      besides_twice c.args.self.now.zones c.args.core.now c.loop-i.core c.give_one.new.core all rest left
          c.loop-i.invariant.0 c.give_one.ensures.gives,
      one_shorter c.loop-i._i all rest left c.loop-i.invariant.1 c.give_one.ensures.first,
    )
