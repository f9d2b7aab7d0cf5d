use Rattle.std.proofs.Common.{Some, ◌-◌, ◌^◌, ◌<◌, length, arith, ap, ◌∙◌}
use Rattle.std.proofs.lemmas.List.{length-take}
use Rattle.zone_slots.proofs.Rested.{popped_all}
use Rattle.zone_slots.proofs.Joined.{one_lifted, left_together, twice, halves}
use Rattle.zone_slots.proofs.memory.Memory.+join_last.Goals as goal

pub lift_one-second-requires-clause-rest : goal.lift_one-second-requires-clause-rest
lift_one-second-requires-clause-rest t c =
    let lifted = c.lift_one-first.ensures.lifted in
    (popped_all c.args.self.now.zones c.args.rest.now.list.items c.lift_one-first.new.rest.list.items lifted.0 lifted.1.0
    c.requires.rest).0

pub returns-then-order-eq1-clause-leave : goal.returns-then-order-eq1-clause-leave
returns-then-order-eq1-clause-leave t c =
    let zs = c.args.self.now.zones in
    let core = c.args.core.now in
    let first = c.lift_one-first in
    let second = c.lift_one-second in
    left_together zs core core core c.join_either.new.core c.args.rest.now.list.items first.new.rest.list.items
    second.new.rest.list.items (Some first.result) (Some second.result) c.join_either.result
    (one_lifted zs core c.args.rest.now.list.items first.new.rest.list.items first.ensures.lifted.0 first.result
    c.requires.core c.requires.rest first.ensures.lifted.1.0 first.ensures.lifted.1.1 first.ensures.out)
    (one_lifted zs core first.new.rest.list.items second.new.rest.list.items second.ensures.lifted.0 second.result
    c.requires.core
    (popped_all zs c.args.rest.now.list.items first.new.rest.list.items first.ensures.lifted.0 first.ensures.lifted.1.0 c.requires.rest).0
    second.ensures.lifted.1.0 second.ensures.lifted.1.1
    second.ensures.out)
    c.join_either.ensures

pub join_last-first-requires : goal.join_last-first-requires
join_last-first-requires t c =
    let more : 1 < c.args.order = omega (arith, c.if-order-eq1.false, c.requires.some) in
    let some : 0 < c.args.order = omega (arith, more) in
    let twofold = halves c.args.order some in (
      omega (arith, some, c.decreases),
      (c.requires.known, (c.requires.core, (c.requires.rest, omega (arith, twofold, c.requires.enough)))),
    )

pub join_last-second-requires : goal.join_last-second-requires
join_last-second-requires t c =
    let more : 1 < c.args.order = omega (arith, c.if-order-eq1.false, c.requires.some) in
    let some : 0 < c.args.order = omega (arith, more) in
    let twofold = halves c.args.order some in
    let left = ap length c.join_last-first.ensures.first ∙ length-take _ _ in (
      omega (arith, some, c.decreases),
      (
        c.requires.known,
        (c.join_last-first.ensures.leave.are_cores, (c.join_last-first.ensures.leave.are_singles, omega (arith, twofold, left, c.requires.enough))),
      ),
    )

pub returns-clause-leave : goal.returns-clause-leave
returns-clause-leave t c =
    left_together c.args.self.now.zones c.args.core.now c.join_last-first.new.core c.join_last-second.new.core c.join_or_give.new.core
    c.args.rest.now.list.items c.join_last-first.new.rest.list.items c.join_last-second.new.rest.list.items c.join_last-first.result
    c.join_last-second.result c.join_or_give.result c.join_last-first.ensures.leave c.join_last-second.ensures.leave c.join_or_give.ensures

pub returns-clause-first : goal.returns-clause-first
returns-clause-first t c =
    let more : 1 < c.args.order = omega (arith, c.if-order-eq1.false, c.requires.some) in
    let some : 0 < c.args.order = omega (arith, more) in
    twice (2 ^ (c.args.order - 1)) (2 ^ c.args.order) c.args.rest.now.list.items c.join_last-first.new.rest.list.items
    c.join_last-second.new.rest.list.items (halves c.args.order some) c.join_last-first.ensures.first c.join_last-second.ensures.first
