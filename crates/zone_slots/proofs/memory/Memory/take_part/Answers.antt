use Rattle.zone_slots.proofs.Placed.{placed_moves}
use Rattle.zone_slots.proofs.Running.{given_again, next_part, next_taken}
use Rattle.zone_slots.proofs.RunsKept.{kept_same, kept_twice, kept_by_give}
use Rattle.zone_slots.proofs.memory.Memory.take_part.Goals as goal

pub returns-then-held-parts-clause-lent : goal.returns-then-held-parts-clause-lent
returns-then-held-parts-clause-lent c =
    given_again c.args.self.now.zones c.args.frame c.in-Ok.held c.args.core.now c.take_at.new.core c.give.new.core
    c.in-Ok.ensures.takes.ok c.give.ensures.gives

pub returns-in-Err-lay_huge_down-clause-lent : goal.returns-in-Err-lay_huge_down-clause-lent
returns-in-Err-lay_huge_down-clause-lent c =
    given_again c.args.self.now.zones c.args.frame c.in-Ok.held c.args.core.now c.take_at.new.core c.lay_huge_down.new.core
    c.in-Ok.ensures.takes.ok c.in-Err-lay_huge_down.ensures.given

pub add-requires : goal.add-requires
add-requires c =
    next_part c.args.self.now.zones c.args.frame c.in-Ok.held c.in-Ok-lay_huge_down.receipt c.args.parts.now c.args.core.now
    c.take_at.new.core c.requires.core c.in-Ok.ensures.takes.ok c.in-Ok-lay_huge_down.ensures.same c.if-held-parts.false
    c.requires.next c.requires.order c.requires.few

pub returns-clause-taken : goal.returns-clause-taken
returns-clause-taken c =
    next_taken c.args.self.now.zones c.args.frame c.in-Ok.held c.args.parts.now c.args.core.now c.take_at.new.core
    c.lay_huge_down.new.core c.in-Ok.ensures.takes.kept
    (placed_moves c.args.self.now.zones c.args.frame 9 c.in-Ok.held c.args.core.now c.take_at.new.core c.requires.core
    c.in-Ok.ensures.takes.ok c.take_at.ensures.all_moves)
    c.in-Ok.ensures.takes.ok c.if-held-parts.false c.requires.next c.in-Ok-lay_huge_down.ensures.rests

pub returns-then-held-parts-clause-kept : goal.returns-then-held-parts-clause-kept
returns-then-held-parts-clause-kept c =
    kept_twice c.args.self.now.zones c.args.core.now c.take_at.new.core c.give.new.core c.take_at.ensures.takes.kept
    (kept_by_give c.args.self.now.zones c.in-Ok.held.zone c.take_at.new.core c.give.new.core c.give.ensures.gives)

pub returns-in-Err-lay_huge_down-clause-kept : goal.returns-in-Err-lay_huge_down-clause-kept
returns-in-Err-lay_huge_down-clause-kept c =
    kept_twice c.args.self.now.zones c.args.core.now c.take_at.new.core c.lay_huge_down.new.core c.take_at.ensures.takes.kept
    (kept_by_give c.args.self.now.zones c.in-Ok.held.zone c.take_at.new.core c.lay_huge_down.new.core c.in-Err-lay_huge_down.ensures.given)

pub returns-clause-kept : goal.returns-clause-kept
returns-clause-kept c =
    kept_twice c.args.self.now.zones c.args.core.now c.take_at.new.core c.lay_huge_down.new.core c.take_at.ensures.takes.kept
    (kept_same c.args.self.now.zones c.take_at.new.core c.lay_huge_down.new.core c.in-Ok-lay_huge_down.ensures.rests)
