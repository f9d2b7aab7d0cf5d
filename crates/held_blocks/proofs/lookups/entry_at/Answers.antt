use Rattle.std.proofs.Common.{sym, ◌∙◌}
use Rattle.held_blocks.proofs.Slots.{read_held}
use Rattle.held_blocks.proofs.lookups.entry_at.Goals as goal

pub returns-then-seen-place : goal.returns-then-seen-place
returns-then-seen-place c =
    let entry = c.in-Some.entry in
    sym (read_held c.args.slots.now c.loop-slot.slot-index c.args.place c.slot-item.result entry entry
    c.loop-slot-test.true c.slot-item.is c.in-Some.is (sym c.loop-slot.invariant.0 ∙ c.if-seen-place.true))
