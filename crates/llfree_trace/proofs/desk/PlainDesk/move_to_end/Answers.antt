use Rattle.std.proofs.Common.{◌≤◌, refl, arith}
use Rattle.std.proofs.lemmas.Nat.{pow_pos}
use Rattle.llfree_trace.specs.Outcome.{Moves}
use Rattle.llfree_trace.proofs.Desks.{agrees_moved}
use Rattle.llfree_trace.proofs.Moving.{left_apart, left_block, moved_lawful}
use Rattle.llfree_trace.proofs.desk.PlainDesk.move_to_end.Goals as goal

pub add-requires-clause-low : goal.add-requires-clause-low
add-requires-clause-low c =
    let takes = rw c.reserve.ensures.entries at c.in-Some.ensures.taken in
    let held = rw (← c.self.view_is) at c.requires in
    let is = left_block _ _ c.self.inside.list.entries _ c.in-Some.held held takes in
    let few : c.self.inside.allocator.geometry.children ≤ 4096 = c.self.inside.allocator.geometry.few_children in
    omega (arith, is.inside, few, pow_pos c.in-Some.held.block.order)

pub add-requires-clause-apart : goal.add-requires-clause-apart
add-requires-clause-apart c =
    let takes = rw c.reserve.ensures.entries at c.in-Some.ensures.taken in
    let held = rw (← c.self.view_is) at c.requires in
    left_apart _ _ c.self.inside.list.entries _ c.in-Some.held held takes

pub invariant_of-self-2 : goal.invariant_of-self-2
invariant_of-self-2 c =
    let takes = rw c.reserve.ensures.entries at c.in-Some.ensures.taken in
    rw c.add.ensures.entries (agrees_moved c.self.inside.allocator c.self.inside.list.entries _ c.in-Some.held _ c.self.invariant takes)

pub returns-clause-step : goal.returns-clause-step
unfolding Moves
returns-clause-step c = λ others.
    let takes = rw c.reserve.ensures.entries at c.in-Some.ensures.taken in
    rw (← c.self.view_is, c.moved-reply.ensures) (record {
      entry = c.in-Some.held;
      left = c.remove_oldest.new.self.entries;
      is_block = refl;
      leaves = takes;
      goes_last = rw c.add.ensures.entries refl;
    })

pub returns-clause-lawful : goal.returns-clause-lawful
returns-clause-lawful c =
    let takes = rw c.reserve.ensures.entries at c.in-Some.ensures.taken in
    let held = rw (← c.self.view_is) at c.requires in
    rw c.add.ensures.entries (moved_lawful _ _ c.self.inside.list.entries _ c.in-Some.held held takes)

pub returns-in_default-clause-step : goal.returns-in_default-clause-step
unfolding Moves
returns-in_default-clause-step c = λ others.
    let none = rw c.reserve.ensures.entries at c.in_default.ensures.none in
    rw (← c.self.view_is, c.in_default.ensures.unchanged, c.reserve.ensures.entries) (none, refl)
