use Rattle.std.proofs.Common.{◌≡◌, refl, arith}
use Rattle.frame_model.specs.Block.{block}
use Rattle.held_blocks.specs.Desk.{TakesUnder}
use Rattle.held_blocks.proofs.HeldLemmas.{begins_apart}
use Rattle.llfree_trace.proofs.Desks.{agrees_more, free_of_boot, free_under_list, refused_step}
use Rattle.llfree_trace.proofs.desk.PlainDesk.take.Goals as goal

pub returns-then-order-gt-HUGE_ORDER-clause-step :
    goal.returns-then-order-gt-HUGE_ORDER-clause-step
unfolding TakesUnder
returns-then-order-gt-HUGE_ORDER-clause-step c = ((omega arith, refl), tt)

pub add-requires-clause-apart : goal.add-requires-clause-apart
add-requires-clause-apart c =
    let free = free_under_list _ _ _ c.self.invariant c.in-Ok.ensures.quiet.was_free in
    rw c.reserve.ensures.entries (begins_apart _ _ free)

pub invariant_of-self-in-Ok : goal.invariant_of-self-in-Ok
invariant_of-self-in-Ok c =
    rw (c.add.ensures.entries, c.reserve.ensures.entries)
    (agrees_more _ _ _ _ c.self.invariant c.in-Ok.ensures.out c.in-Ok.ensures.kept)

pub returns-in-Ok-clause-step : goal.returns-in-Ok-clause-step
unfolding TakesUnder
returns-in-Ok-clause-step c =
    let quiet = c.in-Ok.ensures.quiet in
    let same : block c.frame-frame.result c.args.order ≡ c.in-Ok.block =
    rw (c.frame-frame.ensures, ← quiet.has_order) refl in
    rw (← c.self.view_is, c.add.ensures.entries, c.reserve.ensures.entries) (
      record {
        is_block = rw same quiet.is_block;
        has_order = refl;
        was_free = rw same (free_under_list _ _ _ c.self.invariant quiet.was_free);
        last = rw (c.again-label.ensures, same) refl;
      },
      free_of_boot c.self.inside.allocator c.self.inside.list.entries _ _ c.self.invariant same quiet.was_free,
    )

pub returns-in-Err-clause-step : goal.returns-in-Err-clause-step
returns-in-Err-clause-step c =
    rw (← c.self.view_is, c.reserve.ensures.entries, c.refused.ensures) (
      (refused_step c.self.inside.allocator c.self.inside.list.entries _ c.args.label.now c.args.order c.in-Err.refusal
          c.self.invariant c.in-Err.ensures.quiet),
      tt,
    )
