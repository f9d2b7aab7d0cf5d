use Rattle.std.proofs.Common.{arith}
use Rattle.zone_slots.proofs.Running.{is_local}
use Rattle.zone_slots.proofs.core_state.CoreState.give_run.Goals as goal

pub give_each-run-requires-clause-fits : goal.give_each-run-requires-clause-fits
give_each-run-requires-clause-fits c =
    omega (
      arith,
      is_local c.deref.result.now.zones c.args.frame c.in-Some.seen.zone c.in-Some.seen.frame c.in-Some.ensures.begins,
      c.in-Some.ensures.all,
      c.if-not-is_run_count.ensures.few,
    )
