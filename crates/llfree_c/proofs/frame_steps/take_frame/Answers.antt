use Rattle.std.proofs.Common.{length, ap, subst, rules, arith}
use Rattle.std.proofs.lemmas.List.{length_push}
use Rattle.atomic_table.specs.Table.{Me}
use Rattle.frame_table.specs.declared.rule.Watch.{Watch}
use Rattle.zone_slots.specs.FrameCalls.{resting_in, RefusesSingle}
use Rattle.llfree_c.proofs.CarriedBlocks.{single_out, single_right}
use Rattle.llfree_c.proofs.RestingFrames.{has_order, none_found, one_lost}
use Rattle.llfree_c.proofs.frame_steps.take_frame.Goals as goal

pub fill-requires-clause-right : goal.fill-requires-clause-right
fill-requires-clause-right c =
    let right = c.in-Ok.ensures.taken.is_single in single_right c.in-Ok.frame.seat.me right.local right.holds.owns

pub fill-requires-clause-bare : goal.fill-requires-clause-bare
fill-requires-clause-bare c =
    ap (λ (m : Me (Unit {0}) Watch). m.1) c.in-Ok.ensures.taken.is_single.holds.owns

pub returns-in-Ok-clause-taken : goal.returns-in-Ok-clause-taken
returns-in-Ok-clause-taken c =
    λ _. (
      search rules,
      record {
        live = search rules;
        order = search rules;
        out = single_out c.args.state.now c.in-Ok.frame c.fill.new.self c.in-Ok.ensures.taken.is_single c.fill.ensures;
        lent = search rules;
        rested = λ some.
            let hit = c.take_frame.ensures.hits some in record {
              one = omega (arith, ap length hit.last, length_push (resting_in c.take_frame.new.self) hit.frame);
              core = hit.core;
            };
        few = c.take_frame.ensures.few;
      },
    )

pub returns-in-Err-BadOrder-clause-refused : goal.returns-in-Err-BadOrder-clause-refused
returns-in-Err-BadOrder-clause-refused c =
    λ _. has_order c.args.held.now c.args.state.now c.take_frame.new.self
    (subst (λ fault. RefusesSingle c.args.state.now c.take_frame.new.self fault) c.in-Err-BadOrder.field-0-is
    c.in-Err-BadOrder.ensures.refused)

pub returns-in-Err-NoBlock-clause-refused : goal.returns-in-Err-NoBlock-clause-refused
returns-in-Err-NoBlock-clause-refused c =
    λ _. none_found c.args.held.now c.args.state.now c.take_frame.new.self
    (subst (λ fault. RefusesSingle c.args.state.now c.take_frame.new.self fault) c.in-Err-NoBlock.field-0-is
    c.in-Err-NoBlock.ensures.refused)

pub returns-in-Err-Contended-clause-refused : goal.returns-in-Err-Contended-clause-refused
returns-in-Err-Contended-clause-refused c =
    λ _. one_lost c.args.held.now c.args.state.now c.take_frame.new.self
    (subst (λ fault. RefusesSingle c.args.state.now c.take_frame.new.self fault) c.in-Err-Contended.field-0-is
    c.in-Err-Contended.ensures.refused)
