use Rattle.std.proofs.Common.{◌≡◌, ℕ, ◌+◌, ◌-◌, ◌*◌, ◌%◌, ◌^◌, ◌<◌, ◌≤◌, true, refl, subst, ◌∙◌, arith}
use Rattle.std.proofs.lemmas.Nat.{pow_pos}
use Rattle.frame_model.specs.Key.{AreSizes}
use Rattle.frame_table.specs.Ties.{table_sizes}
use Rattle.low_frames.proofs.AloneLemmas.{then_found}
use Rattle.core_frames.specs.Cores.{memory_of, view_in, known_by}
use Rattle.core_frames.specs.Looks.{TellsTruly}
use Rattle.frame_zones.specs.Looks.{AreFreeHuge, HasNoFreeBefore}
use Rattle.frame_zones.proofs.Looked.{whole_child, may_begin, next_is, same_both, same_none, same_more}
use Rattle.frame_zones.proofs.Looked.{stays_itself, stays_both, found_still, none_before, none_more, none_of_all}
use Rattle.frame_zones.proofs.looks.first_run.Goals as goal

pub loop-frame-init : goal.loop-frame-init
loop-frame-init c =
    let a = c.args in
    let s = c.run_step-step.ensures in
    let step = c.run_step-step.result in
    let to = c.next_multiple-frame.result in
    let next = c.next_multiple-frame.ensures in
    let some : 0 < step = omega (arith, s.is, pow_pos s.order) in
    let key = memory_of a.memory.now in
    record {
      stays = stays_itself a.memory.now a.core.now c.requires.core;
      seen = (0, (same_none 0 (view_in a.core.now), (omega (arith, next.low, c.max.ensures), omega arith)));
      same_habit = refl;
      multiple = next.multiple;
      behind = omega (arith, next.low, c.max.ensures);
      inside = omega (arith, next.low, c.max.ensures);
      near = omega (arith, next.next, c.max.ensures, c.if-from-end.false, c.from-2.ensures);
      none = λ h.
          found_still (HasNoFreeBefore a.first a.count a.from to key) (known_by a.core.now)
          (λ ws. none_before a.first a.count a.from c.max.result to step key ws some s (omega (arith, c.max.ensures))
          (λ x p q. omega (arith, c.max.ensures)) next.multiple next.next);
    }

pub overflow_add-frame : goal.overflow_add-frame
overflow_add-frame c =
    let s = c.run_step-step.ensures in
    omega (arith, c.loop-frame.invariant.near, s.is, s.least, c.requires.few, c.requires.inside, c.from.ensures)

pub are_free-requires-clause-aligned : goal.are_free-requires-clause-aligned
are_free-requires-clause-aligned c =
    let s = c.run_step-step.ensures in
    let frame = c.loop-frame.frame in
    let was = c.loop-frame.invariant in
    let whole : frame % 512 ≡ 0 = whole_child (2 ^ s.order) frame (pow_pos s.order) (subst (λ n. frame % n ≡ 0) s.is was.multiple) in
    omega (arith, whole, c.requires.aligned, was.inside)

pub returns-then-are_free-clause-looks : goal.returns-then-are_free-clause-looks
returns-then-are_free-clause-looks c =
    let a = c.args in
    let s = c.run_step-step.ensures in
    let frame = c.loop-frame.frame in
    let was = c.loop-frame.invariant in
    let looks = c.if-are_free.ensures.looks in
    let x = a.core.now in
    let y = c.loop-frame.core in
    let z = c.are_free.new.core in
    let key = memory_of a.memory.now in
    let sizes : AreSizes key = table_sizes a.memory.now.table in
    let n : ℕ = was.seen.0 in
    let local : ℕ = frame - a.first in
    let ends : frame + 512 * a.count ≤ a.first + key.frames =
    omega (arith, c.loop-frame-test.true, c.from.ensures, c.from-2.ensures, c.requires.frames) in
    record {
      looked = record {
        view = same_more (n + a.count) key.children (view_in x) (view_in z) (omega (arith, was.seen.1.1.0, ends, sizes.inside))
            (same_both n a.count (view_in x) (view_in y) (view_in z) was.seen.1.0 looks.view);
        same_habit = looks.same_habit ∙ was.same_habit;
      };
      some = record {
        local = local;
        lies = record {
          begins = may_begin a.count c.run_step-step.result frame s was.multiple;
          sum = omega (arith, was.inside);
          inside = omega (arith, ends, was.inside);
        };
        behind = was.behind;
        alone = λ h.
            then_found (HasNoFreeBefore a.first a.count a.from frame key) (TellsTruly (AreFreeHuge key local a.count) true)
            (AreFreeHuge key local a.count) (known_by x) (known_by y) (known_by z) (λ ws none are. are) (was.none h)
            (looks.alone (was.stays.stays_alone h));
        lowest = λ h.
            then_found (HasNoFreeBefore a.first a.count a.from frame key) (TellsTruly (AreFreeHuge key local a.count) true)
            (HasNoFreeBefore a.first a.count a.from frame key) (known_by x) (known_by y) (known_by z) (λ ws none are. none)
            (was.none h) (looks.alone (was.stays.stays_alone h));
      };
      none = tt;
    }

pub loop-frame-preserved : goal.loop-frame-preserved
loop-frame-preserved c =
    let a = c.args in
    let s = c.run_step-step.ensures in
    let step = c.run_step-step.result in
    let some : 0 < step = omega (arith, s.is, pow_pos s.order) in
    let enough : 512 * a.count ≤ step = omega (arith, s.is, s.enough) in
    let frame = c.loop-frame.frame in
    let was = c.loop-frame.invariant in
    let looks = c.if-are_free.ensures.looks in
    let x = a.core.now in
    let y = c.loop-frame.core in
    let z = c.are_free.new.core in
    let key = memory_of a.memory.now in
    let n : ℕ = was.seen.0 in
    let ends : frame + 512 * a.count ≤ a.first + a.frames = omega (arith, c.loop-frame-test.true, c.from.ensures, c.from-2.ensures) in
    record {
      stays = stays_both a.memory.now x y z was.stays c.are_free.ensures.core;
      seen = (
        n + a.count,
        (
          same_both n a.count (view_in x) (view_in y) (view_in z) was.seen.1.0 looks.view,
          (omega (arith, was.seen.1.1.0, enough), omega (arith, was.seen.1.1.0, ends)),
        ),
      );
      same_habit = looks.same_habit ∙ was.same_habit;
      multiple = next_is step frame some was.multiple;
      behind = omega (arith, was.behind);
      inside = omega (arith, was.inside);
      near = omega (arith, ends);
      none = λ h.
          none_more a.first a.count a.from frame step (frame - a.first) key (known_by x) (known_by y) (known_by z) some s was.multiple
          (omega (arith, was.inside)) (was.none h) (looks.alone (was.stays.stays_alone h));
    }

pub returns-clause-looks : goal.returns-clause-looks
returns-clause-looks c =
    let a = c.args in
    let was = c.loop-frame.invariant in
    let x = a.core.now in
    let y = c.loop-frame.core in
    let key = memory_of a.memory.now in
    let sizes : AreSizes key = table_sizes a.memory.now.table in
    let n : ℕ = was.seen.0 in
    record {
      looked = record {
        view = same_more n key.children (view_in x) (view_in y) (omega (arith, was.seen.1.1.1, c.requires.frames, sizes.inside))
            was.seen.1.0;
        same_habit = was.same_habit;
      };
      some = tt;
      none = λ h.
          none_of_all a.first a.count a.from c.loop-frame.frame key (known_by x) (known_by y)
          (omega (arith, c.loop-frame-test.false, c.from.ensures, c.from-2.ensures, c.requires.frames)) (was.none h);
    }
