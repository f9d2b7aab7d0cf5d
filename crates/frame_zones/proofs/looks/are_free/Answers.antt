use Rattle.std.proofs.Common.{◌+◌, ◌∙◌, arith}
use Rattle.core_frames.specs.Cores.{memory_of, view_in, known_by}
use Rattle.frame_zones.proofs.Looked.{same_both, same_more, stays_both, has_huge, free_more, not_all_free}
use Rattle.frame_zones.proofs.looks.are_free.Goals as goal

pub returns-then-not-is_free-clause-looks : goal.returns-then-not-is_free-clause-looks
returns-then-not-is_free-clause-looks c =
    let was = c.loop-i.invariant in
    let looks = c.if-not-is_free.ensures.looks in
    let x = c.args.core.now in
    let y = c.loop-i.core in
    let z = c.is_free.new.core in
    let i = c.loop-i.i in
    let key = memory_of c.args.memory.now in
    record {
      view = same_more (i + 1) c.args.count (view_in x) (view_in z) (omega (arith, c.loop-i-test.true))
          (same_both i 1 (view_in x) (view_in y) (view_in z) was.view looks.view);
      same_habit = looks.same_habit ∙ was.same_habit;
      alone = λ h.
          not_all_free key c.args.local i c.args.count (known_by x) (known_by y) (known_by z)
          (has_huge key c.args.local c.args.count i c.requires.aligned c.requires.inside c.loop-i-test.true) c.loop-i-test.true
          (was.free h) (looks.alone (was.stays.stays_alone h));
    }

pub loop-i-preserved : goal.loop-i-preserved
loop-i-preserved c =
    let was = c.loop-i.invariant in
    let looks = c.if-not-is_free.ensures.looks in
    let x = c.args.core.now in
    let y = c.loop-i.core in
    let z = c.is_free.new.core in
    let i = c.loop-i.i in
    let key = memory_of c.args.memory.now in
    record {
      stays = stays_both c.args.memory.now x y z was.stays c.is_free.ensures.core;
      view = same_both i 1 (view_in x) (view_in y) (view_in z) was.view looks.view;
      same_habit = looks.same_habit ∙ was.same_habit;
      free = λ h. free_more key c.args.local i (known_by x) (known_by y) (known_by z) (was.free h) (looks.alone (was.stays.stays_alone h));
    }
