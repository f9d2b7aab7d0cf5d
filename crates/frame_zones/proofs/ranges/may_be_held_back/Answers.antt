use Rattle.std.proofs.Common.{get_or, arith}
use Rattle.core_frames.specs.Ranges.{MayFollow}
use Rattle.core_frames.proofs.RangeLemmas.{next_of, rest_of, with_next, none_left}
use Rattle.frame_zones.proofs.ranges.may_be_held_back.Goals as goal

pub returns-then-not-may_follow : goal.returns-then-not-may_follow
returns-then-not-may_follow c h =
    let i = c.loop-first.first-index in
    let end = c.args.geometry.frames in
    let r = get_or c.args.ranges.now i (0, 0) in
    let n : MayFollow c.loop-first.from end r =
    next_of c.loop-first.from end i c.args.ranges.now (0, 0) c.loop-first-test.true (c.loop-first.invariant.part h.apart) in
    c.if-not-may_follow.ensures (record {
      some = n.some;
      behind = n.behind;
      inside = omega (arith, n.inside, c.frames-end.ensures.value);
    })

pub loop-first-preserved : goal.loop-first-preserved
loop-first-preserved c =
    let i = c.loop-first.first-index in
    let from = c.loop-first.from in
    let end = c.args.geometry.frames in
    let rs = c.args.ranges.now in
    let follows = c.if-not-may_follow.ensures in
    let n : MayFollow from end (get_or rs i (0, 0)) = record {
      some = follows.some;
      behind = follows.behind;
      inside = omega (arith, follows.inside, c.frames-end.ensures.value);
    } in
    record {
      few = c.loop-first.invariant.few;
      whole = λ h. c.loop-first.invariant.whole (with_next from end i rs (0, 0) c.loop-first-test.true n h);
      part = λ h. rest_of from end i rs (0, 0) c.loop-first-test.true (c.loop-first.invariant.part h);
    }

pub returns : goal.returns
returns c =
    let i = c.loop-first.first-index in record {
      few = c.loop-first.invariant.few;
      apart = c.loop-first.invariant.whole
          (none_left c.loop-first.from c.args.geometry.frames i c.args.ranges.now c.loop-first-test.false);
    }
