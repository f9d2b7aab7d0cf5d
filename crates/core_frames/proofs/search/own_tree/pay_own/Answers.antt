use Rattle.std.proofs.Common.{◌≡◌, ◌+◌, ◌*◌, Some, subst, arith}
use Rattle.frame_words.specs.Words.{rest_in}
use Rattle.frame_model.specs.Words.{IsRest}
use Rattle.core_frames.specs.Bounds.{most_to_load, most_to_pay}
use Rattle.core_frames.proofs.Carried.{idle_still, can_pay_own, paid_own}
use Rattle.core_frames.proofs.KeptFrames.{upper_local}
use Rattle.core_frames.proofs.SearchSteps.{try_brings}
use Rattle.core_frames.proofs.search.own_tree.pay_own.Goals as goal

pub local_pay-requires : goal.local_pay-requires
local_pay-requires g c =
    let M = g.M.Moves in
    let v = (M.at c.args.m.now).view in
    let u = (M.at c.loop-i.m).view in
    let was = c.loop-i.invariant in
    let is : rest_in c.loop-i.seen ≡ Some (c.in-Some.tree, c.in-Some.resting) = cc in
    record {
      share = (idle_still v u c.requires.idle was.brings.view).share;
      seen = was.seen;
      may = can_pay_own (M.at c.loop-i.m).key (M.at c.args.m.now).key v u
          c.args.core c.loop-i.seen c.args.n c.in-Some.tree c.in-Some.resting
          was.brings.keeps.same_key c.requires.core c.requires.idle was.brings.view is (omega (arith, c.if-resting-n.false));
    }

pub returns-then-local_pay : goal.returns-then-local_pay
returns-then-local_pay g c =
    let M = g.M.Moves in
    let m = M.at c.args.m.now in
    let u = M.at c.loop-i.m in
    let x = M.at c.local_pay.new.self in
    let was = c.loop-i.invariant in
    let is : rest_in c.loop-i.seen ≡ Some (c.in-Some.tree, c.in-Some.resting) = cc in
    let rest : IsRest m.key (Some (c.in-Some.tree, c.in-Some.resting)) = subst (IsRest m.key) is was.rest in
    try_brings g.met.M.Moves.ticks _ (most_to_load + 2 * c.loop-i.i) most_to_pay (omega (arith, c.loop-i-test.true)) (g.met.M.Moves.stays_alone c.loop-i.m)
    (upper_local m.key c.args.core c.requires.core) was.brings was.known c.local_pay.ensures (
      rest.0,
      paid_own M.tick m.view u.view x.view was.brings.view c.args.core c.loop-i.seen c.in-Some.tree c.in-Some.resting c.args.n
          c.requires.idle.paid is c.if-local_pay.ensures.view,
    )
