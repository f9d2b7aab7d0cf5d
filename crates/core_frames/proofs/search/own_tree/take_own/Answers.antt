use Rattle.std.proofs.Common.{◌+◌, ap, ◌∙◌, arith}
use Rattle.frame_model.specs.View.{counted}
use Rattle.low_frames.specs.Bounds.{most_in_tree}
use Rattle.low_frames.specs.Takes.{IsAsBefore}
use Rattle.low_frames.proofs.Sure.{sure_both}
use Rattle.low_frames.proofs.TakeLemmas.{keeps_both, then_counts}
use Rattle.core_frames.specs.Bounds.{most_to_refund, most_to_pay, most_in_own_tree}
use Rattle.core_frames.specs.Search.{HasPaid, HasLentOne}
use Rattle.core_frames.proofs.Carried.{carried_on, lent_own, refunded_idle}
use Rattle.core_frames.proofs.SearchSteps.{brings_both, brings_within, missed_frames, none_brings, may_take, may_refund, out_after}
use Rattle.core_frames.proofs.search.own_tree.take_own.Goals as goal

pub pay_own-requires : goal.pay_own-requires
pay_own-requires g c = record { core = c.requires.core; idle = c.requires.idle }

pub take_in_tree-requires : goal.take_in_tree-requires
take_in_tree-requires g c =
    let m = g.M.Moves.at c.args.m.now in
    let paid = c.in-Some.ensures in
    may_take m (g.M.Moves.at c.pay_own.new.m) c.in-Some.tree c.frames_of-n.result m.view.reserving m.view.lent paid.keeps.same_key
    paid.view.0 c.requires.idle paid.view.1 c.args.order c.requires.order (omega (arith, c.frames_of-n.ensures.value))

pub refund-requires : goal.refund-requires
refund-requires g c =
    let M = g.M.Moves in
    let m = M.at c.args.m.now in
    let u = M.at c.pay_own.new.m in
    let w = M.at c.take_in_tree.new.m in
    let n = c.frames_of-n.result in
    let paid = c.in-Some.ensures in
    let missed = c.in_default-take_in_tree.ensures in
    may_refund m w c.in-Some.tree n m.view.reserving m.view.lent (missed.keeps.same_key ∙ paid.keeps.same_key) paid.view.0 c.requires.idle
    (carried_on m.view u.view w.view (counted c.in-Some.tree n) m.view.reserving m.view.lent paid.view.1 missed.none.view)
    c.args.core c.requires.core

pub returns-in_default : goal.returns-in_default
returns-in_default g c =
    let paid = c.in_default.ensures in
    let ticks = g.met.M.Moves.ticks in
    let all = brings_within ticks most_to_pay most_in_own_tree (omega arith) paid in
    record { keeps = all.keeps; counts = all.counts; sure = all.sure; some = tt; none = missed_frames ticks most_in_own_tree all }

pub returns-in_default-take_in_tree : goal.returns-in_default-take_in_tree
returns-in_default-take_in_tree g c =
    let M = g.M.Moves in
    let ticks = g.met.M.Moves.ticks in
    let tree = c.in-Some.tree in
    let n = c.frames_of-n.result in
    let m = M.at c.args.m.now in
    let u = M.at c.pay_own.new.m in
    let w = M.at c.take_in_tree.new.m in
    let x = M.at c.refund.new.m in
    let paid = c.in-Some.ensures in
    let missed = c.in_default-take_in_tree.ensures in
    let still = brings_both ticks (HasPaid tree n) most_to_pay most_in_tree (most_to_pay + most_in_tree) (omega arith) paid
    (none_brings ticks most_in_tree missed.keeps missed.counts missed.sure missed.none)
    (carried_on m.view u.view w.view (counted tree n) m.view.reserving m.view.lent paid.view.1 missed.none.view) in
    let all = brings_both ticks IsAsBefore (most_to_pay + most_in_tree) most_to_refund most_in_own_tree (omega arith) still c.refund.ensures
    (refunded_idle m.view w.view x.view tree n c.requires.idle still.view c.refund.ensures.view) in
    record { keeps = all.keeps; counts = all.counts; sure = all.sure; some = tt; none = missed_frames ticks most_in_own_tree all }

pub returns : goal.returns
returns g c =
    let M = g.M.Moves in
    let tree = c.in-Some.tree in
    let n = c.frames_of-n.result in
    let m = M.at c.args.m.now in
    let u = M.at c.pay_own.new.m in
    let w = M.at c.take_in_tree.new.m in
    let paid = c.in-Some.ensures in
    let took = c.in-Some-take_in_tree.ensures in
    record {
      keeps = keeps_both paid.keeps took.keeps;
      counts = then_counts M.tick M.is_exact g.met.M.Moves.ticks most_to_pay most_in_tree most_in_own_tree (omega arith) paid.counts took.counts;
      sure = sure_both paid.sure took.sure;
      some = out_after HasLentOne c.args.order paid.keeps (ap (λ v. v.kept) paid.view.1) paid.alone
          (record { is_block = took.some.is_one.is_block; has_order = took.some.is_one.has_order })
          (lent_own m.view u.view w.view tree c.args.order n c.requires.idle c.frames_of-n.ensures.value paid.view.1 took.some.view)
          took.some;
      none = tt;
    }
