use Rattle.std.proofs.Common.{◌+◌, ◌*◌, ap, ◌∙◌, arith}
use Rattle.frame_model.specs.declared.key.Key.{Key}
use Rattle.low_frames.specs.Bounds.{attempt}
use Rattle.low_frames.specs.Takes.{IsAsBefore}
use Rattle.core_frames.specs.Bounds.{most_to_drain, most_to_pay_at}
use Rattle.core_frames.specs.Places.{HasPaidIf}
use Rattle.core_frames.specs.Search.{HasPaid}
use Rattle.core_frames.proofs.Carried.{before_twice, then_paid, then_paid_if}
use Rattle.core_frames.proofs.PlaceLemmas.{too_few, tree_drained_brings}
use Rattle.core_frames.proofs.SearchSteps.{brings_both, brings_within, made_none, made_both, made_within}
use Rattle.core_frames.proofs.places.pay_at.Goals as goal

pub returns-then-try_pay_own-clause-brings : goal.returns-then-try_pay_own-clause-brings
returns-then-try_pay_own-clause-brings g c =
    let m = g.M.Moves.at c.args.m.now in
    brings_within g.met.M.Moves.ticks attempt (most_to_pay_at m.key) (omega arith) c.if-try_pay_own.ensures.brings

pub returns-then-try_pay_own-clause-made : goal.returns-then-try_pay_own-clause-made
returns-then-try_pay_own-clause-made g c =
    let M = g.M.Moves in
    let m = M.at c.args.m.now in
    made_within g.met.M.Moves.ticks m (M.at c.try_pay_own.new.m) 1 attempt (most_to_pay_at m.key) (omega arith) c.try_pay_own.ensures.made

pub returns-then-try_pay-clause-brings : goal.returns-then-try_pay-clause-brings
returns-then-try_pay-clause-brings g c =
    let M = g.M.Moves in
    let m = M.at c.args.m.now in
    let u = M.at c.try_pay_own.new.m in
    let w = M.at c.try_pay.new.m in
    let one = c.if-try_pay_own.ensures.brings in
    let two = c.if-try_pay.ensures.brings in
    brings_both g.met.M.Moves.ticks (HasPaid c.args.tree c.args.n) attempt attempt (most_to_pay_at m.key) (omega arith) one two
    (then_paid m.view u.view w.view c.args.tree c.args.n one.view two.view)

pub returns-then-try_pay-clause-made : goal.returns-then-try_pay-clause-made
returns-then-try_pay-clause-made g c =
    let M = g.M.Moves in
    let ticks = g.met.M.Moves.ticks in
    let m = M.at c.args.m.now in
    let u = M.at c.try_pay_own.new.m in
    let w = M.at c.try_pay.new.m in
    made_both ticks m u w 1 0 1 attempt attempt attempt (most_to_pay_at m.key) (omega arith) (omega arith) (omega arith)
    c.if-try_pay_own.ensures.brings.counts c.try_pay_own.ensures.made (made_none ticks attempt c.if-try_pay.ensures.brings.counts)

pub returns-clause-brings : goal.returns-clause-brings
returns-clause-brings g c =
    let M = g.M.Moves in
    let ticks = g.met.M.Moves.ticks in
    let m = M.at c.args.m.now in
    let u = M.at c.try_pay_own.new.m in
    let w = M.at c.try_pay.new.m in
    let x = M.at c.drain_tree.new.m in
    let z = M.at c.try_pay-2.new.m in
    let one = c.if-try_pay_own.ensures.brings in
    let two = c.if-try_pay.ensures.brings in
    let drained = tree_drained_brings c.drain_tree.ensures in
    let last = c.try_pay-2.ensures.brings in
    let both = brings_both ticks IsAsBefore attempt attempt (attempt + attempt) (omega arith) one two
    (before_twice m.view u.view w.view one.view two.view) in
    let cores = ap (λ (k : Key). k.cores) both.keeps.same_key in
    let three = brings_both ticks IsAsBefore (attempt + attempt) (most_to_drain * w.key.cores) (attempt + attempt + most_to_drain * m.key.cores)
    (omega (arith, cores)) both drained (before_twice m.view w.view x.view both.view drained.view) in
    brings_both ticks (HasPaidIf c.args.tree c.args.n c.try_pay-2.result) (attempt + attempt + most_to_drain * m.key.cores) attempt
    (most_to_pay_at m.key) (omega arith) three last
    (then_paid_if m.view x.view z.view c.args.tree c.args.n c.try_pay-2.result three.view last.view)

pub returns-clause-made : goal.returns-clause-made
returns-clause-made g c =
    let M = g.M.Moves in
    let ticks = g.met.M.Moves.ticks in
    let m = M.at c.args.m.now in
    let u = M.at c.try_pay_own.new.m in
    let w = M.at c.try_pay.new.m in
    let x = M.at c.drain_tree.new.m in
    let z = M.at c.try_pay-2.new.m in
    let one = c.if-try_pay_own.ensures.brings in
    let two = c.if-try_pay.ensures.brings in
    let drained = tree_drained_brings c.drain_tree.ensures in
    let last = c.try_pay-2.ensures.brings in
    let cores = ap (λ (k : Key). k.cores) one.keeps.same_key in
    let rest = brings_both ticks IsAsBefore attempt (most_to_drain * w.key.cores) (attempt + most_to_drain * u.key.cores)
    (omega (arith, ap (λ (k : Key). k.cores) two.keeps.same_key)) two drained (before_twice u.view w.view x.view two.view drained.view) in
    let end = brings_both ticks (HasPaidIf c.args.tree c.args.n c.try_pay-2.result) (attempt + most_to_drain * u.key.cores) attempt
    (attempt + most_to_drain * u.key.cores + attempt) (omega arith) rest last
    (then_paid_if u.view x.view z.view c.args.tree c.args.n c.try_pay-2.result rest.view last.view) in
    made_both ticks m u z 1 0 1 attempt attempt (attempt + most_to_drain * u.key.cores + attempt) (most_to_pay_at m.key)
    (omega arith) (omega arith) (omega (arith, cores)) one.counts c.try_pay_own.ensures.made
    (made_none ticks (attempt + most_to_drain * u.key.cores + attempt) end.counts)

pub returns-clause-few : goal.returns-clause-few
returns-clause-few g c none alone =
    let M = g.M.Moves in
    let ticks = g.met.M.Moves.ticks in
    let m = M.at c.args.m.now in
    let u = M.at c.try_pay_own.new.m in
    let w = M.at c.try_pay.new.m in
    let x = M.at c.drain_tree.new.m in
    let z = M.at c.try_pay-2.new.m in
    let one = c.if-try_pay_own.ensures.brings in
    let two = c.if-try_pay.ensures.brings in
    let both = brings_both ticks IsAsBefore attempt attempt (attempt + attempt) (omega arith) one two
    (before_twice m.view u.view w.view one.view two.view) in
    let drained = both.keeps.stays_alone alone in
    let after = c.drain_tree.ensures.keeps.stays_alone drained in
    too_few m.key w.key x.key c.args.tree c.args.n m.words w.words x.words z.words both.keeps.same_key
    (c.drain_tree.ensures.keeps.same_key ∙ both.keeps.same_key) (both.alone alone) (c.drain_tree.ensures.alone drained)
    (c.try_pay-2.ensures.few none after)
