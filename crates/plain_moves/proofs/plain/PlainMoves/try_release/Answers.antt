use Rattle.std.proofs.Common.{ℕ, ◌+◌, ◌*◌, subst, arith}
use Rattle.frame_model.specs.Steps.Amounts.{Leaves}
use Rattle.frame_model.specs.Block.{block}
use Rattle.frame_model.specs.Without.{without}
use Rattle.frame_model.proofs.Blocks.{run_is_block}
use Rattle.plain_moves.specs.PlainState.{key_by}
use Rattle.plain_moves.proofs.Checks.{same_run}
use Rattle.plain_moves.proofs.plain.PlainMoves.try_release.Goals as goal

pub has_block-requires : goal.has_block-requires
has_block-requires c =
    let m = c.args.self.now in
    run_is_block (key_by m) c.args.word c.in-Some.from c.in-Some.order (record {
      inside = omega (arith, c.if-word-children.false, c.children.ensures.value);
      small = c.in-Some.ensures.order;
      aligned = c.in-Some.ensures.aligned;
      fits = c.in-Some.ensures.fits;
    })

pub returns-then-not-has_block-clause-refused : goal.returns-then-not-has_block-clause-refused
returns-then-not-has_block-clause-refused c = λ no may.
    let m = c.args.self.now in
    let own = m.own.items in
    let can = may.1.1.1 in
    let is = c.in-Some.ensures in
    let same = same_run c.args.mask may.0 may.1.0 c.in-Some.from c.in-Some.order c.ranges.mask.fits can.is_run.fits may.1.1.0 is.fits
    is.bits in
    let Left : ℕ → ℕ → Type 0 = λ f o. Leaves (key_by m) own (block (64 * c.args.word + f) o)
    (without (block (64 * c.args.word + f) o) own) in
    c.has_block.ensures.no c.if-not-has_block.true
    (subst (λ (f : ℕ). Left f c.in-Some.order) same.0 (subst (Left may.0) same.1 can.leaves))
