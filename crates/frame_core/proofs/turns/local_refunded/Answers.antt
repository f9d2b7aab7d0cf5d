use Rattle.std.proofs.Common.{◌+◌, ap, sym, ◌∙◌, arith}
use Rattle.frame_core.proofs.Numbers.{local_more, local_fits}
use Rattle.frame_core.proofs.turns.local_refunded.Goals as goal

pub overflow_add-result : goal.overflow_add-result
overflow_add-result c = let r = c.requires in let h = local_fits c.args.seen c.args.n r.0 r.1.0 r.1.1.0 r.1.1.1.0 r.1.1.1.1
    c.ranges.n.fits in omega (arith, h, c.from.ensures)

pub returns : goal.returns
returns c core = let r = c.requires in local_more c.args.seen c.args.n r.0 r.1.0 r.1.1.0 ∙ ap (λ n. c.args.seen + n) (sym c.from.ensures)
