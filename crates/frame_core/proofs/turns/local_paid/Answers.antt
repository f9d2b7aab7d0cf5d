use Rattle.std.proofs.Common.{◌-◌, ap, sym, ◌∙◌, arith}
use Rattle.frame_core.proofs.Numbers.{local_less}
use Rattle.frame_core.proofs.turns.local_paid.Goals as goal

pub overflow_sub-result : goal.overflow_sub-result
overflow_sub-result c = let r = c.requires in let h = local_less c.args.seen c.args.n r.0 r.1.0 r.1.1.0 r.1.1.1 in omega (
  arith,
  h.0,
  c.from.ensures,
)

pub returns : goal.returns
returns c core = let r = c.requires in let h = local_less c.args.seen c.args.n r.0 r.1.0 r.1.1.0 r.1.1.1 in h.1
    ∙ ap (λ n. c.args.seen - n) (sym c.from.ensures)
