use Rattle.std.proofs.Common.{◌-◌, ap, sym, ◌∙◌, arith}
use Rattle.frame_core.proofs.Numbers.{tree_less}
use Rattle.frame_core.proofs.turns.tree_paid.Goals as goal

pub overflow_sub-result : goal.overflow_sub-result
overflow_sub-result c = let h = tree_less c.args.seen c.args.n c.requires in omega (arith, h.0, c.from.ensures)

pub returns : goal.returns
returns c tree = let h = tree_less c.args.seen c.args.n c.requires in h.1 ∙ ap (λ n. c.args.seen - n) (sym c.from.ensures)
