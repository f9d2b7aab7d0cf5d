use Rattle.std.proofs.Common.{◌-◌, ap, sym, ◌∙◌, arith}
use Rattle.frame_core.proofs.Numbers.{tree_none}
use Rattle.frame_core.proofs.turns.collected.Goals as goal

pub overflow_sub-result : goal.overflow_sub-result
overflow_sub-result c = omega (arith, (tree_none c.args.seen).0, c.from.ensures, c.tree_free.ensures.value)

pub returns : goal.returns
returns c tree = (tree_none c.args.seen).1 ∙ ap (λ n. c.args.seen - n) (sym (c.from.ensures ∙ c.tree_free.ensures.value))
