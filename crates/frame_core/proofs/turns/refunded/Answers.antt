use Rattle.std.proofs.Common.{◌+◌, ◌*◌, ◌%◌, ◌^◌, ap, sym, ◌∙◌}
use Rattle.frame_core.proofs.Numbers.{added_up}
use Rattle.frame_core.proofs.turns.refunded.Goals as goal

pub returns : goal.returns
returns c old = added_up c.args.child c.shift.result c.args.n old c.shift.ensures
    ∙ ap (λ n. (old + n * 2 ^ c.shift.result % 2 ^ 64) % 2 ^ 64) (sym c.from.ensures)
