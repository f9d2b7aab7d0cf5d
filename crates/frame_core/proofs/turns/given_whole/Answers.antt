use Rattle.std.proofs.Common.{◌+◌, ◌-◌, ◌%◌, ◌^◌, ap, sym, arith}
use Rattle.frame_core.proofs.Numbers.{moved_up}
use Rattle.frame_core.proofs.turns.given_whole.Goals as goal

pub returns : goal.returns
returns c old rest = ap (λ x. (old + (2 ^ 64 - x)) % 2 ^ 64) (sym (moved_up c.args.child c.shift.result 32256 c.shift.ensures
    (omega arith)))
