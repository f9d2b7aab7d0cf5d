use Rattle.std.proofs.Common.{◌≡◌, ℕ, ◌+◌, ◌*◌, ◌<◌, ◌≤◌}
use Rattle.frame_model.specs.View.{names}
use Rattle.core_frames.specs.Splits.{Bears, TurnsRecalled}
use Rattle.core_frames.proofs.SplitAlone.{KeepsFlags}
use Rattle.core_frames.proofs.splits.break_up.Given as goal

abbrev pub invariant-loop-i : goal.invariant-loop-i
invariant-loop-i g l =
    let M = g.M.Moves in
    record {
      brings : TurnsRecalled M.is_exact l.i (λ v w. Bears v v.own w.filled v.lent w) (KeepsFlags (M.at l.fn.m).key) (M.at l.fn.m) (M.at l.m);
      filled : (n : ℕ) → 8 * l.fn.child ≤ n → n < 8 * l.fn.child + l.i → names n (M.at l.m).view.filled ≡ 1;
    }
