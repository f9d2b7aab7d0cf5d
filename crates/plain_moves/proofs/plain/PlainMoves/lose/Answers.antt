use Rattle.std.proofs.Common.{refl}
use Rattle.plain_moves.specs.PlainState.{key_by, words_by, view_by}
use Rattle.plain_moves.proofs.PlainSteps.{looked}
use Rattle.plain_moves.proofs.plain.PlainMoves.lose.Goals as goal

pub invariant_of-self-clause-agrees : goal.invariant_of-self-clause-agrees
invariant_of-self-clause-agrees c =
    let m = c.args.self.now in
    looked (key_by m) (words_by m) m.outs.items (view_by m) c.saturating_add-self.result c.saturating_add-self-2.result m.agrees refl
