use Rattle.std.proofs.Common.{◌*◌}
use Rattle.plain_moves.specs.PlainState.{key_by, view_by}
use Rattle.plain_moves.proofs.PlainCompany.{admitted}
use Rattle.plain_moves.proofs.plain.PlainMoves.admit.Goals as goal

pub invariant_of-self-clause-agrees : goal.invariant_of-self-clause-agrees
invariant_of-self-clause-agrees c =
    let m = c.args.self.now in
    admitted (key_by m) m.them c.args.them m.words.items m.outs.items (view_by m)
    (512 * m.geometry.children) c.requires.alone c.requires.fresh c.requires.outs m.agrees
