use Rattle.plain_moves.specs.PlainState.{key_by, words_by, view_by}
use Rattle.plain_moves.proofs.Checks.{charged_is}
use Rattle.plain_moves.proofs.plain.PlainMoves.charges_only.Goals as goal

pub returns-clause-no : goal.returns-clause-no
returns-clause-no c =
    let m = c.args.self.now in
    λ no none. c.is_none_but.ensures.no no (charged_is (key_by m) (words_by m) m.outs.items (view_by m) m.agrees) none
