use Rattle.plain_moves.specs.PlainState.{key_by, words_by, view_by}
use Rattle.plain_moves.proofs.Checks.{lies_known, lies_not}
use Rattle.plain_moves.proofs.plain.PlainMoves.lies_in.Goals as goal

pub returns-then-charges_only-clause-yes : goal.returns-then-charges_only-clause-yes
returns-then-charges_only-clause-yes c =
    let m = c.args.self.now in
    λ yes. lies_known (key_by m) (words_by m) m.outs.items (view_by m) c.args.child m.agrees
    (c.charges_only.ensures.yes c.if-charges_only.true) (c.all_begin_in.ensures.yes yes)

pub returns-then-charges_only-clause-no : goal.returns-then-charges_only-clause-no
returns-then-charges_only-clause-no c =
    let m = c.args.self.now in
    λ no l. lies_not (key_by m) (words_by m) m.outs.items (view_by m) c.args.child m.agrees (c.all_begin_in.ensures.no no) l
