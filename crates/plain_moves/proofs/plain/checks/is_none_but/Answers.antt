use Rattle.std.proofs.Common.{ap, ◌∙◌}
use Rattle.frame_model.specs.View.{count_in}
use Rattle.frame_model.proofs.Amounts.{count_none}
use Rattle.plain_moves.proofs.Checks.{none_but_here, none_but_not}
use Rattle.plain_moves.proofs.plain.checks.is_none_but.Goals as goal

pub returns-in-None-clause-yes : goal.returns-in-None-clause-yes
returns-in-None-clause-yes c = λ yes other ne. ap (count_in other) c.in-None.is ∙ count_none other

pub returns-in-Some-clause-yes : goal.returns-in-Some-clause-yes
returns-in-Some-clause-yes c = λ yes. none_but_here c.args.amount c.in-Some.some c.args.place c.in-Some.is yes

pub returns-in-Some-clause-no : goal.returns-in-Some-clause-no
returns-in-Some-clause-no c = λ no some none. none_but_not c.args.amount c.in-Some.some c.args.place c.in-Some.is no some none
