use Rattle.std.proofs.Common.{arith, sym}
use Rattle.std.proofs.lemmas.Bool.Decides.{nat_tests}
use Rattle.trace_text.proofs.Cutting.{no_mark_at_end, no_mark_first}
use Rattle.trace_text.proofs.parts.has_mark.Goals as goal

pub returns-in-None : goal.returns-in-None
returns-in-None c = λ same. no_mark_at_end c.args.text.now (sym c.in-None.ensures.value)

pub returns-in-Some : goal.returns-in-Some
returns-in-Some c = λ other. no_mark_first c.args.text.now c.in-Some.byte.now (sym c.in-Some.ensures.value) (λ is. grind (arith, nat_tests))
