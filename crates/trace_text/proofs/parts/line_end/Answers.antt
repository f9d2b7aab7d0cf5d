use Rattle.std.proofs.Common.{◌≡◌, ◌<◌, ◌∙◌, ap, arith, sym, take}
use Rattle.std.specs.Prelude.{slice_index}
use Rattle.std.proofs.lemmas.Bool.Decides.{nat_tests}
use Rattle.std.proofs.lemmas.List.{get_or-take, length-take-le}
use Rattle.trace_text.proofs.parts.line_end.Goals as goal

pub returns-clause-feed : goal.returns-clause-feed
returns-clause-feed c =
    let text = c.args.text.now in
    let feed = c.in_ok-feed.feed in
    let is = c.in_ok-feed.ensures in
    let within : feed < c.args.size = omega (arith, is.0.high, length-take-le c.args.size text c.requires) in
    let byte : slice_index (take c.args.size text) feed ≡ 10 = grind (arith, nat_tests) in
    ap (λ n. slice_index text n) (omega arith) ∙ sym (get_or-take c.args.size text feed 0 within) ∙ byte
