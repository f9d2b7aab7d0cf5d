use Rattle.std.proofs.Common.{ap, sym, ◌∙◌, ⊎_elim, arith}
use Rattle.std.proofs.lemmas.Bool.{cases_eq}
use Rattle.frame_model.specs.View.{names}
use Rattle.frame_model.proofs.Amounts.{names_any}
use Rattle.plain_moves.proofs.Checks.{names_not}
use Rattle.plain_moves.proofs.plain.contents.all_of.Goals as goal

pub loop-word-preserved : goal.loop-word-preserved
loop-word-preserved c =
    let items = c.args.words.now.items in
    let here = names_any c.loop-word.word-counter items (sym c.contains.ensures.value ∙ c.if-not-contains.false) in
    record {
      named = λ word low high. ⊎_elim (λ e. ap (λ w. names w items) e ∙ here)
          (λ ne. c.loop-word.invariant.named word low (omega (arith, high, ne))) (cases_eq word c.loop-word.word-counter);
    }

pub returns-then-not-contains-clause-no : goal.returns-then-not-contains-clause-no
returns-then-not-contains-clause-no c =
    let items = c.args.words.now.items in
    let none = names_not c.loop-word.word-counter items (sym c.contains.ensures.value ∙ c.if-not-contains.true) in
    λ no. (
      c.loop-word.word-counter,
      (omega (arith, c.loop-word-test.true, c.loop-word.auto.word-counter), (λ one. omega (arith, none, one))),
    )
