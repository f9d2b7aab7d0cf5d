use Rattle.std.proofs.Common.{ap, ◌∙◌, sym, refl, subst, arith, true, List, ℕ}
use Rattle.frame_model.specs.Openings.{IsSealedOpening}
use Rattle.frame_model.specs.Key.{sealed_key}
use Rattle.frame_table.proofs.Dealing.{opens_sealed}
use Rattle.frame_table.proofs.openings.open_sealed.Goals as goal

pub open_words-requires-clause-fits : goal.open_words-requires-clause-fits
open_words-requires-clause-fits c =
    let image = c.args.image.now in
    let same = ap (λ v. v.items) c.of-2.ensures ∙ c.in-Ok.ensures.items in
    opens_sealed (record { image = c.of.result; ranges = c.of-2.result; sealed = true }) image c.of.ensures refl
    (omega (arith, image.geometry.some_cores))
    (subst (λ (r : List (ℕ × ℕ)). IsSealedOpening (sealed_key image.geometry r) image.words) (sym same) c.requires.opens)
