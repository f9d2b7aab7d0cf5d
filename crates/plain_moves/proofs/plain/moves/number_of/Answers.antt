use Rattle.std.proofs.Common.{◌<◌, true, ◌∙◌, subst}
use Rattle.plain_moves.proofs.PlainPlaces.{place_resealed, count_resealed}
use Rattle.plain_moves.proofs.plain.moves.number_of.Goals as goal

pub returns-clause-number : goal.returns-clause-number
returns-clause-number c sealed =
    c.place_number.ensures.number ∙ place_resealed c.args.geometry true sealed c.args.place

pub returns-clause-inside : goal.returns-clause-inside
returns-clause-inside c sealed =
    subst (λ n. c.place_number.result < n) (count_resealed c.args.geometry true sealed) c.place_number.ensures.inside
