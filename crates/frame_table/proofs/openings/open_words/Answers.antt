use Rattle.std.proofs.Common.{◌≡◌, [], ◌∷◌, ap, refl, ◌∙◌, sym, subst, Some}
use Rattle.frame_model.specs.declared.key.Key.{Key}
use Rattle.frame_model.specs.View.{IsViewOf}
use Rattle.frame_model.proofs.Steps.Shared.{view_of}
use Rattle.frame_model.specs.Fit.{Fit}
use Rattle.frame_core.specs.Image.{Contents}
use Rattle.atomic_table.specs.Table.{Me}
use Rattle.frame_table.specs.declared.rule.Watch.{Watch}
use Rattle.frame_table.specs.Rule.{key_from, known_in, first_view, FitsAmong}
use Rattle.frame_table.specs.Seats.{key_at, id_of}
use Rattle.frame_table.proofs.Dealing.{fresh_seat}
use Rattle.frame_table.proofs.openings.open_words.Goals as goal

pub returns-clause-seat : goal.returns-clause-seat
returns-clause-seat c =
    let o = c.args.origin in
    let t = c.of.result in
    let made = c.in-Ok.ensures in
    let id = made.2 ∙ ap (λ g. g.shared.table_id) (sym c.of.ensures.0) in
    let key = ap key_from (sym made.5) ∙ ap (λ g. key_from g.shared.key) (sym c.of.ensures.0) in
    let view = view_of (key_from o) (key_from o).cores c.args.image.now.words (first_view o ∷ []) 0 (first_view o) c.requires.fits refl in
    fresh_seat (id_of t) (key_at t) c.in-Ok.seat.table_id c.in-Ok.seat.me (first_view o) (Some o.image.value.words) id made.4
    (c.requires.about ∙ ap (λ (k : Key). Some k) key)
    ∣ subst (λ (k : Key). IsViewOf k (first_view o)) key view ∣₁
    (λ words knows.
    let same : o.image.value.words ≡ words = (cc) in
    let first : FitsAmong (key_from o) o.image.value.words (first_view o) = (
      first_view o ∷ [],
      (
        0,
        (
          subst (λ (i : Contents). Fit (key_from o) (key_from o).cores i.words (first_view o ∷ [])) (sym c.requires.origin)
              c.requires.fits,
          refl,
        ),
      ),
    ) in
    ∣ subst (λ (k : Key). FitsAmong k words (first_view o)) key
    (subst (λ ws. FitsAmong (key_from o) ws (first_view o)) same first) ∣₁)

pub returns-clause-knows : goal.returns-clause-knows
returns-clause-knows c =
    (c.args.origin.image.value.words, ap (λ (me : Me (Unit {0}) Watch). known_in me.0) c.in-Ok.ensures.4)
