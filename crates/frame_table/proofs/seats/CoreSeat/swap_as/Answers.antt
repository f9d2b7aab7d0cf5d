use Rattle.std.proofs.Common.{ℕ, None, arith, sym, subst}
use Rattle.atomic_table.specs.Table.{Allows, step}
use Rattle.frame_model.specs.Steps.{turned, effect, next}
use Rattle.frame_table.specs.Rule.{Holds, IsChangedAs, IsFoundIn}
use Rattle.frame_table.specs.Seats.{key_at, id_of, view_of}
use Rattle.frame_model.proofs.Steps.Untouched.{untouched}
use Rattle.frame_table.proofs.Effects.{place_inside}
use Rattle.frame_table.proofs.Lifting.{change_allows}
use Rattle.frame_table.proofs.Becoming.{Stepped, changed, stays}
use Rattle.frame_table.proofs.seats.CoreSeat.swap_as.Given as given
use Rattle.frame_table.proofs.seats.CoreSeat.swap_as.Goals as goal

pub swap-requires : goal.swap-requires
swap-requires g c =
    let t = c.args.table.now in
    let seat = c.args.self.now.seat in
    let sits = c.requires.may.sits.at in
    let kind = g.P.Stepping.kind in
    let slots = t.grid.shared.table_id.slots in
    let turn : ℕ → ℕ = λ old. c.args.left in
    let inside = place_inside (key_at t) kind (view_of c.args.self.now) c.requires.may.may in
    let At : ℕ → Type 0 = λ i. Allows (Holds t.grid.shared.key) slots seat.id seat.me i turn
    (IsChangedAs kind (step slots i c.args.left 0 mathlib.Core.Option.none) seat.me) in (
      sits.table,
      omega (arith, t.words, c.requires.may.word, inside),
      subst At (sym c.requires.may.word)
          (change_allows t.grid.shared.key slots seat.id seat.me sits.bare sits.about kind c.requires.may.sits.some
          c.requires.may.may c.args.left turn c.requires.always (λ old h found. c.requires.left old h)),
    )

after : (g : given.Over) (c : goal.After-swap g)
    → Stepped (id_of c.args.table.now) (key_at c.args.table.now) c.swap.new.seat.table_id c.args.self.now.seat.me c.swap.new.seat.me
    c.args.word c.swap.result (turned g.P.Stepping.kind c.swap.result) None
    (effect next g.P.Stepping.kind c.swap.result (view_of c.args.self.now))
after g c =
    let t = c.args.table.now in
    let seat = c.args.self.now.seat in
    changed (id_of t) (key_at t) seat.table_id c.swap.new.seat.table_id seat.me c.swap.new.seat.me c.requires.may.sits.at c.swap.ensures.0
    c.args.word g.P.Stepping.kind t.grid.shared.table_id.slots c.args.left c.swap.result c.swap.ensures.2

pub returns : goal.returns
returns g c =
    let t = c.args.table.now in
    let kind = g.P.Stepping.kind in
    let a = after g c in
    let found = c.swap.result in
    let old = c.args.self.now in record {
      stays = stays t old c.requires.may.sits kind c.args.word c.requires.may.word c.swap.new.seat found (turned kind found) None
          (effect next kind found (view_of old)) (untouched next kind found (view_of old)).share
          (untouched next kind found (view_of old)).is_ground a;
      view = a.view;
      lawful = subst (λ i. IsFoundIn (key_at t) i found) c.requires.may.word
          (c.swap.ensures.2.0 (key_at t) c.requires.may.sits.at.about);
    }
