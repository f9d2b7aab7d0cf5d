use Rattle.std.proofs.Common.{◌≡◌, ℕ, Bool, true, false, eqb, Some, None, arith, ◌∙◌, ap, sym, subst, refl, eq-eqb}
use Rattle.std.specs.Prelude.{MatchBool}
use Rattle.atomic_table.specs.Table.{Allows, step}
use Rattle.std.proofs.lemmas.Map.Views.{exact_unsigned_eq}
use Rattle.frame_model.specs.Steps.{turned, effect, after_loss, next}
use Rattle.frame_model.specs.Events.{last_seen}
use Rattle.frame_table.specs.Rule.{Holds, IsExchangedAs}
use Rattle.frame_table.specs.Seats.{key_at, id_of, view_of}
use Rattle.frame_table.specs.SeatSteps.{ExchangesOn}
use Rattle.frame_model.proofs.Steps.Untouched.{untouched}
use Rattle.frame_table.proofs.Effects.{place_inside}
use Rattle.frame_table.proofs.Lifting.{exchange_allows}
use Rattle.frame_table.proofs.Becoming.{Stepped, exchanged, stays}
use Rattle.frame_table.proofs.seats.CoreSeat.exchange_as.Given as given
use Rattle.frame_table.proofs.seats.CoreSeat.exchange_as.Goals as goal

pub compare_exchange-found-requires : goal.compare_exchange-found-requires
compare_exchange-found-requires g c =
    let t = c.args.table.now in
    let seat = c.args.self.now.seat in
    let sits = c.requires.may.sits.at in
    let kind = g.P.Stepping.kind in
    let slots = t.grid.shared.table_id.slots in
    let inside = place_inside (key_at t) kind (view_of c.args.self.now) c.requires.may.may in
    let At : ℕ → Type 0 = λ i. Allows (Holds t.grid.shared.key) slots seat.id seat.me i
    (λ n. prog.Atomic.either (eqb n c.args.seen) c.args.left n)
    (IsExchangedAs kind (step slots i c.args.seen c.args.left mathlib.Core.Option.none) seat.me) in (
      sits.table,
      omega (arith, t.words, c.requires.may.word, inside),
      subst At (sym c.requires.may.word)
          (exchange_allows t.grid.shared.key slots seat.id seat.me sits.bare sits.about kind c.requires.may.sits.some
          c.requires.may.may c.args.seen c.args.left c.requires.seen c.requires.left),
    )

abbrev After : (g : given.Over) (c : goal.After-compare_exchange-found g) → Bool → Type 0
After g c won = MatchBool won
    (Stepped (id_of c.args.table.now) (key_at c.args.table.now) c.compare_exchange-found.new.seat.table_id c.args.self.now.seat.me
    c.compare_exchange-found.new.seat.me c.args.word c.compare_exchange-found.result c.args.left None
    (effect next g.P.Stepping.kind c.args.seen (view_of c.args.self.now)))
    (Stepped (id_of c.args.table.now) (key_at c.args.table.now) c.compare_exchange-found.new.seat.table_id c.args.self.now.seat.me
    c.compare_exchange-found.new.seat.me c.args.word c.compare_exchange-found.result c.compare_exchange-found.result
    (Some c.compare_exchange-found.result) (after_loss next (view_of c.args.self.now)))

after : (g : given.Over) (c : goal.After-compare_exchange-found g) (won : Bool) → eqb c.compare_exchange-found.result c.args.seen ≡ won
    → After g c won
after g c won is =
    let t = c.args.table.now in
    let seat = c.args.self.now.seat in
    exchanged (id_of t) (key_at t) seat.table_id c.compare_exchange-found.new.seat.table_id seat.me c.compare_exchange-found.new.seat.me
    c.requires.may.sits.at c.compare_exchange-found.ensures.0 c.args.word g.P.Stepping.kind t.grid.shared.table_id.slots c.args.seen
    c.args.left c.compare_exchange-found.result won is c.compare_exchange-found.ensures.2

pub returns : goal.returns
returns g c = by (eqb c.compare_exchange-found.result c.args.seen) refl (after g c (eqb c.compare_exchange-found.result c.args.seen) refl)
  where
    by : (won : Bool) → eqb c.compare_exchange-found.result c.args.seen ≡ won → After g c won
        → ExchangesOn c.args.table.now g.P.Stepping.kind c.args.seen won c.args.self.now
        (record { seat = c.compare_exchange-found.new.seat })
    by true is a = let kind = g.P.Stepping.kind in let old = c.args.self.now in record {
      stays = stays c.args.table.now old c.requires.may.sits kind c.args.word c.requires.may.word c.compare_exchange-found.new.seat
          c.compare_exchange-found.result (turned kind c.args.seen) None (effect next kind c.args.seen (view_of old)) (untouched next kind c.args.seen (view_of old)).share
          (untouched next kind c.args.seen (view_of old)).is_ground
          (subst (λ left. Stepped (id_of c.args.table.now) (key_at c.args.table.now) c.compare_exchange-found.new.seat.table_id
          old.seat.me c.compare_exchange-found.new.seat.me c.args.word c.compare_exchange-found.result left None
          (effect next kind c.args.seen (view_of old))) (sym c.requires.left) a);
      found = c.compare_exchange-found.result;
      is_made = exact_unsigned_eq c.compare_exchange-found.result c.args.seen is;
      view = a.view;
      lost = λ e. absurd (cc);
    }
    by false is a = let found : ℕ = c.compare_exchange-found.result in record {
      stays = stays c.args.table.now c.args.self.now c.requires.may.sits g.P.Stepping.kind c.args.word c.requires.may.word
          c.compare_exchange-found.new.seat found found (Some found) (after_loss next (view_of c.args.self.now)) refl refl a;
      found = found;
      is_made = λ (same : found ≡ c.args.seen). (let won : eqb found c.args.seen ≡ true = eq-eqb found c.args.seen same in absurd (cc));
      view = a.view;
      lost = λ e. (
        found,
        (
          λ (same : found ≡ c.args.seen). (let won : eqb found c.args.seen ≡ true = eq-eqb found c.args.seen same in absurd (cc)),
          ap (last_seen c.compare_exchange-found.new.seat.me.0.read) (sym c.requires.may.word) ∙ a.here,
        ),
      );
    }
