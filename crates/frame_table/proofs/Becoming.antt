-- What becomes of a seat by one atomic operation.
use Rattle.std.proofs.Common.{◌≡◌, ℕ, eqb, Bool, true, false, ◌∷◌, Option, None, Some, sym, refl, ap, ◌∙◌, subst, arith, set}
use Rattle.std.specs.Prelude.{MatchBool, List}
use mathlib.Core.Option.{none}
use Rattle.atomic_table.specs.Table.{Me, step}
use Rattle.atomic_table.specs.Seated.{TableId}
use Rattle.frame_model.specs.declared.key.Key.{Key}
use Rattle.frame_table.specs.declared.rule.Watch.{Watch}
use Rattle.frame_model.specs.declared.view.View.{View}
use Rattle.frame_model.specs.View.{IsViewOf}
use Rattle.frame_model.specs.Steps.{Kind, place, turned, effect, after_load, after_loss, next}
use Rattle.frame_model.specs.Events.{sighting, last_seen}
use Rattle.frame_core.specs.Moves.{ReadsBut}
use Rattle.frame_core.specs.Mover.{IsApart}
use Rattle.frame_table.specs.Rule.{known_in, Becomes, Looks, IsExchangedAs, IsChangedAs, FitsAmong, Learns, LearnsFor}
use Rattle.frame_table.specs.Seats.{AreLaid, IsSeat, Sits, key_at, id_of, view_of, reads_of}
use Rattle.frame_table.specs.SeatSteps.{StaysBut}
use Rattle.frame_table.specs.declared.seats.CoreSeat.{CoreSeat}
use Rattle.frame_table.specs.declared.table.FrameTable.{FrameTable}
use Rattle.atomic_table.specs.declared.shared.Seat.{Seat}
use Rattle.frame_table.proofs.Laid.{reads_but, read_here, laid_found, laid_changed}
use Rattle.frame_model.proofs.Steps.Untouched.{untouched}

-- The seat after a step, which found this in the word and left that, is one of the same table, has this
-- view, has read this of the word, and has learnt the words.
pub record Stepped (id : TableId) (key : Key) (seat : TableId) (old new : Me (Unit {0}) Watch) (i found left : ℕ) (read : Option ℕ)
    (v : View) : Type 0 where
  pub sits : IsSeat id key seat new
  pub view : new.0.view ≡ v
  pub apart : IsApart key new.0.view
  pub here : last_seen new.0.read i ≡ read
  pub others : ReadsBut i (last_seen old.0.read) (last_seen new.0.read)
  pub learns : Learns key i found left old.0 new.0

module _ (id : TableId) (key : Key) (seat after : TableId) (old new : Me (Unit {0}) Watch) (is : IsSeat id key seat old)
    (same : after ≡ seat) (i : ℕ) where
  learnt_fits : (found left : ℕ) → Learns key i found left old.0 new.0 → (words : List ℕ) → known_in new.0 ≡ Some words
      → ∥ FitsAmong key words new.0.view ∥₁
  learnt_fits found left l words knows =
      let same : set l.words i left ≡ words = (cc) in
      ∣ subst (λ ws. FitsAmong key ws new.0.view) same l.fits ∣₁

  becomes : (found left : ℕ) (read : Option ℕ) (v : View) → v.about ≡ old.0.view.about → AreLaid key (sighting i read ∷ old.0.read)
      → Becomes old (sighting i read) v new → LearnsFor old i found left new → Stepped id key after old new i found left read v
  becomes found left read v about laid b l =
      let read_is = ap (λ (e : Watch). e.read) b.0 in
      let view_is = ap (λ (e : Watch). e.view) b.0 in
      record {
        sits = record {
          table = same ∙ is.table;
          bare = b.1 ∙ is.bare;
          about = ap (λ (u : View). u.about) view_is ∙ (about ∙ is.about);
          is_view = ∣ subst (IsViewOf key) (sym view_is) (b.2 key is.about).0 ∣₁;
          laid = subst (AreLaid key) (sym read_is) laid;
          fits = learnt_fits found left (l key is.about);
        };
        view = view_is;
        apart = subst (IsApart key) (sym view_is) (b.2 key is.about).1;
        here = ap (λ r. last_seen r i) read_is ∙ read_here old.0.read i read;
        others = subst (λ r. ReadsBut i (last_seen old.0.read) (last_seen r)) (sym read_is) (reads_but old.0.read i read);
        learns = l key is.about;
      }

  pub looked : (slots found : ℕ) → Looks (step slots i 0 0 none) old found new
      → Stepped id key after old new i found found (Some found) (after_load next old.0.view)
  looked slots found l = becomes found found (Some found) (after_load next old.0.view) refl
      (laid_found key old.0.read i found is.laid (l.0 key is.about)) l.1 l.2

  pub changed : (kind : Kind) (slots a found : ℕ) → IsChangedAs kind (step slots i a 0 none) old found new
      → Stepped id key after old new i found (turned kind found) None (effect next kind found old.0.view)
  changed kind slots a found l = becomes found (turned kind found) None (effect next kind found old.0.view)
      (untouched next kind found old.0.view).about (laid_changed key old.0.read i is.laid) l.1 l.2

  abbrev EitherWay : Kind → (a b found : ℕ) → Bool → Type 0
  EitherWay kind a b found won = MatchBool won
      (Becomes old (sighting i None) (effect next kind a old.0.view) new × LearnsFor old i found b new)
      (Becomes old (sighting i (Some found)) (after_loss next old.0.view) new × LearnsFor old i found found new)

  pub exchanged : (kind : Kind) (slots a b found : ℕ) (won : Bool) → eqb found a ≡ won
      → IsExchangedAs kind (step slots i a b none) old found new
      → MatchBool won (Stepped id key after old new i found b None (effect next kind a old.0.view))
      (Stepped id key after old new i found found (Some found) (after_loss next old.0.view))
  exchanged kind slots a b found true e l =
      let way : EitherWay kind a b found true = subst (EitherWay kind a b found) e l.1 in
      becomes found b None (effect next kind a old.0.view) (untouched next kind a old.0.view).about
      (laid_changed key old.0.read i is.laid) way.0 way.1
  exchanged kind slots a b found false e l =
      let way : EitherWay kind a b found false = subst (EitherWay kind a b found) e l.1 in
      becomes found found (Some found) (after_loss next old.0.view) refl
      (laid_found key old.0.read i found is.laid (l.0 key is.about)) way.0 way.1

-- the seat of a core after such a step sits where it sat
pub stays : (t : FrameTable) (old : CoreSeat) (sits : Sits t old) (kind : Kind) (i : ℕ) → i ≡ place (key_at t) kind
    → (seat : Seat (Unit {0}) Watch) (found left : ℕ) (read : Option ℕ) (v : View) → v.share ≡ (view_of old).share
    → v.is_ground ≡ (view_of old).is_ground
    → Stepped (id_of t) (key_at t) seat.table_id old.seat.me seat.me i found left read v
    → StaysBut t kind found left old (record { seat = seat })
stays t old sits kind i is seat found left read v share ground a = record {
  sits = record {
    at = a.sits;
    some = omega (arith, ap (λ (u : View). u.share) a.view, share, sits.some);
    not_ground = ap (λ (u : View). u.is_ground) a.view ∙ (ground ∙ sits.not_ground);
  };
  share = ap (λ (u : View). u.share) a.view ∙ share;
  apart = a.apart;
  reads = subst (λ j. ReadsBut j (reads_of old) (last_seen seat.me.0.read)) is a.others;
  learns = subst (λ j. Learns (key_at t) j found left old.seat.me.0 seat.me.0) is a.learns;
}
