-- Who is sure of the words loses no exchange on a word that is still as it was seen.
use Rattle.std.proofs.Common.{◌≡◌, ℕ, Option, Some, refl, ap, sym, subst}
use Rattle.std.specs.Prelude.{Bool, true, false}
use Rattle.frame_model.specs.declared.key.Key.{Key}
use Rattle.frame_model.specs.declared.place.Place.{Place}
use Rattle.frame_model.specs.Steps.{words_after, Kind, place, swap_local}
use Rattle.frame_core.specs.Moves.{place_of}
use Rattle.frame_core.specs.Mover.{Mover, Loads, Tries, Swaps}
use Rattle.low_frames.specs.Takes.{IsSure, StaysSure}
use Rattle.low_frames.proofs.AloneLemmas.{at_known}
use Rattle.low_frames.proofs.Sure.{loses_both, sure_made}
use Rattle.core_frames.specs.Searches.{IsKnown}

module _ {T H : Type 0} where
  -- a word that was loaded was read
  pub read_here : {t : ℕ → ℕ} {a b : Mover T H} {p : Place} {found : ℕ} → Loads t p found a b → b.read (place_of b.key p) ≡ Some found
  read_here {t} {a} {b} {p} {found} l = subst (λ (k : Key). b.read (place_of k p) ≡ Some found) (sym l.keeps.same_key) l.here

  -- a word that was loaded is known
  pub known_load : {t : ℕ → ℕ} {a b c : Mover T H} {p : Place} {found : ℕ} → (b.is_alone → b.is_undisturbed) → StaysSure a b
      → Loads t p found b c → IsSure a → IsKnown (place_of c.key p) found c
  known_load {t} {a} {b} {c} {p} {found} still f l s =
      let mid : IsSure b = f.is_sure s in
      let here = at_known b.words _ mid.1.0 mid.1.1 (l.words (still mid.0)) in
      subst (λ (k : Key). IsKnown (place_of k p) found c) (sym l.keeps.same_key) (mid.1.0, (here.1, here.0))

  made_by : {t : ℕ → ℕ} {a b : Mover T H} {kind : Kind} {seen : ℕ} (made : Bool) → (a.is_alone → a.is_undisturbed)
      → Tries t kind seen made a b → IsSure a → IsKnown (place a.key kind) seen a → made ≡ true
  made_by true still m s is = refl
  made_by {t} {a} false still m s is = absurd ((at_known a.words _ is.0 is.1.0 (m.words (still s.0))).0 is.1.1)

  -- an exchange on a word that is known to be as it was seen
  pub sure_try : {t : ℕ → ℕ} {a b c : Mover T H} {kind : Kind} {seen : ℕ} {made : Bool} → (b.is_alone → b.is_undisturbed)
      → StaysSure a b → (IsSure a → IsKnown (place b.key kind) seen b) → Tries t kind seen made b c → StaysSure a c
  sure_try {t} {a} {b} {c} {kind} {seen} {made} still f known m =
      let step : IsSure a → StaysSure b c = (λ s. sure_made (made_by made still m (f.is_sure s) (known s)) still m) in
      record {
        is_sure = λ s. (step s).is_sure (f.is_sure s);
        loses_none = λ s. loses_both (f.loses_none s) ((step s).loses_none (f.is_sure s));
      }

  pub sure_swap : {t : ℕ → ℕ} {a b : Mover T H} {core : ℕ} {put answer : Option (ℕ × ℕ)} → (a.is_alone → a.is_undisturbed)
      → Swaps t core put answer a b → StaysSure a b
  sure_swap {t} {a} {b} {core} {put} still m = record {
    is_sure = λ s.
        let here = at_known a.words _ s.1.0 s.1.1 (m.words (still s.0)) in
        (m.keeps.stays_alone s.0, (words_after a.key (swap_local core put) s.1.0, here.1));
    loses_none = λ s. record { missed = m.missed; lost = ap (λ v. v.lost) m.view.2 };
  }
