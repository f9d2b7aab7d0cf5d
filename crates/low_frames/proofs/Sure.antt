-- Who is sure of the words stays so over moves that nobody disturbs.
use Rattle.std.proofs.Common.{◌≡◌, ℕ, List, Some, refl, ap, ◌∙◌}
use Rattle.std.specs.Prelude.{IfSome, Bool, true, false}
use Rattle.std.proofs.lemmas.Bool.{false≢true}
use Rattle.frame_model.specs.declared.block.FrameBlock.{FrameBlock}
use Rattle.frame_model.specs.declared.place.Place.{Place}
use Rattle.frame_model.specs.Steps.{words_after, Kind}
use Rattle.frame_core.specs.Mover.{Mover, Loads, Tries, Makes, HandsOut, HandsIn}
use Rattle.low_frames.specs.Takes.{IsSure, LosesNone, StaysSure}
use Rattle.low_frames.proofs.AloneLemmas.{at_known}
use Rattle.low_frames.proofs.Counts.{or_false, after_lost}

module _ {T H : Type 0} where
  pub loses_both : {a b c : Mover T H} → LosesNone a b → LosesNone b c → LosesNone a c
  loses_both f g = record { missed = g.missed ∙ f.missed; lost = g.lost ∙ f.lost }

  -- over no move
  pub sure_none : (a : Mover T H) → StaysSure a a
  sure_none a = record { is_sure = λ s. s; loses_none = λ s. record { missed = refl; lost = refl } }

  pub sure_both : {a b c : Mover T H} → StaysSure a b → StaysSure b c → StaysSure a c
  sure_both f g = record {
    is_sure = λ s. g.is_sure (f.is_sure s);
    loses_none = λ s. loses_both (f.loses_none s) (g.loses_none (f.is_sure s));
  }

  -- where something is known of the words, it may be used
  pub sure_where : {a b : Mover T H} {P : List ℕ → Type 0} → (a.is_alone → IfSome a.words P) → ((ws : List ℕ) → P ws → StaysSure a b)
      → StaysSure a b
  sure_where {a} {b} {P} h f =
      let known = λ (s : IsSure a). f s.1.0 (at_known a.words P s.1.0 s.1.1 (h s.0)) in
      record { is_sure = λ s. (known s).is_sure s; loses_none = λ s. (known s).loses_none s }

  pub sure_by_words : {a b : Mover T H} {P : List ℕ → Type 0} → (a.is_alone → b.is_alone) → (a.is_alone → IfSome a.words P)
      → ((ws : List ℕ) → IsSure a → P ws → ((us : List ℕ) × (b.words ≡ Some us)) × LosesNone a b) → StaysSure a b
  sure_by_words {a} {b} {P} keeps h f =
      let known = λ (s : IsSure a). f s.1.0 s (at_known a.words P s.1.0 s.1.1 (h s.0)) in
      record { is_sure = λ s. (keeps s.0, (known s).0); loses_none = λ s. (known s).1 }

  -- The moves.

  pub sure_load : {t : ℕ → ℕ} {a b : Mover T H} {place : Place} {found : ℕ} → (a.is_alone → a.is_undisturbed)
      → Loads t place found a b → StaysSure a b
  sure_load {t} {a} {b} {place} {found} still m = record {
    is_sure = λ s. (m.keeps.stays_alone s.0, (s.1.0, (at_known a.words _ s.1.0 s.1.1 (m.words (still s.0))).1));
    loses_none = λ s. record { missed = m.missed; lost = ap (λ v. v.lost) m.view };
  }

  pub sure_make : {t : ℕ → ℕ} {a b : Mover T H} {kind : Kind} → (a.is_alone → a.is_undisturbed) → Makes t kind a b → StaysSure a b
  sure_make {t} {a} {b} {kind} still m = record {
    is_sure = λ s. (m.keeps.stays_alone s.0, (words_after a.key kind s.1.0, at_known a.words _ s.1.0 s.1.1 (m.words (still s.0))));
    loses_none = λ s. record { missed = m.missed; lost = ap (λ v. v.lost) m.view ∙ after_lost t kind a.view };
  }

  made_by : {t : ℕ → ℕ} {a b : Mover T H} {kind : Kind} {seen : ℕ} (made : Bool) → made ≡ true → Tries t kind seen made a b
      → LosesNone a b
  made_by {t} {a} {b} {kind} true e m = record {
    missed = m.missed ∙ or_false a.missed;
    lost = ap (λ v. v.lost) m.view ∙ after_lost t kind a.view;
  }
  made_by false e m = absurd (false≢true e)

  -- an exchange that was made
  pub loses_none_made : {t : ℕ → ℕ} {a b : Mover T H} {kind : Kind} {seen : ℕ} {made : Bool} → made ≡ true → Tries t kind seen made a b
      → LosesNone a b
  loses_none_made {made = made} e m = made_by made e m

  sure_by : {t : ℕ → ℕ} {a b : Mover T H} {kind : Kind} {seen : ℕ} (made : Bool) → made ≡ true → (a.is_alone → a.is_undisturbed)
      → Tries t kind seen made a b → StaysSure a b
  sure_by {t} {a} {b} {kind} true e still m = record {
    is_sure = λ s. (m.keeps.stays_alone s.0, (words_after a.key kind s.1.0, (at_known a.words _ s.1.0 s.1.1 (m.words (still s.0))).1));
    loses_none = λ s. made_by true refl m;
  }
  sure_by false e still m = absurd (false≢true e)

  pub sure_made : {t : ℕ → ℕ} {a b : Mover T H} {kind : Kind} {seen : ℕ} {made : Bool} → made ≡ true
      → (a.is_alone → a.is_undisturbed) → Tries t kind seen made a b → StaysSure a b
  sure_made {made = made} e still m = sure_by made e still m

  pub sure_out : {t : ℕ → ℕ} {a b : Mover T H} {block_of : H → FrameBlock} {d : FrameBlock} {held : H}
      → (a.is_alone → a.is_undisturbed) → HandsOut t block_of d held a b → StaysSure a b
  sure_out still m = record {
    is_sure = λ s. (m.keeps.stays_alone s.0, (s.1.0, m.words (still s.0) ∙ s.1.1));
    loses_none = λ s. record { missed = m.missed; lost = ap (λ v. v.lost) m.view };
  }

  -- what loses no exchange

  pub loses_nothing : (a : Mover T H) → LosesNone a a
  loses_nothing a = record { missed = refl; lost = refl }

  pub loses_none_make : {t : ℕ → ℕ} {a b : Mover T H} {kind : Kind} → Makes t kind a b → LosesNone a b
  loses_none_make {t} {a} {b} {kind} m = record {
    missed = m.missed;
    lost = ap (λ v. v.lost) m.view ∙ after_lost t kind a.view;
  }

  pub loses_none_in : {t : ℕ → ℕ} {a b : Mover T H} {block_of : H → FrameBlock} {held : H}
      → HandsIn t block_of held a b → LosesNone a b
  loses_none_in m = record { missed = m.missed; lost = ap (λ v. v.lost) m.view }
