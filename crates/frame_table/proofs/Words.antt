-- What becomes of the words that a seat knows by its steps, where it has all shares.
use Rattle.std.proofs.Common.{◌≡◌, ◌≢◌, ℕ, List, Option, None, Some, Bool, true, false, refl, ap, sym, subst, ◌∙◌}
use Rattle.std.specs.Prelude.{IfSome, MatchBool, if◌then◌else◌, slice_index, slice_set}
use Rattle.std.proofs.lemmas.List.{set-get_or}
use Rattle.frame_words.specs.Words.{rest_in}
use Rattle.frame_model.specs.declared.key.Key.{Key}
use Rattle.frame_model.specs.Steps.{Kind, place, turned, words_after, swap_local}
use Rattle.frame_core.specs.Moves.{Changes, Exchanges}
use Rattle.frame_table.specs.Rule.{known_in, Learns, FitsAmong}
use Rattle.frame_core.specs.Mover.{FitsOthers}
use Rattle.frame_table.specs.Knowing.{known_is_recalled, fit_of}
use Rattle.frame_table.specs.Mover.{mover, HasAllShares}
use Rattle.frame_table.specs.Seats.{key_at, watch_of, words_recalled_by}
use Rattle.frame_table.specs.declared.shared.SharedMoves.{SharedMoves}
use Rattle.frame_table.specs.declared.rule.Watch.{Watch}

module _ (key : Key) (old new : Watch) (all : old.view.share ≡ key.cores) where
  -- the words that were known are those that the step found
  module _ (i found left : ℕ) (l : Learns key i found left old new) (ws : List ℕ) (known : old.known ≡ Some ws) where
    same : l.words ≡ ws
    same = sym (l.right ws known all)

    pub was_here : slice_index ws i ≡ found
    was_here = subst (λ us. slice_index us i ≡ found) same l.here

    pub is_known : known_in new ≡ Some (slice_set ws i left)
    is_known = subst (λ us. known_in new ≡ Some (slice_set us i left)) same l.known

    pub is_same : found ≡ left → known_in new ≡ Some ws
    is_same e = subst (λ n. known_in new ≡ Some (slice_set ws i n)) (sym e ∙ sym was_here) is_known
        ∙ ap (λ us. Some us) (set-get_or ws i 0)

  where_so : (o : Option (List ℕ)) (P : List ℕ → Type 0) → ((ws : List ℕ) → o ≡ Some ws → P ws) → IfSome o P
  where_so None P h = tt
  where_so (Some ws) P h = h ws refl

  where_known : (P : List ℕ → Type 0) → ((ws : List ℕ) → old.known ≡ Some ws → P ws) → IfSome (known_in old) P
  where_known P h = where_so (known_in old) P (λ ws e. h ws (known_is_recalled old ws e))

  -- a load
  pub loaded_words : (i found : ℕ) → Learns key i found found old new
      → IfSome (known_in old) (λ ws. (slice_index ws i ≡ found) × (known_in new ≡ Some ws))
  loaded_words i found l = where_known (λ ws. (slice_index ws i ≡ found) × (known_in new ≡ Some ws))
      (λ ws e. (was_here i found found l ws e, is_same i found found l ws e refl))

  -- a change that is always made
  pub changed_words : (kind : Kind) (found : ℕ) → Learns key (place key kind) found (turned kind found) old new
      → Changes key kind (known_in old) (known_in new)
  changed_words kind found l = where_known (λ ws. known_in new ≡ Some (words_after key kind ws))
      (λ ws e. subst (λ n. known_in new ≡ Some (slice_set ws (place key kind) (turned kind n)))
      (sym (was_here (place key kind) found (turned kind found) l ws e))
      (is_known (place key kind) found (turned kind found) l ws e))

  -- the same of words that were recalled, which fitted
  pub recalled_words : (kind : Kind) (found : ℕ) → Learns key (place key kind) found (turned kind found) old new
      → Changes key kind old.known (known_in new)
  recalled_words kind found l = where_so old.known (λ ws. known_in new ≡ Some (words_after key kind ws))
      (λ ws e. subst (λ n. known_in new ≡ Some (slice_set ws (place key kind) (turned kind n)))
      (sym (was_here (place key kind) found (turned kind found) l ws e))
      (is_known (place key kind) found (turned kind found) l ws e))

  pub fitted_words : (i found left : ℕ) → Learns key i found left old new → (ws : List ℕ) → old.known ≡ Some ws
      → FitsAmong key ws old.view
  fitted_words i found left l ws e = subst (λ us. FitsAmong key us old.view) (same i found left l ws e) l.fitted

  -- and the word that it found
  pub found_words : (kind : Kind) (found : ℕ) → Learns key (place key kind) found (turned kind found) old new
      → IfSome (known_in old) (λ ws. (slice_index ws (place key kind) ≡ found) × Changes key kind (Some ws) (known_in new))
  found_words kind found l = where_known (λ ws. (slice_index ws (place key kind) ≡ found) × Changes key kind (Some ws) (known_in new))
      (λ ws e. (
        was_here (place key kind) found (turned kind found) l ws e,
        subst (λ n. known_in new ≡ Some (slice_set ws (place key kind) (turned kind n)))
            (sym (was_here (place key kind) found (turned kind found) l ws e))
            (is_known (place key kind) found (turned kind found) l ws e),
      ))

  -- an exchange
  pub exchanged_words : (kind : Kind) (seen found : ℕ) (made : Bool) → MatchBool made (found ≡ seen) (found ≢ seen)
      → Learns key (place key kind) found (if made then turned kind seen else found) old new
      → Exchanges key kind seen made (known_in old) (known_in new)
  exchanged_words kind seen found true is l = where_known
      (λ ws. (slice_index ws (place key kind) ≡ seen) × (known_in new ≡ Some (words_after key kind ws)))
      (λ ws e.
      let here : slice_index ws (place key kind) ≡ seen = was_here (place key kind) found (turned kind seen) l ws e ∙ is in (
        here,
        subst (λ n. known_in new ≡ Some (slice_set ws (place key kind) (turned kind n))) (sym here)
            (is_known (place key kind) found (turned kind seen) l ws e),
      ))
  exchanged_words kind seen found false is l = where_known
      (λ ws. (slice_index ws (place key kind) ≢ seen) × (known_in new ≡ Some ws))
      (λ ws e. (
        (λ (at : slice_index ws (place key kind) ≡ seen). is (sym (was_here (place key kind) found found l ws e) ∙ at)),
        is_same (place key kind) found found l ws e refl,
      ))

-- what a swap of a local word found, as a reservation
pub swapped_rest : (old new : Option (List ℕ)) (key : Key) (core : ℕ) (put : Option (ℕ × ℕ)) (found : ℕ) (answer : Option (ℕ × ℕ))
    → rest_in found ≡ answer
    → IfSome old (λ ws. (slice_index ws (place key (swap_local core put)) ≡ found) × Changes key (swap_local core put) (Some ws) new)
    → IfSome old (λ ws. (rest_in (slice_index ws (place key (swap_local core put))) ≡ answer)
    × Changes key (swap_local core put) (Some ws) new)
swapped_rest None new key core put found answer is h = tt
swapped_rest (Some ws) new key core put found answer is h = (ap rest_in h.0 ∙ is, h.1)

-- a change that is always made and found a word
pub just_changed : (old new : Option (List ℕ)) (key : Key) (kind : Kind) (found : ℕ)
    → IfSome old (λ ws. (slice_index ws (place key kind) ≡ found) × Changes key kind (Some ws) new) → Changes key kind old new
just_changed None new key kind found h = tt
just_changed (Some ws) new key kind found h = h.1

-- the words that were recalled before a step fit
pub fits_before : (m : SharedMoves) (i found left : ℕ) (new : Watch) → HasAllShares m.table.now m.seat.now
    → Learns (key_at m.table.now) i found left (watch_of m.seat.now) new → (ws : List ℕ) → words_recalled_by m.seat.now ≡ Some ws
    → ∥ FitsOthers (mover m) ws ∥₁
fits_before m i found left new all l ws e =
    ∣ fit_of m ws (fitted_words (key_at m.table.now) (watch_of m.seat.now) new all i found left l ws e) ∣₁
