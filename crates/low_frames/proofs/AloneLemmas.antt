-- Where nobody else steps: the words as they stand, step by step, and what they leave free.
use Rattle.std.proofs.Common.{◌≡◌, ◌≢◌, ◌⊎◌, inl, inr, ⊎_elim, ℕ, ◌+◌, ◌*◌, ◌/◌, ◌%◌, ◌^◌, ◌<◌, ◌≤◌, List, Option, Some, None, refl, ap}
use Rattle.std.proofs.Common.{sym, subst, ◌∙◌, arith}
use Rattle.std.specs.Prelude.{IfSome, Bool, true, false, MatchBool, slice_index}
use Rattle.std.proofs.lemmas.Bool.{cases_lt, false≢true}
use Rattle.frame_words.specs.Runs.{IsClearRun, HasNoClearRun}
use Rattle.frame_words.specs.Words.{free_in, flag_in, lane_in}
use Rattle.frame_model.specs.declared.key.Key.{Key}
use Rattle.frame_model.specs.Words.{run, entry_place, bits_place, free_of, huge_of, entry_of, bit_word_of}
use Rattle.frame_model.specs.declared.place.Place.{Place}
use Rattle.frame_model.specs.Steps.{Kind, charge, claim, take_huge, place, words_after}
use Rattle.frame_core.specs.Moves.{place_of, Changes, Exchanges, OfRun}
use Rattle.frame_core.specs.Mover.{Mover, Keeps, Loads, Tries}
use Rattle.frame_model.proofs.Steps.Shared.{bit_word_is}
use Rattle.low_frames.specs.Alone.{Turns, FindsOf, IsCharged, HasTooFew, IsClaimed, IsClaimedIn, HasNoRun, HasNoRunIn, IsTakenHuge}
use Rattle.low_frames.specs.Alone.{IsNotWhole}

-- Words that may be known.

pub if_known : {X : Type 0} (o : Option X) (P Q : X → Type 0) → IfSome o P → ((x : X) → o ≡ Some x → P x → Q x) → IfSome o Q
if_known None P Q h f = tt
if_known (Some x) P Q h f = f x refl h

pub at_known : {X : Type 0} (o : Option X) (P : X → Type 0) (x : X) → o ≡ Some x → IfSome o P → P x
at_known o P x e h = subst (λ o. IfSome o P) e h

-- what is known is recalled, so what was made of words that were recalled was made of known ones
pub of_recalled : (R : List ℕ → List ℕ → Type 0) (known recalled new : Option (List ℕ))
    → ((ws : List ℕ) → known ≡ Some ws → recalled ≡ Some ws) → Turns R recalled new → Turns R known new
of_recalled R None recalled new recalls h = tt
of_recalled R (Some ws) recalled new recalls h =
    at_known recalled (λ ws. (us : List ℕ) × ((new ≡ Some us) × R ws us)) ws (recalls ws refl) h

-- and what was made of words that are recalled, where they are known, was made of these
pub to_known : (R : List ℕ → List ℕ → Type 0) (old known recalled : Option (List ℕ)) (ws : List ℕ) → known ≡ Some ws
    → ((ws : List ℕ) → known ≡ Some ws → recalled ≡ Some ws) → Turns R old recalled → Turns R old known
to_known R None known recalled ws e recalls h = tt
to_known R (Some us) known recalled ws e recalls h =
    let there : ◌≡◌ {A = Option (List ℕ)} (Some h.0) (Some ws) = sym h.1.0 ∙ recalls ws e in
    (h.0, (e ∙ sym there, h.1.1))

-- what a step leaves known it leaves recalled
pub also_recalled : (key : Key) (kind : Kind) (old known recalled : Option (List ℕ))
    → ((ws : List ℕ) → known ≡ Some ws → recalled ≡ Some ws) → Changes key kind old known → Changes key kind old recalled
also_recalled key kind None known recalled recalls step = tt
also_recalled key kind (Some ws) known recalled recalls step = recalls (words_after key kind ws) step

-- where the words were known, no try was lost and they are as they were
abbrev pub IsFirstTry : ℕ → Option (List ℕ) → Option (List ℕ) → Type 0
IsFirstTry tries old now = IfSome old (λ ws. (tries ≡ 0) × (now ≡ Some ws))

-- where the words were known, they are as they were, and this word stands there
abbrev pub IsSeen : ℕ → ℕ → Option (List ℕ) → Option (List ℕ) → Type 0
IsSeen place seen old now = IfSome old (λ ws. (slice_index ws place ≡ seen) × (now ≡ Some ws))

-- a load of the first try
pub seen_first : (tries place seen : ℕ) (old mid now : Option (List ℕ)) → IsFirstTry tries old mid → IsSeen place seen mid now
    → IsSeen place seen old now
seen_first tries place seen None mid now first load = tt
seen_first tries place seen (Some ws) mid now first load = at_known mid (λ us. (slice_index us place ≡ seen) × (now ≡ Some us)) ws
    first.1 load

made_of : (made : Bool) (A Y N : Type 0) → MatchBool made (A × Y) (¬ A × N) → A → (made ≡ true) × Y
made_of true A Y N h a = (refl, h.1)
made_of false A Y N h a = absurd (h.0 a)

-- an exchange of the word as it stands is made
pub exchange_made : (key : Key) (kind : Kind) (seen : ℕ) (made : Bool) (ws : List ℕ) (now new : Option (List ℕ)) → now ≡ Some ws
    → slice_index ws (place key kind) ≡ seen → Exchanges key kind seen made now new
    → (made ≡ true) × (new ≡ Some (words_after key kind ws))
exchange_made key kind seen made ws now new e is exchange =
    let i : ℕ = place key kind in
    made_of made (slice_index ws i ≡ seen) (new ≡ Some (words_after key kind ws)) (new ≡ Some ws)
    (at_known now (λ us. MatchBool made ((slice_index us i ≡ seen) × (new ≡ Some (words_after key kind us)))
    ((slice_index us i ≢ seen) × (new ≡ Some us))) ws e exchange)
    is

-- what the load of the first try found stands there
pub seen_by : {T H : Type 0} {t : ℕ → ℕ} {a b c : Mover T H} {at : Place} {found : ℕ} (tries : ℕ) → (b.is_alone → b.is_undisturbed)
    → Keeps a b → Loads t at found b c → (a.is_alone → IsFirstTry tries a.words b.words) → a.is_alone
    → IsSeen (place_of b.key at) found a.words c.words
seen_by {a = a} {b = b} {c = c} {at = at} {found = found} tries still keeps load first alone =
    seen_first tries (place_of b.key at) found a.words b.words c.words (first alone) (load.words (still (keeps.stays_alone alone)))

-- the exchange of a word that stands there is not lost
pub never_lost : {T H : Type 0} {t : ℕ → ℕ} {c d : Mover T H} {kind : Kind} {seen : ℕ} {made : Bool} (old : Option (List ℕ))
    (P : List ℕ → Type 0) → made ≡ false → c.is_undisturbed → Tries t kind seen made c d → IsSeen (place c.key kind) seen old c.words
    → IfSome old P
never_lost {c = c} {d = d} {kind = kind} {seen = seen} {made = made} old P e still tried load =
    if_known old (λ ws. (slice_index ws (place c.key kind) ≡ seen) × (c.words ≡ Some ws)) P load
    (λ ws at h. absurd (false≢true (sym e ∙ (exchange_made c.key kind seen made ws c.words d.words h.1 h.0 (tried.words still)).0)))

-- the first try is made
pub made_first : (key : Key) (kind : Kind) (seen : ℕ) (made : Bool) (old now new : Option (List ℕ))
    → IsSeen (place key kind) seen old now → Exchanges key kind seen made now new
    → IfSome old (λ ws. (slice_index ws (place key kind) ≡ seen) × (new ≡ Some (words_after key kind ws)))
made_first key kind seen made None now new load exchange = tt
made_first key kind seen made (Some ws) now new load exchange =
    (load.0, (exchange_made key kind seen made ws now new load.1 load.0 exchange).1)

-- What was seen of an entry.

entry_seen : (ws : List ℕ) (child seen entry : ℕ) → slice_index ws (entry_place child) ≡ seen → entry ≡ lane_in seen child
    → entry ≡ entry_of ws child
unfolding entry_of
entry_seen ws child seen entry e lane = lane ∙ ap (λ w. lane_in w child) (sym e)

huge_seen : (ws : List ℕ) (child seen entry : ℕ) → slice_index ws (entry_place child) ≡ seen → entry ≡ lane_in seen child
    → flag_in entry ≡ huge_of ws child
unfolding huge_of
huge_seen ws child seen entry e lane = ap flag_in (entry_seen ws child seen entry e lane)

pub free_seen : (ws : List ℕ) (child seen entry : ℕ) → slice_index ws (entry_place child) ≡ seen → entry ≡ lane_in seen child
    → free_in entry ≡ free_of ws child
unfolding free_of
free_seen ws child seen entry e lane = ap free_in (entry_seen ws child seen entry e lane)

-- charging at the first try
pub charged_first : (key was : Key) (child n seen entry : ℕ) (made : Bool) (old now new : Option (List ℕ)) → key ≡ was
    → entry ≡ lane_in seen child → flag_in entry ≡ 0 → n ≤ free_in entry → IsSeen (entry_place child) seen old now
    → Exchanges key (charge child seen n) seen made now new
    → IfSome old (λ ws. (us : List ℕ) × ((new ≡ Some us) × IsCharged was child n ws us))
charged_first key was child n seen entry made old now new k lane flag enough load made_if =
    if_known old (λ ws. (slice_index ws (entry_place child) ≡ seen) × (new ≡ Some (words_after key (charge child seen n) ws)))
    (λ ws. (us : List ℕ) × ((new ≡ Some us) × IsCharged was child n ws us))
    (made_first key (charge child seen n) seen made old now new load made_if)
    (λ ws e h. (
      words_after key (charge child seen n) ws,
      (
        h.1,
        record {
          no_flag = sym (huge_seen ws child seen entry h.0 lane) ∙ flag;
          enough = omega (arith, free_seen ws child seen entry h.0 lane);
          words = ap (λ k. words_after k (charge child seen n) ws) k ∙ ap (λ s. words_after was (charge child s n) ws) (sym h.0);
        },
      ),
    ))

-- an entry that shows a huge frame or too few free frames
pub too_few_seen : (child n seen entry : ℕ) (old now : Option (List ℕ)) → entry ≡ lane_in seen child
    → (flag_in entry ≡ 1) ⊎ (free_in entry < n) → IsSeen (entry_place child) seen old now → FindsOf (HasTooFew child n) old now
too_few_seen child n seen entry old now lane few load =
    if_known old (λ ws. (slice_index ws (entry_place child) ≡ seen) × (now ≡ Some ws)) (λ ws. (now ≡ Some ws) × HasTooFew child n ws)
    load
    (λ ws e h. (
      h.1,
      ⊎_elim
          (λ f. inl (sym (huge_seen ws child seen entry h.0 lane) ∙ f))
          (λ f. inr (omega (arith, free_seen ws child seen entry h.0 lane)))
          few,
    ))

-- claiming at the first try
pub claimed_first : (key mid was : Key) (word seen bit order mask : ℕ) (made : Bool) (old now new : Option (List ℕ)) → key ≡ mid
    → mid ≡ was → mask ≡ run bit (2 ^ order) → IsClearRun seen order bit → IsSeen (bits_place mid word) seen old now
    → OfRun mask (λ from order. Exchanges key (claim word seen from order) seen made now new)
    → Turns (IsClaimed was word bit order) old new
claimed_first key mid was word seen bit order mask made old now new k j is clear load made_if =
    let same : key ≡ was = k ∙ j in
    if_known old (λ ws. (slice_index ws (bits_place key word) ≡ seen) × (new ≡ Some (words_after key (claim word seen bit order) ws)))
    (λ ws. (us : List ℕ) × ((new ≡ Some us) × IsClaimed was word bit order ws us))
    (made_first key (claim word seen bit order) seen made old now new
    (subst (λ k. IsSeen (bits_place k word) seen old now) (sym k) load) (made_if bit order is))
    (λ ws e h.
    let there : bit_word_of was ws word ≡ seen = bit_word_is was ws word ∙ ap (λ (k : Key). slice_index ws (bits_place k word))
    (sym same) ∙ h.0 in (
      words_after key (claim word seen bit order) ws,
      (
        h.1,
        record {
          was_clear = subst (λ w. IsClearRun w order bit) (sym there) clear;
          words = ap (λ k. words_after k (claim word seen bit order) ws) same ∙ ap (λ s. words_after was (claim word s bit order) ws)
              (sym there);
        },
      ),
    ))

-- a bit word without a clear run
pub no_run_seen : (key was : Key) (word seen order : ℕ) (old now : Option (List ℕ)) → key ≡ was → HasNoClearRun seen order
    → IsSeen (bits_place key word) seen old now → FindsOf (HasNoRun was word order) old now
no_run_seen key was word seen order old now k none load =
    if_known old (λ ws. (slice_index ws (bits_place key word) ≡ seen) × (now ≡ Some ws))
    (λ ws. (now ≡ Some ws) × HasNoRun was word order ws) load
    (λ ws e h. (
      h.1,
      subst (λ w. HasNoClearRun w order)
          (sym (bit_word_is was ws word ∙ ap (λ (k : Key). slice_index ws (bits_place k word)) (sym k) ∙ h.0)) none,
    ))

-- the same where it was looked for
pub no_run_where : (key was : Key) (word seen order : ℕ) (P : Type 0) (old now : Option (List ℕ)) → key ≡ was
    → (P → HasNoClearRun seen order) → IsSeen (bits_place key word) seen old now → FindsOf (λ ws. P → HasNoRun was word order ws) old now
no_run_where key was word seen order P old now k none load =
    if_known old (λ ws. (slice_index ws (bits_place key word) ≡ seen) × (now ≡ Some ws))
    (λ ws. (now ≡ Some ws) × (P → HasNoRun was word order ws)) load
    (λ ws e h. (
      h.1,
      λ p. subst (λ w. HasNoClearRun w order)
          (sym (bit_word_is was ws word ∙ ap (λ (k : Key). slice_index ws (bits_place k word)) (sym k) ∙ h.0)) (none p),
    ))

-- taking a child whole at the first try
pub huge_first : (key was : Key) (child seen entry : ℕ) (made : Bool) (old now new : Option (List ℕ)) → key ≡ was
    → entry ≡ lane_in seen child → entry ≡ 512 → IsSeen (entry_place child) seen old now
    → Exchanges key (take_huge child seen) seen made now new → Turns (IsTakenHuge was child) old new
huge_first key was child seen entry made old now new k lane all load made_if =
    if_known old (λ ws. (slice_index ws (entry_place child) ≡ seen) × (new ≡ Some (words_after key (take_huge child seen) ws)))
    (λ ws. (us : List ℕ) × ((new ≡ Some us) × IsTakenHuge was child ws us))
    (made_first key (take_huge child seen) seen made old now new load made_if)
    (λ ws e h. (
      words_after key (take_huge child seen) ws,
      (
        h.1,
        record {
          was_whole = sym (entry_seen ws child seen entry h.0 lane) ∙ all;
          words = ap (λ k. words_after k (take_huge child seen) ws) k ∙ ap (λ s. words_after was (take_huge child s) ws) (sym h.0);
        },
      ),
    ))

-- an entry that does not show the child free as a whole
pub part_seen : (child seen entry : ℕ) (old now : Option (List ℕ)) → entry ≡ lane_in seen child → entry ≢ 512
    → IsSeen (entry_place child) seen old now → FindsOf (IsNotWhole child) old now
part_seen child seen entry old now lane part load =
    if_known old (λ ws. (slice_index ws (entry_place child) ≡ seen) × (now ≡ Some ws)) (λ ws. (now ≡ Some ws) × IsNotWhole child ws)
    load
    (λ ws e h. (h.1, λ all. part (entry_seen ws child seen entry h.0 lane ∙ all)))

-- Bit words, one after the other.

-- none of so many bit words, from this one on, has a clear run
abbrev pub HasNoRunsBelow : Key → ℕ → ℕ → ℕ → List ℕ → Type 0
HasNoRunsBelow key first count order ws = (word : ℕ) → first ≤ word → word < first + count → HasNoRun key word order ws

-- what is found after what was found
pub then_found : (P Q R : List ℕ → Type 0) (old mid new : Option (List ℕ)) → ((ws : List ℕ) → P ws → Q ws → R ws) → FindsOf P old mid
    → FindsOf Q mid new → FindsOf R old new
then_found P Q R None mid new f a b = tt
then_found P Q R (Some ws) mid new f a b = let h = at_known mid (λ us. (new ≡ Some us) × Q us) ws a.0 b in (h.0, f ws a.1 h.1)

-- a run that was claimed in a bit word is one from its frame on
pub claimed_from : (key now : Key) (word bit order : ℕ) (P : List ℕ → Type 0) (old mid new : Option (List ℕ)) → now ≡ key → bit < 64
    → FindsOf P old mid → Turns (IsClaimed now word bit order) mid new → Turns (IsClaimedIn key (64 * word + bit) order) old new
claimed_from key now word bit order P None mid new k low found turns = tt
claimed_from key now word bit order P (Some ws) mid new k low found turns =
    let t = at_known mid (λ ws. (us : List ℕ) × ((new ≡ Some us) × IsClaimed now word bit order ws us)) ws found.0 turns in
    let same : word ≡ (64 * word + bit) / 64 = omega (arith, low) in
    let rest : bit ≡ (64 * word + bit) % 64 = omega (arith, low) in (
      t.0,
      (
        t.1.0,
        subst (λ k. IsClaimed k ((64 * word + bit) / 64) ((64 * word + bit) % 64) order ws t.0) k
            (subst (λ w. IsClaimed now w ((64 * word + bit) % 64) order ws t.0) same
            (subst (λ b. IsClaimed now word b order ws t.0) rest t.1.1)),
      ),
    )

-- one bit word more
pub no_runs_more : (key now : Key) (first count order word : ℕ) (old mid new : Option (List ℕ)) → now ≡ key → word ≡ first + count
    → FindsOf (HasNoRunsBelow key first count order) old mid → FindsOf (HasNoRun now word order) mid new
    → FindsOf (HasNoRunsBelow key first (count + 1) order) old new
no_runs_more key now first count order word old mid new k at below here =
    then_found (HasNoRunsBelow key first count order) (HasNoRun now word order) (HasNoRunsBelow key first (count + 1) order) old mid new
    (λ ws none one w l h.
    ⊎_elim
    (λ (low : w < first + count). none w l low)
    (λ high. subst (λ j. HasNoRun key j order ws) (at ∙ omega (arith, high, h)) (subst (λ k. HasNoRun k word order ws) k one))
    (cases_lt w (first + count)))
    below here

-- all eight bit words of a child
pub no_runs_in_child : (key : Key) (child count order : ℕ) (old now : Option (List ℕ)) → 8 ≤ count
    → FindsOf (HasNoRunsBelow key (8 * child) count order) old now → FindsOf (HasNoRunIn key child order) old now
no_runs_in_child key child count order None now all none = tt
no_runs_in_child key child count order (Some ws) now all none = (none.0, λ word e. none.1 word (omega arith) (omega arith))
