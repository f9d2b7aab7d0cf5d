-- What the cues of a move leave, one after another.
use Rattle.std.proofs.Common.{◌≡◌, ◌≢◌, ◌⊎◌, inl, inr, ⊎_elim, ℕ, zero, suc, ◌+◌, ◌-◌, ◌<◌, ◌≤◌, List, ◌∷◌, length, Bool, true}
use Rattle.std.proofs.Common.{Some, refl, ap, sym, subst, ◌∙◌, arith}
use Rattle.std.specs.Prelude.{slice_get}
use Rattle.std.proofs.Math.Logic.{∥∥₁_elim, ∥∥₁_map, ∥∥₁_prop}
use Rattle.std.proofs.lemmas.Bool.{cases_eq}
use Rattle.std.proofs.lemmas.Option.{slice_get_within, get_or_from_slice_get}
use Rattle.frame_model.specs.declared.key.Key.{Key}
use Rattle.frame_model.specs.declared.view.View.{View}
use Rattle.frame_model.specs.Fit.{Fit}
use Rattle.plain_moves.specs.declared.plain.PlainMoves.{PlainMoves}
use Rattle.script_moves.specs.declared.script.stage.Stage.{Stage}
use Rattle.script_moves.specs.declared.script.cue.Cue.{Cue}
use Rattle.script_moves.specs.declared.script.cue.What.{What}
use Rattle.script_moves.specs.declared.script.cue.What.TheVariants.{Lose, Stranger, Stop}
use Rattle.plain_moves.specs.Plain.{plain_tick, Agrees}
use Rattle.plain_moves.specs.PlainState.{key_by, words_by, view_by, IsStill}
use Rattle.script_moves.specs.Script.{ComesBefore, IsNotAt, NoneAt, LosesAt, ShowsStop, StepsOnce, StopsAt}
use Rattle.script_moves.specs.ScriptState.{at_by, IsQuiet, IsReady, IsUntold, LosesBy, Meets, MeetsFirst, ShowsTo}

still_both : (a b c : PlainMoves) → IsStill a b → IsStill b c → IsStill a c
still_both a b c s t = record {
  key = t.key ∙ s.key;
  view = t.view ∙ s.view;
  outs = t.outs ∙ s.outs;
  parties = t.parties ∙ s.parties;
}

untold_both : (a b c : Stage) → IsUntold a b → IsUntold b c → IsUntold a c
untold_both a b c s t = record {
  cues = t.cues ∙ s.cues;
  read = t.read ∙ s.read;
  begun = t.begun ∙ s.begun;
  missed = t.missed ∙ s.missed;
}

-- no move of the caller was made
pub same_at : (a b : Stage) → IsStill a.plain b.plain → IsUntold a b → at_by b ≡ at_by a
same_at a b still untold = omega (arith, ap (λ (v : View). v.moves) still.view, untold.begun)

-- What stays.

nothing : (a b : Stage) → b ≡ a → IsStill a.plain b.plain × IsUntold a b
nothing a b e = subst (λ (n : Stage). IsStill a.plain n.plain × IsUntold a n) (sym e) (
  record { key = refl; view = refl; outs = refl; parties = refl },
  record { cues = refl; read = refl; begun = refl; missed = refl },
)

met_stays : (cue : Cue) (is_exchange : Bool) (a b : Stage) → Meets cue is_exchange a b
    → IsStill a.plain b.plain × IsUntold a b
met_stays cue is_exchange a b met = ⊎_elim
    (λ (here : cue.at ≡ at_by a). ((met.here here).still, (met.here here).untold))
    (λ ne. nothing a b (met.passed ne))
    (cases_eq cue.at (at_by a))

-- the caller's part is as before
pub all_stay : (cues : List Cue) (is_exchange : Bool) (n : ℕ) (a c : Stage) → MeetsFirst cues is_exchange n a c
    → IsStill a.plain c.plain × IsUntold a c
all_stay cues is_exchange zero a c met = nothing a c met
all_stay cues is_exchange (suc n) a c met =
    let b = met.0 in
    let before = all_stay cues is_exchange n a b met.1.0 in
    let next = met_stays met.1.1.0 is_exchange b c met.1.1.1.1 in
    (still_both a.plain b.plain c.plain before.0 next.0, untold_both a b c before.1 next.1)

-- Where no cue stands at the move, nobody steps.

pub is_not_at : (at : ℕ) (cues : List Cue) (k : ℕ) (cue : Cue) → NoneAt at cues → slice_get cues k ≡ Some cue → IsNotAt at cue
is_not_at at cues k cue none is =
    subst (IsNotAt at) (get_or_from_slice_get cues k cue cue is) (none k cue (slice_get_within cues k cue is))

unmoved : (a b : PlainMoves) → b ≡ a → IsQuiet a b
unmoved a b e = record { words = ap (λ (p : PlainMoves). p.words) e; them = ap (λ (p : PlainMoves). p.them) e }

met_quiet : (cue : Cue) (is_exchange : Bool) (a b : Stage) → Meets cue is_exchange a b → IsNotAt (at_by a) cue
    → IsQuiet a.plain b.plain
met_quiet cue is_exchange a b met not = ⊎_elim
    (λ (here : cue.at ≡ at_by a). unmoved a.plain b.plain ((met.here here).stops (not here)).plain)
    (λ ne. unmoved a.plain b.plain (ap (λ (m : Stage). m.plain) (met.passed ne)))
    (cases_eq cue.at (at_by a))

all_quiet : (cues : List Cue) (is_exchange : Bool) (n : ℕ) (a c : Stage) → MeetsFirst cues is_exchange n a c
    → NoneAt (at_by a) cues → IsQuiet a.plain c.plain
all_quiet cues is_exchange zero a c met none = unmoved a.plain c.plain (ap (λ (m : Stage). m.plain) met)
all_quiet cues is_exchange (suc n) a c met none =
    let b = met.0 in
    let stays = all_stay cues is_exchange n a b met.1.0 in
    let before = all_quiet cues is_exchange n a b met.1.0 none in
    let cue = met.1.1.0 in
    let not = subst (λ (k : ℕ). IsNotAt k cue) (sym (same_at a b stays.0 stays.1)) (is_not_at (at_by a) cues n cue none met.1.1.1.0) in
    let next = met_quiet cue is_exchange b c met.1.1.1.1 not in
    record { words = next.words ∙ before.words; them = next.them ∙ before.them }

-- The last stop.

-- the words are now those of this cue
pub stop_here : (m : Stage) (cue : Cue) (place : ℕ) (ws : List ℕ) → slice_get m.cues.items place ≡ Some cue
    → cue.at ≡ at_by m → cue.what ≡ Stop → ws ≡ words_by m.plain → m.begun ≤ m.plain.moves
    → ∥ StopsAt (key_by m.plain) m.begun (view_by m.plain) (suc place) m.cues.items ws ∥₁
stop_here m cue place ws is here stops same counted =
    ∥∥₁_map m.plain.agrees (λ (a : Agrees (key_by m.plain) m.plain.them (words_by m.plain) m.plain.outs.items (view_by m.plain)).
    record {
      cue = cue;
      place = place;
      is_cue = is;
      stops = stops;
      in_count = omega (arith, here);
      reached = λ exact. inr (here, omega arith);
      last = λ k other get stop before. ⊎_elim
          (λ (lt : other.at < at_by m). inl (omega (arith, lt, here)))
          (λ (same : (other.at ≡ at_by m) × (k < suc place)). inr (same.0 ∙ sym here, omega (arith, same.1)))
          before;
      caller = view_by m.plain;
      moves = omega (arith, here, counted);
      steps = 0;
      since = refl;
      others = a.others;
      shares = a.shares;
      fit = subst (λ (l : List ℕ). Fit (key_by m.plain) a.shares l (view_by m.plain ∷ a.others)) (sym same) a.fit;
    })

-- the cue at this place does not stop here
past_one : (key : Key) (begun : ℕ) (now : View) (i : ℕ) (cues : List Cue) (has_stopped : Bool) (ws : List ℕ)
    → ((cue : Cue) → slice_get cues i ≡ Some cue → cue.what ≡ Stop → cue.at ≡ now.moves - begun → ⊥)
    → ShowsStop key begun now i cues has_stopped ws → ShowsStop key begun now (suc i) cues has_stopped ws
past_one key begun now i cues has_stopped ws not s =
    let back : (k : ℕ) (cue : Cue) → slice_get cues k ≡ Some cue → cue.what ≡ Stop → ComesBefore (now.moves - begun) (suc i) k cue
    → ComesBefore (now.moves - begun) i k cue = λ k cue get stops is. ⊎_elim
    (λ lt. inl lt)
    (λ (same : (cue.at ≡ now.moves - begun) × (k < suc i)). ⊎_elim
    (λ (e : k ≡ i). absurd (not cue (subst (λ (j : ℕ). slice_get cues j ≡ Some cue) e get) stops same.0))
    (λ ne. inr (same.0, omega (arith, same.1, ne)))
    (cases_eq k i))
    is in
    record {
      counted = s.counted;
      stopped = λ yes. let stop = s.stopped yes in record {
        cue = stop.cue;
        place = stop.place;
        is_cue = stop.is_cue;
        stops = stop.stops;
        in_count = stop.in_count;
        reached = λ exact. ⊎_elim (λ lt. inl lt)
            (λ (same : (stop.cue.at ≡ now.moves - begun) × (stop.place < i)). inr (same.0, omega (arith, same.1)))
            (stop.reached exact);
        last = λ k other get stops is. stop.last k other get stops (back k other get stops is);
        caller = stop.caller;
        moves = stop.moves;
        steps = stop.steps;
        since = stop.since;
        others = stop.others;
        shares = stop.shares;
        fit = stop.fit;
      };
      unstopped = λ no k cue get stops is. s.unstopped no k cue get stops (back k cue get stops is);
    }

-- after the caller's own step the script shows the last stop of all moves so far
pub stepped : (key : Key) (begun : ℕ) (now next : View) (cues : List Cue) (has_stopped : Bool) (ws : List ℕ)
    → now.moves ≤ 18446744073709551615 → next.moves ≡ plain_tick now.moves → StepsOnce now next
    → ShowsStop key begun now (length cues) cues has_stopped ws → ShowsStop key begun next 0 cues has_stopped ws
stepped key begun now next cues has_stopped ws limit ticks step s =
    let back : (k : ℕ) (cue : Cue) → slice_get cues k ≡ Some cue → ComesBefore (next.moves - begun) 0 k cue
    → ComesBefore (now.moves - begun) (length cues) k cue = λ k cue get is. ⊎_elim
    (λ (lt : cue.at < next.moves - begun). ⊎_elim
    (λ (e : cue.at ≡ now.moves - begun). inr (e, slice_get_within cues k cue get))
    (λ ne. inl (omega (arith, lt, ne, ticks)))
    (cases_eq cue.at (now.moves - begun)))
    (λ (none : (cue.at ≡ next.moves - begun) × (k < 0)). absurd (omega (arith, none.1)))
    is in
    record {
      counted = omega (arith, s.counted, ticks, limit);
      stopped = λ yes. let stop = s.stopped yes in record {
        cue = stop.cue;
        place = stop.place;
        is_cue = stop.is_cue;
        stops = stop.stops;
        in_count = omega (arith, stop.in_count, ticks, limit);
        reached = λ exact. inl (omega (arith, stop.in_count, s.counted, ticks, exact));
        last = λ k other get stops is. stop.last k other get stops (back k other get is);
        caller = stop.caller;
        moves = stop.moves;
        steps = suc stop.steps;
        since = (now, (stop.since, step));
        others = stop.others;
        shares = stop.shares;
        fit = stop.fit;
      };
      unstopped = λ no k cue get stops is. s.unstopped no k cue get stops (back k cue get is);
    }

shows_as : (m n : Stage) (i : ℕ) (has_stopped : Bool) (ws : List ℕ) → IsStill m.plain n.plain → IsUntold m n
    → ShowsStop (key_by m.plain) m.begun (view_by m.plain) i m.cues.items has_stopped ws
    → ShowsStop (key_by n.plain) n.begun (view_by n.plain) i n.cues.items has_stopped ws
shows_as m n i has_stopped ws still untold s =
    let key = subst (λ (k : Key). ShowsStop k m.begun (view_by m.plain) i m.cues.items has_stopped ws) (sym still.key) s in
    let begun = subst (λ (b : ℕ). ShowsStop (key_by n.plain) b (view_by m.plain) i m.cues.items has_stopped ws) (sym untold.begun) key in
    let view = subst (λ (v : View). ShowsStop (key_by n.plain) n.begun v i m.cues.items has_stopped ws) (sym still.view) begun in
    subst (λ cs. ShowsStop (key_by n.plain) n.begun (view_by n.plain) i cs.items has_stopped ws) (sym untold.cues) view

stops_or_not : (w : What) → (w ≡ Stop) ⊎ (w ≢ Stop)
stops_or_not Lose = inr (λ e. absurd (cc))
stops_or_not (Stranger who act) = inr (λ e. absurd (cc))
stops_or_not Stop = inl refl

pub one_cue : (cues : List Cue) (i : ℕ) (a b : Cue) → slice_get cues i ≡ Some a → slice_get cues i ≡ Some b → b ≡ a
one_cue cues i a b p q = sym (get_or_from_slice_get cues i b a q) ∙ get_or_from_slice_get cues i a a p

-- the words that were copied at this cue are shown
stop_shows : (m : Stage) (cue : Cue) (place : ℕ) (has_stopped : Bool) (ws : List ℕ)
    → slice_get m.cues.items place ≡ Some cue → cue.at ≡ at_by m → cue.what ≡ Stop → ws ≡ words_by m.plain
    → m.begun ≤ m.plain.moves → has_stopped ≡ true
    → ∥ ShowsStop (key_by m.plain) m.begun (view_by m.plain) (suc place) m.cues.items has_stopped ws ∥₁
stop_shows m cue place has_stopped ws is here stops same counted copied =
    ∥∥₁_map (stop_here m cue place ws is here stops same counted)
    (λ s. record { counted = counted; stopped = λ e. s; unstopped = λ no. absurd (cc) })

-- one cue more was met
met_shows : (m n : Stage) (cue : Cue) (is_exchange : Bool) (i : ℕ) → slice_get m.cues.items i ≡ Some cue
    → Meets cue is_exchange m n → ShowsTo i m → ShowsTo (suc i) n
met_shows m n cue is_exchange i is met shows =
    let stays = met_stays cue is_exchange m n met in
    ∥∥₁_elim shows ∥∥₁_prop (λ (s : ShowsStop (key_by m.plain) m.begun (view_by m.plain) i m.cues.items m.has_stopped m.stop.words). ⊎_elim
    (λ (here : cue.at ≡ at_by m). let is_made = met.here here in ⊎_elim
    (λ (stop : cue.what ≡ Stop). ∥∥₁_map
    (stop_shows m cue i n.has_stopped n.stop.words is here stop (is_made.stops stop).words s.counted
    (is_made.stops stop).has_stopped)
    (λ t. shows_as m n (suc i) n.has_stopped n.stop.words stays.0 stays.1 t))
    (λ (ne : cue.what ≢ Stop).
    let past = past_one (key_by m.plain) m.begun (view_by m.plain) i m.cues.items m.has_stopped m.stop.words
    (λ other get stops e. ne (ap (λ (c : Cue). c.what) (sym (one_cue m.cues.items i cue other is get)) ∙ stops)) s in
    let bit = subst (λ (b : Bool). ShowsStop (key_by m.plain) m.begun (view_by m.plain) (suc i) m.cues.items b m.stop.words)
    (sym (is_made.goes_on ne).has_stopped) past in
    ∣ shows_as m n (suc i) n.has_stopped n.stop.words stays.0 stays.1
    (subst (λ (ws : List ℕ). ShowsStop (key_by m.plain) m.begun (view_by m.plain) (suc i) m.cues.items n.has_stopped ws)
    (sym (ap (λ i. i.words) (is_made.goes_on ne).stop)) bit) ∣₁)
    (stops_or_not cue.what))
    (λ (ne : cue.at ≢ at_by m). subst (λ (k : Stage). ShowsTo (suc i) k) (sym (met.passed ne))
    ∣ past_one (key_by m.plain) m.begun (view_by m.plain) i m.cues.items m.has_stopped m.stop.words
    (λ other get stops e. ne (ap (λ (c : Cue). c.at) (sym (one_cue m.cues.items i cue other is get)) ∙ e)) s ∣₁)
    (cases_eq cue.at (at_by m)))

all_show : (cues : List Cue) (is_exchange : Bool) (n : ℕ) (a c : Stage) → a.cues.items ≡ cues
    → MeetsFirst cues is_exchange n a c → ShowsTo 0 a → ShowsTo n c
all_show cues is_exchange zero a c same met shows = subst (λ (m : Stage). ShowsTo 0 m) (sym met) shows
all_show cues is_exchange (suc n) a c same met shows =
    let b = met.0 in
    let stays = all_stay cues is_exchange n a b met.1.0 in
    let here = ap (λ l. slice_get l.items n) stays.1.cues ∙ ap (λ (l : List Cue). slice_get l n) same ∙ met.1.1.1.0 in
    met_shows b c met.1.1.0 is_exchange n here met.1.1.1.1 (all_show cues is_exchange n a b same met.1.0 shows)

-- All cues of a move.

pub ready_by : (a c : Stage) (is_exchange : Bool) → MeetsFirst a.cues.items is_exchange (length a.cues.items) a c → IsReady a c
ready_by a c is_exchange met =
    let stays = all_stay a.cues.items is_exchange (length a.cues.items) a c met in
    record {
      still = stays.0;
      untold = stays.1;
      quiet = all_quiet a.cues.items is_exchange (length a.cues.items) a c met;
    }

-- the script shows the last stop of all moves so far, and of the cues of this one
pub cues_show : (a c : Stage) (is_exchange : Bool) → MeetsFirst a.cues.items is_exchange (length a.cues.items) a c → ShowsTo 0 a
    → ShowsTo (length c.cues.items) c
cues_show a c is_exchange met shows =
    let stays = all_stay a.cues.items is_exchange (length a.cues.items) a c met in
    subst (λ (n : ℕ). ShowsTo n c) (ap (λ l. length l.items) (sym stays.1.cues))
    (all_show a.cues.items is_exchange (length a.cues.items) a c refl met shows)

-- one of the first n cues loses this move
abbrev pub LosesIn : ℕ → ℕ → List Cue → Type 0
LosesIn n at cues =
    (k : ℕ) × ((cue : Cue) × ((k < n) × ((slice_get cues k ≡ Some cue) × ((cue.at ≡ at) × (cue.what ≡ Lose)))))

-- One cue more.
module _ (is_exchange : Bool) (a b c : Stage) (cue : Cue) (i : ℕ) (before : MeetsFirst a.cues.items is_exchange i a b)
    (is : slice_get b.cues.items i ≡ Some cue) where
  this : slice_get a.cues.items i ≡ Some cue
  this = ap (λ l. slice_get l.items i) (sym (all_stay a.cues.items is_exchange i a b before).1.cues) ∙ is

  same : at_by b ≡ at_by a
  same = let stays = all_stay a.cues.items is_exchange i a b before in same_at a b stays.0 stays.1

  pub met_next : Meets cue is_exchange b c → MeetsFirst a.cues.items is_exchange (i + 1) a c
  met_next met =
      let e : suc i ≡ i + 1 = omega arith in
      subst (λ (n : ℕ). MeetsFirst a.cues.items is_exchange n a c) e (b, (before, (cue, (this, met))))

  pub loses_now : LosesBy cue is_exchange b → (is_exchange ≡ true) × LosesIn (i + 1) (at_by a) a.cues.items
  loses_now by = (by.1.0, (i, (cue, (omega arith, (this, (by.0 ∙ same, by.1.1))))))

  pub lost_before : (LosesBy cue is_exchange b → ⊥) → is_exchange ≡ true → LosesIn (i + 1) (at_by a) a.cues.items
      → LosesIn i (at_by a) a.cues.items
  lost_before not on some = ⊎_elim
      (λ (e : some.0 ≡ i).
      let it = one_cue a.cues.items i cue some.1.0 this (subst (λ (j : ℕ). slice_get a.cues.items j ≡ Some some.1.0) e some.1.1.1.0) in
      absurd (not (ap (λ (d : Cue). d.at) (sym it) ∙ some.1.1.1.1.0 ∙ sym same, (on, ap (λ (d : Cue). d.what) (sym it) ∙ some.1.1.1.1.1))))
      (λ ne. (some.0, (some.1.0, (omega (arith, some.1.1.0, ne), some.1.1.1))))
      (cases_eq some.0 i)

pub lost_still : (i at : ℕ) (cues : List Cue) → LosesIn i at cues → LosesIn (i + 1) at cues
lost_still i at cues some = (some.0, (some.1.0, (omega (arith, some.1.1.0), some.1.1.1)))

pub loses_at : (n at : ℕ) (cues : List Cue) → LosesIn n at cues → LosesAt at cues
loses_at n at cues some = (some.1.0, ((some.0, some.1.1.1.0), some.1.1.1.1.0, some.1.1.1.1.1))

pub loses_in : (n at : ℕ) (cues : List Cue) → n ≡ length cues → LosesAt at cues → LosesIn n at cues
loses_in n at cues all some =
    (some.1.0.0, (some.0, (omega (arith, all, slice_get_within cues some.1.0.0 some.0 some.1.0.1), (some.1.0.1, (some.1.1, some.1.2)))))
