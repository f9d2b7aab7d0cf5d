-- Each atomic operation on the table keeps its rule, since each step of the model keeps the fit.
use Rattle.std.proofs.Common.{◌≡◌, ℕ, zero, suc, ◌<◌, eqb, Bool, true, false, List, [], ◌∷◌, ◌++◌, None, Some, map, set, get_or, sym, refl}
use Rattle.std.proofs.Common.{ap, ◌∙◌, subst, ◌≢◌, ◌+◌, ◌≤◌, ⊎_elim, arith}
use Rattle.std.specs.List.{sum_by}
use Rattle.std.proofs.lemmas.List.Sums.{sum_by-cons}
use Rattle.std.specs.Prelude.{MatchBool}
use Rattle.std.proofs.lemmas.List.{map-set, map-append, set-get_or}
use Rattle.std.proofs.lemmas.Map.Views.{exact_unsigned_eq}
use mathlib.Core.Option.{some, none, some-ne-none, some-injective}
use prog.Atomic.{either}
use lib.ListN.{get_elem?}
use Rattle.atomic_table.specs.Table.{State, Me, step, Act, keeps, stepped, Valid, carried_after, Allows, Splits, Joins}
use Rattle.atomic_table.proofs.Lists.{at_map, at_set, at_snoc, set_else}
use Rattle.frame_model.specs.declared.key.Key.{Key}
use Rattle.frame_table.specs.declared.rule.Watch.{Watch}
use Rattle.frame_model.specs.declared.view.Sighting.{Sighting}
use Rattle.frame_model.specs.declared.view.View.{View}
use Rattle.frame_model.specs.View.{spent, IsViewOf}
use Rattle.frame_model.specs.Fit.{Fit}
use Rattle.frame_core.specs.Mover.{IsApart}
use Rattle.frame_core.proofs.Apart.{apart_of}
use Rattle.frame_model.proofs.Steps.Shared.{view_of}
use Rattle.frame_model.proofs.Keeps.{total_is}
use Rattle.frame_model.proofs.Sums.{at-le-sum}
use Rattle.frame_model.specs.Steps.{Kind, IsFoundBy, place, seen_by, IsMade, turned, May, effect, after_loss, next}
use Rattle.frame_model.specs.Seats.{Cut, Join, join_idle, hand_in, keep_in, MayCut, MayJoin, part_share, hand_out, recall, part_ground, adopt}
use Rattle.frame_model.specs.Events.{sighting}
use Rattle.frame_model.proofs.Steps.Seats.{look_keeps}
use Rattle.frame_model.proofs.Steps.Every.{kind_keeps, seat_cut_keeps, seat_join_keeps}
use Rattle.frame_table.specs.declared.rule.Origin.{Origin}
use Rattle.frame_table.specs.Rule.{key_from, watch, known_in, eye_view, IsRightFor, Holds, IsFoundFor, MayFind, IsOfOneMemory, Learns, LearnsFor, Becomes, Looks, IsExchangedAs}
use Rattle.frame_table.specs.Rule.{IsChangedAs, left_eye, right_eye, both_eyes, nobody}
use Rattle.frame_table.proofs.Laid.{found_in}

-- a seat that holds no slot
bare : (holds : State (Unit {0}) Watch → Type 0) (slots id : ℕ) (me : Me (Unit {0}) Watch) (i : ℕ) (f : ℕ → ℕ)
    (T : Me (Unit {0}) Watch → ℕ → Me (Unit {0}) Watch → Type 0) → me.1 ≡ []
    → Allows holds slots id (me.0, []) i f (T (me.0, [])) → Allows holds slots id me i f (T me)
bare holds slots id me i f T clear h = let P : List (ℕ × Unit {0})
    → Type 0 = λ l. Allows holds slots id (me.0, l) i f (T (me.0, l)) in subst P (sym clear) h

pub at_once : (vs : List View) (id : ℕ) (v w : View) → get_elem? vs id ≡ some v → get_elem? (set vs id w) id ≡ some w
at_once [] id v w at = absurd (some-ne-none v (sym at))
at_once (u ∷ us) zero v w at = refl
at_once (u ∷ us) (suc id) v w at = at_once us id v w at

-- two of a list count no more than all of it
two-le-sum : (f : View → ℕ) (vs : List View) (i j : ℕ) (v u : View) → j ≢ i → get_elem? vs i ≡ some v → get_elem? vs j ≡ some u
    → f v + f u ≤ sum_by f vs
two-le-sum f [] i j v u ne at there = absurd (some-ne-none v (sym at))
two-le-sum f (w ∷ ws) zero zero v u ne at there = absurd (ne refl)
two-le-sum f (w ∷ ws) zero (suc j) v u ne at there =
    omega (arith, ap f (some-injective w v at), at-le-sum f ws j u there, sum_by-cons f w ws)
two-le-sum f (w ∷ ws) (suc i) zero v u ne at there =
    omega (arith, ap f (some-injective w u there), at-le-sum f ws i v at, sum_by-cons f w ws)
two-le-sum f (w ∷ ws) (suc i) (suc j) v u ne at there =
    omega (arith, two-le-sum f ws i j v u (λ e. ne (ap suc e)) at there, sum_by-cons f w ws)

-- who knows the words knows the right ones
itself : (key : Key) (ws : List ℕ) (e : Watch) → e.known ≡ Some ws → IsRightFor key ws e
itself key ws e is known there share = let same : known ≡ ws = (cc) in same

-- who knows no words knows no wrong ones
ignorant : (key : Key) (ws : List ℕ) (e : Watch) → e.known ≡ None → IsRightFor key ws e
ignorant key ws e is known there share = absurd (cc)

module _ (o : Origin) (slots id : ℕ) (e : Watch) (about : e.view.about ≡ Some (key_from o)) where
  abbrev key : Key
  key = key_from o

  abbrev FitsAt : List ℕ → List View → Type 0
  FitsAt ws vs = Fit key key.cores ws vs

  module _ (s : State (Unit {0}) Watch) (holds : Holds o s) (at : get_elem? s.views id ≡ some e) where
    abbrev vs : List View
    vs = map eye_view s.views

    there : get_elem? (map eye_view s.views) id ≡ some e.view
    there = at_map eye_view s.views id e at

    -- what the others know is right of these words too
    abbrev OthersAreRight : List ℕ → Type 0
    OthersAreRight ws = (j : ℕ) (u : Watch) → j ≢ id → get_elem? s.views j ≡ some u → IsRightFor key ws u

    -- the words have not changed
    same_right : (ws : List ℕ) → s.words ≡ ws → OthersAreRight ws
    same_right ws is j u ne at' = subst (λ us. IsRightFor key us u) is (holds.right j u at')

    -- nobody else has all shares
    alone_right : (ws : List ℕ) → 0 < e.view.share → OthersAreRight ws
    alone_right ws has j u ne at' known k all = absurd (omega (
      arith,
      has,
      all,
      two-le-sum (λ (v : View). v.share) (map eye_view s.views) id j e.view u.view ne there (at_map eye_view s.views j u at'),
      total_is key (λ (v : View). v.share) (map eye_view s.views),
      holds.fits.shares_add_up,
    ))

    -- the table after a step on one word
    turned_to : (i n : ℕ) (w : Watch) → FitsAt (set s.words i n) (set (map eye_view s.views) id w.view)
        → OthersAreRight (set s.words i n) → w.known ≡ Some (set s.words i n) → Holds o (stepped s i n id [] w keeps)
    turned_to i n w fit others known = record {
      fits = subst (FitsAt (set s.words i n)) (sym (map-set eye_view s.views id w)) fit;
      right = λ j u at'. ⊎_elim
          (λ t. subst (λ (x : Watch). IsRightFor key (set s.words i n) x) t.1 (itself key (set s.words i n) w known))
          (λ t. others j u t.0 t.1) (at_set s.views id j w u at');
    }

    -- and the view of the seat then
    turned_is : (ws : List ℕ) (w : View) → FitsAt ws (set (map eye_view s.views) id w) → IsOfOneMemory e.view w
    turned_is ws w fit k named =
        let vs : List View = map eye_view s.views in
        let here = at_once vs id e.view w there in
        let is : IsViewOf key w = view_of key key.cores ws (set vs id w) id w fit here in
        let apart : IsApart key w = apart_of key key.cores ws (set vs id w) id w fit here in
        subst (λ (j : Key). IsViewOf j w × IsApart j w) (cc) (is, apart)

    -- what the seat learns
    learns : (i n : ℕ) (w : Watch) → FitsAt (set s.words i n) (set (map eye_view s.views) id w.view)
        → known_in w ≡ Some (set s.words i n) → LearnsFor (e, []) i (get_or s.words i 0) n (w, [])
    learns i n w fit known k named =
        let is : Learns key i (get_or s.words i 0) n e w = record {
          words = s.words;
          known = known;
          here = refl;
          right = holds.right id e at;
          fitted = (map eye_view s.views, (id, (holds.fits, there)));
          fits = (set (map eye_view s.views) id w.view, (id, (fit, at_once (map eye_view s.views) id e.view w.view there)));
        } in
        subst (λ (j : Key). Learns j i (get_or s.words i 0) n e w) (cc) is

    -- the fit after a load or a lost exchange
    looked_fit : (m l : ℕ) → FitsAt s.words (set (map eye_view s.views) id (record e.view { moves = m; lost = l }))
    looked_fit m l = look_keeps key key.cores s.words (map eye_view s.views) id e.view holds.fits there m l about

    looked_same : (i m l : ℕ) → FitsAt (set s.words i (get_or s.words i 0))
        (set (map eye_view s.views) id (record e.view { moves = m; lost = l }))
    looked_same i m l = subst (λ ws. FitsAt ws (set (map eye_view s.views) id (record e.view { moves = m; lost = l })))
        (sym (set-get_or s.words i 0)) (looked_fit m l)

    abbrev looker : ℕ → ℕ → ℕ → List Sighting → Watch
    looker i m l read = watch (record e.view { moves = m; lost = l }) read (Some (set s.words i (get_or s.words i 0)))

    looked_at : (i m l : ℕ) (read : List Sighting) → Holds o
        (stepped s i (get_or s.words i 0) id [] (looker i m l read) keeps)
    looked_at i m l read = turned_to i (get_or s.words i 0) (looker i m l read) (looked_same i m l)
        (same_right (set s.words i (get_or s.words i 0)) (sym (set-get_or s.words i 0))) refl

    looked_learns : (i m l : ℕ) (read : List Sighting)
        → LearnsFor (e, []) i (get_or s.words i 0) (get_or s.words i 0) (looker i m l read, [])
    looked_learns i m l read = learns i (get_or s.words i 0) (looker i m l read) (looked_same i m l) refl

    looked_is : (m l : ℕ) → IsOfOneMemory e.view (record e.view { moves = m; lost = l })
    looked_is m l = turned_is s.words (record e.view { moves = m; lost = l }) (looked_fit m l)

    finds : (i : ℕ) → IsFoundFor e.view i (get_or s.words i 0)
    finds i k named = subst (λ (j : Key). Rattle.frame_table.specs.Rule.IsFoundIn j i (get_or s.words i 0)) (cc)
        (found_in key s.words i holds.fits.words_in_range)

    made_by : (kind : Kind) → 0 < e.view.share → May key kind e.view → IsMade kind (get_or s.words (place key kind) 0)
        → FitsAt (set s.words (place key kind) (turned kind (get_or s.words (place key kind) 0)))
        (set (map eye_view s.views) id (effect next kind (get_or s.words (place key kind) 0) e.view))
    made_by kind share may made = kind_keeps next key key.cores s.words (map eye_view s.views) id e.view holds.fits there kind share may made

  look_bare : (i : ℕ) → Allows (Holds o) slots id (e, []) i (λ n. n) (Looks (step slots i 0 0 none) (e, []))
  look_bare i s holds homes at fits =
      let found : ℕ = get_or s.words i 0 in
      let read : List Sighting = sighting i (Some found) ∷ e.read in
      let m : ℕ = next e.view.moves in
      let l : ℕ = e.view.lost in
      let is_view = looked_is s holds at m l in
      let learnt = looked_learns s holds at i m l read in
      (looker s holds at i m l read, keeps, tt, looked_at s holds at i m l read, (finds s holds at i, (refl, refl, is_view), learnt))

  module _ (kind : Kind) (share : 0 < e.view.share) (may : May key kind e.view) where
    abbrev i : ℕ
    i = place key kind

    module _ (old new : ℕ) (seen : seen_by kind ≡ Some old) (is : turned kind old ≡ new) where
      chosen : (s : State (Unit {0}) Watch) → Holds o s → get_elem? s.views id ≡ some e → (b : Bool) → eqb (get_or s.words i 0) old ≡ b
          → (w : Watch) × (a : Act (Unit {0})) × Valid s.homes [] a × Holds o (stepped s i (either b new (get_or s.words i 0)) id [] w a)
          × (IsFoundFor e.view i (get_or s.words i 0)
          × MatchBool b
          (Becomes (e, []) (sighting i None) (effect next kind old e.view) (w, carried_after [] a)
          × LearnsFor (e, []) i (get_or s.words i 0) new (w, carried_after [] a))
          (Becomes (e, []) (sighting i (Some (get_or s.words i 0))) (after_loss next e.view) (w, carried_after [] a)
          × LearnsFor (e, []) i (get_or s.words i 0) (get_or s.words i 0) (w, carried_after [] a)))
      chosen s holds at true won =
          let found : ℕ = get_or s.words i 0 in
          let same : found ≡ old = exact_unsigned_eq found old won in
          let w : Watch = watch (effect next kind old e.view) (sighting i None ∷ e.read) (Some (set s.words i new)) in
          let P : ℕ → Type 0 = λ n. FitsAt (set s.words i (turned kind n)) (set (map eye_view s.views) id (effect next kind n e.view)) in
          let made : IsMade kind found = subst (λ o. IsFoundBy o found) (sym seen) same in
          let fit : P old = subst P same (made_by s holds at kind share may made) in
          let Q : ℕ → Type 0 = λ n. FitsAt (set s.words i n) (set (map eye_view s.views) id w.view) in
          let is_view = turned_is s holds at (set s.words i new) w.view (subst Q is fit) in
          let learnt = learns s holds at i new w (subst Q is fit) refl in (
            w,
            keeps,
            tt,
            turned_to s holds at i new w (subst Q is fit) (alone_right s holds at (set s.words i new) share) refl,
            (finds s holds at i, ((refl, refl, is_view), learnt)),
          )
      chosen s holds at false lost =
          let found : ℕ = get_or s.words i 0 in
          let read : List Sighting = sighting i (Some found) ∷ e.read in
          let m : ℕ = next e.view.moves in
          let l : ℕ = next e.view.lost in
          let is_view = looked_is s holds at m l in
          let learnt = looked_learns s holds at i m l read in
          (looker s holds at i m l read, keeps, tt, looked_at s holds at i m l read, (finds s holds at i, ((refl, refl, is_view), learnt)))

      exchange_bare : Allows (Holds o) slots id (e, []) i (λ n. either (eqb n old) new n)
          (IsExchangedAs kind (step slots i old new none) (e, []))
      exchange_bare s holds homes at fits = chosen s holds at (eqb (get_or s.words i 0) old) refl

    change_bare : (a : ℕ) (g : ℕ → ℕ) → seen_by kind ≡ None →
        ((n : ℕ) → n < 18446744073709551616 → MayFind key kind e.view n → turned kind n ≡ g n)
        → Allows (Holds o) slots id (e, []) i g (IsChangedAs kind (step slots i a 0 none) (e, []))
    change_bare a g always is s holds homes at fits =
        let found : ℕ = get_or s.words i 0 in
        let w : Watch = watch (effect next kind found e.view) (sighting i None ∷ e.read) (Some (set s.words i (g found))) in
        let made : IsMade kind found = subst (λ o. IsFoundBy o found) (sym always) tt in
        let Q : ℕ → Type 0 = λ n. FitsAt (set s.words i n) (set (map eye_view s.views) id w.view) in
        let turns : turned kind found ≡ g found = is found fits (s.words, (map eye_view s.views, (id, (holds.fits, (there s holds at, refl))))) in
        let fit : Q (g found) = subst Q turns (made_by s holds at kind share may made) in
        let is_view = turned_is s holds at (set s.words i (g found)) w.view fit in
        let L : ℕ → Type 0 = λ n. LearnsFor (e, []) i found n (w, []) in
        let learnt : L (turned kind found) = subst L (sym turns) (learns s holds at i (g found) w fit refl) in (
          w,
          keeps,
          tt,
          turned_to s holds at i (g found) w fit (alone_right s holds at (set s.words i (g found)) share) refl,
          (finds s holds at i, (refl, refl, is_view), learnt),
        )

  -- a seat that was cut knows what it knew, or nothing
  left_right : (cut : Cut) (ws : List ℕ) → IsRightFor key ws e → IsRightFor key ws (left_eye cut e)
  left_right (part_share n) ws right = ignorant key ws (left_eye (part_share n) e) refl
  left_right (hand_out b rest) ws right = right
  left_right (recall b rest) ws right = right
  left_right part_ground ws right = right
  left_right (adopt b rest) ws right = right

  pub cut_splits : (cut : Cut) → MayCut key cut e.view → Splits (Holds o) id e (left_eye cut e) (right_eye cut e)
  cut_splits cut may s holds at =
      let fit = seat_cut_keeps next key key.cores s.words (map eye_view s.views) id e.view holds.fits (there s holds at) cut may in
      let left : Watch = left_eye cut e in
      let right : Watch = right_eye cut e in
      let Right : Watch → Type 0 = λ (u : Watch). IsRightFor key s.words u in
      record {
        fits = subst (FitsAt s.words) (sym (map-append eye_view (set s.views id left) (right ∷ [])
            ∙ ap (λ (vs : List View). vs ++ right.view ∷ []) (map-set eye_view s.views id left))) fit;
        right = λ j u at'. ⊎_elim
            (λ before. ⊎_elim
            (λ t. subst Right t.1 (left_right cut s.words (holds.right id e at)))
            (λ t. holds.right j u t.1) (at_set s.views id j left u before))
            (λ same. subst Right same (ignorant key s.words right refl))
            (at_snoc (set s.views id left) right u j at');
      }

  -- a seat that took in a block knows what it knew, for it has the shares it had
  both_right : (join : Join) (f : Watch) (ws : List ℕ) → IsRightFor key ws e → IsRightFor key ws (both_eyes join e f)
  both_right join_idle f ws right = ignorant key ws (both_eyes join_idle e f) refl
  both_right hand_in f ws right = right
  both_right keep_in f ws right = right

  pub join_joins : (other : ℕ) (f : Watch) (join : Join) → MayJoin join e.view f.view
      → Joins (Holds o) id e other f (both_eyes join e f) nobody
  join_joins other f join may s holds at apart at' =
      let both : Watch = both_eyes join e f in
      let vs : List View = map eye_view s.views in
      let there' : get_elem? vs other ≡ some f.view = at_map eye_view s.views other f (sym (set_else s.views id other both apart) ∙ at') in
      let fit = seat_join_keeps next key key.cores s.words vs id e.view holds.fits (there s holds at) other f.view apart there' join may in
      let Right : Watch → Type 0 = λ (u : Watch). IsRightFor key s.words u in
      record {
        fits = subst (FitsAt s.words) (sym (map-set eye_view (set s.views id both) other nobody
            ∙ ap (λ (l : List View). set l other spent) (map-set eye_view s.views id both))) fit;
        right = λ j u at''. ⊎_elim
            (λ t. subst Right t.1 (ignorant key s.words nobody refl))
            (λ t. ⊎_elim
            (λ t'. subst Right t'.1 (both_right join f s.words (holds.right id e at)))
            (λ t'. holds.right j u t'.1) (at_set s.views id j both u t.1))
            (at_set (set s.views id both) other j nobody u at'');
      }

-- The same of any seat that holds no slot.

module _ (o : Origin) (slots id : ℕ) (me : Me (Unit {0}) Watch) (clear : me.1 ≡ []) (about : me.0.view.about ≡ Some (key_from o)) where
  pub look_allows : (i : ℕ) → Allows (Holds o) slots id me i (λ n. n) (Looks (step slots i 0 0 none) me)
  look_allows i = bare (Holds o) slots id me i (λ n. n) (Looks (step slots i 0 0 none)) clear (look_bare o slots id me.0 about i)

  module _ (kind : Kind) (share : 0 < me.0.view.share) (may : May (key_from o) kind me.0.view) where
    pub exchange_allows : (old new : ℕ) → seen_by kind ≡ Some old → turned kind old ≡ new
        → Allows (Holds o) slots id me (place (key_from o) kind) (λ n. either (eqb n old) new n)
        (IsExchangedAs kind (step slots (place (key_from o) kind) old new none) me)
    exchange_allows old new seen is =
        let i : ℕ = place (key_from o) kind in
        bare (Holds o) slots id me i (λ n. either (eqb n old) new n) (IsExchangedAs kind (step slots i old new none)) clear
        (exchange_bare o slots id me.0 about kind share may old new seen is)

    pub change_allows : (a : ℕ) (g : ℕ → ℕ) → seen_by kind ≡ None
        → ((n : ℕ) → n < 18446744073709551616 → MayFind (key_from o) kind me.0.view n → turned kind n ≡ g n)
        → Allows (Holds o) slots id me (place (key_from o) kind) g (IsChangedAs kind (step slots (place (key_from o) kind) a 0 none) me)
    change_allows a g always is =
        let i : ℕ = place (key_from o) kind in
        bare (Holds o) slots id me i g (IsChangedAs kind (step slots i a 0 none)) clear
        (change_bare o slots id me.0 about kind share may a g always is)
