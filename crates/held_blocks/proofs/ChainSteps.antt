-- One step through a chain, and one more place.
use Rattle.std.proofs.Common.{ℕ, ◌+◌, ◌≡◌, ◌<◌, ◌≤◌, ◌⊎◌, inl, inr, min, Bool, true, false, sym}
use Rattle.std.proofs.Common.{ap, ◌∙◌, arith}
use Rattle.std.proofs.lemmas.Bool.{cases_eq, cases_lt, both_ways}
use Rattle.held_blocks.specs.LabelChains.{Serves, Walks}

below_or_at : (i n : ℕ) → i < n + 1 → (i < n) ⊎ (i ≡ n)
below_or_at i n h = elim (cases_eq i n) [ inl e ↦ inr e | inr ne ↦ inl (omega arith) ]

module _ {nowhere n : ℕ} {key next : ℕ → ℕ} {live : ℕ → Bool} {first last : ℕ → ℕ} (s : Serves nowhere n key next live first last) where
  pub walk_first : (k : ℕ) → Walks nowhere n key live k (first k)
  walk_first k = record {
    here = s.starts_at k;
    least = λ j within same alive. let h = s.starts j within alive in rw same at h;
    stop = s.firsts k;
  }

  pub walk_more : (k at : ℕ) → Walks nowhere n key live k at → at < n → live at ≡ false
      → Walks nowhere n key live k (next at)
  walk_more k at w within dead = record {
    here = λ below. s.same at within below ∙ w.here within;
    least = λ j inside same alive.
        let from = w.least j inside same alive in
        elim (cases_eq at j) [
          | inl e ↦ absurd (both_ways (live j) (ap live (sym e) ∙ dead) alive)
          | inr ne ↦ s.skips at j (omega arith) inside (w.here within ∙ sym same) alive
        ];
    stop = s.stops at within;
  }

  -- the chain of k may begin where a walk has come
  pub serves_from : (k at : ℕ) → Walks nowhere n key live k at → (first' last' : ℕ → ℕ)
      → first' k ≡ at → ((q : ℕ) → (q ≡ k → ⊥) → first' q ≡ first q)
      → ((q : ℕ) → last' q ≡ last q) → Serves nowhere n key next live first' last'
  serves_from k at w first' last' here other lasts = record {
    starts = λ i within alive.
        elim (cases_eq (key i) k) [
          | inl e ↦ rw (e, here) (w.least i within e alive)
          | inr ne ↦ rw (other (key i) ne) (s.starts i within alive)
        ];
    starts_at = λ q below.
        elim (cases_eq q k) [
          | inl e ↦ let f : first' q ≡ at = ap first' e ∙ here in let b : at < n = rw f at below in ap key f ∙ w.here b ∙ sym e
          | inr ne ↦ let f = other q ne in let b : first q < n = rw f at below in ap key f ∙ s.starts_at q b
        ];
    firsts = λ q past.
        elim (cases_eq q k) [
          | inl e ↦ let f : first' q ≡ at = ap first' e ∙ here in f ∙ w.stop (omega arith)
          | inr ne ↦ let f = other q ne in f ∙ s.firsts q (omega arith)
        ];
    known = λ i within. rw (lasts (key i)) (s.known i within);
    most = λ i within. rw (lasts (key i)) (s.most i within);
    lasts = λ q. rw (lasts q) (s.lasts q);
    ends_at = λ q below. let b : last q < n = rw (lasts q) at below in ap key (lasts q) ∙ s.ends_at q b;
    onward = s.onward;
    same = s.same;
    skips = s.skips;
    goes_on = λ i within apart. s.goes_on i within (λ e. apart (e ∙ sym (lasts (key i))));
    stops = s.stops;
  }

  -- the same ends
  pub serves_same : (first' last' : ℕ → ℕ) → ((k : ℕ) → first' k ≡ first k)
      → ((k : ℕ) → last' k ≡ last k)
      → Serves nowhere n key next live first' last'
  serves_same first' last' firsts lasts = serves_from 0 _ (walk_first 0) first' last' (firsts 0) (λ q ne. firsts q) lasts

  -- a place that no longer lives
  pub serves_less : (live' : ℕ → Bool) → ((i : ℕ) → live' i ≡ true → live i ≡ true)
      → Serves nowhere n key next live' first last
  serves_less live' less = record {
    starts = λ i within alive. s.starts i within (less i alive);
    starts_at = s.starts_at;
    firsts = s.firsts;
    known = s.known;
    most = s.most;
    lasts = s.lasts;
    ends_at = s.ends_at;
    onward = s.onward;
    same = s.same;
    skips = λ i j before within same alive. s.skips i j before within same (less j alive);
    goes_on = s.goes_on;
    stops = s.stops;
  }

  module _ {key' next' : ℕ → ℕ} {live' : ℕ → Bool} {first' last' : ℕ → ℕ} (k : ℕ) (small : n < nowhere)
      (key_below : (i : ℕ) → i < n → key' i ≡ key i)
      (key_at : key' n ≡ k) (live_below : (i : ℕ) → i < n → live' i ≡ live i)
      (next_other : (i : ℕ) → i < n → (i ≡ last k → ⊥) → next' i ≡ next i)
      (next_last : last k < n → next' (last k) ≡ n) (next_at : next' n ≡ nowhere)
      (first_at : first' k ≡ min (first k) n)
      (first_other : (q : ℕ) → (q ≡ k → ⊥) → first' q ≡ first q) (last_at : last' k ≡ n)
      (last_other : (q : ℕ) → (q ≡ k → ⊥) → last' q ≡ last q) where
    -- the next place of an old place
    Steps : ℕ → Type 0
    Steps i = ((i ≡ last k) × (key i ≡ k) × (next' i ≡ n)) ⊎ ((i ≡ last k → ⊥) × (next' i ≡ next i))

    steps : (i : ℕ) → i < n → Steps i
    unfolding Steps
    steps i within =
        elim (cases_eq i (last k)) [
          | inl e ↦ let b : last k < n = rw e at within in inl (e, ap key e ∙ s.ends_at k b, ap next' e ∙ next_last b)
          | inr ne ↦ inr (ne, next_other i within ne)
        ]

    -- an old place has the new key, and then its last place is n, or another, and then its ends are the old ones
    Belongs : ℕ → Type 0
    Belongs i =
        ((key i ≡ k) × (key' i ≡ k) × (first (key i) ≡ first k) × (first' (key' i) ≡ min (first k) n)
        × (last (key i) ≡ last k) × (last' (key' i) ≡ n))
        ⊎ ((key i ≡ k → ⊥) × (first' (key' i) ≡ first (key i)) × (last' (key' i) ≡ last (key i)))

    belongs : (i : ℕ) → i < n → Belongs i
    unfolding Belongs
    belongs i within =
        let below = key_below i within in
        elim (cases_eq (key i) k) [
          | inl e ↦ inl (e, below ∙ e, ap first e, ap first' (below ∙ e) ∙ first_at, ap last e, ap last' (below ∙ e) ∙ last_at)
          | inr ne ↦ inr (ne, ap first' below ∙ first_other (key i) ne, ap last' below ∙ last_other (key i) ne)
        ]

    push_starts : (i : ℕ) → i < n + 1 → live' i ≡ true → first' (key' i) ≤ i
    unfolding Belongs
    push_starts i within alive =
        elim (below_or_at i n within) [
          | inl b ↦
              let h = s.starts i b (sym (live_below i b) ∙ alive) in
              elim (belongs i b) [ inl w ↦ let x = w.2 in let y = w.3 in omega arith | inr w ↦ let y = w.1 in omega arith ]
          | inr e ↦ let f : first' (key' i) ≡ min (first k) n = ap (λ x. first' (key' x)) e ∙ ap first' key_at ∙ first_at in omega arith
        ]

    push_starts_at : (q : ℕ) → first' q < n + 1 → key' (first' q) ≡ q
    push_starts_at q below =
        elim (cases_eq q k) [
          | inl e ↦
              let f : first' q ≡ min (first k) n = ap first' e ∙ first_at in
              elim (cases_lt (first k) n) [
                | inl b ↦ let g : first' q ≡ first k = omega arith in ap key' g ∙ key_below (first k) b ∙ s.starts_at k b ∙ sym e
                | inr b ↦ let g : first' q ≡ n = omega arith in ap key' g ∙ key_at ∙ sym e
              ]
          | inr ne ↦
              let f = first_other q ne in
              elim (cases_lt (first q) n) [
                | inl b ↦ ap key' f ∙ key_below (first q) b ∙ s.starts_at q b
                | inr b ↦ let h = s.firsts q b in absurd (omega arith)
              ]
        ]

    push_firsts : (q : ℕ) → n + 1 ≤ first' q → first' q ≡ nowhere
    push_firsts q past =
        elim (cases_eq q k) [
          | inl e ↦ let f : first' q ≡ min (first k) n = ap first' e ∙ first_at in absurd (omega arith)
          | inr ne ↦ let f = first_other q ne in f ∙ s.firsts q (omega arith)
        ]

    push_lasts : (q : ℕ) → n + 1 ≤ last' q → last' q ≡ nowhere
    push_lasts q past =
        elim (cases_eq q k) [
          | inl e ↦ let f : last' q ≡ n = ap last' e ∙ last_at in absurd (omega arith)
          | inr ne ↦ let f = last_other q ne in f ∙ s.lasts q (omega arith)
        ]

    push_most : (i : ℕ) → i < n + 1 → (last' (key' i) < n + 1) × (i ≤ last' (key' i))
    unfolding Belongs
    push_most i within =
        elim (below_or_at i n within) [
          | inl b ↦
              let h = s.most i b in
              let m = s.known i b in
              elim (belongs i b) [ inl w ↦ let x = w.5 in (omega arith, omega arith) | inr w ↦ let x = w.2 in (omega arith, omega arith) ]
          | inr e ↦ let f : last' (key' i) ≡ n = ap (λ x. last' (key' x)) e ∙ ap last' key_at ∙ last_at in (omega arith, omega arith)
        ]

    push_ends_at : (q : ℕ) → last' q < n + 1 → key' (last' q) ≡ q
    push_ends_at q below =
        elim (cases_eq q k) [
          | inl e ↦ ap (λ x. key' (last' x)) e ∙ ap key' last_at ∙ key_at ∙ sym e
          | inr ne ↦
              let f = last_other q ne in
              elim (cases_lt (last q) n) [
                | inl b ↦ ap key' f ∙ key_below (last q) b ∙ s.ends_at q b
                | inr b ↦ let h = s.lasts q b in absurd (omega arith)
              ]
        ]

    push_onward : (i : ℕ) → i < n + 1 → i < next' i
    unfolding Steps
    push_onward i within =
        elim (below_or_at i n within) [
          | inl b ↦ let h = s.onward i b in elim (steps i b) [ inl w ↦ let x = w.2 in omega arith | inr w ↦ let x = w.1 in omega arith ]
          | inr e ↦ let f : next' i ≡ nowhere = ap next' e ∙ next_at in omega arith
        ]

    push_stops : (i : ℕ) → i < n + 1 → n + 1 ≤ next' i → next' i ≡ nowhere
    unfolding Steps
    push_stops i within past =
        elim (below_or_at i n within) [
          | inl b ↦
              elim (steps i b) [
                | inl w ↦ let x = w.2 in absurd (omega arith)
                | inr w ↦ let x = w.1 in x ∙ s.stops i b (omega arith)
              ]
          | inr e ↦ ap next' e ∙ next_at
        ]

    push_same : (i : ℕ) → i < n + 1 → next' i < n + 1 → key' (next' i) ≡ key' i
    unfolding Steps
    push_same i within below =
        elim (below_or_at i n within) [
          | inl b ↦
              elim (steps i b) [
                | inl w ↦ ap key' w.2 ∙ key_at ∙ sym w.1 ∙ sym (key_below i b)
                | inr w ↦
                    let x = w.1 in
                    elim (cases_lt (next i) n) [
                      | inl y ↦ ap key' x ∙ key_below (next i) y ∙ s.same i b y ∙ sym (key_below i b)
                      | inr y ↦ let h = s.stops i b y in absurd (omega arith)
                    ]
              ]
          | inr e ↦ let f : next' i ≡ nowhere = ap next' e ∙ next_at in absurd (omega arith)
        ]

    push_skips : (i j : ℕ) → i < j → j < n + 1 → key' i ≡ key' j → live' j ≡ true → next' i ≤ j
    unfolding Steps
    push_skips i j before within same alive =
        let b : i < n = omega arith in
        elim (below_or_at j n within) [
          | inl c ↦
              let keys : key i ≡ key j = sym (key_below i b) ∙ same ∙ key_below j c in
              elim (steps i b) [
                | inl w ↦
                    let m = s.most j c in
                    let l : last (key j) ≡ last k = ap last (sym keys ∙ w.1) in
                    let x = w.0 in absurd (omega arith)
                | inr w ↦ let x = w.1 in let h = s.skips i j before c keys (sym (live_below j c) ∙ alive) in omega arith
              ]
          | inr e ↦
              elim (steps i b) [
                | inl w ↦ let x = w.2 in omega arith
                | inr w ↦
                    let mine : key i ≡ k = sym (key_below i b) ∙ same ∙ ap key' e ∙ key_at in
                    let h = s.goes_on i b (λ l. w.0 (l ∙ ap last mine)) in let x = w.1 in omega arith
              ]
        ]

    push_goes_on : (i : ℕ) → i < n + 1 → (i ≡ last' (key' i) → ⊥) → next' i < n + 1
    unfolding Steps Belongs
    push_goes_on i within apart =
        elim (below_or_at i n within) [
          | inl b ↦
              elim (steps i b) [
                | inl w ↦ let x = w.2 in omega arith
                | inr w ↦
                    let x = w.1 in
                    elim (belongs i b) [
                      | inl v ↦ let h = s.goes_on i b (λ l. w.0 (l ∙ v.4)) in omega arith
                      | inr v ↦ let h = s.goes_on i b (λ l. apart (l ∙ sym v.2)) in omega arith
                    ]
              ]
          | inr e ↦ absurd (apart (e ∙ sym (ap (λ x. last' (key' x)) e ∙ ap last' key_at ∙ last_at)))
        ]

    pub serves_push : Serves nowhere (n + 1) key' next' live' first' last'
    serves_push = record {
      starts = push_starts;
      starts_at = push_starts_at;
      firsts = push_firsts;
      known = λ i within. (push_most i within).0;
      most = λ i within. (push_most i within).1;
      lasts = push_lasts;
      ends_at = push_ends_at;
      onward = push_onward;
      same = push_same;
      skips = push_skips;
      goes_on = push_goes_on;
      stops = push_stops;
    }
