-- Steps on the local word of a core: a payment from its reservation, the refund, and the swap of the reservation.
use Rattle.std.proofs.Common.{◌≡◌, ◌≢◌, ◌⊎◌, inl, inr, ⊎_elim, ℕ, ◌+◌, ◌-◌, ◌<◌, ◌≤◌, List, Option, None, Some, get_or, set, refl, ap, sym}
use Rattle.std.proofs.Common.{subst, ◌∙◌, arith}
use Rattle.std.proofs.lemmas.Bool.{cases_eq}
use mathlib.Core.Option.{some}
use lib.ListN.{get_elem?}
use Rattle.frame_words.specs.Words.{rest_in, local_word}
use Rattle.frame_model.specs.declared.key.Key.{Key}
use Rattle.frame_model.specs.declared.view.View.{View}
use Rattle.frame_model.specs.Key.{tree_count}
use Rattle.frame_model.specs.Words.{local_place, rest_of, count_on, is_on, resting_on, with_local, IsRest}
use Rattle.frame_model.specs.View.{count_in, is_at, paid_on, reserves, IsViewOf}
use Rattle.frame_model.specs.Fit.{Fit}
use Rattle.frame_model.specs.Steps.{swap_local, local_pay, local_refund, effect, turned}
use Rattle.frame_model.specs.Steps.Amounts.{more, less, more_of, less_of, rest_amount, rest_tree, rest_less, rest_more}
use Rattle.frame_model.specs.Steps.Conditions.{GivesUp, CanSwapLocal, CanLocalPay, CanLocalRefund}
use Rattle.frame_model.proofs.Sums.{range_at}
use Rattle.frame_model.proofs.Amounts.{count_none, more_here, more_else, less_here, less_else, less-le, amount_more, amount_less}
use Rattle.frame_model.proofs.Amounts.{amount_rest, count_on_here, count_on_else, count_on_none, is_on_here, is_on_else, is_on_none}
use Rattle.frame_model.proofs.Amounts.{is_on_same, rest_is_count, rest_is_on, is_at_here, is_at_else, is_at_none, rest_back}
use Rattle.frame_model.proofs.Balances.{local_step}
use Rattle.frame_model.proofs.Steps.Shared.{rest_of_is, as_local, lands, same_rights, same_blocks, still_paying, view_of, at-le-total}

-- what rests in one local word is a part of what rests on its tree
pub rest-le-resting : (key : Key) (ws : List ℕ) (k t : ℕ) → k < key.cores
    → count_on t (rest_of key ws k) ≤ resting_on key ws t
unfolding resting_on
rest-le-resting key ws k t h = range_at (λ j. count_on t (rest_of key ws j)) 0 key.cores k (omega arith) (omega arith)

-- a reservation is none of a tree past the last
on_far : (key : Key) (r : Option (ℕ × ℕ)) → IsRest key r → (t : ℕ) → tree_count key ≤ t
    → (count_on t r ≡ 0) × (is_on t r ≡ 0)
on_far key None h t far = (count_on_none t, is_on_none t)
on_far key (Some r) h t far = let ne : t ≢ r.0 = (λ e. omega (arith, h.0)) in (count_on_else r.0 t r.1 ne, is_on_else r.0 t r.1 ne)

-- what a view gives up is what it paid and reserved
given : (v : View) (put : Option (ℕ × ℕ)) → GivesUp put v → (t : ℕ)
    → (count_on t put ≡ paid_on t v) × (is_on t put ≡ reserves t v)
given v None g t = (
  count_on_none t ∙ sym (ap (count_in t) g.paid ∙ count_none t),
  is_on_none t ∙ sym (ap (is_at t) g.reserving ∙ is_at_none t),
)
given v (Some r) g t = by (cases_eq t r.0)
  where
    by : (t ≡ r.0) ⊎ (t ≢ r.0) → (count_on t (Some r) ≡ paid_on t v) × (is_on t (Some r) ≡ reserves t v)
    by (inl e) = (
      ap (λ j. count_on j (Some r)) e ∙ count_on_here r.0 r.1 ∙ sym (ap (λ j. paid_on j v) e ∙ g.1),
      ap (λ j. is_on j (Some r)) e ∙ is_on_here r.0 r.1 ∙ sym (ap (is_at t) g.0 ∙ ap (λ j. is_at j (Some r.0)) e ∙ is_at_here r.0),
    )
    by (inr ne) = (
      count_on_else r.0 t r.1 ne ∙ sym (g.2 t ne),
      is_on_else r.0 t r.1 ne ∙ sym (ap (is_at t) g.0 ∙ is_at_else r.0 t ne),
    )

module _ (t : ℕ → ℕ) (key : Key) (shares : ℕ) (ws : List ℕ) (vs : List View) (id : ℕ) (v : View)
    (fit : Fit key shares ws vs) (at : get_elem? vs id ≡ some v) (share : 0 < v.share) where
  pub swap_local_keeps : (k : ℕ) (put : Option (ℕ × ℕ)) → CanSwapLocal key v k put
      → Fit key shares (set ws (local_place key k) (turned (swap_local k put) (get_or ws (local_place key k) 0)))
      (set vs id (effect t (swap_local k put) (get_or ws (local_place key k) 0) v))
  swap_local_keeps k put can =
      let i : IsViewOf key v = view_of key shares ws vs id v fit at in
      let found : ℕ = get_or ws (local_place key k) 0 in
      let w : View = effect t (swap_local k put) found v in
      let n : ℕ = local_word put in
      let back : rest_in n ≡ put = rest_back key put can.is_rest in
      let was : rest_of key ws k ≡ rest_in found = rest_of_is key ws k in
      let range : IsRest key (rest_in found) = subst (IsRest key) was (fit.words_in_range.rests k can.inside) in
      let gave : (u : ℕ) → (count_on u put ≡ paid_on u v) × (is_on u put ≡ reserves u v) = given v put can.gives_up in
      lands key shares (with_local key ws k n) (set ws (local_place key k) n) (set vs id w) (as_local key ws k n)
      (local_step key shares ws vs id v fit at k n w can.inside (record {
        trees = λ u. omega (
          arith,
          ap (count_on u) back,
          (gave u).0,
          ap (count_on u) was,
          rest_is_count u (rest_in found),
        );
        reserved = λ u. omega (arith, ap (is_on u) back, (gave u).1, ap (is_on u) was, rest_is_on u (rest_in found));
        charged = λ d. refl;
        blocks = same_blocks v w refl refl refl;
        rights = same_rights v w share refl refl refl refl;
        word = ap local_word (sym back);
        rest = subst (IsRest key) (sym back) can.is_rest;
      })
      (still_paying key v i share (rest_amount (rest_in found)) (rest_tree (rest_in found)) (t v.moves)
      (λ d far. rest_is_count d (rest_in found) ∙ (on_far key (rest_in found) range d far).0)
      (λ d far. rest_is_on d (rest_in found) ∙ (on_far key (rest_in found) range d far).1) (amount_rest (rest_in found))))

  pub local_pay_keeps : (k seen n found : ℕ) → CanLocalPay key v k seen n
      → get_or ws (local_place key k) 0 ≡ seen
      → Fit key shares (set ws (local_place key k) (turned (local_pay k seen n) found)) (set vs id (effect t (local_pay k seen n) found v))
  local_pay_keeps k seen n found can made =
      let i : IsViewOf key v = view_of key shares ws vs id v fit at in
      let u : ℕ = can.tree in
      let m : ℕ = can.resting in
      let was : rest_of key ws k ≡ Some (u, m) = rest_of_is key ws k ∙ ap rest_in made ∙ can.seen_as in
      let range : (u < tree_count key) × (m ≤ 4096) = subst (IsRest key) was (fit.words_in_range.rests k can.inside) in
      let w : View = record v { paid = more u n v.paid; moves = t v.moves } in
      let x : ℕ = local_word (Some (u, m - n)) in
      let back : rest_in x ≡ Some (u, m - n) = rest_back key (Some (u, m - n)) (range.0, omega (arith, range.1)) in
      let word : x ≡ turned (local_pay k seen n) found = sym (ap (λ r. local_word (rest_less n r)) can.seen_as) in
      let view : w ≡ effect t (local_pay k seen n) found v =
      sym (ap (λ (r : Option (ℕ × ℕ)). record v { paid = more_of r n v.paid; moves = t v.moves }) can.seen_as) in
      subst (λ (y : View). Fit key shares (set ws (local_place key k) (turned (local_pay k seen n) found)) (set vs id y)) view
      (subst (λ y. Fit key shares (set ws (local_place key k) y) (set vs id w)) word
      (lands key shares (with_local key ws k x) (set ws (local_place key k) x) (set vs id w) (as_local key ws k x)
      (local_step key shares ws vs id v fit at k x w can.inside (record {
        trees = λ d.
            ⊎_elim
            (λ e. omega (
              arith,
              ap (count_on d) back,
              ap (count_on d) was,
              ap (λ j. count_on j (Some (u, m - n))) e,
              ap (λ j. count_on j (Some (u, m))) e,
              count_on_here u (m - n),
              count_on_here u m,
              can.enough,
              more_here u n v.paid i.some_paid can.paid,
              ap (λ j. count_in j (more u n v.paid)) e,
              ap (λ j. count_in j v.paid) e,
            ))
            (λ ne. omega (
              arith,
              ap (count_on d) back,
              ap (count_on d) was,
              count_on_else u d (m - n) ne,
              count_on_else u d m ne,
              more_else u d n v.paid ne can.paid,
            ))
            (cases_eq d u);
        reserved = λ d. omega (arith, ap (is_on d) back, ap (is_on d) was, is_on_same u d (m - n) m);
        charged = λ d. refl;
        blocks = same_blocks v w refl refl refl;
        rights = same_rights v w share refl refl refl refl;
        word = ap local_word (sym back);
        rest = subst (IsRest key) (sym back) (range.0, omega (arith, range.1));
      })
      (still_paying key v i share (more u n v.paid) v.reserving (t v.moves)
      (λ d far. more_else u d n v.paid (λ e. omega (arith, range.0)) can.paid ∙ i.paid d far) i.reserving
      (amount_more u n v.paid i.some_paid)))))

  pub local_refund_keeps : (k seen n found : ℕ) → CanLocalRefund key v k seen n
      → get_or ws (local_place key k) 0 ≡ seen
      → Fit key shares (set ws (local_place key k) (turned (local_refund k seen n) found))
      (set vs id (effect t (local_refund k seen n) found v))
  local_refund_keeps k seen n found can made =
      let i : IsViewOf key v = view_of key shares ws vs id v fit at in
      let u : ℕ = can.tree in
      let m : ℕ = can.resting in
      let was : rest_of key ws k ≡ Some (u, m) = rest_of_is key ws k ∙ ap rest_in made ∙ can.seen_as in
      let range : (u < tree_count key) × (m ≤ 4096) = subst (IsRest key) was (fit.words_in_range.rests k can.inside) in
      let room : m + n ≤ 4096 = omega (
        arith,
        fit.trees_add_up u range.0,
        rest-le-resting key ws k u can.inside,
        ap (count_on u) was,
        count_on_here u m,
        at-le-total key shares ws vs id v fit at (paid_on u),
        can.paid,
      ) in
      let w : View = record v { paid = less u n v.paid; moves = t v.moves } in
      let x : ℕ = local_word (Some (u, m + n)) in
      let back : rest_in x ≡ Some (u, m + n) = rest_back key (Some (u, m + n)) (range.0, room) in
      let word : x ≡ turned (local_refund k seen n) found = sym (ap (λ r. local_word (rest_more n r)) can.seen_as) in
      let view : w ≡ effect t (local_refund k seen n) found v =
      sym (ap (λ (r : Option (ℕ × ℕ)). record v { paid = less_of r n v.paid; moves = t v.moves }) can.seen_as) in
      subst (λ (y : View). Fit key shares (set ws (local_place key k) (turned (local_refund k seen n) found)) (set vs id y)) view
      (subst (λ y. Fit key shares (set ws (local_place key k) y) (set vs id w)) word
      (lands key shares (with_local key ws k x) (set ws (local_place key k) x) (set vs id w) (as_local key ws k x)
      (local_step key shares ws vs id v fit at k x w can.inside (record {
        trees = λ d.
            ⊎_elim
            (λ e. omega (
              arith,
              ap (count_on d) back,
              ap (count_on d) was,
              ap (λ j. count_on j (Some (u, m + n))) e,
              ap (λ j. count_on j (Some (u, m))) e,
              count_on_here u (m + n),
              count_on_here u m,
              can.paid,
              less_here u n v.paid,
              ap (λ j. count_in j (less u n v.paid)) e,
              ap (λ j. count_in j v.paid) e,
            ))
            (λ ne. omega (
              arith,
              ap (count_on d) back,
              ap (count_on d) was,
              count_on_else u d (m + n) ne,
              count_on_else u d m ne,
              less_else u d n v.paid ne,
            ))
            (cases_eq d u);
        reserved = λ d. omega (arith, ap (is_on d) back, ap (is_on d) was, is_on_same u d (m + n) m);
        charged = λ d. refl;
        blocks = same_blocks v w refl refl refl;
        rights = same_rights v w share refl refl refl refl;
        word = ap local_word (sym back);
        rest = subst (IsRest key) (sym back) (range.0, room);
      })
      (still_paying key v i share (less u n v.paid) v.reserving (t v.moves)
      (λ d far. omega (arith, less-le u d n v.paid, i.paid d far)) i.reserving (amount_less u n v.paid i.some_paid)))))
