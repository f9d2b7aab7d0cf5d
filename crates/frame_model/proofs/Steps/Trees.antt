-- Steps on the word of a tree: a payment and its refund, a reservation and its end, and a collection.
use Rattle.std.proofs.Common.{◌≡◌, ℕ, ◌+◌, ◌-◌, ◌%◌, ◌^◌, ◌<◌, ◌≤◌, List, None, Some, get_or, set, refl, ap, sym, ◌∙◌, arith}
use mathlib.Core.Option.{some}
use lib.ListN.{get_elem?}
use Rattle.frame_words.specs.Words.{entry_word, free_in, flag_in}
use Rattle.frame_words.proofs.WordLemmas.{free_in-entry_word, flag_in-entry_word, free_in-lt}
use Rattle.frame_model.specs.declared.key.Key.{Key}
use Rattle.frame_model.specs.declared.view.View.{View}
use Rattle.frame_model.specs.Words.{tree_place, tree_free_of, reserved_of, with_tree}
use Rattle.frame_model.specs.View.{counted, count_in, is_at, paid_on, reserves, IsViewOf}
use Rattle.frame_model.specs.Fit.{Fit}
use Rattle.frame_model.specs.Steps.{tree_pay, tree_refund, reserve, unreserve, collect, effect, turned}
use Rattle.frame_model.specs.Steps.Amounts.{more, less}
use Rattle.frame_model.specs.Steps.Conditions.{CanTreePay, CanTreeRefund, CanReserve, CanUnreserve, CanCollect}
use Rattle.frame_model.proofs.Amounts.{count_none, count_here, count_else, more_here, more_else, less_here, less_else, less-le, amount_more}
use Rattle.frame_model.proofs.Amounts.{amount_less, amount_counted, is_at_here, is_at_else, is_at_none}
use Rattle.frame_model.proofs.Balances.{tree_step}
use Rattle.frame_model.proofs.Steps.Shared.{free_is, flag_is, tree_free_is, reserved_is, as_tree, lands, same_rights, same_blocks}
use Rattle.frame_model.proofs.Steps.Shared.{still_paying, view_of, at-le-total}

module _ (t : ℕ → ℕ) (key : Key) (shares : ℕ) (ws : List ℕ) (vs : List View) (id : ℕ) (v : View)
    (fit : Fit key shares ws vs) (at : get_elem? vs id ≡ some v) (share : 0 < v.share) where
  pub tree_pay_keeps : (u seen n found : ℕ) → CanTreePay key v u seen n
      → get_or ws (tree_place key u) 0 ≡ seen
      → Fit key shares (set ws (tree_place key u) (turned (tree_pay u seen n) found)) (set vs id (effect t (tree_pay u seen n) found v))
  tree_pay_keeps u seen n found can made =
      let i : IsViewOf key v = view_of key shares ws vs id v fit at in
      let w : View = effect t (tree_pay u seen n) found v in
      let had : tree_free_of key ws u ≡ free_in seen = tree_free_is key ws u ∙ ap free_in made in
      let flag : reserved_of key ws u ≡ flag_in seen = reserved_is key ws u ∙ ap flag_in made in
      let m : ℕ = entry_word (free_in seen - n) (flag_in seen) in
      let low : free_in seen - n < 2 ^ 15 = omega (arith, free_in-lt seen) in
      let free : free_in m ≡ free_in seen - n = free_in-entry_word (free_in seen - n) (flag_in seen) low in
      let held : flag_in m ≡ flag_in seen = flag_in-entry_word (free_in seen - n) (flag_in seen) low in
      lands key shares (with_tree key ws u m) (set ws (tree_place key u) m) (set vs id w) (as_tree key ws u m m refl)
      (tree_step key shares ws vs id v fit at u m w can.inside (record {
        trees_here = omega (arith, free, had, can.enough, more_here u n v.paid i.some_paid can.paid);
        trees_else = λ d ne. more_else u d n v.paid ne can.paid;
        reserved_here = omega (arith, held, flag);
        reserved_else = λ d ne. refl;
        charged = λ d. refl;
        blocks = same_blocks v w refl refl refl;
        rights = same_rights v w share refl refl refl refl;
        free = omega (arith, free, had, fit.words_in_range.tree_free u can.inside);
        reserved = omega (arith, held, flag, fit.words_in_range.reserved u can.inside);
      })
      (still_paying key v i share (more u n v.paid) v.reserving (t v.moves)
      (λ d far. more_else u d n v.paid (λ e. omega (arith, can.inside)) can.paid ∙ i.paid d far) i.reserving
      (amount_more u n v.paid i.some_paid)))

  pub tree_refund_keeps : (u n : ℕ) → CanTreeRefund key v u n
      → Fit key shares (set ws (tree_place key u) (turned (tree_refund u n) (get_or ws (tree_place key u) 0)))
      (set vs id (effect t (tree_refund u n) (get_or ws (tree_place key u) 0) v))
  tree_refund_keeps u n can =
      let i : IsViewOf key v = view_of key shares ws vs id v fit at in
      let found : ℕ = get_or ws (tree_place key u) 0 in
      let w : View = effect t (tree_refund u n) found v in
      let had = tree_free_is key ws u in
      let flag = reserved_is key ws u in
      let f = free_is found in
      let g = flag_is found in
      let few = fit.words_in_range.reserved u can.inside in
      let room : tree_free_of key ws u + n ≤ 4096 = omega (
        arith,
        fit.trees_add_up u can.inside,
        at-le-total key shares ws vs id v fit at (paid_on u),
        can.paid,
      ) in
      let m : ℕ = found + n in
      let free : free_in m ≡ tree_free_of key ws u + n = omega (arith, free_is m, had, flag, f, g, room) in
      let held : flag_in m ≡ reserved_of key ws u = omega (arith, flag_is m, had, flag, f, g, room) in
      lands key shares (with_tree key ws u m) (set ws (tree_place key u) ((found + n) % 2 ^ 64)) (set vs id w)
      (as_tree key ws u m ((found + n) % 2 ^ 64) (omega (
        arith,
        had,
        flag,
        f,
        g,
        room,
        few,
      )))
      (tree_step key shares ws vs id v fit at u m w can.inside (record {
        trees_here = omega (arith, free, can.paid, less_here u n v.paid);
        trees_else = λ d ne. less_else u d n v.paid ne;
        reserved_here = omega (arith, held);
        reserved_else = λ d ne. refl;
        charged = λ d. refl;
        blocks = same_blocks v w refl refl refl;
        rights = same_rights v w share refl refl refl refl;
        free = omega (arith, free, room);
        reserved = omega (arith, held, few);
      })
      (still_paying key v i share (less u n v.paid) v.reserving (t v.moves)
      (λ d far. omega (arith, less-le u d n v.paid, i.paid d far)) i.reserving (amount_less u n v.paid i.some_paid)))

  pub reserve_keeps : (u seen found : ℕ) → CanReserve key v u seen → get_or ws (tree_place key u) 0 ≡ seen
      → Fit key shares (set ws (tree_place key u) (turned (reserve u seen) found)) (set vs id (effect t (reserve u seen) found v))
  reserve_keeps u seen found can made =
      let i : IsViewOf key v = view_of key shares ws vs id v fit at in
      let w : View = effect t (reserve u seen) found v in
      let had : tree_free_of key ws u ≡ free_in seen = tree_free_is key ws u ∙ ap free_in made in
      let flag : reserved_of key ws u ≡ 0 = reserved_is key ws u ∙ ap flag_in made ∙ can.no_flag in
      let m : ℕ = entry_word 0 1 in
      let free : free_in m ≡ 0 = free_in-entry_word 0 1 (omega arith) in
      let held : flag_in m ≡ 1 = flag_in-entry_word 0 1 (omega arith) in
      let none_paid : (d : ℕ) → paid_on d v ≡ 0 = λ d. ap (count_in d) can.paid ∙ count_none d in
      let none_reserving : (d : ℕ) → reserves d v ≡ 0 = λ d. ap (is_at d) can.reserving ∙ is_at_none d in
      lands key shares (with_tree key ws u m) (set ws (tree_place key u) m) (set vs id w) (as_tree key ws u m m refl)
      (tree_step key shares ws vs id v fit at u m w can.inside (record {
        trees_here = omega (arith, free, had, none_paid u, count_here u (free_in seen));
        trees_else = λ d ne. count_else u d (free_in seen) ne ∙ sym (none_paid d);
        reserved_here = omega (arith, held, flag, none_reserving u, is_at_here u);
        reserved_else = λ d ne. is_at_else u d ne ∙ sym (none_reserving d);
        charged = λ d. refl;
        blocks = same_blocks v w refl refl refl;
        rights = same_rights v w share refl refl refl refl;
        free = omega (arith, free);
        reserved = omega (arith, held);
      })
      (still_paying key v i share (counted u (free_in seen)) (Some u) (t v.moves)
      (λ d far. count_else u d (free_in seen) (λ e. omega (arith, can.inside)))
      (λ d far. is_at_else u d (λ e. omega (arith, can.inside))) (amount_counted u (free_in seen))))

  pub unreserve_keeps : (u n : ℕ) → CanUnreserve key v u n
      → Fit key shares (set ws (tree_place key u) (turned (unreserve u n) (get_or ws (tree_place key u) 0)))
      (set vs id (effect t (unreserve u n) (get_or ws (tree_place key u) 0) v))
  unreserve_keeps u n can =
      let i : IsViewOf key v = view_of key shares ws vs id v fit at in
      let found : ℕ = get_or ws (tree_place key u) 0 in
      let w : View = effect t (unreserve u n) found v in
      let had = tree_free_is key ws u in
      let flag = reserved_is key ws u in
      let f = free_is found in
      let g = flag_is found in
      let mine : reserves u v ≡ 1 = ap (is_at u) can.reserving ∙ is_at_here u in
      let set_flag : reserved_of key ws u ≡ 1 = omega (
        arith,
        fit.reserved_once u can.inside,
        at-le-total key shares ws vs id v fit at (reserves u),
        mine,
        fit.words_in_range.reserved u can.inside,
      ) in
      let room : tree_free_of key ws u + n ≤ 4096 = omega (
        arith,
        fit.trees_add_up u can.inside,
        at-le-total key shares ws vs id v fit at (paid_on u),
        can.paid,
      ) in
      let m : ℕ = tree_free_of key ws u + n in
      let free : free_in m ≡ tree_free_of key ws u + n = omega (arith, free_is m, room) in
      let held : flag_in m ≡ 0 = omega (arith, flag_is m, room) in
      lands key shares (with_tree key ws u m) (set ws (tree_place key u) ((found + (2 ^ 64 - (32768 - n))) % 2 ^ 64)) (set vs id w)
      (as_tree key ws u m ((found + (2 ^ 64 - (32768 - n))) % 2 ^ 64) (omega (arith, had, flag, f, g, room, set_flag)))
      (tree_step key shares ws vs id v fit at u m w can.inside (record {
        trees_here = omega (arith, free, can.paid, less_here u n v.paid);
        trees_else = λ d ne. less_else u d n v.paid ne;
        reserved_here = omega (arith, held, set_flag, mine, is_at_none u);
        reserved_else = λ d ne. is_at_none d ∙ sym (ap (is_at d) can.reserving ∙ is_at_else u d ne);
        charged = λ d. refl;
        blocks = same_blocks v w refl refl refl;
        rights = same_rights v w share refl refl refl refl;
        free = omega (arith, free, room);
        reserved = omega (arith, held);
      })
      (still_paying key v i share (less u n v.paid) None (t v.moves)
      (λ d far. omega (arith, less-le u d n v.paid, i.paid d far)) (λ d far. is_at_none d)
      (amount_less u n v.paid i.some_paid)))

  pub collect_keeps : (u seen found : ℕ) → CanCollect key v u → get_or ws (tree_place key u) 0 ≡ seen
      → Fit key shares (set ws (tree_place key u) (turned (collect u seen) found)) (set vs id (effect t (collect u seen) found v))
  collect_keeps u seen found can made =
      let i : IsViewOf key v = view_of key shares ws vs id v fit at in
      let w : View = effect t (collect u seen) found v in
      let had : tree_free_of key ws u ≡ free_in seen = tree_free_is key ws u ∙ ap free_in made in
      let flag : reserved_of key ws u ≡ flag_in seen = reserved_is key ws u ∙ ap flag_in made in
      let m : ℕ = entry_word 0 (flag_in seen) in
      let free : free_in m ≡ 0 = free_in-entry_word 0 (flag_in seen) (omega arith) in
      let held : flag_in m ≡ flag_in seen = flag_in-entry_word 0 (flag_in seen) (omega arith) in
      lands key shares (with_tree key ws u m) (set ws (tree_place key u) m) (set vs id w) (as_tree key ws u m m refl)
      (tree_step key shares ws vs id v fit at u m w can.inside (record {
        trees_here = omega (arith, free, had, more_here u (free_in seen) v.paid i.some_paid can.paid);
        trees_else = λ d ne. more_else u d (free_in seen) v.paid ne can.paid;
        reserved_here = omega (arith, held, flag);
        reserved_else = λ d ne. refl;
        charged = λ d. refl;
        blocks = same_blocks v w refl refl refl;
        rights = same_rights v w share refl refl refl refl;
        free = omega (arith, free);
        reserved = omega (arith, held, flag, fit.words_in_range.reserved u can.inside);
      })
      (still_paying key v i share (more u (free_in seen) v.paid) v.reserving (t v.moves)
      (λ d far. more_else u d (free_in seen) v.paid (λ e. omega (arith, can.inside)) can.paid ∙ i.paid d far)
      i.reserving (amount_more u (free_in seen) v.paid i.some_paid)))
