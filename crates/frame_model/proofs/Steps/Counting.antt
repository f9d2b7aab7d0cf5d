-- A charge of the entry of a child, and its refund.
use Rattle.std.proofs.Common.{◌≡◌, ℕ, ◌+◌, ◌-◌, ◌*◌, ◌%◌, ◌^◌, ◌<◌, ◌≤◌, List, get_or, set, refl, ap, sym, ◌∙◌, arith}
use mathlib.Core.Option.{some}
use lib.ListN.{get_elem?}
use Rattle.frame_words.specs.Words.{entry_word, free_in, flag_in, lane_in, lane_put, lane_shift}
use Rattle.frame_words.proofs.WordLemmas.{free_in-entry_word, flag_in-entry_word, entry_word-lt, free_in-lt}
use Rattle.frame_model.specs.declared.key.Key.{Key}
use Rattle.frame_model.specs.declared.view.View.{View}
use Rattle.frame_model.specs.Words.{entry_place, entry_of, free_of, huge_of, with_entry}
use Rattle.frame_model.specs.View.{charged_in, LiesIn, IsViewOf}
use Rattle.frame_model.specs.Fit.{Fit}
use Rattle.frame_model.specs.Steps.{charge, refund, effect, turned}
use Rattle.frame_model.specs.Steps.Amounts.{more, less}
use Rattle.frame_model.specs.Steps.Conditions.{CanCharge, CanRefund}
use Rattle.frame_model.proofs.Lanes.{lane_added}
use Rattle.frame_model.proofs.Amounts.{more_here, more_else, less_here, less_else, less-le, amount_more, amount_less}
use Rattle.frame_model.proofs.Words.{held_is, child-has-lane}
use Rattle.frame_model.proofs.Balances.{entry_step}
use Rattle.frame_model.proofs.Steps.Shared.{free_is, flag_is, free_of_is, huge_of_is, entry_of_is, as_entry, lands, same_rights}
use Rattle.frame_model.proofs.Steps.Shared.{still_charging, view_of, at-le-total}

module _ (t : ℕ → ℕ) (key : Key) (shares : ℕ) (ws : List ℕ) (vs : List View) (id : ℕ) (v : View)
    (fit : Fit key shares ws vs) (at : get_elem? vs id ≡ some v) (share : 0 < v.share) where
  pub charge_keeps : (c seen n found : ℕ) → CanCharge key v c seen n → get_or ws (entry_place c) 0 ≡ seen
      → Fit key shares (set ws (entry_place c) (turned (charge c seen n) found)) (set vs id (effect t (charge c seen n) found v))
  charge_keeps c seen n found can made =
      let i : IsViewOf key v = view_of key shares ws vs id v fit at in
      let w : View = effect t (charge c seen n) found v in
      let l : LiesIn v c = can.one_child in
      let here : entry_of ws c ≡ lane_in seen c = entry_of_is ws c ∙ ap (λ m. lane_in m c) made in
      let had : free_of ws c ≡ free_in (lane_in seen c) = free_of_is ws c ∙ ap free_in here in
      let flag : huge_of ws c ≡ 0 = huge_of_is ws c ∙ ap flag_in here ∙ can.no_flag in
      let e : ℕ = entry_word (free_in (lane_in seen c) - n) 0 in
      let low : free_in (lane_in seen c) - n < 2 ^ 15 = omega (arith, free_in-lt (lane_in seen c)) in
      let free : free_in e ≡ free_in (lane_in seen c) - n = free_in-entry_word (free_in (lane_in seen c) - n) 0 low in
      let huge : flag_in e ≡ 0 = flag_in-entry_word (free_in (lane_in seen c) - n) 0 low in
      let more_c = more_here c n v.charged i.some_charged l.charged in
      lands key shares (with_entry ws c e) (set ws (entry_place c) (lane_put seen c e)) (set vs id w)
      (as_entry ws c e (lane_put seen c e) (ap (λ m. lane_put m c e) (sym made)))
      (entry_step key shares ws vs id v fit at c e w can.inside (entry_word-lt (free_in (lane_in seen c) - n) 0 low (omega arith)) (record {
        wholes_here = omega (arith, huge, flag);
        wholes_else = λ d ne. refl;
        marks = λ x. refl;
        apart_here = λ x q s. omega (arith, fit.apart x q, huge);
        smalls_else = λ x ne. refl;
        entries_here = omega (arith, free, huge, had, flag, held_is key ws c, can.enough, more_c);
        entries_else = λ d ne. more_else c d n v.charged ne l.charged;
        trees_here = omega (arith, huge, flag, held_is key ws c);
        trees_else = λ u ne. refl;
        reserves = λ u. refl;
        rights = same_rights v w share refl refl refl refl;
        free = omega (arith, free, had, fit.words_in_range.free c can.inside);
        huge = omega (arith, huge);
      })
      (still_charging key v i share (more c n v.charged) (t v.moves) c
      (λ d ne. more_else c d n v.charged ne l.charged ∙ l.charged d ne) l.smalls l.wholes
      (λ d far. more_else c d n v.charged (λ e. omega (arith, can.inside)) l.charged ∙ i.charged d far)
      (amount_more c n v.charged i.some_charged)))

  pub refund_keeps : (c n : ℕ) → CanRefund key v c n
      → Fit key shares (set ws (entry_place c) (turned (refund c n) (get_or ws (entry_place c) 0)))
      (set vs id (effect t (refund c n) (get_or ws (entry_place c) 0) v))
  refund_keeps c n can =
      let i : IsViewOf key v = view_of key shares ws vs id v fit at in
      let found : ℕ = get_or ws (entry_place c) 0 in
      let w : View = effect t (refund c n) found v in
      let l : LiesIn v (i.one_child share).0 = (i.one_child share).1 in
      let e : ℕ = entry_of ws c + n in
      let parts : free_of ws c + 32768 * huge_of ws c ≡ entry_of ws c = omega (
        arith,
        free_of_is ws c,
        huge_of_is ws c,
        free_is (entry_of ws c),
        flag_is (entry_of ws c),
      ) in
      let room : free_of ws c + n ≤ 512 = omega (
        arith,
        fit.entries_add_up c can.inside,
        at-le-total key shares ws vs id v fit at (charged_in c),
        can.charged,
      ) in
      let flag : huge_of ws c ≤ 1 = fit.words_in_range.huge c can.inside in
      let small : e < 65536 = omega (arith, parts, room, flag) in
      let free : free_in e ≡ free_of ws c + n = omega (arith, free_is e, parts, room, flag) in
      let huge : flag_in e ≡ huge_of ws c = omega (arith, flag_is e, parts, room, flag) in
      let less_c = less_here c n v.charged in
      let below : found < 2 ^ 64 = fit.words_in_range.entry_words c (child-has-lane key c can.inside) in
      let same : lane_in found c ≡ entry_of ws c = sym (entry_of_is ws c) in
      lands key shares (with_entry ws c e) (set ws (entry_place c) ((found + n * lane_shift c) % 2 ^ 64)) (set vs id w)
      (as_entry ws c e ((found + n * lane_shift c) % 2 ^ 64)
      (lane_added found c n below (omega (arith, same, small)) ∙ ap (λ m. lane_put found c (m + n)) same))
      (entry_step key shares ws vs id v fit at c e w can.inside small (record {
        wholes_here = omega (arith, huge);
        wholes_else = λ d ne. refl;
        marks = λ x. refl;
        apart_here = λ x q s. omega (arith, fit.apart x q, huge, ap (huge_of ws) s);
        smalls_else = λ x ne. refl;
        entries_here = omega (arith, free, huge, held_is key ws c, can.charged, less_c);
        entries_else = λ d ne. less_else c d n v.charged ne;
        trees_here = omega (arith, huge, held_is key ws c);
        trees_else = λ u ne. refl;
        reserves = λ u. refl;
        rights = same_rights v w share refl refl refl refl;
        free = omega (arith, free, room);
        huge = omega (arith, huge, flag);
      })
      (still_charging key v i share (less c n v.charged) (t v.moves) (i.one_child share).0
      (λ d ne. omega (arith, less-le c d n v.charged, l.charged d ne)) l.smalls l.wholes
      (λ d far. omega (arith, less-le c d n v.charged, i.charged d far)) (amount_less c n v.charged i.some_charged)))
