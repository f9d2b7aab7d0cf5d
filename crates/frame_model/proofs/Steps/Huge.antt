-- Steps on the entry of a huge frame: it is taken, it is given, and its flag is dropped once its words are filled.
use Rattle.std.proofs.Common.{◌≡◌, ◌≢◌, ⊎_elim, ℕ, ◌+◌, ◌-◌, ◌*◌, ◌/◌, ◌%◌, ◌^◌, ◌<◌, List, [], ◌∷◌, get_or, set, refl, ap, sym, ◌∙◌, arith}
use Rattle.std.proofs.lemmas.List.Elements.{All-cons}
use Rattle.std.proofs.lemmas.Bool.{cases_eq}
use mathlib.Core.Option.{some}
use lib.ListN.{get_elem?}
use Rattle.frame_words.specs.Words.{entry_word, free_in, flag_in, lane_in, lane_put, lane_shift}
use Rattle.frame_words.proofs.WordLemmas.{free_in-entry_word, flag_in-entry_word, entry_word-lt}
use Rattle.frame_model.specs.declared.block.FrameBlock.{FrameBlock}
use Rattle.frame_model.specs.declared.key.Key.{Key}
use Rattle.frame_model.specs.declared.view.View.{View}
use Rattle.frame_model.specs.Key.{tree_of_child, child_of}
use Rattle.frame_model.specs.Block.{block, IsBlock, small_at, whole_at, smalls, wholes}
use Rattle.frame_model.specs.Words.{entry_place, entry_of, free_of, huge_of, set_of, with_entry}
use Rattle.frame_model.specs.View.{NoneBut, names, charged_in, LiesIn, IsViewOf}
use Rattle.frame_model.specs.Fit.{total, Fit}
use Rattle.frame_model.specs.Steps.{take_huge, give_huge, drop_flag, Rest, effect, turned}
use Rattle.frame_model.specs.Steps.Amounts.{more, less}
use Rattle.frame_model.specs.Steps.Conditions.{CanTakeHuge, CanGiveHuge, CanDropFlag}
use Rattle.frame_model.proofs.Lanes.{lane_taken}
use Rattle.frame_model.proofs.Amounts.{one_place, more_here, more_else, less_here, less_else, less-le, amount_more, amount_less, names_none}
use Rattle.frame_model.proofs.Blocks.{smalls_cons, wholes_cons, not_small, not_whole, whole_here, whole_else, child_is_block, half_is_block}
use Rattle.frame_model.proofs.Blocks.{other_half_is_block, halves_here, halves_else}
use Rattle.frame_model.proofs.Sets.{bit-le-set, set_none, set_full}
use Rattle.frame_model.proofs.Words.{held_is, child-has-lane}
use Rattle.frame_model.proofs.Balances.{entry_step, set-le}
use Rattle.frame_model.proofs.Steps.Shared.{free_is, flag_is, free_of_is, huge_of_is, entry_of_is, as_entry, lands, same_rights, still}
use Rattle.frame_model.proofs.Steps.Shared.{lies_in_whole, view_of, smalls-le-bit, flag_set, no_smalls, bit_filled}

module _ (t : ℕ → ℕ) (key : Key) (shares : ℕ) (ws : List ℕ) (vs : List View) (id : ℕ) (v : View)
    (fit : Fit key shares ws vs) (at : get_elem? vs id ≡ some v) (share : 0 < v.share) where
  pub take_huge_keeps : (c seen found : ℕ) → CanTakeHuge key v c seen → get_or ws (entry_place c) 0 ≡ seen
      → Fit key shares (set ws (entry_place c) (turned (take_huge c seen) found)) (set vs id (effect t (take_huge c seen) found v))
  take_huge_keeps c seen found can made =
      let i : IsViewOf key v = view_of key shares ws vs id v fit at in
      let b : FrameBlock = block (512 * c) 9 in
      let w : View = effect t (take_huge c seen) found v in
      let l : LiesIn v c = can.one_child in
      let here : entry_of ws c ≡ 512 = entry_of_is ws c ∙ ap (λ m. lane_in m c) made ∙ can.all_free in
      let had : free_of ws c ≡ 512 = omega (arith, free_of_is ws c, free_is (entry_of ws c), here) in
      let flag : huge_of ws c ≡ 0 = omega (arith, huge_of_is ws c, flag_is (entry_of ws c), here) in
      let none : set_of key ws c ≡ 0 = omega (arith, held_is key ws c, fit.entries_add_up c can.inside, had) in
      let e : ℕ = entry_word 0 1 in
      let free : free_in e ≡ 0 = free_in-entry_word 0 1 (omega arith) in
      let huge : flag_in e ≡ 1 = flag_in-entry_word 0 1 (omega arith) in
      let none_paid : NoneBut (tree_of_child c) v.paid = one_place (c / 8) v.paid (omega (arith, can.paid)) in
      let same_small : (x : ℕ) → smalls x (b ∷ v.own) ≡ smalls x v.own = λ x. omega (arith, smalls_cons x b v.own, not_small x b refl) in
      lands key shares (with_entry ws c e) (set ws (entry_place c) (lane_put seen c e)) (set vs id w)
      (as_entry ws c e (lane_put seen c e) (ap (λ m. lane_put m c e) (sym made)))
      (entry_step key shares ws vs id v fit at c e w can.inside (entry_word-lt 0 1 (omega arith) (omega arith)) (record {
        wholes_here = omega (arith, huge, flag, wholes_cons c b v.own, whole_here c);
        wholes_else = λ d ne. omega (arith, wholes_cons d b v.own, whole_else c d ne);
        marks = λ x. omega (arith, same_small x);
        apart_here = λ x q s. omega (
          arith,
          huge,
          same_small x,
          smalls-le-bit key shares ws vs id v fit at x q,
          bit-le-set key ws x fit.words_in_range.count q,
          none,
          ap (set_of key ws) s,
        );
        smalls_else = λ x ne. omega (arith, same_small x);
        entries_here = omega (arith, free, huge, had, flag, none, held_is key ws c);
        entries_else = λ d ne. refl;
        trees_here = omega (arith, huge, flag, none, held_is key ws c, can.paid, less_here (c / 8) 512 v.paid);
        trees_else = λ d ne. less_else (c / 8) d 512 v.paid ne;
        reserves = λ d. refl;
        rights = same_rights v w share refl refl refl refl;
        free = omega (arith, free);
        huge = omega (arith, huge);
      })
      (still key v i share v.charged (less (tree_of_child c) 512 v.paid) v.reserving (b ∷ v.own) v.filled (t v.moves)
      (All-cons (IsBlock key) b v.own (child_is_block key c can.inside) i.own) c
      (record {
        charged = l.charged;
        smalls = λ x ne. omega (arith, same_small x, l.smalls x ne);
        wholes = λ d ne. omega (arith, wholes_cons d b v.own, l.wholes d ne, whole_else c d ne);
      })
      (λ d q. ((i.filled d q).inside, omega (arith, (i.filled d q).own, wholes_cons (d / 8) b v.own)))
      i.charged (λ d far. omega (arith, less-le (c / 8) d 512 v.paid, i.paid d far)) i.reserving i.some_charged
      (amount_less (c / 8) 512 v.paid i.some_paid)))

  -- the entry of a huge frame in flight, with none of its words filled or all of them
  module _ (c : ℕ) (h : c < key.children) (own : 0 < wholes c v.own) where
    huge_entry : (free_of ws c ≡ 0) × (huge_of ws c ≡ 1) × (entry_of ws c ≡ 32768) × (total key (charged_in c) vs ≡ 0)
    huge_entry =
        let flag : huge_of ws c ≡ 1 = flag_set key shares ws vs id v fit at c h own in
        let none : free_of ws c ≡ 0 = omega (arith, held_is key ws c, fit.entries_add_up c h, flag) in (
          none,
          flag,
          omega (
            arith,
            free_of_is ws c,
            huge_of_is ws c,
            free_is (entry_of ws c),
            flag_is (entry_of ws c),
            flag,
            none,
          ),
          omega (arith, held_is key ws c, fit.entries_add_up c h, flag),
        )

    unset : ((k : ℕ) → k / 8 ≡ c → names k v.filled ≡ 0) → set_of key ws c ≡ 0
    unset none = set_none key ws c fit.words_in_range h
        (λ x s. omega (arith, bit_filled key shares ws vs id v fit at c x h own s, none (x / 64) (omega arith)))

    all_set : ((k : ℕ) → k / 8 ≡ c → names k v.filled ≡ 1) → set_of key ws c ≡ 512
    all_set all = omega (
      arith,
      set-le key ws c fit.words_in_range h,
      set_full key ws c fit.words_in_range h
          (λ x s. omega (arith, bit_filled key shares ws vs id v fit at c x h own s, all (x / 64) (omega arith))),
    )

  pub give_huge_keeps : (c : ℕ) (rest : Rest) → CanGiveHuge key v c (rest v.own)
      → Fit key shares (set ws (entry_place c) (turned (give_huge c rest) (get_or ws (entry_place c) 0)))
      (set vs id (effect t (give_huge c rest) (get_or ws (entry_place c) 0) v))
  give_huge_keeps c rest can =
      let i : IsViewOf key v = view_of key shares ws vs id v fit at in
      let found : ℕ = get_or ws (entry_place c) 0 in
      let b : FrameBlock = block (512 * c) 9 in
      let w : View = effect t (give_huge c rest) found v in
      let own : 0 < wholes c v.own = omega (arith, can.leaves.wholes c, whole_here c) in
      let l : LiesIn v c = lies_in_whole key v i share c own in
      let entry = huge_entry c can.inside own in
      let none : set_of key ws c ≡ 0 = unset c can.inside own can.unfilled in
      let free : free_in 512 ≡ 512 = free_is 512 in
      let huge : flag_in 512 ≡ 0 = flag_is 512 in
      let same_small : (x : ℕ) → smalls x (rest v.own) ≡ smalls x v.own = λ x. omega (arith, can.leaves.smalls x, not_small x b refl) in
      let below : found < 2 ^ 64 = fit.words_in_range.entry_words c (child-has-lane key c can.inside) in
      let same : lane_in found c ≡ 32768 = sym (entry_of_is ws c) ∙ entry.2 in
      lands key shares (with_entry ws c 512) (set ws (entry_place c) ((found + (2 ^ 64 - 32256 * lane_shift c)) % 2 ^ 64)) (set vs id w)
      (as_entry ws c 512 ((found + (2 ^ 64 - 32256 * lane_shift c)) % 2 ^ 64)
      (lane_taken found c 32256 below (omega (arith, same)) ∙ ap (λ m. lane_put found c (m - 32256)) same))
      (entry_step key shares ws vs id v fit at c 512 w can.inside (omega arith) (record {
        wholes_here = omega (arith, huge, entry.1, can.leaves.wholes c, whole_here c);
        wholes_else = λ d ne. omega (arith, can.leaves.wholes d, whole_else c d ne);
        marks = λ x. omega (arith, same_small x);
        apart_here = λ x q s. omega (arith, huge, same_small x, fit.apart x q);
        smalls_else = λ x ne. omega (arith, same_small x);
        entries_here = omega (arith, free, huge, entry.0, entry.1, none, held_is key ws c);
        entries_else = λ d ne. refl;
        trees_here = omega (
          arith,
          huge,
          entry.1,
          none,
          held_is key ws c,
          more_here (c / 8) 512 v.paid i.some_paid can.paid,
        );
        trees_else = λ d ne. more_else (c / 8) d 512 v.paid ne can.paid;
        reserves = λ d. refl;
        rights = same_rights v w share refl refl refl refl;
        free = omega (arith, free);
        huge = omega (arith, huge);
      })
      (still key v i share v.charged (more (tree_of_child c) 512 v.paid) v.reserving (rest v.own) v.filled
      (t v.moves) can.leaves.are_blocks c
      (record {
        charged = l.charged;
        smalls = λ x ne. omega (arith, same_small x, l.smalls x ne);
        wholes = λ d ne. omega (arith, can.leaves.wholes d, l.wholes d ne);
      })
      (λ d q.
      let z = i.filled d q in
      ⊎_elim (λ e. absurd (omega (arith, q, can.unfilled d e)))
      (λ ne. (z.inside, omega (arith, z.own, can.leaves.wholes (d / 8), whole_else c (d / 8) ne))) (cases_eq (d / 8) c))
      i.charged (λ d far. more_else (c / 8) d 512 v.paid (λ e. omega (arith, can.inside)) can.paid ∙ i.paid d far)
      i.reserving i.some_charged (amount_more (c / 8) 512 v.paid i.some_paid)))

  pub drop_flag_keeps : (c : ℕ) (rest : Rest) → CanDropFlag key v c (rest v.own)
      → Fit key shares (set ws (entry_place c) (turned (drop_flag c rest) (get_or ws (entry_place c) 0)))
      (set vs id (effect t (drop_flag c rest) (get_or ws (entry_place c) 0) v))
  drop_flag_keeps c rest can =
      let i : IsViewOf key v = view_of key shares ws vs id v fit at in
      let found : ℕ = get_or ws (entry_place c) 0 in
      let b : FrameBlock = block (512 * c) 9 in
      let low : FrameBlock = block (512 * c) 8 in
      let high : FrameBlock = block (512 * c + 256) 8 in
      let w : View = effect t (drop_flag c rest) found v in
      let own : 0 < wholes c v.own = omega (arith, can.leaves.wholes c, whole_here c) in
      let l : LiesIn v c = lies_in_whole key v i share c own in
      let entry = huge_entry c can.inside own in
      let all : set_of key ws c ≡ 512 = all_set c can.inside own can.filled in
      let free : free_in 0 ≡ 0 = free_is 0 in
      let huge : flag_in 0 ≡ 0 = flag_is 0 in
      let smalls_now : (x : ℕ) → smalls x w.own ≡ small_at x low + small_at x high + smalls x v.own =
      λ x. omega (
        arith,
        smalls_cons x low (high ∷ rest v.own),
        smalls_cons x high (rest v.own),
        can.leaves.smalls x,
        not_small x b refl,
      ) in
      let wholes_now : (d : ℕ) → wholes d w.own + whole_at d b ≡ wholes d v.own =
      λ d. omega (
        arith,
        wholes_cons d low (high ∷ rest v.own),
        wholes_cons d high (rest v.own),
        can.leaves.wholes d,
        not_whole d low (omega arith),
        not_whole d high (omega arith),
      ) in
      let not_filled : (x : ℕ) → child_of x ≢ c → names (x / 64) v.filled ≡ 0 =
      λ x ne.
      ⊎_elim (λ z. z) (λ p.
      absurd (omega (
        arith,
        (i.filled (x / 64) (omega (arith, p))).own,
        l.wholes (x / 64 / 8) (λ e. ne (omega arith)),
      ))) (cases_eq (names (x / 64) v.filled) 0) in
      let below : found < 2 ^ 64 = fit.words_in_range.entry_words c (child-has-lane key c can.inside) in
      let same : lane_in found c ≡ 32768 = sym (entry_of_is ws c) ∙ entry.2 in
      lands key shares (with_entry ws c 0) (set ws (entry_place c) ((found + (2 ^ 64 - 32768 * lane_shift c)) % 2 ^ 64)) (set vs id w)
      (as_entry ws c 0 ((found + (2 ^ 64 - 32768 * lane_shift c)) % 2 ^ 64)
      (lane_taken found c 32768 below (omega (arith, same)) ∙ ap (λ m. lane_put found c (m - 32768)) same))
      (entry_step key shares ws vs id v fit at c 0 w can.inside (omega arith) (record {
        wholes_here = omega (arith, huge, entry.1, wholes_now c, whole_here c);
        wholes_else = λ d ne. omega (arith, wholes_now d, whole_else c d ne);
        marks = λ x.
            ⊎_elim
            (λ s. omega (
              arith,
              smalls_now x,
              halves_here c x s,
              can.filled (x / 64) (omega arith),
              names_none (x / 64),
            ))
            (λ ne. omega (arith, smalls_now x, halves_else c x ne, not_filled x ne, names_none (x / 64)))
            (cases_eq (child_of x) c);
        apart_here = λ x q s. omega (
          arith,
          huge,
          smalls_now x,
          halves_here c x s,
          no_smalls key shares ws vs id v fit at c x can.inside own s,
        );
        smalls_else = λ x ne. omega (arith, smalls_now x, halves_else c x ne);
        entries_here = omega (arith, free, huge, entry.0, entry.1, all, held_is key ws c);
        entries_else = λ d ne. refl;
        trees_here = omega (arith, huge, entry.1, all, held_is key ws c);
        trees_else = λ d ne. refl;
        reserves = λ d. refl;
        rights = same_rights v w share refl refl refl refl;
        free = omega (arith, free);
        huge = omega (arith, huge);
      })
      (still key v i share v.charged v.paid v.reserving (low ∷ high ∷ rest v.own) [] (t v.moves)
      (All-cons (IsBlock key) low (high ∷ rest v.own) (half_is_block key c can.inside)
      (All-cons (IsBlock key) high (rest v.own) (other_half_is_block key c can.inside) can.leaves.are_blocks)) c
      (record {
        charged = l.charged;
        smalls = λ x ne. omega (arith, smalls_now x, halves_else c x ne, l.smalls x ne);
        wholes = λ d ne. omega (arith, wholes_now d, l.wholes d ne);
      })
      (λ d q. absurd (omega (arith, q, names_none d)))
      i.charged i.paid i.reserving i.some_charged i.some_paid))
