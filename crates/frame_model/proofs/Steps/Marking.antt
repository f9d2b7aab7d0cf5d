-- Steps on a bit word: a claim of a run, its release, and the filling of a word of a huge frame.
use Rattle.std.proofs.Common.{◌≡◌, ⊎_elim, ℕ, ◌+◌, ◌-◌, ◌*◌, ◌/◌, ◌%◌, ◌^◌, ◌<◌, ◌≤◌, List, [], ◌∷◌, ◌++◌, get_or, set, refl, ap, sym, subst, ◌∙◌}
use Rattle.std.proofs.Common.{arith}
use Rattle.std.specs.Int.{bit_at, bit_not, w64}
use Rattle.std.specs.Int.Count.{ones}
use Rattle.std.specs.Int.Bits.{bit_and, bit_or}
use Rattle.std.proofs.lemmas.List.Elements.{All-append}
use Rattle.std.proofs.lemmas.Bool.{cases_eq}
use Rattle.std.proofs.lemmas.Nat.{pow_pos, or_lt, and_le_l}
use Rattle.std.proofs.lemmas.Nat.Bits.{bit_at_and, bit_at_or, bit_at-lt, bit_at-zero}
use mathlib.Core.Option.{some}
use lib.ListN.{get_elem?}
use Rattle.frame_model.specs.declared.block.FrameBlock.{FrameBlock}
use Rattle.frame_model.specs.declared.key.Key.{Key}
use Rattle.frame_model.specs.declared.view.View.{View}
use Rattle.frame_model.specs.Key.{frame_count, child_of}
use Rattle.frame_model.specs.Block.{block, IsBlock, smalls, wholes, single_blocks}
use Rattle.frame_model.specs.Words.{run, bits_place, bit_word_of, bit_of, set_of, huge_of, with_bits}
use Rattle.frame_model.specs.View.{NoneBut, names, small_in, charged_in, paid_on, LiesIn, IsViewOf}
use Rattle.frame_model.specs.Fit.{total, Fit}
use Rattle.frame_model.specs.Steps.{claim, claim_singles, release, fill_word, Rest, effect, turned}
use Rattle.frame_model.specs.Steps.Amounts.{put_in, more, less, IsRun}
use Rattle.frame_model.specs.Steps.Conditions.{CanClaim, CanClaimSingles, CanRelease, CanFillWord}
use Rattle.frame_model.proofs.Amounts.{one_place, more_here, more_else, less_here, less_else, less-le, amount_more, amount_less, names_here}
use Rattle.frame_model.proofs.Amounts.{names_else, names_put}
use Rattle.frame_model.proofs.Bits.{ones_disjoint, ones_run, ones_clear, bit_at_clear, run-lt, some_ones}
use Rattle.frame_model.proofs.Blocks.{smalls_both, wholes_both, run_here, run_else, not_whole, in_block, AreAt, run_at}
use Rattle.frame_model.proofs.Chosen.{singles_at}
use Rattle.frame_model.proofs.Sets.{bit_at_full, or_full}
use Rattle.frame_model.proofs.Words.{held_is}
use Rattle.frame_model.proofs.Balances.{bits_step, set-le}
use Rattle.frame_model.proofs.Steps.Shared.{bit_word_is, bit_is, as_bits, lands, same_rights, still, lies_in_charged, lies_in_owned}
use Rattle.frame_model.proofs.Steps.Shared.{lies_in_whole, view_of, at-le-total, smalls-le-bit, flag_set, bit_filled}

module _ (t : ℕ → ℕ) (key : Key) (shares : ℕ) (ws : List ℕ) (vs : List View) (id : ℕ) (v : View)
    (fit : Fit key shares ws vs) (at : get_elem? vs id ≡ some v) (share : 0 < v.share) where
  -- clear bits of a word are set, and blocks that hold just their frames are in flight
  bits_keep : (k seen m n : ℕ) (bs : List FrameBlock) → k < 8 * key.children → AreAt key k m bs → m < 2 ^ 64 → ones m ≡ n → 0 < n
      → bit_and seen m ≡ 0 → n ≤ charged_in (k / 8) v → n ≤ paid_on (k / 64) v → get_or ws (bits_place key k) 0 ≡ seen
      → Fit key shares (set ws (bits_place key k) (bit_or seen m)) (set vs id (record v {
        charged = less (k / 8) n v.charged;
        paid = less (k / 64) n v.paid;
        own = bs ++ v.own;
        moves = t v.moves;
      }))
  bits_keep k seen m size bs inside are mf count above was_clear charged paid made =
      let i : IsViewOf key v = view_of key shares ws vs id v fit at in
      let n : ℕ = bit_word_of key ws k in
      let w : View = record v {
        charged = less (k / 8) size v.charged;
        paid = less (k / 64) size v.paid;
        own = bs ++ v.own;
        moves = t v.moves;
      } in
      let was : n ≡ seen = bit_word_is key ws k ∙ made in
      let clear : bit_and n m ≡ 0 = ap (λ x. bit_and x m) was ∙ was_clear in
      let l : LiesIn v (k / 8) = lies_in_charged key v i share (k / 8) (omega (arith, charged, above)) in
      let none_paid : NoneBut (k / 64) v.paid = one_place (k / 64) v.paid (omega (arith, paid, above)) in
      let nf : n < 2 ^ 64 = fit.words_in_range.bits k inside in
      let flag : huge_of ws (k / 8) ≡ 0 = omega (
        arith,
        held_is key ws (k / 8),
        fit.entries_add_up (k / 8) (omega (arith, inside)),
        at-le-total key shares ws vs id v fit at (charged_in (k / 8)),
        charged,
        above,
      ) in
      let added : ones (bit_or n m) ≡ ones n + size = omega (arith, ones_disjoint n m nf mf clear, count) in
      let bits : (x : ℕ) → x / 64 ≡ k → bit_at (bit_or n m) (x % 64) ≡ bit_of key ws x + smalls x bs =
      λ x e. omega (
        arith,
        are.here x e,
        bit_is key ws x k e,
        bit_at_or n m (x % 64),
        bit_at_and n m (x % 64),
        ap (λ a. bit_at a (x % 64)) clear,
        bit_at-zero (x % 64),
        bit_at-lt n (x % 64),
        bit_at-lt m (x % 64),
      ) in
      let lies : LiesIn w (k / 8) = record {
        charged = λ d ne. less_else (k / 8) d size v.charged ne ∙ l.charged d ne;
        smalls = λ x ne. omega (
          arith,
          smalls_both x bs v.own,
          l.smalls x ne,
          are.elsewhere x (λ e. ne (omega arith)),
        );
        wholes = λ d ne. omega (arith, wholes_both d bs v.own, l.wholes d ne, are.no_wholes d);
      } in
      lands key shares (with_bits key ws k (bit_or n m)) (set ws (bits_place key k) (bit_or seen m)) (set vs id w)
      (as_bits key ws k (bit_or n m) (bit_or seen m) (ap (λ x. bit_or x m) (sym was)))
      (bits_step key shares ws vs id v fit at k (bit_or n m) w inside (record {
        bits_here = λ x e. omega (arith, smalls_both x bs v.own, bits x e);
        bits_else = λ x ne. omega (arith, smalls_both x bs v.own, are.elsewhere x ne);
        apart = λ x q.
            ⊎_elim
            (λ e. omega (
              arith,
              smalls_both x bs v.own,
              bits x e,
              smalls-le-bit key shares ws vs id v fit at x q,
              bit_at-lt (bit_or n m) (x % 64),
              flag,
              ap (huge_of ws) (in_child x e),
            ))
            (λ ne. omega (arith, smalls_both x bs v.own, are.elsewhere x ne, fit.apart x q))
            (cases_eq (x / 64) k);
        wholes = λ d. omega (arith, wholes_both d bs v.own, are.no_wholes d);
        entries_here = λ s few e. omega (
          arith,
          added,
          e,
          charged,
          less_here (k / 8) size v.charged,
          held_is key ws (k / 8),
          flag,
        );
        entries_else = λ d ne. less_else (k / 8) d size v.charged ne;
        trees_here = λ s few e. omega (
          arith,
          added,
          e,
          paid,
          less_here (k / 64) size v.paid,
          held_is key ws (k / 8),
          flag,
        );
        trees_else = λ d ne. less_else (k / 64) d size v.paid ne;
        reserves = λ d. refl;
        rights = same_rights v w share refl refl refl refl;
        below = or_lt 64 n m nf mf;
      })
      (still key v i share (less (k / 8) size v.charged) (less (k / 64) size v.paid) v.reserving
      (bs ++ v.own) v.filled (t v.moves) (All-append (IsBlock key) bs v.own are.are_blocks i.own) (k / 8)
      (record { charged = lies.charged; smalls = lies.smalls; wholes = lies.wholes })
      (λ d q. ((i.filled d q).inside, omega (arith, (i.filled d q).own, wholes_both (d / 8) bs v.own)))
      (λ d far. omega (arith, less-le (k / 8) d size v.charged, i.charged d far))
      (λ d far. omega (arith, less-le (k / 64) d size v.paid, i.paid d far)) i.reserving
      (amount_less (k / 8) size v.charged i.some_charged) (amount_less (k / 64) size v.paid i.some_paid)))
    where
      in_child : (x : ℕ) → x / 64 ≡ k → child_of x ≡ k / 8
      in_child x e = omega arith

  pub claim_keeps : (k seen from o found : ℕ) → CanClaim key v k seen from o
      → get_or ws (bits_place key k) 0 ≡ seen
      → Fit key shares (set ws (bits_place key k) (turned (claim k seen from o) found)) (set vs id (effect t (claim k seen from o) found v))
  claim_keeps k seen from o found can =
      let r : IsRun key k from o = can.is_run in
      bits_keep k seen (run from (2 ^ o)) (2 ^ o) (block (64 * k + from) o ∷ []) r.inside (run_at key k from o r)
      (run-lt from (2 ^ o) r.fits) (ones_run from (2 ^ o)) (pow_pos o) can.clear can.charged can.paid

  pub claim_singles_keeps : (k seen m : ℕ) → CanClaimSingles key v k seen m → get_or ws (bits_place key k) 0 ≡ seen
      → Fit key shares (set ws (bits_place key k) (turned (claim_singles k seen m) (get_or ws (bits_place key k) 0)))
      (set vs id (effect t (claim_singles k seen m) (get_or ws (bits_place key k) 0) v))
  claim_singles_keeps k seen m can =
      bits_keep k seen m (ones m) (single_blocks k m) can.inside (singles_at key k m can.inside) can.fits refl (some_ones m can.some)
      can.clear can.charged can.paid

  pub release_keeps : (k from o : ℕ) (rest : Rest) → CanRelease key v k from o (rest v.own)
      → Fit key shares (set ws (bits_place key k) (turned (release k from o rest) (get_or ws (bits_place key k) 0)))
      (set vs id (effect t (release k from o rest) (get_or ws (bits_place key k) 0) v))
  release_keeps k from o rest can =
      let i : IsViewOf key v = view_of key shares ws vs id v fit at in
      let found : ℕ = get_or ws (bits_place key k) 0 in
      let n : ℕ = bit_word_of key ws k in
      let m : ℕ = run from (2 ^ o) in
      let x : ℕ = bit_and n (bit_not w64 m) in
      let b : FrameBlock = block (64 * k + from) o in
      let w : View = effect t (release k from o rest) found v in
      let r : IsRun key k from o = can.is_run in
      let was : n ≡ found = bit_word_is key ws k in
      let nf : n < 2 ^ 64 = fit.words_in_range.bits k r.inside in
      let mf : m < 2 ^ 64 = run-lt from (2 ^ o) r.fits in
      let small : o < 9 = omega (arith, r.small) in
      let room : from < 64 = omega (arith, r.fits, pow_pos o) in
      let first : ℕ = 64 * k + from in
      let there : child_of first ≡ k / 8 = omega arith in
      let inside : first < frame_count key = omega (arith, r.inside) in
      let owned : 1 ≤ smalls first v.own =
      omega (arith, can.leaves.smalls first, in_block first b small (omega arith) (omega (arith, pow_pos o))) in
      let l : LiesIn v (k / 8) = subst (LiesIn v) there (lies_in_owned key v i share first (omega (arith, owned))) in
      let flag : huge_of ws (k / 8) ≡ 0 = omega (
        arith,
        fit.apart first inside,
        at-le-total key shares ws vs id v fit at (small_in first),
        owned,
        ap (huge_of ws) there,
      ) in
      let within : (j : ℕ) → j < 64 → bit_at m j ≤ bit_at n j =
      λ j h.
      let y : ℕ = 64 * k + j in
      let here : y / 64 ≡ k = omega arith in
      let bit : y % 64 ≡ j = omega arith in
      omega (
        arith,
        can.leaves.smalls y,
        run_here k from o y r.small here,
        at-le-total key shares ws vs id v fit at (small_in y),
        smalls-le-bit key shares ws vs id v fit at y (omega (arith, r.inside)),
        bit_is key ws y k here,
        ap (bit_at m) bit,
        ap (bit_at n) bit,
      ) in
      let freed : ones x + 2 ^ o ≡ ones n = omega (arith, ones_clear n m nf mf within, ones_run from (2 ^ o)) in
      lands key shares (with_bits key ws k x) (set ws (bits_place key k) (bit_and found (bit_not w64 m)))
      (set vs id w) (as_bits key ws k x (bit_and found (bit_not w64 m)) (ap (λ y. bit_and y (bit_not w64 m)) (sym was)))
      (bits_step key shares ws vs id v fit at k x w r.inside (record {
        bits_here = λ y e. omega (
          arith,
          can.leaves.smalls y,
          run_here k from o y r.small e,
          bit_is key ws y k e,
          bit_at_clear n m nf mf within (y % 64) (omega arith),
        );
        bits_else = λ y ne. omega (arith, can.leaves.smalls y, run_else k from o y r.fits ne);
        apart = λ y q. omega (arith, fit.apart y q, can.leaves.smalls y);
        wholes = λ d. omega (arith, can.leaves.wholes d, not_whole d b small);
        entries_here = λ s few e. omega (
          arith,
          freed,
          e,
          more_here (k / 8) (2 ^ o) v.charged i.some_charged can.charged,
          held_is key ws (k / 8),
          flag,
        );
        entries_else = λ d ne. more_else (k / 8) d (2 ^ o) v.charged ne can.charged;
        trees_here = λ s few e. omega (
          arith,
          freed,
          e,
          more_here (k / 64) (2 ^ o) v.paid i.some_paid can.paid,
          held_is key ws (k / 8),
          flag,
        );
        trees_else = λ d ne. more_else (k / 64) d (2 ^ o) v.paid ne can.paid;
        reserves = λ d. refl;
        rights = same_rights v w share refl refl refl refl;
        below = omega (arith, and_le_l n (bit_not w64 m), nf);
      })
      (still key v i share (more (k / 8) (2 ^ o) v.charged) (more (k / 64) (2 ^ o) v.paid) v.reserving
      (rest v.own) v.filled (t v.moves) can.leaves.are_blocks (k / 8)
      (record {
        charged = λ d ne. more_else (k / 8) d (2 ^ o) v.charged ne can.charged ∙ can.charged d ne;
        smalls = λ y ne. omega (arith, can.leaves.smalls y, l.smalls y ne);
        wholes = λ d ne. omega (arith, can.leaves.wholes d, l.wholes d ne);
      })
      (λ d q. (
        (i.filled d q).inside,
        omega (
          arith,
          (i.filled d q).own,
          can.leaves.wholes (d / 8),
          not_whole (d / 8) b small,
        ),
      ))
      (λ d far. more_else (k / 8) d (2 ^ o) v.charged (λ e. omega (arith, r.inside)) can.charged ∙ i.charged d far)
      (λ d far. more_else (k / 64) d (2 ^ o) v.paid (λ e. omega (arith, r.inside)) can.paid ∙ i.paid d far) i.reserving
      (amount_more (k / 8) (2 ^ o) v.charged i.some_charged) (amount_more (k / 64) (2 ^ o) v.paid i.some_paid)))

  pub fill_word_keeps : (k : ℕ) → CanFillWord key v k
      → Fit key shares (set ws (bits_place key k) (turned (fill_word k) (get_or ws (bits_place key k) 0)))
      (set vs id (effect t (fill_word k) (get_or ws (bits_place key k) 0) v))
  fill_word_keeps k can =
      let i : IsViewOf key v = view_of key shares ws vs id v fit at in
      let found : ℕ = get_or ws (bits_place key k) 0 in
      let w : View = effect t (fill_word k) found v in
      let c : ℕ = k / 8 in
      let child : c < key.children = omega (arith, can.inside) in
      let nf : found < 2 ^ 64 = omega (arith, fit.words_in_range.bits k can.inside, bit_word_is key ws k) in
      let flag : huge_of ws c ≡ 1 = flag_set key shares ws vs id v fit at c child can.own in
      let few_set : set_of key ws c ≤ 512 = set-le key ws c fit.words_in_range child in
      let l : LiesIn v c = lies_in_whole key v i share c can.own in
      lands key shares (with_bits key ws k (2 ^ 64 - 1)) (set ws (bits_place key k) (bit_or found (2 ^ 64 - 1)))
      (set vs id w) (as_bits key ws k (2 ^ 64 - 1) (bit_or found (2 ^ 64 - 1)) (or_full found nf))
      (bits_step key shares ws vs id v fit at k (2 ^ 64 - 1) w can.inside (record {
        bits_here = λ x e.
            let there : child_of x ≡ c = omega arith in
            omega (
              arith,
              bit_at_full (x % 64) (omega arith),
              bit_filled key shares ws vs id v fit at c x child can.own there,
              ap (λ j. names j (put_in k v.filled)) e,
              names_put k k v.filled,
              names_here k v.filled,
            );
        bits_else = λ x ne. omega (arith, names_put (x / 64) k v.filled, names_else (x / 64) k v.filled ne);
        apart = λ x q. fit_apart x q;
        wholes = λ d. refl;
        entries_here = λ s few e. omega (arith, held_is key ws c, flag, few, few_set);
        entries_else = λ d ne. refl;
        trees_here = λ s few e. omega (arith, held_is key ws c, flag, few, few_set);
        trees_else = λ d ne. refl;
        reserves = λ d. refl;
        rights = same_rights v w share refl refl refl refl;
        below = omega arith;
      })
      (still key v i share v.charged v.paid v.reserving v.own (put_in k v.filled) (t v.moves) i.own c
      (record { charged = l.charged; smalls = l.smalls; wholes = l.wholes })
      (λ d q.
      ⊎_elim
      (λ e. (omega (arith, can.inside, e), omega (arith, can.own, ap (λ j. wholes (j / 8) v.own) e)))
      (λ ne. let z = i.filled d (omega (arith, q, names_put d k v.filled, names_else d k v.filled ne)) in (z.inside, z.own))
      (cases_eq d k))
      i.charged i.paid i.reserving i.some_charged i.some_paid))
    where
      fit_apart : (x : ℕ) → x < frame_count key
          → total key (small_in x) vs + small_in x v + huge_of ws (child_of x) ≤ 1 + small_in x v
      fit_apart x q = omega (arith, fit.apart x q)
