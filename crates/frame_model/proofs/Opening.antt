-- Words that equal their own rebuilding fit views that hold just what they hold and have nothing in flight.
use Rattle.std.proofs.Common.{◌≡◌, inr, ℕ, zero, suc, ◌+◌, ◌-◌, ◌*◌, ◌/◌, ◌%◌, ◌<◌, ◌≤◌, List, [], ◌∷◌, Some, true, false, refl, ap, ◌∙◌}
use Rattle.std.proofs.Common.{arith}
use Rattle.std.specs.Prelude.{if◌then◌else◌, nat_eq, nat_le}
use Rattle.std.specs.List.{sum_by, All, range_with_len}
use Rattle.std.specs.Int.{bit_at}
use Rattle.std.proofs.lemmas.Bool.Decides.{nat_tests}
use Rattle.std.proofs.lemmas.Nat.Bits.{bit_at-zero}
use Rattle.std.proofs.lemmas.List.Sums.{sum_by-cons}
use Rattle.std.proofs.lemmas.List.Elements.{All-cons, All-append}
use borrow.Author.Differences.{up, down}
use Rattle.frame_model.specs.declared.key.Key.{Key}
use Rattle.frame_model.specs.declared.view.View.{View}
use Rattle.frame_model.specs.Key.{frame_count, tree_count, child_of, children_in, children_of, size_of, is_boot_frame}
use Rattle.frame_model.specs.Block.{IsBlock, smalls, wholes}
use Rattle.frame_model.specs.Words.{bit_of, bit_word_of, set_of, free_of, huge_of, held_of, held_in_tree, tree_free_of, rest_of, count_on}
use Rattle.frame_model.specs.Words.{is_on, resting_on, cores_on}
use Rattle.frame_model.specs.View.{small_in, whole_in, fills, marks, charged_in, paid_on, reserves, blocks_out, ground_small_in, ground_in}
use Rattle.frame_model.specs.View.{idle, spent, ground_with, boot_blocks, fixed_ground, IsViewOf}
use Rattle.frame_model.specs.Fit.{total, Fit}
use Rattle.frame_model.specs.Rebuilt.{rebuilt_free, rebuilt_in_tree, rebuilt_bits, IsRebuilt}
use Rattle.frame_model.specs.Openings.{set_blocks, huge_blocks, held_blocks, IsSealedOpening, IsReopening, reopener, opened}
use Rattle.frame_model.specs.Openings.{EveryRunFromSealed, EveryRunFromReopening}
use Rattle.frame_model.proofs.Sums.{sum_plus}
use Rattle.frame_model.proofs.Amounts.{count_none, is_at_none, names_none, count_on_none, is_on_none}
use Rattle.frame_model.proofs.Blocks.{smalls_none, wholes_none, smalls_both, wholes_both}
use Rattle.frame_model.proofs.Chosen.{frames_smalls, frames_wholes, frames_are_blocks, children_wholes, children_smalls}
use Rattle.frame_model.proofs.Chosen.{children_are_blocks}
use Rattle.frame_model.proofs.Words.{held_is}
use Rattle.frame_model.proofs.Keeps.{total_is}
use Rattle.frame_model.proofs.Balances.{set-le}
use Rattle.frame_model.proofs.Runs.{every_run_fits}
use Rattle.frame_model.proofs.Steps.Shared.{bit-le, none_out, ground_kept, ground_owned, ground_none}
use Rattle.frame_model.proofs.Steps.Seats.{idle_is, ground_is_out, spent_out, ground_yes, ground_no}

-- the views hold what the words hold, and have nothing in flight
pub record Rests (key : Key) (shares : ℕ) (ws : List ℕ) (views : List View) : Type 0 where
  pub wholes : (c : ℕ) → c < key.children → total key (whole_in c) views ≡ huge_of ws c
  pub smalls : (x : ℕ) → x < frame_count key → total key (small_in x) views ≡ bit_of key ws x
  pub fills : (x : ℕ) → total key (fills x) views ≡ 0
  pub charged : (c : ℕ) → total key (charged_in c) views ≡ 0
  pub paid : (t : ℕ) → total key (paid_on t) views ≡ 0
  pub reserves : (t : ℕ) → total key (reserves t) views ≡ 0
  pub shares_add_up : total key (λ v. v.share) views ≡ shares
  pub lents_add_up : total key (λ v. up v.lent) views ≡ total key (λ v. down v.lent) views + total key blocks_out views
  pub one_ground : total key ground_in views ≡ 1
  pub past_end : (x : ℕ) → key.frames ≤ x → x < frame_count key → total key (ground_small_in x) views ≡ 1
  pub each : All (IsViewOf key) views

-- sums of a range of which each term is a number
pub range_all : (f : ℕ → ℕ) (m a n : ℕ) → ((d : ℕ) → a ≤ d → d < a + n → f d ≡ m)
    → sum_by f (range_with_len a n) ≡ n * m
range_all f m a zero all = omega arith
range_all f m a (suc n) all =
    let others : sum_by f (range_with_len (a + 1) n) ≡ n * m = range_all f m (a + 1) n (λ d l h. all d (omega arith) (omega arith)) in
    let first : f a ≡ m = all a (omega arith) (omega arith) in
    omega (arith, sum_by-cons f a (range_with_len (a + 1) n), others, first, suc_times n m)
  where
    suc_times : (i j : ℕ) → suc i * j ≡ i * j + j
    suc_times i j = grind arith

module _ (key : Key) (ws : List ℕ) (r : IsRebuilt key ws ws) where
  pub free_exact : (c : ℕ) → c < key.children → free_of ws c + held_of key ws c ≡ 512
  unfolding rebuilt_free
  free_exact c h =
      let e : free_of ws c ≡ (if nat_eq (huge_of ws c) 0 then 512 - set_of key ws c else 0) = r.free c h in
      by (huge_of ws c) refl (r.in_range.huge c h) e
    where
      by : (n : ℕ) → huge_of ws c ≡ n → n ≤ 1
          → free_of ws c ≡ (if nat_eq (huge_of ws c) 0 then 512 - set_of key ws c else 0)
          → free_of ws c + held_of key ws c ≡ 512
      by zero e l f = let g : free_of ws c ≡ 512 - set_of key ws c = rw e at f in omega
          (arith, held_is key ws c, set-le key ws c r.in_range h)
      by (suc zero) e l f = let g : free_of ws c ≡ 0 = rw e at f in omega (arith, held_is key ws c, set-le key ws c r.in_range h)
      by (suc (suc n)) e l f = absurd (omega arith)

  rebuilt_is : (c : ℕ) → c < key.children → rebuilt_free key ws c + held_of key ws c ≡ 512
  rebuilt_is c h = omega (arith, r.free c h, free_exact c h)

  pub tree_exact : (t : ℕ) → t < tree_count key
      → tree_free_of key ws t + held_in_tree key ws t ≡ size_of key t
  unfolding rebuilt_in_tree held_in_tree
  tree_exact t h =
      omega (
        arith,
        r.trees t h,
        sum_plus (rebuilt_free key ws) (held_of key ws) (children_of key t),
        range_all (λ c. rebuilt_free key ws c + held_of key ws c) 512 (8 * t) (children_in key t) (λ c l q. rebuilt_is c (omega arith)),
      )

  pub no_resting : (t : ℕ) → resting_on key ws t ≡ 0
  unfolding resting_on
  no_resting t = omega (
    arith,
    range_all (λ k. count_on t (rest_of key ws k)) 0 0 key.cores
        (λ k l h. ap (count_on t) (r.resting k (omega arith)) ∙ count_on_none t),
  )

  no_cores : (t : ℕ) → cores_on key ws t ≡ 0
  unfolding cores_on
  no_cores t = omega (
    arith,
    range_all (λ k. is_on t (rest_of key ws k)) 0 0 key.cores
        (λ k l h. ap (is_on t) (r.resting k (omega arith)) ∙ is_on_none t),
  )

  flagged_clear : (x : ℕ) → x < frame_count key → bit_of key ws x + huge_of ws (child_of x) ≤ 1
  unfolding rebuilt_bits bit_of
  flagged_clear x h =
      let same : x / 64 / 8 ≡ child_of x = omega arith in
      let e : bit_word_of key ws (x / 64) ≡ (if nat_eq (huge_of ws (x / 64 / 8)) 0 then bit_word_of key ws (x / 64) else 0) = r.bits
      (x / 64) (omega arith) in
      by (huge_of ws (x / 64 / 8)) refl (omega (arith, r.in_range.huge (child_of x) (omega arith), ap (huge_of ws) same))
      (ap (huge_of ws) same) e
    where
      by : (n : ℕ) → huge_of ws (x / 64 / 8) ≡ n → n ≤ 1 → huge_of ws (x / 64 / 8) ≡ huge_of ws (child_of x)
          → bit_word_of key ws (x / 64)
          ≡ (if nat_eq (huge_of ws (x / 64 / 8)) 0 then bit_word_of key ws (x / 64) else 0)
          → bit_at (bit_word_of key ws (x / 64)) (x % 64) + huge_of ws (child_of x) ≤ 1
      by zero e l s f = omega (arith, bit-le-one)
        where
          bit-le-one : bit_at (bit_word_of key ws (x / 64)) (x % 64) ≤ 1
          bit-le-one = bit-le key ws x
      by (suc zero) e l s f = let g : bit_word_of key ws (x / 64) ≡ 0 = rw e at f in omega
          (arith, ap (λ n. bit_at n (x % 64)) g, bit_at-zero (x % 64))
      by (suc (suc n)) e l s f = absurd (omega arith)

  pub resting_fits : (shares : ℕ) (views : List View) → Rests key shares ws views → Fit key shares ws views
  resting_fits shares views v = record {
    wholes = v.wholes;
    bits = λ x h. omega (
      arith,
      v.smalls x h,
      v.fills x,
      total_is key (marks x) views,
      total_is key (small_in x) views,
      total_is key (fills x) views,
      sum_plus (small_in x) (fills x) views,
    );
    apart = λ x h. omega (arith, v.smalls x h, flagged_clear x h);
    entries_add_up = λ c h. omega (arith, v.charged c, free_exact c h);
    trees_add_up = λ t h. omega (arith, v.paid t, no_resting t, tree_exact t h);
    reserved_once = λ t h. omega (arith, v.reserves t, no_cores t, r.unreserved t h);
    shares_add_up = v.shares_add_up;
    lents_add_up = v.lents_add_up;
    one_ground = v.one_ground;
    past_end = v.past_end;
    each = v.each;
    words_in_range = r.in_range;
  }

pub fixed_sealed : (key : Key) → key.sealed ≡ true → fixed_ground key ≡ ground_with key (boot_blocks key)
unfolding fixed_ground
fixed_sealed key e = rw e refl

pub fixed_unsealed : (key : Key) → key.sealed ≡ false → fixed_ground key ≡ spent
unfolding fixed_ground
fixed_unsealed key e = rw e refl

total_one : (key : Key) (g : View) (f : View → ℕ) (v : View) → fixed_ground key ≡ g
    → total key f (v ∷ []) ≡ f g + f v
total_one key g f v e = omega (arith, total_is key f (v ∷ []), ap f e)

pub boot_smalls : (key : Key) (x : ℕ) → x < frame_count key
    → smalls x (boot_blocks key) ≡ (if is_boot_frame key x then 1 else 0)
unfolding boot_blocks
boot_smalls key x h = frames_smalls (is_boot_frame key) (frame_count key) x h

pub boot_wholes : (key : Key) (c : ℕ) → wholes c (boot_blocks key) ≡ 0
unfolding boot_blocks
boot_wholes key c = frames_wholes (is_boot_frame key) (frame_count key) c

-- a frame past the end is named
pub boot_past : (key : Key) (x : ℕ) → key.frames ≤ x
    → ◌≡◌ {A = ℕ} (if is_boot_frame key x then 1 else 0) 1
unfolding is_boot_frame
boot_past key x h = let e = past_end key.frames x h in rw e refl
  where
    past_end : (end y : ℕ) → end ≤ y → nat_le end y ≡ true
    past_end end y l = grind (arith, nat_tests)

-- a sealed opening fits
pub sealed_fits : (key : Key) (ws : List ℕ) (shares : ℕ) → 0 < shares → IsSealedOpening key ws
    → Fit key shares ws (idle key shares ∷ [])
sealed_fits key ws shares h o =
    let g : View = ground_with key (boot_blocks key) in
    let v : View = idle key shares in
    let e : fixed_ground key ≡ g = fixed_sealed key o.sealed in
    let sum : (f : View → ℕ) → total key f (v ∷ []) ≡ f g + f v = λ f. total_one key g f v e in
    resting_fits key ws o.exact shares (v ∷ []) (record {
      wholes = λ c q. omega (arith, sum (whole_in c), boot_wholes key c, wholes_none c, o.unflagged c q);
      smalls = λ x q. omega (arith, sum (small_in x), boot_smalls key x q, smalls_none x, o.boot_frames x q);
      fills = λ x. omega (arith, sum (fills x), names_none (x / 64));
      charged = λ c. omega (arith, sum (charged_in c), count_none c);
      paid = λ t. omega (arith, sum (paid_on t), count_none t);
      reserves = λ t. omega (arith, sum (reserves t), is_at_none t);
      shares_add_up = omega (arith, sum (λ u. u.share));
      lents_add_up = omega (
        arith,
        sum (λ u. up u.lent),
        sum (λ u. down u.lent),
        sum blocks_out,
        none_out v h,
        ground_is_out g refl,
      );
      one_ground = omega (arith, sum ground_in, ground_yes g refl, ground_no v refl);
      past_end = λ x p q. omega (
        arith,
        sum (ground_small_in x),
        ap (smalls x) (ground_owned g refl refl),
        ap (smalls x) (ground_none v refl),
        smalls_none x,
        boot_smalls key x q,
        boot_past key x p,
      );
      each = All-cons (IsViewOf key) v [] (idle_is key (Some key) shares refl h) (λ k d q. absurd (omega arith));
    })

set_smalls : (key : Key) (ws : List ℕ) (x : ℕ) → x < frame_count key
    → smalls x (set_blocks key ws) ≡ bit_of key ws x
unfolding set_blocks
set_smalls key ws x h = frames_smalls (λ f. nat_eq (bit_of key ws f) 1) (frame_count key) x h
    ∙ one_or_none (bit_of key ws x) (bit-le key ws x)
  where
    one_or_none : (n : ℕ) → n ≤ 1 → (if nat_eq n 1 then 1 else 0) ≡ n
    one_or_none zero l = refl
    one_or_none (suc zero) l = refl
    one_or_none (suc (suc n)) l = absurd (omega arith)

set_wholes : (key : Key) (ws : List ℕ) (c : ℕ) → wholes c (set_blocks key ws) ≡ 0
unfolding set_blocks
set_wholes key ws c = frames_wholes (λ f. nat_eq (bit_of key ws f) 1) (frame_count key) c

huge_wholes : (key : Key) (ws : List ℕ) (c : ℕ) → c < key.children → huge_of ws c ≤ 1
    → wholes c (huge_blocks key ws) ≡ huge_of ws c
unfolding huge_blocks
huge_wholes key ws c h l = children_wholes (λ d. nat_eq (huge_of ws d) 1) key.children c h ∙ one_or_none (huge_of ws c) l
  where
    one_or_none : (n : ℕ) → n ≤ 1 → (if nat_eq n 1 then 1 else 0) ≡ n
    one_or_none zero q = refl
    one_or_none (suc zero) q = refl
    one_or_none (suc (suc n)) q = absurd (omega arith)

huge_smalls : (key : Key) (ws : List ℕ) (x : ℕ) → smalls x (huge_blocks key ws) ≡ 0
unfolding huge_blocks
huge_smalls key ws x = children_smalls (λ d. nat_eq (huge_of ws d) 1) key.children x

pub held_are_blocks : (key : Key) (ws : List ℕ) → All (IsBlock key) (held_blocks key ws)
unfolding huge_blocks set_blocks
held_are_blocks key ws =
    All-append (IsBlock key) (huge_blocks key ws) (set_blocks key ws) (children_are_blocks key (λ d. nat_eq (huge_of ws d) 1))
    (frames_are_blocks key (λ f. nat_eq (bit_of key ws f) 1))

pub held_smalls : (key : Key) (ws : List ℕ) (x : ℕ) → x < frame_count key
    → smalls x (held_blocks key ws) ≡ bit_of key ws x
held_smalls key ws x h = omega (
  arith,
  smalls_both x (huge_blocks key ws) (set_blocks key ws),
  huge_smalls key ws x,
  set_smalls key ws x h,
)

pub held_wholes : (key : Key) (ws : List ℕ) (c : ℕ) → c < key.children → huge_of ws c ≤ 1
    → wholes c (held_blocks key ws) ≡ huge_of ws c
held_wholes key ws c h l = omega (
  arith,
  wholes_both c (huge_blocks key ws) (set_blocks key ws),
  huge_wholes key ws c h l,
  set_wholes key ws c,
)

reopener_is : (key : Key) (ws : List ℕ) (shares : ℕ) → 0 < shares → IsViewOf key (reopener key ws shares)
reopener_is key ws shares h =
    let i : IsViewOf key (idle key shares) = idle_is key (Some key) shares refl h in
    record {
      named = inr refl;
      own = i.own;
      kept = held_are_blocks key ws;
      no_part = λ z. absurd (omega arith);
      one_block = λ z g. absurd (omega arith);
      one_child = λ z. (0, record { charged = λ d ne. count_none d; smalls = λ x ne. smalls_none x; wholes = λ d ne. wholes_none d });
      filled = λ w q. absurd (omega (arith, q, names_none w));
      charged = i.charged;
      paid = i.paid;
      reserving = i.reserving;
      some_charged = tt;
      some_paid = tt;
    }

-- an opening at words that equal their own rebuilding fits
pub reopening_fits : (key : Key) (ws : List ℕ) (shares : ℕ) → 0 < shares → IsReopening key ws
    → Fit key shares ws (reopener key ws shares ∷ [])
reopening_fits key ws shares h o =
    let v : View = reopener key ws shares in
    let e : fixed_ground key ≡ spent = fixed_unsealed key o.unsealed in
    let sum : (f : View → ℕ) → total key f (v ∷ []) ≡ f spent + f v = λ f. total_one key spent f v e in
    resting_fits key ws o.exact shares (v ∷ []) (record {
      wholes = λ c q. omega (
        arith,
        sum (whole_in c),
        held_wholes key ws c q (o.exact.in_range.huge c q),
        wholes_none c,
      );
      smalls = λ x q. omega (arith, sum (small_in x), held_smalls key ws x q, smalls_none x);
      fills = λ x. omega (arith, sum (fills x), names_none (x / 64));
      charged = λ c. omega (arith, sum (charged_in c), count_none c);
      paid = λ t. omega (arith, sum (paid_on t), count_none t);
      reserves = λ t. omega (arith, sum (reserves t), is_at_none t);
      shares_add_up = omega (arith, sum (λ u. u.share));
      lents_add_up = omega (
        arith,
        sum (λ u. up u.lent),
        sum (λ u. down u.lent),
        sum blocks_out,
        none_out v h,
        spent_out,
      );
      one_ground = omega (arith, sum ground_in, ground_yes v refl, ground_no spent refl);
      past_end = λ x p q. omega (
        arith,
        sum (ground_small_in x),
        ap (smalls x) (ground_kept v refl h),
        ap (smalls x) (ground_none spent refl),
        smalls_none x,
        held_smalls key ws x q,
        o.past_end x p q,
      );
      each = All-cons (IsViewOf key) v [] (reopener_is key ws shares h) (λ k d q. absurd (omega arith));
    })

pub every_run_from_sealed : EveryRunFromSealed
every_run_from_sealed key ws shares events s h o run = every_run_fits key shares (opened ws (idle key shares)) events s
    (sealed_fits key ws shares h o) run

pub every_run_from_reopening : EveryRunFromReopening
every_run_from_reopening key ws shares events s h o run = every_run_fits key shares (opened ws (reopener key ws shares)) events s
    (reopening_fits key ws shares h o) run
