-- Looks at just one block, from what was loaded.
use Rattle.std.proofs.Common.{◌≡◌, ◌≢◌, ◌↔◌, ⊎_elim, ℕ, zero, suc, ◌+◌, ◌-◌, ◌*◌, ◌/◌, ◌%◌, ◌^◌, ◌<◌, ◌≤◌, List, Option, None, Some, refl, ap, sym}
use Rattle.std.proofs.Common.{subst, ◌∙◌, arith, zero-add}
use Rattle.std.specs.Prelude.{slice_index, Bool, true, false, MatchBool, nat_eq}
use Rattle.std.specs.Int.{bit_at}
use Rattle.std.specs.Int.Bits.{bit_and}
use Rattle.std.proofs.lemmas.Bool.{cases_eq, cases_lt, eq-eqb, ne_eqb}
use Rattle.std.proofs.lemmas.Bool.Decides.{nat_tests}
use Rattle.std.proofs.lemmas.Nat.{pow_below}
use Rattle.std.proofs.lemmas.Nat.Bits.{bit_at-zero, same_from_bits_below}
use Rattle.frame_words.specs.Runs.{IsClearRun, group_size}
use Rattle.frame_words.specs.Words.{flag_in, lane_in}
use Rattle.frame_words.proofs.RunLemmas.{run_apart}
use Rattle.frame_model.specs.declared.key.Key.{Key}
use Rattle.frame_model.specs.declared.view.View.{View}
use Rattle.frame_model.specs.Key.{AreSizes}
use Rattle.frame_model.specs.Block.{block, IsBlock}
use Rattle.frame_model.specs.Report.{held_at}
use Rattle.frame_model.specs.Steps.{after_load, words_after, take_huge, next}
use Rattle.frame_model.specs.View.{IsIdle}
use Rattle.frame_model.specs.Words.{entry_place, bits_place, entry_of, free_of, huge_of, bit_word_of, AreInRange}
use Rattle.frame_model.proofs.Blocks.{within_child}
use Rattle.frame_model.proofs.Words.{entry-lt-bits, child-has-lane}
use Rattle.frame_model.proofs.Steps.Shared.{bit_word_is, bit_is, entry_of_is, free_of_is, huge_of_is, free_is, flag_is}
use Rattle.frame_core.specs.Moves.{ReadsBut}
use Rattle.low_frames.specs.Takes.{IsBlockIn}
use Rattle.low_frames.specs.Alone.{IsFreeIn, FindsOf}
use Rattle.low_frames.proofs.AloneLemmas.{IsSeen, if_known, at_known}
use Rattle.low_frames.proofs.GiveLemmas.{aligned_in_word, size_in_words, begins_in_words}
use Rattle.low_frames.proofs.HeldLemmas.{free_word, clear_word_is_free}
use Rattle.low_frames.proofs.WideLemmas.{group_is, bits_apart}
use Rattle.low_frames.proofs.PlaceLemmas.{clear_where_apart, lies_in_child, child_inside}
use Rattle.low_frames.proofs.RoomLemmas.{FitsAlone, entries_alone, range_alone, is_covered, covered_from, free_is_run, free_block_counts, huge_taken}
use Rattle.core_frames.specs.Bounds.{most_to_look}
use Rattle.core_frames.specs.FreeCounts.{after_loads}
use Rattle.core_frames.specs.Looks.{HasFree, TellsTruly, TellsFree, AreClearWords, IsClearAt, HasLoaded, IsSameWithin}
use Rattle.core_frames.specs.Looks.{HasLoadedSome, AreReadClear, IsEntryReadFree, IsReadFree, TellsRead, ReadsSameEntries}
use Rattle.core_frames.specs.Places.{HasSuchBlock}
use Rattle.core_frames.proofs.EntriesRead.{loads_idle, loads_counted}

-- Views.

loads_after : (t : ℕ → ℕ) (k j : ℕ) (v : View) → after_loads t k (after_loads t j v) ≡ after_loads t (k + j) v
loads_after t zero j v = ap (λ n. after_loads t n v) (sym (zero-add j))
loads_after t (suc k) j v =
    let more : suc (k + j) ≡ suc k + j = omega arith in
    ap (after_load t) (loads_after t k j v) ∙ ap (λ n. after_loads t n v) more

pub loaded_none : (t : ℕ → ℕ) (n : ℕ) (v : View) → HasLoaded t n v v
loaded_none t n v = (0, (omega arith, refl))

pub loaded_one : (t : ℕ → ℕ) (v w : View) → w ≡ after_load t v → HasLoaded t 1 v w
loaded_one t v w e = (1, (omega arith, e))

pub loaded_both : (t : ℕ → ℕ) (a b : ℕ) (u v w : View) → HasLoaded t a u v → HasLoaded t b v w → HasLoaded t (a + b) u w
loaded_both t a b u v w x y =
    (y.0 + x.0, (omega (arith, x.1.0, y.1.0), y.1.1 ∙ ap (after_loads t y.0) x.1.1 ∙ loads_after t y.0 x.0 u))

pub loaded_first : (t : ℕ → ℕ) (v w : View) → w ≡ after_load t v → HasLoadedSome t v w
loaded_first t v w e = (1, (omega arith, e))

pub loaded_then : (t : ℕ → ℕ) (b : ℕ) (u v w : View) → v ≡ after_load t u → HasLoaded t b v w → HasLoadedSome t u w
loaded_then t b u v w e y = (y.0 + 1, (omega arith, y.1.1 ∙ ap (after_loads t y.0) e ∙ loads_after t y.0 1 u))

pub loaded_within : (t : ℕ → ℕ) (a b : ℕ) (v w : View) → a ≤ b → HasLoaded t a v w → HasLoaded t b v w
loaded_within t a b v w h x = (x.0, (omega (arith, x.1.0, h), x.1.1))

pub loaded_idle : (t : ℕ → ℕ) (n : ℕ) (v w : View) → HasLoaded t n v w → IsIdle v → IsIdle w
loaded_idle t n v w x idle = loads_idle t x.0 v w x.1.1 idle

-- where counts of moves go up by exactly one
pub loaded_counted : (n : ℕ) (v w : View) → HasLoaded next n v w → IsSameWithin n v w
loaded_counted n v w x = (x.0, (x.1.0, x.1.1 ∙ loads_counted x.0 v))

pub loaded_moved : (v w : View) → HasLoadedSome next v w → v.moves < w.moves
loaded_moved v w x =
    let same : w ≡ record v { moves = v.moves + x.0 } = x.1.1 ∙ loads_counted x.0 v in
    omega (arith, x.1.0, ap (λ (u : View). u.moves) same)

-- Tests.

pub told_by : (a b : ℕ) (P Q : Type 0) → (a ≡ b → P) → (a ≢ b → Q) → MatchBool (nat_eq a b) P Q
told_by a b P Q same other =
    ⊎_elim
    (λ e. subst (λ t. MatchBool t P Q) (sym (eq-eqb a b e)) (same e))
    (λ ne. subst (λ t. MatchBool t P Q) (sym (ne_eqb a b ne)) (other ne))
    (cases_eq a b)

tells_as : (P Q : List ℕ → Type 0) (answer : Bool) (ws : List ℕ) → (P ws → Q ws) → (Q ws → P ws) → TellsTruly P answer ws → TellsTruly Q answer ws
tells_as P Q true ws to from told = to told
tells_as P Q false ws to from told = λ q. told (from q)

-- a look at words that were just as before
pub told_after : (P Q : List ℕ → Type 0) (answer : Bool) (place seen : ℕ) (old mid new : Option (List ℕ))
    → ((ws : List ℕ) → old ≡ Some ws → slice_index ws place ≡ seen → (P ws → Q ws) × (Q ws → P ws))
    → IsSeen place seen old mid → FindsOf (TellsTruly P answer) mid new → FindsOf (TellsTruly Q answer) old new
told_after P Q answer place seen None mid new same load found = tt
told_after P Q answer place seen (Some ws) mid new same load found =
    let h = at_known mid (λ us. (new ≡ Some us) × TellsTruly P answer us) ws load.1 found in
    let both = same ws refl load.0 in
    (h.0, tells_as P Q answer ws both.0 both.1 h.1)

-- the entry that a load found
pub entry_found : (ws : List ℕ) (child seen entry : ℕ) → slice_index ws (entry_place child) ≡ seen → entry ≡ lane_in seen child
    → entry_of ws child ≡ entry
entry_found ws child seen entry e lane = entry_of_is ws child ∙ ap (λ w. lane_in w child) e ∙ sym lane

-- Bit words.

-- one load of a bit word tells whether the bits of a run are clear
pub clear_told : (key : Key) (frame order seen m : ℕ) (old now : Option (List ℕ)) → order ≤ 6 → frame % 2 ^ order ≡ 0 → seen < 2 ^ 64
    → m ≡ 2 ^ (frame % 64 + 2 ^ order) - 2 ^ (frame % 64)
    → ((i : ℕ) → (bit_at m i ≡ 1) ↔ ((frame % 64 ≤ i) × (i < frame % 64 + 2 ^ order)))
    → IsSeen (bits_place key (frame / 64)) seen old now
    → FindsOf (TellsTruly (IsClearAt key frame order) (nat_eq (bit_and seen m) 0)) old now
clear_told key frame order seen m old now few aligned low value bits load =
    let here = aligned_in_word frame order few aligned in
    if_known old (λ ws. (slice_index ws (bits_place key (frame / 64)) ≡ seen) × (now ≡ Some ws))
    (λ ws. (now ≡ Some ws) × TellsTruly (IsClearAt key frame order) (nat_eq (bit_and seen m) 0) ws) load
    (λ ws e h.
    let there : bit_word_of key ws (frame / 64) ≡ seen = bit_word_is key ws (frame / 64) ∙ h.0 in (
      h.1,
      told_by (bit_and seen m) 0 (IsClearAt key frame order ws) (¬ IsClearAt key frame order ws)
          (λ none. subst (λ w. IsClearRun w order (frame % 64)) (sym there)
          (clear_where_apart seen order (frame % 64) m here.0 here.1 bits none))
          (λ some clear. some (ap (bit_and seen) value
          ∙ run_apart seen order (frame % 64) low (subst (λ w. IsClearRun w order (frame % 64)) there clear))),
    ))

-- a bit word that is not clear
pub word_not_clear : (key : Key) (first count i seen : ℕ) (old mid new : Option (List ℕ)) → 0 < seen → i < count
    → FindsOf (AreClearWords key first i) old mid → IsSeen (bits_place key (first + i)) seen mid new
    → FindsOf (TellsTruly (AreClearWords key first count) false) old new
word_not_clear key first count i seen None mid new some h before load = tt
word_not_clear key first count i seen (Some ws) mid new some h before load =
    let here = at_known mid (λ us. (slice_index us (bits_place key (first + i)) ≡ seen) × (new ≡ Some us)) ws before.0 load in
    let there : bit_word_of key ws (first + i) ≡ seen = bit_word_is key ws (first + i) ∙ here.0 in
    (here.1, λ clear. omega (arith, clear (first + i) (omega arith) (omega arith), there, some))

-- What was read.

entries_apart : (key : Key) (word : ℕ) (old new : ℕ → Option ℕ) → ReadsBut (bits_place key word) old new → ReadsSameEntries key old new
entries_apart key word old new but c h =
    but (entry_place c) (λ e. omega (arith, e, entry-lt-bits key c word (child-has-lane key c h)))

pub entries_of_load : (key was : Key) (word : ℕ) (old new : ℕ → Option ℕ) → key ≡ was → ReadsBut (bits_place key word) old new
    → ReadsSameEntries was old new
entries_of_load key was word old new k but = subst (λ (i : Key). ReadsSameEntries i old new) k (entries_apart key word old new but)

pub entries_both : (key : Key) (one two three : ℕ → Option ℕ) → ReadsSameEntries key one two → ReadsSameEntries key two three
    → ReadsSameEntries key one three
entries_both key one two three a b c h = b c h ∙ a c h

-- a load of a bit word tells whether the bits of a run were read clear
pub run_read : (key : Key) (frame order seen m : ℕ) (read : ℕ → Option ℕ) → order ≤ 6 → frame % 2 ^ order ≡ 0 → seen < 2 ^ 64
    → m ≡ 2 ^ (frame % 64 + 2 ^ order) - 2 ^ (frame % 64)
    → ((i : ℕ) → (bit_at m i ≡ 1) ↔ ((frame % 64 ≤ i) × (i < frame % 64 + 2 ^ order)))
    → read (bits_place key (frame / 64)) ≡ Some seen
    → MatchBool (nat_eq (bit_and seen m) 0) (AreReadClear key read frame (2 ^ order)) (¬ AreReadClear key read frame (2 ^ order))
run_read key frame order seen m read few aligned low value bits here =
    let fits = aligned_in_word frame order few aligned in
    told_by (bit_and seen m) 0 (AreReadClear key read frame (2 ^ order)) (¬ AreReadClear key read frame (2 ^ order))
    (λ none x l h.
    let clear = clear_where_apart seen order (frame % 64) m fits.0 fits.1 bits none in
    let word : frame / 64 ≡ x / 64 = omega (arith, l, h, fits.1) in (
      seen,
      (
        subst (λ w. read (bits_place key w) ≡ Some seen) word here,
        clear.bits.clear (x % 64) (omega (arith, l, word)) (omega (arith, h, word)),
      ),
    ))
    (λ some all. some (ap (bit_and seen) value
    ∙ run_apart seen order (frame % 64) low (record {
      aligned = fits.0;
      bits = record {
        inside = fits.1;
        clear = λ i l h.
            let x : ℕ = 64 * (frame / 64) + i in
            let word : x / 64 ≡ frame / 64 = omega (arith, h, fits.1) in
            let bit : x % 64 ≡ i = omega (arith, h, fits.1) in
            let found = all x (omega (arith, l)) (omega (arith, h)) in
            let there : read (bits_place key (frame / 64)) ≡ Some found.0 =
            subst (λ w. read (bits_place key w) ≡ Some found.0) word found.1.0 in
            let same : found.0 ≡ seen = cc in
            subst (λ w. bit_at w i ≡ 0) same (subst (λ j. bit_at found.0 j ≡ 0) bit found.1.1);
      };
    })))

-- one bit word more was read clear
pub read_clear_more : (key now : Key) (first i seen : ℕ) (old new : ℕ → Option ℕ) → now ≡ key → seen ≡ 0
    → new (bits_place now (first + i)) ≡ Some seen → ReadsBut (bits_place now (first + i)) old new
    → AreReadClear key old (64 * first) (64 * i) → AreReadClear key new (64 * first) (64 * (i + 1))
read_clear_more key now first i seen old new k none here but before x l h =
    let but_here : ReadsBut (bits_place key (first + i)) old new = subst (λ (j : Key). ReadsBut (bits_place j (first + i)) old new) k but in
    let read_here : new (bits_place key (first + i)) ≡ Some seen =
    subst (λ (j : Key). new (bits_place j (first + i)) ≡ Some seen) k here in
    ⊎_elim
    (λ (low : x < 64 * first + 64 * i).
    let found = before x l low in
    (found.0, (but_here (bits_place key (x / 64)) (bits_apart key (x / 64) (first + i) (λ e. absurd (omega (arith, e, low)))) ∙ found.1.0, found.1.1)))
    (λ high.
    let word : first + i ≡ x / 64 = omega (arith, high, h) in
    (seen, (subst (λ w. new (bits_place key w) ≡ Some seen) word read_here, ap (λ n. bit_at n (x % 64)) none ∙ bit_at-zero (x % 64))))
    (cases_lt x (64 * first + 64 * i))

-- one was not
pub not_read_clear : (key now : Key) (first i count seen : ℕ) (new : ℕ → Option ℕ) → now ≡ key → 0 < seen → seen < 2 ^ 64 → i < count
    → new (bits_place now (first + i)) ≡ Some seen → ¬ AreReadClear key new (64 * first) (64 * count)
not_read_clear key now first i count seen new k some low h here all =
    let read_here : new (bits_place key (first + i)) ≡ Some seen =
    subst (λ (j : Key). new (bits_place j (first + i)) ≡ Some seen) k here in
    let none : seen ≡ 0 =
    same_from_bits_below 64 seen 0 low (omega arith)
    (λ j q.
    let x : ℕ = 64 * (first + i) + j in
    let word : x / 64 ≡ first + i = omega (arith, q) in
    let bit : x % 64 ≡ j = omega (arith, q) in
    let found = all x (omega arith) (omega (arith, h, q)) in
    let there : new (bits_place key (first + i)) ≡ Some found.0 =
    subst (λ w. new (bits_place key w) ≡ Some found.0) word found.1.0 in
    let same : found.0 ≡ seen = cc in
    subst (λ w. bit_at w j ≡ 0) same (subst (λ b. bit_at found.0 b ≡ 0) bit found.1.1) ∙ sym (bit_at-zero j)) in
    omega (arith, none, some)

-- so the bits of a block of several bit words
pub read_as_block : (key : Key) (read : ℕ → Option ℕ) (frame order n : ℕ) (answer : Bool) → 7 ≤ order → order ≤ 8 → n ≡ 2 ^ order
    → frame % 2 ^ order ≡ 0
    → MatchBool answer (AreReadClear key read (64 * (frame / 64)) (64 * (n / 64))) (¬ AreReadClear key read (64 * (frame / 64)) (64 * (n / 64)))
    → MatchBool answer (AreReadClear key read frame (2 ^ order)) (¬ AreReadClear key read frame (2 ^ order))
read_as_block key read frame order n answer l h e aligned seen =
    let size : 64 * (n / 64) ≡ 2 ^ order = ap (λ k. 64 * (k / 64)) e ∙ sym (size_in_words order l h) in
    let begins : 64 * (frame / 64) ≡ frame = omega (arith, begins_in_words frame order l h aligned) in
    subst (λ k. MatchBool answer (AreReadClear key read frame k) (¬ AreReadClear key read frame k)) size
    (subst (λ f. MatchBool answer (AreReadClear key read f (64 * (n / 64))) (¬ AreReadClear key read f (64 * (n / 64)))) begins seen)

-- the entry that was read, of the block's child
module _ (key : Key) (read : ℕ → Option ℕ) (frame order child word entry : ℕ) (at : child ≡ frame / 512) (lane : entry ≡ lane_in word child)
    (here : read (entry_place child) ≡ Some word) where
  read_there : read (entry_place (frame / 512)) ≡ Some word
  read_there = subst (λ c. read (entry_place c) ≡ Some word) at here

  lane_there : lane_in word (frame / 512) ≡ entry
  lane_there = ap (lane_in word) (sym at) ∙ sym lane

  lane_of : IsEntryReadFree read (block frame order) → (flag_in entry ≡ 0) × (order ≡ 9 → entry ≡ 512)
  lane_of free =
      let there : read (entry_place (frame / 512)) ≡ Some word = read_there in
      let found : read (entry_place (frame / 512)) ≡ Some free.0 = free.1.0 in
      let same : free.0 ≡ word = cc in
      let lane_is : lane_in free.0 (frame / 512) ≡ entry = ap (λ w. lane_in w (frame / 512)) same ∙ lane_there in
      (ap flag_in (sym lane_is) ∙ free.1.1.0, λ e. sym lane_is ∙ free.1.1.1 e)

  pub whole_read : order ≡ 9 → TellsRead key read (block frame order) (nat_eq entry 512)
  whole_read whole =
      told_by entry 512 (IsReadFree key read (block frame order))
      (HasSuchBlock key (block frame order) → ¬ IsReadFree key read (block frame order))
      (λ e. record {
        entry = (word, (read_there, (ap flag_in lane_there ∙ flag_is entry ∙ ap (λ n. n / 32768) e, λ q. lane_there ∙ e)));
        bits = λ low. absurd (omega (arith, low, whole));
      })
      (λ ne has free. ne ((lane_of free.entry).1 whole))

  pub flag_read : 0 < flag_in entry → ¬ IsReadFree key read (block frame order)
  flag_read flag free = omega (arith, flag, (lane_of free.entry).0)

  pub bits_read : (answer : Bool) → order ≢ 9 → order ≤ 9 → flag_in entry ≡ 0
      → MatchBool answer (AreReadClear key read frame (2 ^ order)) (¬ AreReadClear key read frame (2 ^ order))
      → TellsRead key read (block frame order) answer
  bits_read true ne few none seen = record {
    entry = (word, (read_there, (ap flag_in lane_there ∙ none, λ e. absurd (ne e))));
    bits = λ low. seen;
  }
  bits_read false ne few none seen = λ has free. seen (free.bits (omega (arith, ne, few)))

-- What the words say of the block, where nothing is in flight.

-- a clear run of a child without the flag is free
run_is_free : (key : Key) (ws : List ℕ) (frame order : ℕ) → order ≤ 6 → frame % 2 ^ order ≡ 0 → huge_of ws (frame / 512) ≡ 0
    → IsClearAt key frame order ws → IsFreeIn key ws (block frame order)
unfolding held_at
run_is_free key ws frame order few aligned flag clear x h =
    let within = covered_from (block frame order) x h in
    let here = aligned_in_word frame order few aligned in
    let word : x / 64 ≡ frame / 64 = omega (arith, within.0, within.1, here.1) in
    let child : x / 512 ≡ frame / 512 = omega (arith, word) in
    omega (
      arith,
      bit_is key ws x (frame / 64) word,
      clear.bits.clear (x % 64) (omega (arith, within.0, word)) (omega (arith, within.1, word)),
      ap (huge_of ws) child,
      flag,
    )

module _ (A : Type 0) (key : Key) (ws : List ℕ) (v : View) (fits : FitsAlone A key ws v) (alone : A) (idle : IsIdle v)
    (sizes : AreSizes key) (frame order : ℕ) (has : HasSuchBlock key (block frame order)) where
  is_block : IsBlock key (block frame order)
  is_block = record {
    order = has.order;
    aligned = has.aligned;
    inside = omega (arith, has.inside, sizes.inside);
  }

  inside : frame / 512 < key.children
  inside = child_inside key (frame / 512) frame order refl is_block

  in_child : IsBlockIn key (frame / 512) order (block frame order)
  in_child = lies_in_child key (frame / 512) frame order refl is_block

  range : AreInRange key ws
  range = range_alone A key ws v fits

  -- a free block counts, and its child has no flag
  counts : IsFreeIn key ws (block frame order) → (2 ^ order ≤ free_of ws (frame / 512)) × (huge_of ws (frame / 512) ≡ 0)
  counts free =
      free_block_counts A key ws v fits alone (frame / 512) inside idle.charged order (block frame order) in_child free

  -- an entry with the flag
  pub flag_not_free : 0 < flag_in (entry_of ws (frame / 512)) → ¬ HasFree key (block frame order) ws
  flag_not_free flag free = omega (arith, (counts free.1).1, huge_of_is ws (frame / 512), flag)

  -- an entry that shows the child free as a whole
  pub whole_told : order ≡ 9 → TellsTruly (HasFree key (block frame order)) (nat_eq (entry_of ws (frame / 512)) 512) ws
  whole_told e =
      let child : ℕ = frame / 512 in
      let al : frame % 2 ^ 9 ≡ 0 = subst (λ o. frame % 2 ^ o ≡ 0) e has.aligned in
      let begins : 512 * child ≡ frame = omega (arith, al) in
      let us : List ℕ = words_after key (take_huge child (slice_index ws (entry_place child))) ws in
      let sums = entries_alone A key ws v fits alone child inside in
      told_by (entry_of ws child) 512 (HasFree key (block frame order) ws) (¬ HasFree key (block frame order) ws)
      (λ whole. (
        has,
        subst (λ o. IsFreeIn key ws (block frame o)) (sym e)
            (subst (λ f. IsFreeIn key ws (block f 9)) begins
            (huge_taken key ws us child range inside (record { was_whole = whole; words = refl }) (omega (arith, sums))).was_free),
      ))
      (λ part free.
      let size : 512 ≤ free_of ws child = subst (λ o. 2 ^ o ≤ free_of ws child) e (counts free.1).0 in
      part (omega (
        arith,
        size,
        (counts free.1).1,
        sums,
        free_of_is ws child,
        huge_of_is ws child,
        free_is (entry_of ws child),
        flag_is (entry_of ws child),
      )))

  -- the run of bits, where the child has no flag
  pub run_says : order ≤ 6 → huge_of ws (frame / 512) ≡ 0
      → (IsClearAt key frame order ws → HasFree key (block frame order) ws) × (HasFree key (block frame order) ws → IsClearAt key frame order ws)
  run_says few flag = (
    λ clear. (has, run_is_free key ws frame order few has.aligned flag clear),
    λ free. free_is_run key ws (frame / 512) order (block frame order) few in_child free.1,
  )

  -- the bit words, where the child has no flag
  pub words_say : (n : ℕ) → 7 ≤ order → order ≤ 8 → n ≡ 2 ^ order → huge_of ws (frame / 512) ≡ 0
      → (AreClearWords key (frame / 64) (n / 64) ws → HasFree key (block frame order) ws)
      × (HasFree key (block frame order) ws → AreClearWords key (frame / 64) (n / 64) ws)
  words_say n l h e flag =
      let size : 2 ^ order ≡ 64 * (n / 64) = size_in_words order l h ∙ ap (λ k. 64 * (k / 64)) (sym e) in
      let begins : 64 * (frame / 64) ≡ frame = omega (arith, begins_in_words frame order l h has.aligned) in
      let ends : frame + 2 ^ order ≤ 512 * (frame / 512) + 512 = within_child order frame has.order has.aligned in (
        λ clear. (
          has,
          λ x c.
              let within = covered_from (block frame order) x c in
              let child : x / 64 / 8 ≡ frame / 512 = omega (arith, within.0, within.1, ends) in
              clear_word_is_free key ws (x / 64) x (ap (huge_of ws) child ∙ flag)
              (clear (x / 64) (omega (arith, within.0)) (omega (arith, within.1, size, begins))) refl,
        ),
        λ free w p q.
            free_word key ws w (range.bits w (omega (arith, inside, ends, size, begins, q)))
            (λ x at. free.1 x (is_covered (block frame order) x (omega (arith, at, p, begins)) (omega (arith, at, q, size, begins)))),
      )

-- Bounds.

pub look_whole : (order : ℕ) → order ≡ 9 → 1 ≤ most_to_look order
look_whole order e = grind (arith, nat_tests)

pub look_part : (order k : ℕ) → order ≢ 9 → k ≤ group_size order → 1 + k ≤ most_to_look order
look_part order k ne h = grind (arith, nat_tests)

pub words_in_group : (order n : ℕ) → 7 ≤ order → order ≤ 8 → n ≡ 2 ^ order → n / 64 ≤ group_size order
words_in_group order n l h e =
    omega (arith, group_is order (n / 64) l h (ap (λ k. 64 * (k / 64)) e ∙ sym (size_in_words order l h)))

-- The look, where nobody else steps and nothing is in flight: the entry was loaded.
module _ (A : Type 0) (key : Key) (v : View) (old : Option (List ℕ)) (fits : (ws : List ℕ) → old ≡ Some ws → FitsAlone A key ws v)
    (alone : A) (idle : IsIdle v) (sizes : AreSizes key) (frame order child word entry : ℕ) (has : HasSuchBlock key (block frame order))
    (at : child ≡ frame / 512) (lane : entry ≡ lane_in word child) (mid : Option (List ℕ)) (load : IsSeen (entry_place child) word old mid)
  where
    entry_at : (ws : List ℕ) → slice_index ws (entry_place child) ≡ word → entry_of ws (frame / 512) ≡ entry
    entry_at ws e = ap (entry_of ws) (sym at) ∙ entry_found ws child word entry e lane

    flag_at : (ws : List ℕ) → slice_index ws (entry_place child) ≡ word → flag_in entry ≡ 0 → huge_of ws (frame / 512) ≡ 0
    flag_at ws e none = huge_of_is ws (frame / 512) ∙ ap flag_in (entry_at ws e) ∙ none

    pub whole_looked : order ≡ 9 → FindsOf (TellsFree key (block frame order) (nat_eq entry 512)) old mid
    whole_looked whole =
        if_known old (λ ws. (slice_index ws (entry_place child) ≡ word) × (mid ≡ Some ws))
        (λ ws. (mid ≡ Some ws) × TellsFree key (block frame order) (nat_eq entry 512) ws) load
        (λ ws e h. (
          h.1,
          subst (λ n. TellsFree key (block frame order) (nat_eq n 512) ws) (entry_at ws h.0)
              (whole_told A key ws v (fits ws e) alone idle sizes frame order has whole),
        ))

    pub flag_looked : 0 < flag_in entry → FindsOf (TellsFree key (block frame order) false) old mid
    flag_looked flag =
        if_known old (λ ws. (slice_index ws (entry_place child) ≡ word) × (mid ≡ Some ws))
        (λ ws. (mid ≡ Some ws) × TellsFree key (block frame order) false ws) load
        (λ ws e h. (
          h.1,
          flag_not_free A key ws v (fits ws e) alone idle sizes frame order has
              (subst (λ n. 0 < flag_in n) (sym (entry_at ws h.0)) flag),
        ))

    pub run_looked : (now : Key) (answer : Bool) (new : Option (List ℕ)) → now ≡ key → order ≤ 6 → flag_in entry ≡ 0
        → FindsOf (TellsTruly (IsClearAt now frame order) answer) mid new → FindsOf (TellsFree key (block frame order) answer) old new
    run_looked now answer new same few none found =
        told_after (IsClearAt key frame order) (HasFree key (block frame order)) answer (entry_place child) word old mid new
        (λ ws e h. run_says A key ws v (fits ws e) alone idle sizes frame order has few (flag_at ws h none))
        load (subst (λ k. FindsOf (TellsTruly (IsClearAt k frame order) answer) mid new) same found)

    pub words_looked : (now : Key) (answer : Bool) (n : ℕ) (new : Option (List ℕ)) → now ≡ key → 7 ≤ order → order ≤ 8 → n ≡ 2 ^ order
        → flag_in entry ≡ 0 → FindsOf (TellsTruly (AreClearWords now (frame / 64) (n / 64)) answer) mid new
        → FindsOf (TellsFree key (block frame order) answer) old new
    words_looked now answer n new same l h size none found =
        told_after (AreClearWords key (frame / 64) (n / 64)) (HasFree key (block frame order)) answer (entry_place child) word old mid new
        (λ ws e q. words_say A key ws v (fits ws e) alone idle sizes frame order has n l h size (flag_at ws q none))
        load (subst (λ k. FindsOf (TellsTruly (AreClearWords k (frame / 64) (n / 64)) answer) mid new) same found)

small_power : (k : ℕ) → k ≤ 2 → 2 ^ k ≤ 4
small_power k h =
    ⊎_elim (λ e. omega (arith, ap (λ n. 2 ^ n) e)) (λ ne. omega (arith, pow_below k 2 (omega (arith, h, ne)))) (cases_eq k 2)

pub look_few : (order : ℕ) → order ≤ 9 → most_to_look order ≤ 5
look_few order h =
    ⊎_elim
    (λ (e : order ≡ 9). grind (arith, nat_tests))
    (λ ne. let few : 2 ^ (order - 6) ≤ 4 = small_power (order - 6) (omega (arith, h, ne)) in grind (arith, nat_tests))
    (cases_eq order 9)
