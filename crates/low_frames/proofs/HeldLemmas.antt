-- Which frames are held after a word was written.
use Rattle.std.proofs.Common.{◌≡◌, ◌≢◌, ◌⊎◌, inl, inr, ⊎_elim, ℕ, ◌+◌, ◌-◌, ◌*◌, ◌/◌, ◌%◌, ◌^◌, ◌<◌, ◌≤◌, max, List, refl, ap, sym}
use Rattle.std.proofs.Common.{subst, ◌∙◌, arith}
use Rattle.std.specs.Prelude.{slice_index}
use Rattle.std.specs.Int.{bit_at, bit_not, w64}
use Rattle.std.specs.Int.Bits.{bit_and, bit_or}
use Rattle.std.proofs.lemmas.Bool.{cases_lt, cases_eq}
use Rattle.std.proofs.lemmas.Bool.Decides.{nat_tests}
use Rattle.std.proofs.lemmas.Nat.{pow_pos}
use Rattle.std.proofs.lemmas.Nat.Bits.{bit_at_and, bit_at_or, bit_at-lt, bit_at-zero, same_from_bits_below}
use Rattle.frame_words.specs.Words.{entry_word, free_in, flag_in, lane_in, lane_put, lane_shift}
use Rattle.frame_words.proofs.WordLemmas.{flag_in-entry_word, entry_word-lt, free_in-lt}
use Rattle.frame_model.specs.declared.block.FrameBlock.{FrameBlock}
use Rattle.frame_model.specs.declared.key.Key.{Key}
use Rattle.frame_model.specs.Key.{frame_count}
use Rattle.frame_model.specs.Block.{block, covers, small_at, whole_at}
use Rattle.frame_model.specs.Words.{run, entry_place, bits_place, entry_of, free_of, huge_of, bit_word_of, bit_of, with_entry, with_bits}
use Rattle.frame_model.specs.Words.{AreInRange}
use Rattle.frame_model.specs.Report.{held_at}
use Rattle.frame_model.specs.Steps.{charge, refund, claim, words_after}
use Rattle.frame_model.specs.Steps.Amounts.{IsRun}
use Rattle.frame_core.specs.Moves.{release_run, give_whole}
use Rattle.frame_model.proofs.Bits.{bit_at_clear, run-lt}
use Rattle.frame_model.proofs.Blocks.{run_here, run_else, run_is_block, not_small, not_whole, whole_here, whole_else}
use Rattle.frame_model.proofs.Lanes.{lane_added, lane_taken}
use Rattle.frame_model.proofs.Words.{bits_written, EntryWritten, entry_written, child-has-lane}
use Rattle.frame_model.proofs.Steps.Shared.{bit_word_is, bit_is, as_bits, as_entry, entry_of_is, free_of_is, huge_of_is, free_is, flag_is}
use Rattle.low_frames.specs.Alone.{HoldsMore}
use Rattle.low_frames.specs.Groups.{HoldsMoreWords}
use Rattle.low_frames.proofs.RoomLemmas.{is_covered, covered_from, bits_more}

held_is : (key : Key) (ws : List ℕ) (x : ℕ) → held_at key ws x ≡ max (bit_of key ws x) (huge_of ws (x / 512))
unfolding held_at
held_is key ws x = refl

-- a free frame has a clear bit
pub free_is_clear : (key : Key) (ws : List ℕ) (x : ℕ) → held_at key ws x ≡ 0 → bit_of key ws x ≡ 0
free_is_clear key ws x e = omega (arith, held_is key ws x)

-- Blocks and the frames that they cover.

covers_small : (b : FrameBlock) (x : ℕ) → b.order < 9 → small_at x b ≡ covers b x
unfolding small_at
covers_small b x h = grind (arith, nat_tests)

pub covers_out : (b : FrameBlock) (x : ℕ) → (x < b.frame) ⊎ (b.frame + 2 ^ b.order ≤ x) → covers b x ≡ 0
unfolding covers
covers_out b x (inl h) = grind (arith, nat_tests)
covers_out b x (inr h) = grind (arith, nat_tests)

pub outside : (b : FrameBlock) (x : ℕ) → covers b x ≡ 0 → (x < b.frame) ⊎ (b.frame + 2 ^ b.order ≤ x)
outside b x e =
    ⊎_elim
    (λ l. inl l)
    (λ l. ⊎_elim (λ h. absurd (omega (arith, is_covered b x l h, e))) (λ h. inr h) (cases_lt x (b.frame + 2 ^ b.order)))
    (cases_lt x b.frame)

covers_or : (b : FrameBlock) (x : ℕ) → (covers b x ≡ 1) ⊎ (covers b x ≡ 0)
covers_or b x =
    ⊎_elim
    (λ l. inr (covers_out b x (inl l)))
    (λ l. ⊎_elim (λ h. inl (is_covered b x l h)) (λ h. inr (covers_out b x (inr h))) (cases_lt x (b.frame + 2 ^ b.order)))
    (cases_lt x b.frame)

covers_here : (k from o x : ℕ) → o ≤ 6 → x / 64 ≡ k → covers (block (64 * k + from) o) x ≡ bit_at (run from (2 ^ o)) (x % 64)
covers_here k from o x small e = sym (covers_small (block (64 * k + from) o) x (omega (arith, small))) ∙ run_here k from o x small e

covers_else : (k from o x : ℕ) → o ≤ 6 → from + 2 ^ o ≤ 64 → x / 64 ≢ k → covers (block (64 * k + from) o) x ≡ 0
covers_else k from o x small fits ne = sym (covers_small (block (64 * k + from) o) x (omega (arith, small))) ∙ run_else k from o x fits ne

-- every bit and every flag is the same
pub record AreSame (key : Key) (old new : List ℕ) : Type 0 where
  pub bits : (x : ℕ) → bit_of key new x ≡ bit_of key old x
  pub flags : (c : ℕ) → huge_of new c ≡ huge_of old c

-- so every frame is held or free as it was
pub held_same : (key : Key) (old new : List ℕ) → AreSame key old new → (x : ℕ) → held_at key new x ≡ held_at key old x
held_same key old new same x = omega (arith, held_is key new x, held_is key old x, same.bits x, same.flags (x / 512))

-- a block of whole words, and these words
pub words_as_block : (key : Key) (low high : List ℕ) (first count : ℕ) (b : FrameBlock) → b.order < 9 → b.frame ≡ 64 * first
    → 2 ^ b.order ≡ 64 * count → HoldsMoreWords key low high first count → HoldsMore key low high b
words_as_block key low high first count b small from size h = record {
  was_free = λ x e. let c = covered_from b x e in h.were_free x (omega (arith, c.0)) (omega (arith, c.1));
  bits = λ x q.
      ⊎_elim
      (λ e. let c = covered_from b x e in omega (
        arith,
        covers_small b x small,
        e,
        free_is_clear key low x (h.were_free x (omega (arith, c.0)) (omega (arith, c.1))),
        h.are_set x (omega (arith, c.0)) (omega (arith, c.1)),
      ))
      (λ e. omega (
        arith,
        covers_small b x small,
        e,
        h.others x q (⊎_elim (λ l. inl (omega arith)) (λ l. inr (omega arith)) (outside b x e)),
      ))
      (covers_or b x);
  flags = λ c q. omega (arith, h.flags c q, not_whole c b small);
}

pub block_as_words : (key : Key) (low high : List ℕ) (first count : ℕ) (b : FrameBlock) → b.order < 9 → first + count ≤ 8 * key.children
    → b.frame ≡ 64 * first → 2 ^ b.order ≡ 64 * count → HoldsMore key low high b → HoldsMoreWords key low high first count
block_as_words key low high first count b small inside from size h = record {
  were_free = λ x l m. h.was_free x (is_covered b x (omega arith) (omega arith));
  are_set = λ x l m.
      let c : covers b x ≡ 1 = is_covered b x (omega arith) (omega arith) in
      omega (arith, h.bits x (omega arith), covers_small b x small, c, free_is_clear key low x (h.was_free x c));
  others = λ x q out. omega (
    arith,
    h.bits x q,
    covers_small b x small,
    covers_out b x (⊎_elim (λ l. inl (omega arith)) (λ l. inr (omega arith)) out),
  );
  flags = λ c q. omega (arith, h.flags c q, not_whole c b small);
}

-- Bit words.

-- what a claim of a clear run holds
pub claimed_run : (key : Key) (ws : List ℕ) (k from o seen : ℕ) → AreInRange key ws → IsRun key k from o → huge_of ws (k / 8) ≡ 0
    → slice_index ws (bits_place key k) ≡ seen → bit_and seen (run from (2 ^ o)) ≡ 0
    → HoldsMore key ws (words_after key (claim k seen from o) ws) (block (64 * k + from) o)
claimed_run key ws k from o seen r is flag e clear =
    let m : ℕ = run from (2 ^ o) in
    let n : ℕ = bit_or seen m in
    let b : FrameBlock = block (64 * k + from) o in
    let was : bit_word_of key ws k ≡ seen = bit_word_is key ws k ∙ e in
    let z = bits_written key ws k n r is.inside in
    let child : (64 * k + from) / 512 ≡ k / 8 = omega (arith, is.fits, pow_pos o) in
    subst (λ us. HoldsMore key ws us b) (as_bits key ws k n n refl)
    (bits_more key ws (with_bits key ws k n) b (run_is_block key k from o is) (omega (arith, is.small))
    (λ x. ⊎_elim
    (λ here. omega (
      arith,
      z.bits_here x here,
      bit_is key ws x k here,
      ap (λ a. bit_at a (x % 64)) was,
      covers_here k from o x is.small here,
      bit_at_or seen m (x % 64),
      bit_at_and seen m (x % 64),
      ap (λ a. bit_at a (x % 64)) clear,
      bit_at-zero (x % 64),
      bit_at-lt seen (x % 64),
      bit_at-lt m (x % 64),
    ))
    (λ ne. omega (arith, z.bits_else x ne, covers_else k from o x is.small is.fits ne))
    (cases_eq (x / 64) k))
    (λ c h. z.huge c h) (ap (huge_of ws) child ∙ flag))

-- what a release of a run held
pub released_run : (key : Key) (ws : List ℕ) (k from o : ℕ) → AreInRange key ws → IsRun key k from o → huge_of ws (k / 8) ≡ 0
    → ((x : ℕ) → covers (block (64 * k + from) o) x ≡ 1 → bit_of key ws x ≡ 1)
    → HoldsMore key (words_after key (release_run k from o) ws) ws (block (64 * k + from) o)
released_run key ws k from o r is flag full =
    let m : ℕ = run from (2 ^ o) in
    let found : ℕ = bit_word_of key ws k in
    let n : ℕ = bit_and found (bit_not w64 m) in
    let b : FrameBlock = block (64 * k + from) o in
    let z = bits_written key ws k n r is.inside in
    let child : (64 * k + from) / 512 ≡ k / 8 = omega (arith, is.fits, pow_pos o) in
    let within : (i : ℕ) → i < 64 → bit_at m i ≤ bit_at found i =
    λ i h.
    let x : ℕ = 64 * k + i in
    let here : x / 64 ≡ k = omega arith in
    let bit : x % 64 ≡ i = omega arith in
    let covers_it : covers b x ≡ bit_at m i = covers_here k from o x is.small here ∙ ap (bit_at m) bit in
    ⊎_elim
    (λ z. omega arith)
    (λ p. omega (arith, full x (omega (arith, covers_it, bit_at-lt m i)), bit_is key ws x k here, ap (bit_at found) bit, bit_at-lt m i))
    (cases_eq (bit_at m i) 0) in
    subst (λ us. HoldsMore key us ws b)
    (as_bits key ws k n (bit_and (slice_index ws (bits_place key k)) (bit_not w64 m))
    (ap (λ w. bit_and w (bit_not w64 m)) (sym (bit_word_is key ws k))))
    (bits_more key (with_bits key ws k n) ws b (run_is_block key k from o is) (omega (arith, is.small))
    (λ x. ⊎_elim
    (λ here. omega (
      arith,
      z.bits_here x here,
      bit_is key ws x k here,
      covers_here k from o x is.small here,
      bit_at_clear found m (r.bits k is.inside) (run-lt from (2 ^ o) is.fits) within (x % 64) (omega arith),
    ))
    (λ ne. omega (arith, z.bits_else x ne, covers_else k from o x is.small is.fits ne))
    (cases_eq (x / 64) k))
    (λ c h. sym (z.huge c h)) (ap (huge_of (with_bits key ws k n)) child ∙ z.huge (k / 8) (omega (arith, is.inside)) ∙ flag))

-- Entries.

-- an entry is written that shows the flag as before
entry_same : (key : Key) (ws : List ℕ) (c e : ℕ) → AreInRange key ws → c < key.children → e < 65536 → flag_in e ≡ huge_of ws c
    → AreSame key ws (with_entry ws c e)
entry_same key ws c e r h small flag =
    let us : List ℕ = with_entry ws c e in
    let z : EntryWritten key ws c e us = entry_written key ws c e r h small in
    record {
      bits = z.bits;
      flags = λ d. ⊎_elim
          (λ q. ap (huge_of us) q ∙ z.huge_here ∙ flag ∙ ap (huge_of ws) (sym q))
          (λ ne. z.huge_else d ne)
          (cases_eq d c);
    }

entry_parts : (ws : List ℕ) (c : ℕ) → free_of ws c + 32768 * huge_of ws c ≡ entry_of ws c
entry_parts ws c = omega (arith, free_of_is ws c, huge_of_is ws c, free_is (entry_of ws c), flag_is (entry_of ws c))

pub charge_same : (key : Key) (ws : List ℕ) (c n : ℕ) → AreInRange key ws → c < key.children → huge_of ws c ≡ 0
    → AreSame key ws (words_after key (charge c (slice_index ws (entry_place c)) n) ws)
charge_same key ws c n r h flag =
    let seen : ℕ = slice_index ws (entry_place c) in
    let free : ℕ = free_in (lane_in seen c) - n in
    let e : ℕ = entry_word free 0 in
    let low : free < 2 ^ 15 = omega (arith, free_in-lt (lane_in seen c)) in
    subst (AreSame key ws) (as_entry ws c e (lane_put seen c e) refl)
    (entry_same key ws c e r h (entry_word-lt free 0 low (omega arith)) (flag_in-entry_word free 0 low ∙ sym flag))

pub refund_same : (key : Key) (ws : List ℕ) (c n : ℕ) → AreInRange key ws → c < key.children → free_of ws c + n ≤ 512
    → AreSame key ws (words_after key (refund c n) ws)
refund_same key ws c n r h room =
    let found : ℕ = slice_index ws (entry_place c) in
    let e : ℕ = entry_of ws c + n in
    let parts : free_of ws c + 32768 * huge_of ws c ≡ entry_of ws c = entry_parts ws c in
    let flag : huge_of ws c ≤ 1 = r.huge c h in
    let same : lane_in found c ≡ entry_of ws c = sym (entry_of_is ws c) in
    let below : found < 2 ^ 64 = r.entry_words c (child-has-lane key c h) in
    let small : e < 65536 = omega (arith, parts, room, flag) in
    subst (AreSame key ws) (as_entry ws c e ((found + n * lane_shift c) % 2 ^ 64)
    (lane_added found c n below (omega (arith, same, small)) ∙ ap (λ m. lane_put found c (m + n)) same))
    (entry_same key ws c e r h small (omega (arith, flag_is e, parts, room, flag)))

-- what giving a huge frame held
pub given_whole : (key : Key) (ws : List ℕ) (c : ℕ) → AreInRange key ws → c < key.children → entry_of ws c ≡ 32768
    → ((x : ℕ) → x / 512 ≡ c → bit_of key ws x ≡ 0) → HoldsMore key (words_after key (give_whole c) ws) ws (block (512 * c) 9)
given_whole key ws c r h entry clear =
    let found : ℕ = slice_index ws (entry_place c) in
    let us : List ℕ = with_entry ws c 512 in
    let z : EntryWritten key ws c 512 us = entry_written key ws c 512 r h (omega arith) in
    let below : found < 2 ^ 64 = r.entry_words c (child-has-lane key c h) in
    let same : lane_in found c ≡ 32768 = sym (entry_of_is ws c) ∙ entry in
    let old : huge_of ws c ≡ 1 = omega (arith, huge_of_is ws c, flag_is (entry_of ws c), entry) in
    let new : huge_of us c ≡ 0 = z.huge_here ∙ flag_is 512 in
    let b : FrameBlock = block (512 * c) 9 in
    subst (λ l. HoldsMore key l ws b) (as_entry ws c 512 ((found + (2 ^ 64 - 32256 * lane_shift c)) % 2 ^ 64)
    (lane_taken found c 32256 below (omega (arith, same)) ∙ ap (λ m. lane_put found c (m - 32256)) same))
    (record {
      was_free = λ x e.
          let w = covered_from b x e in
          let here : x / 512 ≡ c = omega (arith, w.0, w.1) in
          omega (arith, held_is key us x, z.bits x, clear x here, ap (huge_of us) here, new);
      bits = λ x q. omega (arith, z.bits x, not_small x b refl);
      flags = λ d q. ⊎_elim
          (λ e. omega (arith, ap (huge_of us) e, ap (huge_of ws) e, old, new, ap (λ k. whole_at k b) e, whole_here c))
          (λ ne. omega (arith, z.huge_else d ne, whole_else c d ne))
          (cases_eq d c);
    })

-- Bit words that are held one after the other.

pub no_more_words : (key : Key) (ws : List ℕ) (first : ℕ) → HoldsMoreWords key ws ws first 0
no_more_words key ws first = record {
  were_free = λ x l m. absurd (omega arith);
  are_set = λ x l m. absurd (omega arith);
  others = λ x h out. refl;
  flags = λ c h. refl;
}

-- a frame outside the words is held or free as it was
pub words_else : (key : Key) (low high : List ℕ) (first count x : ℕ) → HoldsMoreWords key low high first count → x < frame_count key
    → (x < 64 * first) ⊎ (64 * (first + count) ≤ x) → held_at key high x ≡ held_at key low x
words_else key low high first count x h q out =
    omega (arith, held_is key high x, held_is key low x, h.others x q out, h.flags (x / 512) (omega arith))

-- the next word, held after those before it
pub words_up : (key : Key) (low mid high : List ℕ) (first i : ℕ) → first + i < 8 * key.children → HoldsMoreWords key low mid first i
    → HoldsMoreWords key mid high (first + i) 1 → HoldsMoreWords key low high first (i + 1)
words_up key low mid high first i h a b = record {
  were_free = λ x l m.
      ⊎_elim
      (λ q. a.were_free x l q)
      (λ q. omega (arith, words_else key low mid first i x a (omega arith) (inr q), b.were_free x q (omega arith)))
      (cases_lt x (64 * (first + i)));
  are_set = λ x l m.
      ⊎_elim
      (λ q. omega (arith, b.others x (omega arith) (inl q), a.are_set x l q))
      (λ q. b.are_set x q (omega arith))
      (cases_lt x (64 * (first + i)));
  others = λ x q out.
      b.others x q (⊎_elim (λ l. inl (omega arith)) (λ l. inr (omega arith)) out)
      ∙ a.others x q (⊎_elim (λ l. inl (omega arith)) (λ l. inr (omega arith)) out);
  flags = λ c q. b.flags c q ∙ a.flags c q;
}

-- the next word, no longer held after those before it
pub words_down : (key : Key) (low mid high : List ℕ) (first i : ℕ) → first + i < 8 * key.children → HoldsMoreWords key mid high first i
    → HoldsMoreWords key low mid (first + i) 1 → HoldsMoreWords key low high first (i + 1)
words_down key low mid high first i h a b = record {
  were_free = λ x l m.
      ⊎_elim
      (λ q. omega (arith, words_else key low mid (first + i) 1 x b (omega arith) (inl q), a.were_free x l q))
      (λ q. b.were_free x q (omega arith))
      (cases_lt x (64 * (first + i)));
  are_set = λ x l m.
      ⊎_elim
      (λ q. a.are_set x l q)
      (λ q. omega (arith, a.others x (omega arith) (inr q), b.are_set x q (omega arith)))
      (cases_lt x (64 * (first + i)));
  others = λ x q out.
      a.others x q (⊎_elim (λ l. inl (omega arith)) (λ l. inr (omega arith)) out)
      ∙ b.others x q (⊎_elim (λ l. inl (omega arith)) (λ l. inr (omega arith)) out);
  flags = λ c q. a.flags c q ∙ b.flags c q;
}

-- words that hold the same frames
pub less_then_same : (key : Key) (low mid high : List ℕ) (b : FrameBlock) → AreSame key mid low
    → HoldsMore key mid high b → HoldsMore key low high b
less_then_same key low mid high b same h = record {
  was_free = λ x e. held_same key mid low same x ∙ h.was_free x e;
  bits = λ x q. omega (arith, h.bits x q, same.bits x);
  flags = λ c q. omega (arith, h.flags c q, same.flags c);
}

-- a word without a set bit is 0, and a free frame of a child without the flag is one whose bit is clear
pub free_word : (key : Key) (ws : List ℕ) (k : ℕ) → bit_word_of key ws k < 2 ^ 64 → ((x : ℕ) → x / 64 ≡ k → held_at key ws x ≡ 0)
    → bit_word_of key ws k ≡ 0
free_word key ws k below free =
    same_from_bits_below 64 (bit_word_of key ws k) 0 below (omega arith)
    (λ i h.
    let x : ℕ = 64 * k + i in
    let here : x / 64 ≡ k = omega arith in
    let bit : x % 64 ≡ i = omega arith in
    omega (arith, free_is_clear key ws x (free x here), bit_is key ws x k here, ap (bit_at (bit_word_of key ws k)) bit, bit_at-zero i))

pub clear_word_is_free : (key : Key) (ws : List ℕ) (k x : ℕ) → huge_of ws (k / 8) ≡ 0 → bit_word_of key ws k ≡ 0 → x / 64 ≡ k
    → held_at key ws x ≡ 0
clear_word_is_free key ws k x flag clear e =
    let child : x / 512 ≡ k / 8 = omega arith in
    omega (
      arith,
      held_is key ws x,
      bit_is key ws x k e,
      ap (λ n. bit_at n (x % 64)) clear,
      bit_at-zero (x % 64),
      ap (huge_of ws)
          child,
      flag,
    )

pub same_then_more : (key : Key) (low mid high : List ℕ) (b : FrameBlock) → AreSame key low mid
    → HoldsMore key mid high b → HoldsMore key low high b
same_then_more key low mid high b same h = record {
  was_free = λ x e. sym (held_same key low mid same x) ∙ h.was_free x e;
  bits = λ x q. omega (arith, h.bits x q, same.bits x);
  flags = λ c q. omega (arith, h.flags c q, same.flags c);
}
