-- What a claim changes.
use Rattle.std.proofs.Common.{◌≡◌, ⊎_elim, ℕ, ◌+◌, ◌*◌, ◌/◌, ◌%◌, ◌^◌, ◌<◌, ◌≤◌, List, refl, ap, sym, subst, ◌∙◌, arith}
use Rattle.std.specs.Int.{bit_at}
use Rattle.std.specs.Int.Bits.{bit_and, bit_or}
use Rattle.std.proofs.lemmas.Bool.{cases_eq}
use Rattle.std.proofs.lemmas.Nat.Bits.{bit_at_and, bit_at_or, bit_at-lt, bit_at-zero}
use Rattle.frame_words.proofs.RunLemmas.{run_apart}
use Rattle.frame_model.specs.declared.block.FrameBlock.{FrameBlock}
use Rattle.frame_model.specs.declared.key.Key.{Key}
use Rattle.frame_model.specs.Key.{child_of}
use Rattle.frame_model.specs.Block.{block, IsBlock, covers, small_at}
use Rattle.frame_model.specs.Words.{run, free_of, huge_of, bit_word_of, bit_of, AreInRange}
use Rattle.frame_model.specs.Report.{held_at}
use Rattle.frame_model.proofs.Blocks.{run_here, run_else, not_whole, within_child}
use Rattle.frame_model.proofs.Words.{BitsWritten, bits_written}
use Rattle.frame_model.proofs.Steps.Shared.{bit-le, bit_is, as_bits}
use Rattle.low_frames.specs.Alone.{HoldsMore, IsClaimed}
use Rattle.low_frames.proofs.ViewLemmas.{covered_from, small_is}

module _ (key : Key) (ws us : List ℕ) (word bit order : ℕ) (r : AreInRange key ws) (inside : word < 8 * key.children) (few : order ≤ 6)
    (claimed : IsClaimed key word bit order ws us) where
  abbrev pub c_word : ℕ
  c_word = bit_or (bit_word_of key ws word) (run bit (2 ^ order))

  c_fits : bit + 2 ^ order ≤ 64
  c_fits = claimed.was_clear.bits.inside

  claim_written : BitsWritten key ws word c_word us
  claim_written =
      subst (BitsWritten key ws word c_word) (as_bits key ws word c_word c_word refl ∙ sym claimed.words)
      (bits_written key ws word c_word r inside)

  c_apart : bit_and (bit_word_of key ws word) (run bit (2 ^ order)) ≡ 0
  c_apart = run_apart (bit_word_of key ws word) order bit (r.bits word inside) claimed.was_clear

  -- each bit is the block's or as it was
  pub claim_bits : (x : ℕ) → bit_of key us x ≡ bit_of key ws x + small_at x (block (64 * word + bit) order)
  claim_bits x =
      let n : ℕ = bit_word_of key ws word in
      let m : ℕ = run bit (2 ^ order) in
      ⊎_elim
      (λ e. omega (
        arith,
        claim_written.bits_here x e,
        run_here word bit order x few e,
        bit_is key ws x word e,
        bit_at_or n m (x % 64),
        bit_at_and n m (x % 64),
        ap (λ a. bit_at a (x % 64)) c_apart,
        bit_at-zero (x % 64),
        bit_at-lt n (x % 64),
        bit_at-lt m (x % 64),
      ))
      (λ ne. omega (arith, claim_written.bits_else x ne, run_else word bit order x c_fits ne))
      (cases_eq (x / 64) word)

  pub claim_flags : (c : ℕ) → c < key.children → huge_of us c ≡ huge_of ws c
  claim_flags c h = claim_written.huge c h

  pub claim_entries : (c : ℕ) → c < key.children → free_of us c ≡ free_of ws c
  claim_entries c h = claim_written.free c h

-- where bits are the block's or as they were, and flags as they were, the block was free and is held
module _ (key : Key) (old new : List ℕ) (b : FrameBlock) (is : IsBlock key b) (low : b.order < 9)
    (bits : (x : ℕ) → bit_of key new x ≡ bit_of key old x + covers b x) (flags : (c : ℕ) → c < key.children
    → huge_of new c ≡ huge_of old c) (flag : huge_of old (child_of b.frame) ≡ 0) where
  b_child : (x : ℕ) → covers b x ≡ 1 → child_of x ≡ child_of b.frame
  b_child x h =
      let within = covered_from b x h in
      omega (arith, within.0, within.1, within_child b.order b.frame is.order is.aligned)

  pub bits_more : HoldsMore key old new b
  unfolding held_at
  bits_more = record {
    was_free = λ x h. omega (arith, bits x, bit-le key new x, h, ap (huge_of old) (b_child x h), flag);
    bits = λ x h. omega (arith, bits x, small_is x b low);
    flags = λ c h. omega (arith, flags c h, not_whole c b low);
  }
