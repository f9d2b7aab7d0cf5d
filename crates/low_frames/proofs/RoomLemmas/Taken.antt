-- What a small take and a huge take change.
use Rattle.std.proofs.Common.{◌≡◌, ⊎_elim, ℕ, ◌+◌, ◌*◌, ◌/◌, ◌%◌, ◌<◌, ◌≤◌, List, refl, ap, sym, subst, ◌∙◌, arith}
use Rattle.std.specs.Prelude.{slice_index}
use Rattle.std.proofs.lemmas.Bool.{cases_eq}
use Rattle.frame_words.specs.Words.{entry_word, lane_put}
use Rattle.frame_words.proofs.WordLemmas.{flag_in-entry_word, entry_word-lt}
use Rattle.frame_model.specs.declared.block.FrameBlock.{FrameBlock}
use Rattle.frame_model.specs.declared.key.Key.{Key}
use Rattle.frame_model.specs.Key.{child_of}
use Rattle.frame_model.specs.Block.{block, covers, small_at, whole_at}
use Rattle.frame_model.specs.Words.{entry_place, entry_of, free_of, huge_of, set_of, held_of, AreInRange}
use Rattle.frame_model.specs.Report.{held_at}
use Rattle.frame_model.proofs.Blocks.{not_small, whole_here, whole_else}
use Rattle.frame_model.proofs.Words.{held_is, EntryWritten, entry_written}
use Rattle.frame_model.proofs.Sets.{bit-le-set}
use Rattle.frame_model.proofs.Steps.Shared.{free_is, flag_is, free_of_is, huge_of_is, as_entry}
use Rattle.low_frames.specs.Takes.{IsBlockIn}
use Rattle.low_frames.specs.Alone.{HoldsMore, IsCharged, IsClaimedIn, IsTakenHuge}
use Rattle.low_frames.proofs.ViewLemmas.{covered_from, small_is}
use Rattle.low_frames.proofs.RoomLemmas.Charged.{charge_written, charge_in_range, charge_flags}
use Rattle.low_frames.proofs.RoomLemmas.Claimed.{claim_bits, claim_flags, bits_more}

-- What a small take changes.

-- a charge and a claim of a run take its block
pub small_taken : (key : Key) (ws us vs : List ℕ) (child n frame order : ℕ) → AreInRange key ws → child < key.children → order ≤ 6
    → IsBlockIn key child order (block frame order) → IsCharged key child n ws us → IsClaimedIn key frame order us vs
    → HoldsMore key ws vs (block frame order)
small_taken key ws us vs child n frame order r inside few is charged claimed =
    let b : FrameBlock = block frame order in
    let us_r : AreInRange key us = charge_in_range key ws us child n r inside charged in
    let word : frame / 64 < 8 * key.children = omega (arith, is.in_child, inside) in
    let at : 64 * (frame / 64) + frame % 64 ≡ frame = omega arith in
    bits_more key ws vs b is.is_block (omega (arith, few))
    (λ x. omega (
      arith,
      claim_bits key us vs (frame / 64) (frame % 64) order us_r word few claimed x,
      ap (λ f. small_at x (block f order)) at,
      small_is x b (omega (arith, few)),
      (charge_written key ws us child n r inside charged).bits x,
    ))
    (λ c h. claim_flags key us vs (frame / 64) (frame % 64) order us_r word few claimed c h ∙ charge_flags key ws us child n r inside
    charged c)
    (ap (huge_of ws) is.in_child ∙ charged.no_flag)

-- What a huge take changes.

module _ (key : Key) (ws us : List ℕ) (child : ℕ) (r : AreInRange key ws) (inside : child < key.children)
    (taken : IsTakenHuge key child ws us) where
  abbrev h_entry : ℕ
  h_entry = entry_word 0 1

  h_small : h_entry < 65536
  h_small = entry_word-lt 0 1 (omega arith) (omega arith)

  h_written : EntryWritten key ws child h_entry us
  h_written =
      subst (EntryWritten key ws child h_entry)
      (as_entry ws child h_entry (lane_put (slice_index ws (entry_place child)) child h_entry) refl ∙ sym taken.words)
      (entry_written key ws child h_entry r inside h_small)

  h_free : free_of ws child ≡ 512
  h_free = omega (arith, free_of_is ws child, free_is (entry_of ws child), taken.was_whole)

  h_flag : huge_of ws child ≡ 0
  h_flag = omega (arith, huge_of_is ws child, flag_is (entry_of ws child), taken.was_whole)

  h_now : huge_of us child ≡ 1
  h_now = h_written.huge_here ∙ flag_in-entry_word 0 1 (omega arith)

  -- a child that was free as a whole is taken as one block
  pub huge_taken : free_of ws child + held_of key ws child ≤ 512 → HoldsMore key ws us (block (512 * child) 9)
  unfolding held_at
  huge_taken sums =
      let b : FrameBlock = block (512 * child) 9 in
      let none : set_of key ws child ≡ 0 = omega (arith, sums, h_free, held_is key ws child) in
      let here : (x : ℕ) → covers b x ≡ 1 → child_of x ≡ child = λ x h. let w = covered_from b x h in omega (arith, w.0, w.1) in
      record {
        was_free = λ x h.
            let c : child_of x ≡ child = here x h in
            omega (
              arith,
              bit-le-set key ws x r.count (omega (arith, c, inside)),
              ap (set_of key ws) c,
              none,
              ap (huge_of ws) c,
              h_flag,
            );
        bits = λ x h. omega (arith, h_written.bits x, not_small x b refl);
        flags = λ c h.
            ⊎_elim
            (λ e. omega (arith, ap (huge_of us) e, ap (huge_of ws) e, h_now, h_flag, ap (λ k. whole_at k b) e, whole_here child))
            (λ ne. omega (arith, h_written.huge_else c ne, whole_else child c ne))
            (cases_eq c child);
      }
