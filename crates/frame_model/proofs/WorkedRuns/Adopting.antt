-- What may be adopted once a memory of one child is opened again.
use Rattle.std.proofs.Common.{◌≡◌, ℕ, ◌+◌, ◌/◌, ◌%◌, ◌^◌, ◌<◌, List, refl, ap, sym, ◌∙◌, arith}
use Rattle.std.specs.Int.{bit_at}
use Rattle.frame_words.specs.Words.{flag_in, lane_in, lane_shift}
use Rattle.std.proofs.lemmas.Nat.Bits.{bit_at-zero}
use Rattle.frame_model.specs.declared.block.FrameBlock.{FrameBlock}
use Rattle.frame_model.specs.declared.key.Key.{Key}
use Rattle.frame_model.specs.Block.{block, IsBlock}
use Rattle.frame_model.specs.Words.{entry_place, bits_place, entry_of, huge_of, bit_word_of, bit_of}
use Rattle.frame_model.specs.Openings.{held_blocks}
use Rattle.frame_model.specs.Stops.{unsealed}
use Rattle.frame_model.specs.WorkedRuns.{one_child, full_word, one_claimed, still_huge, all_set, MayBeAdopted, IsNotHeld}
use Rattle.frame_model.proofs.Blocks.{in_block, whole_here}
use Rattle.frame_model.proofs.Opening.{held_are_blocks, held_smalls, held_wholes}
use Rattle.frame_model.proofs.Sets.{bit_at_full}
use Rattle.frame_model.proofs.Steps.Shared.{bit_is}
use Rattle.frame_model.proofs.Without.{without_leaves}
use Rattle.frame_model.proofs.WorkedRuns.Pieces.{covers_within}
use Rattle.frame_model.proofs.WorkedRuns.Rebuilding.{one_of_eight}

abbrev again : Key
again = unsealed one_child

-- a frame of a word with all bits set, and one of a clear word
is_set : (ws : List ℕ) (x : ℕ) → bit_word_of again ws (x / 64) ≡ full_word → bit_of again ws x ≡ 1
is_set ws x e = bit_is again ws x (x / 64) refl ∙ ap (λ n. bit_at n (x % 64)) e ∙ bit_at_full (x % 64) (omega arith)

is_clear : (ws : List ℕ) (x : ℕ) → bit_word_of again ws (x / 64) ≡ 0 → bit_of again ws x ≡ 0
is_clear ws x e = bit_is again ws x (x / 64) refl ∙ ap (λ n. bit_at n (x % 64)) e ∙ bit_at-zero (x % 64)

-- a block below order 9 of which all frames are set
adopts : (ws : List ℕ) (b : FrameBlock) → IsBlock again b → b.order < 9
    → ((x : ℕ) → x < b.frame + 2 ^ b.order → bit_of again ws x ≡ 1) → MayBeAdopted ws b
adopts ws b is low all = record {
  share = refl;
  is_ground = refl;
  is_block = is;
  inside = is.inside;
  leaves = without_leaves again b (held_blocks again ws) is (held_are_blocks again ws) (record {
    smalls = λ l x e. held_smalls again ws x (omega (arith, is.inside, covers_within b x e)) ∙ all x (covers_within b x e);
    wholes = λ o. absurd (omega arith);
  });
}

-- after one claim

word_0 : bit_word_of again one_claimed 0 ≡ full_word
unfolding bit_word_of bits_place
word_0 = refl

word_1 : bit_word_of again one_claimed 1 ≡ 0
unfolding bit_word_of bits_place
word_1 = refl

pub claimed_is_adopted : MayBeAdopted one_claimed (block 0 6)
claimed_is_adopted =
    adopts one_claimed (block 0 6) (record { order = omega arith; aligned = refl; inside = omega arith }) (omega arith)
    (λ x h. let first : 0 ≡ x / 64 = omega arith in is_set one_claimed x (ap (bit_word_of again one_claimed) (sym first) ∙ word_0))

pub rest_is_not_held : IsNotHeld one_claimed (block 0 7)
rest_is_not_held rest can =
    omega (
      arith,
      can.leaves.smalls 64,
      in_block 64 (block 0 7) (omega arith) (omega arith) (omega arith),
      held_smalls again one_claimed 64 (omega arith),
      is_clear one_claimed 64 word_1,
    )

-- with four words filled

flag_up : huge_of still_huge 0 ≡ 1
unfolding huge_of entry_of entry_place flag_in lane_in lane_shift
flag_up = refl

pub huge_is_adopted : MayBeAdopted still_huge (block 0 9)
huge_is_adopted = record {
  share = refl;
  is_ground = refl;
  is_block = whole;
  inside = omega arith;
  leaves = without_leaves again (block 0 9) (held_blocks again still_huge) whole (held_are_blocks again still_huge) (record {
    smalls = λ l x e. absurd (omega arith);
    wholes = λ o. omega (arith, held_wholes again still_huge 0 (omega arith) (omega (arith, flag_up)), flag_up);
  });
}
  where
    whole : IsBlock again (block 0 9)
    whole = record { order = omega arith; aligned = refl; inside = omega arith }

-- with the flag dropped

words_full : (w : ℕ) → w < 8 → bit_word_of again all_set w ≡ full_word
unfolding bit_word_of bits_place
words_full = one_of_eight (λ w. bit_word_of again all_set w ≡ full_word) refl refl refl refl refl refl refl refl

flag_down : huge_of all_set 0 ≡ 0
unfolding huge_of entry_of entry_place flag_in lane_in lane_shift
flag_down = refl

pub lower_is_adopted : MayBeAdopted all_set (block 0 8)
lower_is_adopted =
    adopts all_set (block 0 8) (record { order = omega arith; aligned = refl; inside = omega arith }) (omega arith)
    (λ x h. is_set all_set x (words_full (x / 64) (omega arith)))

pub upper_is_adopted : MayBeAdopted all_set (block 256 8)
upper_is_adopted =
    adopts all_set (block 256 8) (record { order = omega arith; aligned = refl; inside = omega arith }) (omega arith)
    (λ x h. is_set all_set x (words_full (x / 64) (omega arith)))

pub huge_is_not_held : IsNotHeld all_set (block 0 9)
huge_is_not_held rest can =
    omega (arith, can.leaves.wholes 0, whole_here 0, held_wholes again all_set 0 (omega arith) (omega (arith, flag_down)), flag_down)
