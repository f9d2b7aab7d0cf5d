-- What the steps of the worked runs ask for, at one child.
use Rattle.std.proofs.Common.{◌≡◌, ◌≢◌, ℕ, zero, suc, ◌+◌, ◌*◌, ◌/◌, ◌^◌, ◌<◌, ◌≤◌, List, [], ◌∷◌, None, Some, refl, ap, subst, ◌∙◌, arith}
use Rattle.std.specs.Int.Count.{ones}
use Rattle.std.specs.Int.Bits.{bit_and}
use Rattle.std.specs.List.{All}
use Rattle.std.proofs.lemmas.Bool.Decides.{nat_tests}
use Rattle.std.proofs.lemmas.List.Elements.{All-cons, All-nil}
use Rattle.frame_words.specs.Words.{free_in, flag_in, lane_in}
use Rattle.frame_model.specs.declared.block.FrameBlock.{FrameBlock}
use Rattle.frame_model.specs.declared.view.View.{View}
use Rattle.frame_model.specs.Block.{block, IsBlock, covers, small_at, smalls, wholes}
use Rattle.frame_model.specs.Words.{run, bits_place, set_of}
use Rattle.frame_model.specs.View.{count_in, is_at, charged_in, paid_on, LiesIn}
use Rattle.frame_model.specs.Steps.Amounts.{IsRun, Leaves}
use Rattle.frame_model.specs.Steps.Conditions.{CanCharge, CanClaim, CanRelease, CanTreePay}
use Rattle.frame_model.specs.Without.{less_one, times}
use Rattle.frame_model.specs.WorkedRuns.{one_child, words_of_one}
use Rattle.frame_model.proofs.Amounts.{count_none, one_place, is_at_here, is_at_else}
use Rattle.frame_model.proofs.Bits.{ones_run}
use Rattle.frame_model.proofs.Blocks.{halves, smalls_none, wholes_none}
use Rattle.frame_model.proofs.Without.{less_one_leaves}

-- Views.

-- a view that charges nothing and has no block lies in the child
pub lies_anywhere : (v : View) → v.charged ≡ None → v.own ≡ [] → LiesIn v 0
lies_anywhere v e o = record {
  charged = λ d ne. ap (count_in d) e ∙ count_none d;
  smalls = λ x ne. ap (smalls x) o ∙ smalls_none x;
  wholes = λ d ne. ap (wholes d) o ∙ wholes_none d;
}

pub can_pay : (v : View) (seen n : ℕ) → v.paid ≡ None → n ≤ free_in seen → CanTreePay one_child v 0 seen n
can_pay v seen n e enough = record { inside = omega arith; enough = enough; paid = λ d ne. ap (count_in d) e ∙ count_none d }

pub can_charge : (v : View) (seen n : ℕ) → v.charged ≡ None → v.own ≡ [] → flag_in (lane_in seen 0) ≡ 0
    → n ≤ free_in (lane_in seen 0) → CanCharge one_child v 0 seen n
can_charge v seen n e o flag enough = record { inside = omega arith; no_flag = flag; enough = enough; one_child = lies_anywhere v e o }

-- Blocks.

pub no_blocks : All (IsBlock one_child) []
no_blocks = All-nil (IsBlock one_child)

pub and_block : (b : FrameBlock) (bs : List FrameBlock) → IsBlock one_child b → All (IsBlock one_child) bs
    → All (IsBlock one_child) (b ∷ bs)
and_block b bs is are = All-cons (IsBlock one_child) b bs is are

-- Whole bit words.

pub whole_word : (word : ℕ) → word < 8 → IsRun one_child word 0 6
whole_word word h = record { inside = omega arith; small = omega arith; aligned = refl; fits = omega arith }

pub word_is_block : (word : ℕ) → word < 8 → IsBlock one_child (block (64 * word) 6)
word_is_block word h = record { order = omega arith; aligned = omega arith; inside = omega arith }

-- the blocks of n words claimed upward, the latest first
abbrev pub claimed : ℕ → ℕ → List FrameBlock
claimed first zero = []
claimed first (suc n) = block (64 * (first + n)) 6 ∷ claimed first n

pub claimed_are_blocks : (first n : ℕ) → first + n ≤ 8 → All (IsBlock one_child) (claimed first n)
claimed_are_blocks first zero h = no_blocks
claimed_are_blocks first (suc n) h =
    and_block (block (64 * (first + n)) 6) (claimed first n) (word_is_block (first + n) (omega arith))
    (claimed_are_blocks first n (omega arith))

pub can_claim : (v : View) (word seen : ℕ) → word < 8 → bit_and seen (run 0 (2 ^ 6)) ≡ 0
    → 2 ^ 6 ≤ charged_in (word / 8) v → 2 ^ 6 ≤ paid_on (word / 64) v → CanClaim one_child v word seen 0 6
can_claim v word seen h clear charged paid = record { is_run = whole_word word h; clear = clear; charged = charged; paid = paid }

pub can_release : (v : View) (word : ℕ) → word < 8 → All (IsBlock one_child) v.own
    → 0 < times (block (64 * word) 6) v.own → 0 < charged_in (word / 8) v → 0 < paid_on (word / 64) v
    → CanRelease one_child v word 0 6 (less_one (block (64 * word) 6) v.own)
can_release v word h are own charged paid =
    let same : 64 * word ≡ 64 * word + 0 = omega arith in
    record {
      is_run = whole_word word h;
      leaves = subst (λ f. Leaves one_child v.own (block f 6) (less_one (block (64 * word) 6) v.own)) same
          (less_one_leaves one_child (block (64 * word) 6) v.own are own);
      charged = one_place (word / 8) v.charged charged;
      paid = one_place (word / 64) v.paid paid;
    }

-- two words, or four, are the frames of one block
pub two_words : (frame x : ℕ) → small_at x (block (frame + 64) 6) + small_at x (block frame 6) ≡ small_at x (block frame 7)
two_words frame x = omega (arith, halves x frame 6 (omega arith))

pub four_words : (frame x : ℕ)
    → small_at x (block (frame + 192) 6) + small_at x (block (frame + 128) 6) + small_at x (block (frame + 64) 6)
    + small_at x (block frame 6) ≡ small_at x (block frame 8)
four_words frame x =
    let both : small_at x (block (frame + 128) 7) + small_at x (block frame 7) ≡ small_at x (block frame 8) =
    omega (arith, halves x frame 7 (omega arith)) in
    let last : frame + 128 + 64 ≡ frame + 192 = omega arith in
    omega (arith, both, two_words frame x, two_words (frame + 128) x, ap (λ f. small_at x (block f 6)) last)

pub small_covers : (x : ℕ) (b : FrameBlock) → b.order < 9 → small_at x b ≡ covers b x
unfolding small_at
small_covers x b h = grind (arith, nat_tests)

-- another number was found
pub not_zero : (n : ℕ) → Some 0 ≢ Some (suc n)
not_zero n e = let z : is_at 0 (Some 0) ≡ is_at 0 (Some (suc n)) = ap (is_at 0) e in
    omega (arith, z, is_at_here 0, is_at_else (suc n) 0 (omega arith))

-- The set frames, word by word.

pub set_eight : (e t c b0 b1 b2 b3 b4 b5 b6 b7 : ℕ)
    → set_of one_child (words_of_one e t c b0 b1 b2 b3 b4 b5 b6 b7) 0 ≡ ones b0 + ones b1 + ones b2 + ones b3
    + ones b4 + ones b5 + ones b6 + ones b7
unfolding set_of bits_place
set_eight e t c b0 b1 b2 b3 b4 b5 b6 b7 = omega arith

pub ones_one : ones 1 ≡ 1
ones_one = ones_run 0 1

-- a frame of a block lies before its end
pub covers_within : (b : FrameBlock) (x : ℕ) → covers b x ≡ 1 → x < b.frame + 2 ^ b.order
unfolding covers
covers_within b x e = grind (arith, nat_tests)
