-- Blocks that stay out or wait, while an image is followed.
use Rattle.std.proofs.Common.{◌≡◌, ℕ, List, [], ◌∷◌, ◌++◌, length, refl, ap, sym, subst, ◌∙◌, arith}
use Rattle.std.specs.List.{Contains}
use Rattle.std.proofs.lemmas.List.{append_assoc, append-nil}
use Rattle.std.specs.List.Sorted.{IsPermutation}
use Rattle.std.proofs.lemmas.List.Sorted.{All-permutation, Contains-permutation, IsPermutation-sym, IsPermutation-trans}
use Rattle.std.proofs.lemmas.List.Sorted.{IsPermutation-cons, IsPermutation-middle, IsPermutation-to_front}
use Rattle.std.proofs.lemmas.List.Sorted.{sum_by-IsPermutation}
use Rattle.frame_model.specs.declared.block.FrameBlock.{FrameBlock}
use Rattle.frame_words.specs.declared.geometry.Geometry.{Geometry}
use Rattle.frame_model.specs.Block.{covers}
use Rattle.frame_model.specs.Key.{AreRanges}
use Rattle.core_frames.specs.Ranges.{MayHoldBack}
use Rattle.frame_model.specs.Holding.{holders}
use Rattle.frame_slots.specs.Claims.{IsHeldAs, ShareNoFrame}
use Rattle.llfree_c.specs.Reopenings.{claimed_blocks, IsClaimedOf, MayBeClaimed}
use Rattle.llfree_c.specs.declared.blocks.ClaimedBlock.{ClaimedBlock}
use Rattle.core_frames.proofs.PlainPermutations.{uncons}

module _ (laid left out : List FrameBlock) (b : FrameBlock) where
  -- the last one that waits is taken off
  pub popped : IsPermutation (laid ++ (left ++ b ∷ [])) out → IsPermutation (b ∷ (laid ++ left)) out
  popped same =
      let front : IsPermutation ((laid ++ left) ++ b ∷ []) (b ∷ (laid ++ left)) = IsPermutation-to_front (laid ++ left) b in
      IsPermutation-trans (b ∷ (laid ++ left)) ((laid ++ left) ++ b ∷ []) out (IsPermutation-sym _ _ front)
      (subst (λ (bs : List FrameBlock). IsPermutation bs out) (sym (append_assoc laid left (b ∷ []))) same)

  -- it stays out
  pub laid_down : IsPermutation (b ∷ (laid ++ left)) out → IsPermutation ((laid ++ b ∷ []) ++ left) out
  laid_down same =
      let at : IsPermutation (laid ++ b ∷ left) out =
      IsPermutation-trans (laid ++ b ∷ left) (b ∷ (laid ++ left)) out (IsPermutation-middle laid b left) same in
      subst (λ (bs : List FrameBlock). IsPermutation bs out) (sym (append_assoc laid (b ∷ []) left)) at

  -- it is out
  pub is_out : IsPermutation (b ∷ (laid ++ left)) out → Contains out b
  is_out same = Contains-permutation (b ∷ (laid ++ left)) out b same (0, omega arith, refl)

  -- it is given or kept
  pub parted : (new : List FrameBlock) → IsPermutation (b ∷ (laid ++ left)) out → IsPermutation (b ∷ new) out
      → IsPermutation (laid ++ left) new
  parted new same one =
      uncons b (laid ++ left) new (IsPermutation-trans (b ∷ (laid ++ left)) out (b ∷ new) same (IsPermutation-sym (b ∷ new) out one))

  -- its halves wait in its place
  pub halved : (l u : FrameBlock) (new : List FrameBlock) → IsPermutation (b ∷ (laid ++ left)) out
      → IsPermutation (b ∷ new) (l ∷ u ∷ out) → IsPermutation (laid ++ ((left ++ l ∷ []) ++ u ∷ [])) new
  halved l u new same two =
      let old : List FrameBlock = laid ++ left in
      let three : IsPermutation (l ∷ u ∷ b ∷ old) (l ∷ u ∷ out) =
      IsPermutation-cons l (u ∷ b ∷ old) (u ∷ out) (IsPermutation-cons u (b ∷ old) out same) in
      let four : IsPermutation (l ∷ u ∷ b ∷ old) (b ∷ l ∷ u ∷ old) = IsPermutation-middle (l ∷ u ∷ []) b old in
      let five : IsPermutation (b ∷ l ∷ u ∷ old) (b ∷ new) =
      IsPermutation-trans (b ∷ l ∷ u ∷ old) (l ∷ u ∷ b ∷ old) (b ∷ new)
      (IsPermutation-sym (l ∷ u ∷ b ∷ old) (b ∷ l ∷ u ∷ old) four)
      (IsPermutation-trans (l ∷ u ∷ b ∷ old) (l ∷ u ∷ out) (b ∷ new) three (IsPermutation-sym (b ∷ new) (l ∷ u ∷ out) two)) in
      let six : IsPermutation (l ∷ u ∷ old) new = uncons b (l ∷ u ∷ old) new five in
      let seven : IsPermutation (u ∷ (old ++ l ∷ [])) (l ∷ u ∷ old) =
      IsPermutation-trans (u ∷ (old ++ l ∷ [])) (u ∷ l ∷ old) (l ∷ u ∷ old)
      (IsPermutation-cons u (old ++ l ∷ []) (l ∷ old) (IsPermutation-to_front old l))
      (IsPermutation-sym (l ∷ u ∷ old) (u ∷ l ∷ old) (IsPermutation-middle (l ∷ []) u old)) in
      let eight : IsPermutation ((old ++ l ∷ []) ++ u ∷ []) new =
      IsPermutation-trans ((old ++ l ∷ []) ++ u ∷ []) (u ∷ (old ++ l ∷ [])) new (IsPermutation-to_front (old ++ l ∷ []) u)
      (IsPermutation-trans (u ∷ (old ++ l ∷ [])) (l ∷ u ∷ old) new seven six) in
      let e : (old ++ l ∷ []) ++ u ∷ [] ≡ laid ++ ((left ++ l ∷ []) ++ u ∷ []) =
      ap (λ (bs : List FrameBlock). bs ++ u ∷ []) (append_assoc laid left (l ∷ [])) ∙ append_assoc laid (left ++ l ∷ []) (u ∷ []) in
      subst (λ (bs : List FrameBlock). IsPermutation bs new) e eight

-- blocks that are apart are so in any order
pub apart_still : (bs cs : List FrameBlock) → IsPermutation bs cs → ShareNoFrame bs → ShareNoFrame cs
unfolding holders
apart_still bs cs p apart = λ x. omega (arith, sum_by-IsPermutation (λ b. covers b x) bs cs p, apart x)

-- what was claimed may be
pub may_be_claimed : (frames : ℕ) (numbers : List ℕ) (claims : List ClaimedBlock) (blocks : List FrameBlock)
    → IsClaimedOf frames numbers claims blocks → MayBeClaimed frames numbers claims
may_be_claimed frames numbers claims blocks is =
    let named : List FrameBlock = claimed_blocks claims in
    let back : IsPermutation blocks named = IsPermutation-sym named blocks is.same in
    record {
      held = All-permutation (IsHeldAs frames numbers) blocks named back is.held;
      apart = apart_still blocks named back is.apart;
    }

-- a memory may have no ranges
pub no_ranges : (g : Geometry) → MayHoldBack g []
unfolding AreRanges
no_ranges g = record { few = omega arith; apart = tt }

-- a list of no length is empty
pub none_there : (bs : List FrameBlock) → length bs ≡ 0 → bs ≡ []
none_there [] e = refl
none_there (b ∷ bs) e = absurd (omega (arith, e))

-- where none waits, all that are out stay so
pub all_laid : (laid left out : List FrameBlock) → length left ≡ 0 → IsPermutation (laid ++ left) out → IsPermutation laid out
all_laid laid left out e same = subst (λ (bs : List FrameBlock). IsPermutation bs out) (append-nil laid)
    (subst (λ (bs : List FrameBlock). IsPermutation (laid ++ bs) out) (none_there left e) same)
