use Rattle.std.proofs.Common.{◌≡◌, ℕ, ◌<◌, List, [], ◌∷◌, ◌++◌, length, ap, sym, subst, ◌∙◌, arith}
use Rattle.std.specs.List.{remove}
use Rattle.std.specs.List.Sorted.{IsPermutation}
use Rattle.std.proofs.lemmas.List.Sorted.{Contains-permutation, IsPermutation-refl, IsPermutation-remove, IsPermutation-sym}
use Rattle.std.proofs.lemmas.List.Sorted.{IsPermutation-trans, IsPermutation-cons, IsPermutation-middle, IsPermutation-reverse}
use Rattle.std.proofs.lemmas.List.Sorted.{IsPermutation-append_left, IsPermutation-push_more}
use Rattle.frame_model.specs.declared.block.FrameBlock.{FrameBlock}
use Rattle.core_frames.specs.PlainState.{PlainState}
use Rattle.core_frames.proofs.PlainPermutations.{uncons}
use Rattle.core_tests.proofs.tests.plain.split_from.Goals as goal

pub split-requires-clause-out : goal.split-requires-clause-out
split-requires-clause-out c =
    let old = c.args.blocks.now in
    let inside : c.args.place < length old.items = omega (arith, c.requires.place, old.ok.0) in
    Contains-permutation old.items c.args.allocator.now.out c.remove-block.result c.requires.same
    (c.args.place, inside, sym c.remove-block.ensures.value)

-- the halves stand in the place of the block
halves : (b l u : FrameBlock) (left out new : List FrameBlock) → IsPermutation (b ∷ left) out → IsPermutation (b ∷ new) (l ∷ u ∷ out)
    → IsPermutation (u ∷ l ∷ left) new
halves b l u left out new one two =
    let three : IsPermutation (l ∷ u ∷ b ∷ left) (l ∷ u ∷ out) =
    IsPermutation-cons l (u ∷ b ∷ left) (u ∷ out) (IsPermutation-cons u (b ∷ left) out one) in
    let four : IsPermutation (l ∷ u ∷ b ∷ left) (b ∷ l ∷ u ∷ left) = IsPermutation-middle (l ∷ u ∷ []) b left in
    let five : IsPermutation (b ∷ l ∷ u ∷ left) (b ∷ new) =
    IsPermutation-trans (b ∷ l ∷ u ∷ left) (l ∷ u ∷ b ∷ left) (b ∷ new)
    (IsPermutation-sym (l ∷ u ∷ b ∷ left) (b ∷ l ∷ u ∷ left) four)
    (IsPermutation-trans (l ∷ u ∷ b ∷ left) (l ∷ u ∷ out) (b ∷ new) three (IsPermutation-sym (b ∷ new) (l ∷ u ∷ out) two)) in
    IsPermutation-trans (u ∷ l ∷ left) (l ∷ u ∷ left) new
    (IsPermutation-append_left left (u ∷ l ∷ []) (l ∷ u ∷ []) (IsPermutation-reverse (u ∷ l ∷ [])))
    (uncons b (l ∷ u ∷ left) new five)

pub returns-in_ok-push-in-Ok-2-clause-same : goal.returns-in_ok-push-in-Ok-2-clause-same
returns-in_ok-push-in-Ok-2-clause-same c =
    let old : List FrameBlock = c.args.blocks.now.items in
    let b : FrameBlock = c.remove-block.result in
    let l : FrameBlock = c.in-Ok.lower in
    let u : FrameBlock = c.in-Ok.upper in
    let left : List FrameBlock = remove old c.args.place in
    let out : List FrameBlock = c.args.allocator.now.out in
    let new : List FrameBlock = c.split.new.self.out in
    let inside : c.args.place < length old = omega (arith, c.requires.place, c.args.blocks.now.ok.0) in
    let one : IsPermutation (b ∷ left) out = IsPermutation-trans (b ∷ left) old out (IsPermutation-sym old (b ∷ left)
    (IsPermutation-remove old c.args.place b inside c.remove-block.ensures.value)) c.requires.same in
    let both : IsPermutation (u ∷ l ∷ left) new = halves b l u left out new one c.in-Ok.ensures.split.out in
    let pushed : IsPermutation (left ++ l ∷ []) (l ∷ left) =
    IsPermutation-push_more left left (l ∷ left) l (IsPermutation-refl left) (IsPermutation-refl (l ∷ left)) in
    let last : IsPermutation ((left ++ l ∷ []) ++ u ∷ []) new = IsPermutation-push_more (left ++ l ∷ []) (l ∷ left) new u pushed both in
    subst (λ (bs : List FrameBlock). IsPermutation bs new)
    (sym (c.in_ok-push-in-Ok-2.ensures.items
    ∙ ap (λ (bs : List FrameBlock). bs ++ u ∷ []) (c.in_ok-push-in-Ok.ensures.items
    ∙ ap (λ (bs : List FrameBlock). bs ++ l ∷ []) c.remove-block.ensures.items))) last

pub returns-in_ok-push-in-Err-clause-same : goal.returns-in_ok-push-in-Err-clause-same
returns-in_ok-push-in-Err-clause-same c =
    let old : List FrameBlock = c.args.blocks.now.items in
    let b : FrameBlock = c.remove-block.result in
    let left : List FrameBlock = remove old c.args.place in
    let out : List FrameBlock = c.args.allocator.now.out in
    let new : List FrameBlock = c.split.new.self.out in
    let inside : c.args.place < length old = omega (arith, c.requires.place, c.args.blocks.now.ok.0) in
    let one : IsPermutation (b ∷ left) out = IsPermutation-trans (b ∷ left) old out (IsPermutation-sym old (b ∷ left)
    (IsPermutation-remove old c.args.place b inside c.remove-block.ensures.value)) c.requires.same in
    let same : out ≡ new = ap (λ (s : PlainState). s.out) (sym c.in-Err.ensures.whole.1.1) in
    let back : IsPermutation (b ∷ left) new = subst (IsPermutation (b ∷ left)) same one in
    let pushed : IsPermutation (left ++ b ∷ []) new = IsPermutation-push_more left left new b (IsPermutation-refl left) back in
    let handed : c.in-Err.block ≡ b = c.in-Err.ensures.whole.0 in
    subst (λ (bs : List FrameBlock). IsPermutation bs new)
    (sym (c.in_ok-push-in-Err.ensures.items ∙ ap (λ (d : FrameBlock). c.remove-block.new.self.items ++ d ∷ []) handed
    ∙ ap (λ (bs : List FrameBlock). bs ++ b ∷ []) c.remove-block.ensures.items)) pushed
