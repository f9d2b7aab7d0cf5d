use Rattle.std.proofs.Common.{◌≡◌, ℕ, ◌<◌, List, ◌∷◌, length, sym, subst, arith}
use Rattle.std.specs.List.{remove}
use Rattle.std.specs.List.Sorted.{IsPermutation}
use Rattle.std.proofs.lemmas.List.Sorted.{Contains-permutation, IsPermutation-remove, IsPermutation-sym, IsPermutation-trans}
use Rattle.frame_model.specs.declared.block.FrameBlock.{FrameBlock}
use Rattle.core_frames.proofs.PlainPermutations.{uncons}
use Rattle.core_tests.proofs.tests.plain.give_from.Goals as goal

pub give-requires-clause-out : goal.give-requires-clause-out
give-requires-clause-out c =
    let old = c.args.blocks.now in
    let inside : c.args.place < length old.items = omega (arith, c.requires.place, old.ok.0) in
    Contains-permutation old.items c.args.allocator.now.out c.remove-block.result c.requires.same
    (c.args.place, inside, sym c.remove-block.ensures.value)

pub returns-clause-same : goal.returns-clause-same
returns-clause-same c =
    let old : List FrameBlock = c.args.blocks.now.items in
    let b : FrameBlock = c.remove-block.result in
    let left : List FrameBlock = remove old c.args.place in
    let out : List FrameBlock = c.args.allocator.now.out in
    let inside : c.args.place < length old = omega (arith, c.requires.place, c.args.blocks.now.ok.0) in
    let one : IsPermutation (b ∷ left) old = IsPermutation-sym old (b ∷ left)
    (IsPermutation-remove old c.args.place b inside c.remove-block.ensures.value) in
    let two : IsPermutation out (b ∷ c.give.new.self.out) = IsPermutation-sym (b ∷ c.give.new.self.out) out c.give.ensures.out in
    let all = IsPermutation-trans (b ∷ left) old (b ∷ c.give.new.self.out) one
    (IsPermutation-trans old out (b ∷ c.give.new.self.out) c.requires.same two) in
    subst (λ (bs : List FrameBlock). IsPermutation bs c.give.new.self.out) (sym c.remove-block.ensures.items)
    (uncons b left c.give.new.self.out all)
