use Rattle.std.proofs.Common.{List, refl, sym, subst, rules}
use Rattle.std.specs.List.{All}
use Rattle.std.specs.List.Sorted.{IsPermutation}
use Rattle.std.proofs.lemmas.List.Sorted.{All-permutation}
use Rattle.frame_model.specs.declared.block.FrameBlock.{FrameBlock}
use Rattle.frame_slots.specs.Claims.{IsHeldAs}
use Rattle.llfree_c.specs.Reopenings.{claimed_blocks, IsClaimedOf, MayBeClaimed}
use Rattle.llfree_c.proofs.Replays.{apart_still, may_be_claimed}
use Rattle.llfree_c.proofs.blocks.claimed_in.Goals as goal

pub returns-then-not-are_held_as-clause-err : goal.returns-then-not-are_held_as-clause-err
returns-then-not-are_held_as-clause-err c =
    let P : FrameBlock → Type 0 = IsHeldAs c.args.frames c.args.numbers.now in
    let no : ¬ MayBeClaimed c.args.frames c.args.numbers.now c.args.claims.now = λ m.
    c.if-not-are_held_as.ensures (subst (λ (bs : List FrameBlock). All P bs) (sym c.deref.ensures.value)
    (All-permutation P (claimed_blocks c.args.claims.now) c.in_ok-blocks.blocks.items c.in_ok-blocks.ensures.same m.held)) in
    search (rules, no)

pub returns-then-not-are_apart-clause-err : goal.returns-then-not-are_apart-clause-err
returns-then-not-are_apart-clause-err c =
    let same = subst (λ (bs : List FrameBlock). IsPermutation (claimed_blocks c.args.claims.now) bs) (sym c.deref-2.ensures.value)
    c.in_ok-blocks.ensures.same in
    let no : ¬ MayBeClaimed c.args.frames c.args.numbers.now c.args.claims.now = λ m.
    c.if-not-are_apart.ensures.overlap refl (apart_still (claimed_blocks c.args.claims.now) c.deref-2.result.now same m.apart) in
    search (rules, no)

pub returns-clause-lawful : goal.returns-clause-lawful
returns-clause-lawful c =
    let blocks : List FrameBlock = c.in_ok-blocks.blocks.items in
    let is : IsClaimedOf c.args.frames c.args.numbers.now c.args.claims.now blocks = search rules in
    may_be_claimed c.args.frames c.args.numbers.now c.args.claims.now blocks is
