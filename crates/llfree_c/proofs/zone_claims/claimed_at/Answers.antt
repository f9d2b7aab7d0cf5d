use Rattle.std.proofs.Common.{inl, inr, List, refl, sym, subst, ◌∙◌}
use Rattle.std.specs.List.{All}
use Rattle.std.specs.List.Sorted.{IsPermutation}
use Rattle.std.proofs.lemmas.List.Sorted.{All-permutation}
use Rattle.frame_model.specs.declared.block.FrameBlock.{FrameBlock}
use Rattle.llfree_c.specs.Reopenings.{claimed_blocks}
use Rattle.llfree_c.specs.ZoneClaims.{IsHeldInOne, MayBeClaimedIn}
use Rattle.llfree_c.proofs.ClaimedZones.{are_claimed, may_be_claimed}
use Rattle.llfree_c.proofs.Replays.{apart_still}
use Rattle.llfree_c.proofs.zone_claims.claimed_at.Goals as goal

pub returns-then-not-are_held_in-clause-err : goal.returns-then-not-are_held_in-clause-err
returns-then-not-are_held_in-clause-err c =
    let Held : FrameBlock → Type 0 = IsHeldInOne c.args.zones.now c.args.numbers.now in
    let no : ¬ MayBeClaimedIn c.args.zones.now c.args.numbers.now c.args.claims.now = λ m.
    c.if-not-are_held_in.ensures (subst (λ (bs : List FrameBlock). All Held bs) (sym c.deref.ensures.value)
    (All-permutation Held (claimed_blocks c.args.claims.now) c.in_ok-blocks.blocks.items c.in_ok-blocks.ensures.same m.held)) in
    inr (inr (inl (refl, c.requires.read, no)))

pub are_apart-requires : goal.are_apart-requires
are_apart-requires c =
    let Held : FrameBlock → Type 0 = IsHeldInOne c.args.zones.now c.args.numbers.now in
    let all : All Held c.deref-2.result.now =
    subst (λ (bs : List FrameBlock). All Held bs) (c.deref.ensures.value ∙ sym c.deref-2.ensures.value) c.if-not-are_held_in.ensures in
    λ k d less. (all k d less).1.held.order

pub returns-then-not-are_apart-clause-err : goal.returns-then-not-are_apart-clause-err
returns-then-not-are_apart-clause-err c =
    let same = subst (λ (bs : List FrameBlock). IsPermutation (claimed_blocks c.args.claims.now) bs) (sym c.deref-2.ensures.value)
    c.in_ok-blocks.ensures.same in
    let no : ¬ MayBeClaimedIn c.args.zones.now c.args.numbers.now c.args.claims.now = λ m.
    c.if-not-are_apart.ensures.overlap refl (apart_still (claimed_blocks c.args.claims.now) c.deref-2.result.now same m.apart) in
    inr (inr (inl (refl, c.requires.read, no)))

pub returns-clause-claimed : goal.returns-clause-claimed
returns-clause-claimed c =
    are_claimed c.args.zones.now c.args.numbers.now c.args.claims.now c.in_ok-blocks.blocks.items c.deref.result.now
    c.deref-2.result.now c.requires.read.images c.deref.ensures.value c.if-not-are_held_in.ensures
    c.in_ok-blocks.ensures.same c.in_ok-blocks.ensures.ascend c.deref-2.ensures.value (c.if-not-are_apart.ensures.apart refl)

pub returns-clause-lawful : goal.returns-clause-lawful
returns-clause-lawful c =
    may_be_claimed c.args.zones.now c.args.numbers.now c.args.claims.now c.in_ok-blocks.blocks.items
    (are_claimed c.args.zones.now c.args.numbers.now c.args.claims.now c.in_ok-blocks.blocks.items c.deref.result.now
    c.deref-2.result.now c.requires.read.images c.deref.ensures.value c.if-not-are_held_in.ensures
    c.in_ok-blocks.ensures.same c.in_ok-blocks.ensures.ascend c.deref-2.ensures.value (c.if-not-are_apart.ensures.apart refl))
