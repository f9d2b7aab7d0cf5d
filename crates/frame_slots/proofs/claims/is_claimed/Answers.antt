use Rattle.std.proofs.Common.{ap, sym, ◌∙◌, rules}
use Rattle.std.proofs.lemmas.Cmp.{ranked}
use Rattle.std.proofs.lemmas.List.Sorted.{answers_always}
use Rattle.frame_model.specs.declared.block.FrameBlock.{FrameBlock}
use Rattle.frame_slots.proofs.Searches.{not_between, not_of_order, unequal}
use Rattle.frame_slots.proofs.claims.is_claimed.Goals as goal

pub returns-then-block-frame-clause-unclaimed : goal.returns-then-block-frame-clause-unclaimed
returns-then-block-frame-clause-unclaimed c =
    let at = c.in-Some.ensures.lookup.1 in
    λ differs up apart. not_of_order c.args.blocks.now c.args.frame c.args.order c.in-Ok.place c.in-Some.block.now apart
    c.in-Ok.ensures.bound (ap (λ (b : FrameBlock). b.frame) (sym at) ∙ c.if-block-frame.true)
    (λ same. unequal c.in-Some.block.now.order c.args.order differs (ap (λ (b : FrameBlock). b.order) at ∙ same))

pub returns-else-block-frame-clause-unclaimed : goal.returns-else-block-frame-clause-unclaimed
returns-else-block-frame-clause-unclaimed c =
    let found = c.in-Ok.ensures.position (λ (b : FrameBlock). b.frame) (answers_always _ _ _ (λ f a r g called. search rules)) in
    let same = ranked _ c.args.frame _ (sym (found c.in-Some.block.now)) in
    λ _ _ _ _. c.if-block-frame.false (ap (λ (b : FrameBlock). b.frame) c.in-Some.ensures.lookup.1 ∙ same)

pub returns-in-Err-clause-unclaimed : goal.returns-in-Err-clause-unclaimed
returns-in-Err-clause-unclaimed c =
    λ _ up apart. not_between c.args.blocks.now c.args.frame c.args.order c.in-Err.field-0 up
    (c.in-Err.ensures.position (λ (b : FrameBlock). b.frame) (answers_always _ _ _ (λ f a r g called. search rules)))
