use Rattle.std.proofs.Common.{List, [], ◌∷◌, ◌++◌, ap, sym, subst, ◌∙◌}
use Rattle.std.specs.List.Sorted.{IsPermutation}
use Rattle.frame_model.specs.declared.block.FrameBlock.{FrameBlock}
use Rattle.llfree_c.proofs.Following.{halved_holders}
use Rattle.llfree_c.proofs.Replays.{is_out, halved}
use Rattle.llfree_c.proofs.replay.split_into.Goals as goal

pub split-requires-clause-out : goal.split-requires-clause-out
split-requires-clause-out c =
    is_out c.args.laid.now.items c.args.pending.now.items c.args.allocator.now.out c.args.block c.requires.same

pub returns-clause-same : goal.returns-clause-same
returns-clause-same c =
    let l : FrameBlock = c.in-Ok.lower in
    let u : FrameBlock = c.in-Ok.upper in
    let new : List FrameBlock = c.split.new.self.out in
    subst (λ (ps : List FrameBlock). IsPermutation (c.args.laid.now.items ++ ps) new)
    (sym (c.in-Ok-push-2.ensures.items ∙ ap (λ (bs : List FrameBlock). bs ++ u ∷ []) c.in-Ok-push.ensures.items))
    (halved c.args.laid.now.items c.args.pending.now.items c.args.allocator.now.out c.args.block l u new c.requires.same
    c.in-Ok.ensures.split.out)

pub returns-clause-held : goal.returns-clause-held
returns-clause-held c =
    halved_holders [] c.args.block [] c.in-Ok.lower c.in-Ok.upper c.args.allocator.now.out c.split.new.self.out
    c.in-Ok.ensures.split.halves c.in-Ok.ensures.split.out
