use Rattle.std.proofs.Common.{◌≡◌, List, subst, sym}
use Rattle.std.specs.List.Sorted.{IsPermutation}
use Rattle.std.proofs.lemmas.List.Sorted.{IsPermutation-push_more}
use Rattle.frame_model.specs.declared.block.FrameBlock.{FrameBlock}
use Rattle.core_tests.proofs.tests.plain.take_into.Goals as goal

pub returns-in_ok-push-in-Ok-clause-same : goal.returns-in_ok-push-in-Ok-clause-same
returns-in_ok-push-in-Ok-clause-same c =
    subst (λ (bs : List FrameBlock). IsPermutation bs c.take.new.self.out) (sym c.in_ok-push-in-Ok.ensures.items)
    (IsPermutation-push_more c.args.blocks.now.items c.args.allocator.now.out c.take.new.self.out c.in-Ok.block
    c.requires.same c.in-Ok.ensures.out)
