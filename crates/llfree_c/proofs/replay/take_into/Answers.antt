use Rattle.std.proofs.Common.{List, sym, subst, rules}
use Rattle.std.specs.List.Sorted.{IsPermutation}
use Rattle.std.proofs.lemmas.List.Sorted.{IsPermutation-push_more}
use Rattle.frame_model.specs.declared.block.FrameBlock.{FrameBlock}
use Rattle.llfree_c.proofs.replay.take_into.Goals as goal

pub loop-i-preserved : goal.loop-i-preserved
loop-i-preserved c = record {
  memory = search rules;
  kept = search rules;
  same = subst (λ (bs : List FrameBlock). IsPermutation bs c.take.new.self.out) (sym c.in-Ok-push.ensures.items)
      (IsPermutation-push_more c.loop-i.pending.items c.loop-i.allocator.out c.take.new.self.out c.in-Ok.block
      c.loop-i.invariant.same c.in-Ok.ensures.out);
}
