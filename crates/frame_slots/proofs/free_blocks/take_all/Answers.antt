use Rattle.std.proofs.lemmas.List.Sorted.{All-permutation}
use Rattle.core_frames.specs.Cores.{IsOutOf}
use Rattle.frame_slots.proofs.free_blocks.take_all.Goals as goal

pub returns-clause-out : goal.returns-clause-out
returns-clause-out c =
    let P = IsOutOf c.args.allocator.now in
    All-permutation P c.sort_unstable_by_key.new.self.items c.reverse.new.self.items c.reverse.ensures.permutation
    (All-permutation P c.loop-less.blocks.items c.sort_unstable_by_key.new.self.items
    c.sort_unstable_by_key.ensures.permutation c.loop-less.invariant.out)
