use Rattle.std.proofs.Common.{arith, rules, ◌≡◌, ◌<◌, ◌≤◌, length, vec_len}
use Rattle.std.proofs.lemmas.List.Elements.{AllWithin-more_set}
use Rattle.llfree_c.specs.OpenCores.{IsCoreBehind, IsUnusedBehind}
use Rattle.llfree_c.proofs.BoxedCores.{handed_all, handed_more}
use Rattle.llfree_c.proofs.core_openings.hand_over.Goals as goal

pub loop-handle-preserved : goal.loop-handle-preserved
loop-handle-preserved c =
    let inside : c.loop-handle.handle-index < length c.loop-handle.handle-items = search rules in
    record {
      left = λ s all. c.set_next.ensures.left s (c.loop-handle.invariant.left s all);
      done = λ s all.
          AllWithin-more_set c.loop-handle.handle-items c.loop-handle.handle-index c.set_next.new.self inside
          (IsCoreBehind s) (c.loop-handle.invariant.done s all)
          (c.set_next.ensures.set s (c.loop-handle.invariant.left s all));
      unused = λ all.
          let before = c.loop-handle.invariant.unused all in
          let next = c.set_next.ensures.unused before.0 in (
            next.1,
            AllWithin-more_set c.loop-handle.handle-items c.loop-handle.handle-index c.set_next.new.self inside
                IsUnusedBehind before.1 next.0,
          );
      order = handed_more c.loop-handle.handle-items c.loop-handle.handle-index c.set_next.new.self
          c.loop-handle.cores.items c.set_next.new.cores.items c.args.cores.items inside c.set_next.ensures.last
          c.loop-handle.invariant.order;
      count = search rules;
    }

pub returns : goal.returns
returns c =
    let all_done : length c.loop-handle.handle-items ≤ c.loop-handle.handle-index = search rules in
    let size : vec_len c.loop-handle.cores ≡ length c.loop-handle.cores.items = search rules in
    let none : length c.loop-handle.cores.items ≡ 0 = omega (arith, all_done, c.loop-handle.invariant.count, size) in
    record {
      shares = λ s all k d less. c.loop-handle.invariant.done s all k d (omega arith) (omega arith);
      unused = λ all k d less. (c.loop-handle.invariant.unused all).1 k d (omega arith) (omega arith);
      order = handed_all c.loop-handle.handle-items c.loop-handle.handle-index c.loop-handle.cores.items c.args.cores.items
          all_done none c.loop-handle.invariant.order;
    }
