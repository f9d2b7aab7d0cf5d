use Rattle.std.proofs.Common.{◌≡◌, ℕ, List, length, vec_len, sym, subst, rules}
use Rattle.frame_table.specs.declared.block.Block.{Block}
use Rattle.core_frames.specs.declared.shared.allocator.Core.{Core}
use Rattle.core_frames.specs.Cores.{memory_of}
use Rattle.frame_slots.specs.Reopenings.{IsFollowing, LendsJust, MakeUp, waiting_blocks}
use Rattle.frame_slots.specs.declared.receipt.Receipt.{Receipt}
use Rattle.frame_slots.proofs.Replaying.{begin_following, next_following, end_following}
use Rattle.frame_slots.proofs.slots.SlotList.replay.Goals as goal
use Rattle.frame_slots.proofs.slots.SlotList.replay.Goals.{else-loop-step-test, then-loop-step-test+in_default}

pub loop-step-init : goal.loop-step-init
loop-step-init c =
    let frames : ℕ = (memory_of c.args.allocator.now).frames in
    let numbers : List ℕ = c.args.numbers.now in
    let waiting : List Block = c.in_ok-pending.pending.items in
    let core : Core = c.take_all.new.core in
    let size : vec_len c.in_ok-pending.pending ≡ length waiting = search rules in
    let at = begin_following frames numbers waiting core
    (subst (λ (n : ℕ). MakeUp n (waiting_blocks waiting)) c.requires.frames c.in_ok-pending.ensures.all)
    (subst (λ (n : ℕ). LendsJust n core) size c.in_ok-pending.ensures.lends) in
    record {
      is_core = search rules;
      out = search rules;
      follows = subst (λ (rs : List Receipt). IsFollowing frames numbers waiting rs core) (sym c.new-receipts.ensures.items)
          at;
    }

pub settle-requires-clause-follows : goal.settle-requires-clause-follows
settle-requires-clause-follows c =
    next_following (memory_of c.args.allocator.now).frames c.args.numbers.now c.pop.new.self.items c.in-Some.held
    c.loop-step.receipts.items c.loop-step.core
    (subst (λ (bs : List Block). IsFollowing (memory_of c.args.allocator.now).frames c.args.numbers.now bs c.loop-step.receipts.items
    c.loop-step.core) c.in-Some.ensures.items c.loop-step.invariant.follows)

pub returns-then-are_for-clause-rest : goal.returns-then-are_for-clause-rest
returns-then-are_for-clause-rest c =
    let count : length c.loop-step.pending.items ≡ 0 = elim c.loop-step-test.branch [
      | else-loop-step-test w ↦ search rules
      | then-loop-step-test+in_default w ↦ search rules
    ] in
    end_following (memory_of c.args.allocator.now).frames c.args.numbers.now c.loop-step.pending.items c.loop-step.receipts.items
    c.sort_unstable_by_key.new.self.items c.args.claimed.now c.loop-step.core count c.loop-step.invariant.follows
    c.sort_unstable_by_key.ensures.permutation (search rules)
