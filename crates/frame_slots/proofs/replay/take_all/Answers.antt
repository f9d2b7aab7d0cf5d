use Rattle.std.proofs.Common.{rules, List, vec_len, ◌≡◌, ◌∙◌, ℕ, subst, sym}
use Rattle.std.specs.Prelude.{IsTrue}
use Rattle.std.proofs.lemmas.List.Sorted.{All-permutation}
use Rattle.core_frames.specs.Cores.{IsOutOf}
use Rattle.frame_table.specs.declared.block.Block.{Block}
use Rattle.frame_slots.specs.Reopenings.{LendsJust, MakeUp, waiting_blocks}
use Rattle.frame_slots.proofs.Replaying.{made_still}
use Rattle.frame_slots.proofs.replay.take_all.Goals as goal

pub make_up-requires : goal.make_up-requires
make_up-requires c =
    let sorted = All-permutation (IsOutOf c.args.allocator.now) c.loop-less.pending.items
    c.sort_unstable_by_key.new.self.items c.sort_unstable_by_key.ensures.permutation c.loop-less.invariant.out in
    search (rules, sorted)

pub returns-clause-out : goal.returns-clause-out
returns-clause-out c =
    let sorted = All-permutation (IsOutOf c.args.allocator.now) c.loop-less.pending.items
    c.sort_unstable_by_key.new.self.items c.sort_unstable_by_key.ensures.permutation c.loop-less.invariant.out in
    All-permutation (IsOutOf c.args.allocator.now) c.sort_unstable_by_key.new.self.items c.reverse.new.self.items
    c.reverse.ensures.permutation sorted

pub returns-clause-lends : goal.returns-clause-lends
returns-clause-lends c =
    let same : vec_len c.reverse.new.self ≡ vec_len c.loop-less.pending =
    c.reverse.ensures.len ∙ c.sort_unstable_by_key.ensures.len in
    subst (λ (n : ℕ). LendsJust n c.loop-less.core) (sym same) c.loop-less.invariant.lends

pub returns-clause-all : goal.returns-clause-all
returns-clause-all c =
    let frames : ℕ = c.args.frames in
    let sorted : List Block = c.sort_unstable_by_key.new.self.items in
    let told : IsTrue c.make_up.result = search rules in
    made_still frames sorted c.reverse.new.self.items c.reverse.ensures.permutation
    (subst (λ (bs : List Block). MakeUp frames (waiting_blocks bs)) c.deref.ensures.value (c.make_up.ensures told))
