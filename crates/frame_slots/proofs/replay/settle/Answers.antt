use Rattle.std.proofs.Common.{◌≡◌, ℕ, subst, ap, ◌∙◌}
use Rattle.frame_model.specs.declared.block.FrameBlock.{FrameBlock}
use Rattle.frame_model.specs.Block.{block}
use Rattle.frame_table.specs.Seats.{block_in}
use Rattle.core_frames.specs.Cores.{memory_of}
use Rattle.frame_slots.specs.Numbers.{IsFreeInImage, AreAllHeld}
use Rattle.frame_slots.specs.Reopenings.{HasHalved, HasLaid, IsFollowing}
use Rattle.frame_slots.proofs.Replaying.{on_ok, laid_following, given_following, kept_following, halved_following}
use Rattle.frame_slots.proofs.replay.settle.Goals as goal

pub returns-in-Claimed-clause-follows : goal.returns-in-Claimed-clause-follows
returns-in-Claimed-clause-follows c =
    on_ok c.lay_claimed.result
    (HasLaid c.args.held c.args.receipts.now.items c.lay_claimed.new.receipts.items c.args.core.now c.lay_claimed.new.core)
    (IsFollowing (memory_of c.args.allocator.now).frames c.args.numbers.now c.args.pending.now.items c.lay_claimed.new.receipts.items
    c.lay_claimed.new.core)
    (laid_following (memory_of c.args.allocator.now).frames c.args.numbers.now c.args.held c.args.pending.now.items
    c.args.receipts.now.items c.args.core.now c.requires.follows c.lay_claimed.new.receipts.items c.lay_claimed.new.core)
    c.lay_claimed.ensures.laid

pub returns-in-Free-clause-follows : goal.returns-in-Free-clause-follows
returns-in-Free-clause-follows c =
    let same : block c.frame.result c.order.result ≡ block_in c.args.held =
    ap (λ (x : ℕ). block x c.order.result) c.frame.ensures ∙ ap (λ (n : ℕ). block c.args.held.frame n) c.order.ensures in
    given_following (memory_of c.args.allocator.now).frames c.args.numbers.now c.args.held c.args.pending.now.items
    c.args.receipts.now.items c.args.core.now c.requires.follows c.give.new.core c.give.ensures.gives
    (subst (λ (b : FrameBlock). IsFreeInImage c.args.numbers.now b) same (c.use_of.ensures.free c.in-Free.is))

pub returns-in-Held-clause-follows : goal.returns-in-Held-clause-follows
returns-in-Held-clause-follows c =
    let same : block c.frame.result c.order.result ≡ block_in c.args.held =
    ap (λ (x : ℕ). block x c.order.result) c.frame.ensures ∙ ap (λ (n : ℕ). block c.args.held.frame n) c.order.ensures in
    kept_following (memory_of c.args.allocator.now).frames c.args.numbers.now c.args.held c.args.pending.now.items
    c.args.receipts.now.items c.args.core.now c.requires.follows c.keep.new.core c.keep.ensures.keeps
    (subst (λ (b : FrameBlock). AreAllHeld c.args.numbers.now b) same (c.use_of.ensures.held c.in-Held.is))

pub returns-in-Mixed-clause-follows : goal.returns-in-Mixed-clause-follows
returns-in-Mixed-clause-follows c =
    on_ok c.split_into.result
    (HasHalved c.args.allocator.now c.args.held c.args.pending.now.items c.split_into.new.pending.items
    c.args.core.now c.split_into.new.core)
    (IsFollowing (memory_of c.args.allocator.now).frames c.args.numbers.now c.split_into.new.pending.items c.args.receipts.now.items
    c.split_into.new.core)
    (halved_following (memory_of c.args.allocator.now).frames c.args.numbers.now c.args.held c.args.pending.now.items
    c.args.receipts.now.items c.args.core.now c.requires.follows c.args.allocator.now
    c.split_into.new.pending.items c.split_into.new.core)
    c.split_into.ensures.split
