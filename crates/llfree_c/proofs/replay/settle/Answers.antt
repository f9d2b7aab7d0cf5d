use Rattle.std.proofs.Common.{rules, arith, ap, ◌≡◌, ℕ, ◌+◌, ◌^◌, ◌<◌, ◌≤◌, List, ◌++◌, sym, subst}
use Rattle.std.specs.Prelude.{IsTrue}
use Rattle.std.specs.List.{Contains}
use Rattle.std.specs.List.Sorted.{IsPermutation}
use Rattle.frame_model.specs.declared.block.FrameBlock.{FrameBlock}
use Rattle.std.proofs.lemmas.List.Elements.{All-contains}
use Rattle.frame_words.specs.declared.geometry.Geometry.{Geometry}
use Rattle.core_frames.specs.PlainState.{PlainState}
use Rattle.frame_model.specs.Holding.{holders}
use Rattle.frame_slots.specs.Claims.{IsHeldAs}
use Rattle.frame_slots.specs.Numbers.{IsHeldBy}
use Rattle.llfree_c.specs.Replays.{FollowsImage, HoldsAllOf, HoldsBlock, HoldsOnly}
use Rattle.llfree_c.proofs.Following.{claimed_held, given_all, halved_all, kept_all, kept_only, laid_only}
use Rattle.llfree_c.proofs.Options.{on_ok}
use Rattle.llfree_c.proofs.Replays.{is_out, laid_down, parted}
use Rattle.llfree_c.proofs.replay.settle.Goals as goal

pub returns-then-is_claimed-clause-same : goal.returns-then-is_claimed-clause-same
returns-then-is_claimed-clause-same c =
    subst (λ (bs : List FrameBlock). IsPermutation (bs ++ c.args.pending.now.items) c.args.allocator.now.out)
    (sym c.in-Ok.ensures.items)
    (laid_down c.args.laid.now.items c.args.pending.now.items c.args.allocator.now.out c.args.block c.requires.follows.0)

pub give-requires-clause-out : goal.give-requires-clause-out
give-requires-clause-out c =
    is_out c.args.laid.now.items c.args.pending.now.items c.args.allocator.now.out c.args.block c.requires.follows.0

pub returns-then-is_free-clause-same : goal.returns-then-is_free-clause-same
returns-then-is_free-clause-same c =
    parted c.args.laid.now.items c.args.pending.now.items c.args.allocator.now.out c.args.block c.give.new.self.out
    c.requires.follows.0 c.give.ensures.out

pub keep-requires-clause-out : goal.keep-requires-clause-out
keep-requires-clause-out c =
    is_out c.args.laid.now.items c.args.pending.now.items c.args.allocator.now.out c.args.block c.requires.follows.0

pub returns-then-is_held_whole-clause-same : goal.returns-then-is_held_whole-clause-same
returns-then-is_held_whole-clause-same c =
    parted c.args.laid.now.items c.args.pending.now.items c.args.allocator.now.out c.args.block c.keep.new.self.out
    c.requires.follows.0 c.keep.ensures.out

pub returns-then-is_claimed-clause-follows : goal.returns-then-is_claimed-clause-follows
returns-then-is_claimed-clause-follows c =
    let state : PlainState = c.args.allocator.now in
    let numbers : List ℕ = c.args.numbers.now in
    let frames : ℕ = state.geometry.frames in
    let named : Contains c.args.claimed.now c.args.block = search rules in
    let is : IsHeldAs frames numbers c.args.block =
    All-contains (IsHeldAs frames numbers) c.args.claimed.now c.args.block c.requires.claimed named in
    record {
      all = c.requires.follows.1.all;
      only = subst (λ (bs : List FrameBlock). HoldsOnly numbers (bs ++ state.kept)) (sym c.in-Ok.ensures.items)
          (laid_only numbers c.args.block state.kept c.args.laid.now.items
          (claimed_held frames numbers c.args.block is) c.requires.follows.1.only);
    }

pub returns-then-is_free-clause-follows : goal.returns-then-is_free-clause-follows
returns-then-is_free-clause-follows c =
    let old : PlainState = c.args.allocator.now in
    let new : PlainState = c.give.new.self in
    let numbers : List ℕ = c.args.numbers.now in
    let b : FrameBlock = c.args.block in
    let begin : c.frame-frame.result ≡ b.frame = c.frame-frame.ensures in
    let size : 2 ^ c.order-order.result ≡ 2 ^ b.order = ap (λ (n : ℕ). 2 ^ n) c.order-order.ensures in
    let free : (x : ℕ) → b.frame ≤ x → x < b.frame + 2 ^ b.order → ¬ IsHeldBy numbers x = λ x low less.
    c.if-is_free.ensures.free x (omega (arith, begin, low)) (omega (arith, begin, size, less)) in
    let all : HoldsAllOf old.geometry.frames numbers (new.out ++ old.kept) =
    given_all numbers b old.kept old.geometry.frames old.out new.out c.give.ensures.out free c.requires.follows.1.all in
    record {
      all = subst (λ (bs : List FrameBlock). HoldsAllOf new.geometry.frames numbers (new.out ++ bs))
          (sym c.give.ensures.kept)
          (subst (λ (g : Geometry). HoldsAllOf g.frames numbers (new.out ++ old.kept))
          (sym c.give.ensures.geometry.0) all);
      only = subst (λ (bs : List FrameBlock). HoldsOnly numbers (c.args.laid.now.items ++ bs)) (sym c.give.ensures.kept)
          c.requires.follows.1.only;
    }

pub returns-then-is_held_whole-clause-follows : goal.returns-then-is_held_whole-clause-follows
returns-then-is_held_whole-clause-follows c =
    let old : PlainState = c.args.allocator.now in
    let new : PlainState = c.keep.new.self in
    let numbers : List ℕ = c.args.numbers.now in
    let b : FrameBlock = c.args.block in
    let begin : c.frame-frame.result ≡ b.frame = c.frame-frame.ensures in
    let size : 2 ^ c.order-order.result ≡ 2 ^ b.order = ap (λ (n : ℕ). 2 ^ n) c.order-order.ensures in
    let told : IsTrue c.is_held_whole.result = search rules in
    let holds : HoldsBlock numbers b = λ x low less.
    c.is_held_whole.ensures.holds told x (omega (arith, begin, low)) (omega (arith, begin, size, less)) in
    record {
      all = subst (λ (g : Geometry). HoldsAllOf g.frames numbers (new.out ++ new.kept)) (sym c.keep.ensures.geometry.0)
          (kept_all numbers b old.kept old.geometry.frames old.out new.out new.kept c.keep.ensures.out
          c.keep.ensures.kept c.requires.follows.1.all);
      only = kept_only numbers b old.kept c.args.laid.now.items new.kept c.keep.ensures.kept holds
          c.requires.follows.1.only;
    }

pub returns-clause-follows : goal.returns-clause-follows
returns-clause-follows c =
    let old : PlainState = c.args.allocator.now in
    let new : PlainState = c.split_into.new.allocator in
    let numbers : List ℕ = c.args.numbers.now in
    let laid : c.split_into.new.laid.items ≡ c.args.laid.now.items = c.split_into.ensures.stay.1 in
    on_ok c.split_into.result ((x : ℕ) → holders x new.out ≡ holders x old.out)
    (FollowsImage numbers c.split_into.new.laid.items new)
    (λ same.
    let all : HoldsAllOf old.geometry.frames numbers (new.out ++ old.kept) =
    halved_all numbers c.args.block old.kept old.geometry.frames old.out new.out same c.requires.follows.1.all in
    record {
      all = subst (λ (bs : List FrameBlock). HoldsAllOf new.geometry.frames numbers (new.out ++ bs))
          (sym c.split_into.ensures.stay.0)
          (subst (λ (g : Geometry). HoldsAllOf g.frames numbers (new.out ++ old.kept))
          (sym c.split_into.ensures.memory.geometry) all);
      only = subst (λ (bs : List FrameBlock). HoldsOnly numbers (bs ++ new.kept)) (sym laid)
          (subst (λ (bs : List FrameBlock). HoldsOnly numbers (c.args.laid.now.items ++ bs))
          (sym c.split_into.ensures.stay.0) c.requires.follows.1.only);
    })
    c.split_into.ensures.held
