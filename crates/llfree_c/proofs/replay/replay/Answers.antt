use Rattle.std.proofs.Common.{◌≡◌, ℕ, List, [], ◌++◌, length, sym, subst, ◌∙◌, rules}
use Rattle.std.specs.List.Sorted.{IsPermutation}
use Rattle.std.proofs.lemmas.List.Sorted.{IsPermutation-sym, IsPermutation-trans}
use Rattle.frame_model.specs.declared.block.FrameBlock.{FrameBlock}
use Rattle.core_frames.specs.PlainState.{PlainState, held_by}
use Rattle.llfree_c.proofs.Following.{all_held, nothing_laid, only_still}
use Rattle.llfree_c.proofs.Replays.{all_laid, popped}
use Rattle.llfree_c.proofs.replay.replay.Goals as goal
use Rattle.llfree_c.proofs.replay.replay.Goals.{else-loop-step-test, then-loop-step-test+in_default}

pub settle-requires-clause-follows : goal.settle-requires-clause-follows
settle-requires-clause-follows c =
    let out : List FrameBlock = c.loop-step.allocator.out in (
      popped c.loop-step.laid.items c.pop.new.self.items out c.in-Some.block
          (subst (λ (bs : List FrameBlock). IsPermutation (c.loop-step.laid.items ++ bs) out) c.in-Some.ensures.items
          c.loop-step.invariant.same),
      c.loop-step.invariant.follows,
    )

pub returns-then-are_same-clause-out : goal.returns-then-are_same-clause-out
returns-then-are_same-clause-out c =
    let out : List FrameBlock = c.loop-step.allocator.out in
    let laid : List FrameBlock = c.loop-step.laid.items in
    let sorted : List FrameBlock = c.sort_unstable_by_key.new.self.items in
    let count : length c.loop-step.pending.items ≡ 0 = elim c.loop-step-test.branch [
      | else-loop-step-test w ↦ search rules
      | then-loop-step-test+in_default w ↦ search rules
    ] in
    let all : IsPermutation laid out =
    all_laid laid c.loop-step.pending.items out count c.loop-step.invariant.same in
    let same : c.deref.result.now ≡ c.args.claimed.now = search rules in
    subst (λ (bs : List FrameBlock). IsPermutation bs out) (sym c.deref.ensures.value ∙ same)
    (IsPermutation-trans sorted laid out (IsPermutation-sym laid sorted c.sort_unstable_by_key.ensures.permutation) all)

pub loop-step-init : goal.loop-step-init
loop-step-init c =
    let state : PlainState = c.take_into-2.new.allocator in
    let taken = c.in_ok-take_into-2.ensures in
    let before = c.loop-less.invariant in
    let ranges : state.ranges ≡ [] = taken.memory.ranges ∙ (before.memory.ranges ∙ c.requires.nothing.2) in
    record {
      memory = search rules;
      same = subst (λ (bs : List FrameBlock). IsPermutation (bs ++ c.take_into-2.new.pending.items) state.out)
          (sym c.new-laid.ensures.items) taken.same;
      follows = record {
        all = all_held state (held_by state) ranges taken.none c.args.numbers.now;
        only = nothing_laid c.args.numbers.now c.new-laid.result.items state.kept c.new-laid.ensures.items
            (taken.kept ∙ before.kept);
      };
    }

pub returns-then-are_same-clause-follows : goal.returns-then-are_same-clause-follows
returns-then-are_same-clause-follows c =
    let state : PlainState = c.loop-step.allocator in
    let laid : List FrameBlock = c.loop-step.laid.items in
    let numbers : List ℕ = c.args.numbers.now in
    let count : length c.loop-step.pending.items ≡ 0 = elim c.loop-step-test.branch [
      | else-loop-step-test w ↦ search rules
      | then-loop-step-test+in_default w ↦ search rules
    ] in
    let all : IsPermutation laid state.out =
    all_laid laid c.loop-step.pending.items state.out count c.loop-step.invariant.same in
    record {
      all = c.loop-step.invariant.follows.all;
      only = only_still numbers state.kept laid state.out all c.loop-step.invariant.follows.only;
    }
