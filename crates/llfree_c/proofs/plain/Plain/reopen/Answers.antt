use Rattle.std.proofs.Common.{◌≡◌, ℕ, List, [], ◌++◌, refl, ap, subst, ◌∙◌}
use Rattle.std.specs.List.Sorted.{IsPermutation}
use Rattle.std.proofs.lemmas.List.Sorted.{All-permutation, IsPermutation-trans}
use Rattle.frame_words.specs.declared.geometry.Geometry.{Geometry}
use Rattle.frame_model.specs.declared.block.FrameBlock.{FrameBlock}
use Rattle.frame_model.specs.Key.{sealed_key}
use Rattle.core_frames.specs.PlainState.{PlainState, memory_by}
use Rattle.frame_slots.specs.Claims.{IsHeldAs}
use Rattle.llfree_c.specs.Replays.{HoldsAllOf}
use Rattle.llfree_c.specs.Reopenings.{claimed_blocks}
use Rattle.llfree_c.proofs.OpenedMemories.{memory_of_key}
use Rattle.llfree_c.proofs.Replays.{no_ranges}
use Rattle.llfree_c.proofs.plain.Plain.reopen.Goals as goal

pub returns-clause-reopened : goal.returns-clause-reopened
returns-clause-reopened c =
    let state : PlainState = c.replay.new.allocator in
    let g : Geometry = c.in_ok-geometry.geometry in
    let claimed = c.in_ok-claimed.ensures.claimed in
    let blocks : List FrameBlock = c.in_ok-claimed.claimed.items in
    let stays = c.in_ok-replay.ensures.memory in
    let key : memory_by state ≡ sealed_key g [] =
    ap (λ (h : Geometry). sealed_key h state.ranges) (stays.geometry ∙ c.in-Ok.ensures.geometry.0)
    ∙ ap (λ (rs : List (ℕ × ℕ)). sealed_key g rs) (stays.ranges ∙ c.in-Ok.ensures.geometry.1) in
    let size : state.geometry.frames ≡ c.args.frames =
    ap (λ (h : Geometry). h.frames) (stays.geometry ∙ c.in-Ok.ensures.geometry.0) ∙ c.in_ok-geometry.ensures.made.0 in
    let left : IsPermutation blocks state.out =
    subst (λ (bs : List FrameBlock). IsPermutation bs state.out) c.deref.ensures.value c.in_ok-replay.ensures.out in
    record {
      memory = memory_of_key g c.args.frames [] [] (memory_by state) c.in_ok-geometry.ensures.made.0 refl (no_ranges g) key;
      image = claimed.image;
      lawful = c.in_ok-claimed.ensures.lawful;
      all = subst (λ (n : ℕ). HoldsAllOf n c.args.numbers.now (state.out ++ state.kept)) size c.in_ok-replay.ensures.follows.all;
      only = c.in_ok-replay.ensures.follows.only;
      held = All-permutation (IsHeldAs c.args.frames c.args.numbers.now) blocks state.out left claimed.held;
      out = IsPermutation-trans (claimed_blocks c.args.claims.now) blocks state.out claimed.same left;
    }
