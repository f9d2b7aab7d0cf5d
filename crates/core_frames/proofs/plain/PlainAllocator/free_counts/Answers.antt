use Rattle.std.proofs.Common.{◌≡◌, ◌+◌, refl, sym, subst, ◌∙◌}
use Rattle.frame_model.specs.Key.{sealed_key, frame_count}
use Rattle.core_frames.specs.FreeCounts.{frames_together, clear_children}
use Rattle.core_frames.specs.PlainState.{PlainState, memory_by, held_by}
use Rattle.core_frames.proofs.FreePlain.{looked, frames_free, children_free}
use Rattle.core_frames.proofs.PlainCalls.{moved, same_geometry, same_state}
use Rattle.core_frames.proofs.plain.PlainAllocator.free_counts.Goals as goal

stays : (c : goal.After-free_counts_by) → c.free_counts_by.new.m.geometry ≡ c.self.inside.moves.geometry
stays c =
    let m = c.self.inside.moves in
    let n = c.free_counts_by.new.m in
    same_geometry n.geometry m.geometry n.sealed m.sealed c.free_counts_by.ensures.keeps.same_key

pub invariant_of-self : goal.invariant_of-self
invariant_of-self c =
    let a = c.self.inside in
    let m = a.moves in
    let n = c.free_counts_by.new.m in
    moved m.geometry n.geometry a.ranges.items (sym (stays c))
    (looked _ (sealed_key m.geometry a.ranges.items) _ _ m.words.items n.words.items a.starts.items a.habits.items a.refused
    c.self.invariant refl c.free_counts_by.result c.free_counts_by.ensures)

pub returns-clause-frames : goal.returns-clause-frames
returns-clause-frames c =
    let a = c.self.inside in
    let m = a.moves in
    let n = c.free_counts_by.new.m in
    subst (λ (s : PlainState). c.free_counts_by.result.frames + frames_together (held_by s) ≡ frame_count (memory_by s)) c.self.view_is
    (frames_free _ (sealed_key m.geometry a.ranges.items) _ _ m.words.items n.words.items a.starts.items a.habits.items a.refused
    c.self.invariant refl c.free_counts_by.result c.free_counts_by.ensures)

pub returns-clause-huge : goal.returns-clause-huge
returns-clause-huge c =
    let a = c.self.inside in
    let m = a.moves in
    let n = c.free_counts_by.new.m in
    subst (λ (s : PlainState). c.free_counts_by.result.huge ≡ clear_children (memory_by s) (held_by s)) c.self.view_is
    (children_free _ (sealed_key m.geometry a.ranges.items) _ _ m.words.items n.words.items a.starts.items a.habits.items a.refused
    c.self.invariant refl c.free_counts_by.result c.free_counts_by.ensures)

pub returns-clause-unchanged : goal.returns-clause-unchanged
returns-clause-unchanged c =
    let a = c.self.inside in
    same_state c.free_counts_by.new.m.geometry a.moves.geometry a.ranges.items a.starts.items (stays c) ∙ c.self.view_is
