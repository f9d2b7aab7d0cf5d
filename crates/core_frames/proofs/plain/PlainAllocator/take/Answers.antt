use Rattle.std.proofs.Common.{◌≡◌, ℕ, ◌+◌, List, ◌∷◌, Err, refl, ap, sym, subst, ◌∙◌, set}
use Rattle.std.specs.List.Sorted.{IsPermutation}
use Rattle.frame_words.specs.declared.geometry.Geometry.{Geometry}
use Rattle.frame_model.specs.declared.block.FrameBlock.{FrameBlock}
use Rattle.frame_model.specs.Key.{sealed_key}
use Rattle.frame_model.specs.QuietTake.{QuietTake, TakesBlock, FindsNone}
use Rattle.core_frames.specs.PlainAgree.{held_with}
use Rattle.core_frames.specs.PlainBytes.{out_of, kept_of, first_out}
use Rattle.core_frames.specs.PlainState.{PlainState, memory_by, held_by}
use Rattle.core_frames.proofs.PlainCalls.{renamed, moved, state_of, same_geometry, same_state, drained, remembered, refused_by}
use Rattle.core_frames.proofs.PlainCalls.{quiet_refused, taken, quiet_take, out_more, kept_same}
use Rattle.core_frames.proofs.plain.PlainAllocator.take.Goals as goal

-- An order that was refused before.

drain_stays : (c : goal.After-drain) → c.drain.new.m.geometry ≡ c.self.inside.moves.geometry
drain_stays c =
    let m = c.self.inside.moves in
    let n = c.drain.new.m in
    same_geometry n.geometry m.geometry n.sealed m.sealed c.drain.ensures.brings.keeps.same_key

pub invariant_of-self : goal.invariant_of-self
invariant_of-self c =
    let a = c.self.inside in
    let m = a.moves in
    let n = c.drain.new.m in
    moved m.geometry n.geometry a.ranges.items (sym (drain_stays c))
    (drained (sealed_key m.geometry a.ranges.items) _ _ m.words.items n.words.items a.starts.items a.habits.items a.refused
    c.self.invariant refl _ _ c.drain.ensures.brings)

pub returns-then-order-le-HUGE_ORDER-clause-quiet : goal.returns-then-order-le-HUGE_ORDER-clause-quiet
returns-then-order-le-HUGE_ORDER-clause-quiet c =
    let a = c.self.inside in
    let m = a.moves in
    let n = c.drain.new.m in
    let rs = a.ranges.items in
    let bytes = a.starts.items in
    let key = sealed_key m.geometry rs in
    subst (λ (s : PlainState). FindsNone (memory_by s) (held_by s) (held_by (state_of n.geometry rs bytes)) c.args.order) c.self.view_is
    (subst (λ (g : Geometry). FindsNone key (held_with key bytes) (held_by (state_of g rs bytes)) c.args.order) (sym (drain_stays c))
    (remembered key _ m.words.items bytes a.habits.items a.refused c.args.order c.self.invariant c.if-order-self.true
    c.if-order-le-HUGE_ORDER.true))

pub returns-then-order-le-HUGE_ORDER-clause-refused : goal.returns-then-order-le-HUGE_ORDER-clause-refused
returns-then-order-le-HUGE_ORDER-clause-refused c =
    let a = c.self.inside in
    same_state c.drain.new.m.geometry a.moves.geometry a.ranges.items a.starts.items (drain_stays c) ∙ c.self.view_is

pub returns-then-order-le-HUGE_ORDER-clause-geometry : goal.returns-then-order-le-HUGE_ORDER-clause-geometry
returns-then-order-le-HUGE_ORDER-clause-geometry c =
    (drain_stays c ∙ ap (λ (s : PlainState). s.geometry) c.self.view_is, ap (λ (s : PlainState). s.ranges) c.self.view_is)

-- A search that finds nothing.

missed_stays : (c : goal.After-self-1) → c.take_by.new.m.geometry ≡ c.self.inside.moves.geometry
missed_stays c =
    let m = c.self.inside.moves in
    let n = c.take_by.new.m in
    same_geometry n.geometry m.geometry n.sealed m.sealed c.take_by.ensures.takes.keeps.same_key

pub invariant_of-self-in-Err : goal.invariant_of-self-in-Err
invariant_of-self-in-Err c =
    let a = c.self.inside in
    let m = a.moves in
    let n = c.take_by.new.m in
    moved m.geometry n.geometry a.ranges.items (sym (missed_stays c))
    (refused_by (sealed_key m.geometry a.ranges.items) _ _ m.words.items n.words.items a.starts.items a.habits.items a.refused
    c.self.invariant refl _ c.args.order c.min-self-inside.result c.in-Err.fault c.min-self-inside.ensures refl
    c.take_by.ensures.takes.keeps c.in-Err.ensures.takes.err)

pub returns-in-Err-clause-quiet : goal.returns-in-Err-clause-quiet
returns-in-Err-clause-quiet c =
    let a = c.self.inside in
    let m = a.moves in
    let n = c.take_by.new.m in
    let rs = a.ranges.items in
    let bytes = a.starts.items in
    let key = sealed_key m.geometry rs in
    subst (λ (s : PlainState). QuietTake (memory_by s) (held_by s)
    (held_by (state_of n.geometry rs bytes)) c.args.order (Err c.in-Err.fault))
    c.self.view_is
    (subst (λ (g : Geometry). QuietTake key (held_with key bytes) (held_by (state_of g rs bytes)) c.args.order (Err c.in-Err.fault))
    (sym (missed_stays c))
    (quiet_refused key _ _ m.words.items n.words.items bytes a.habits.items a.refused c.self.invariant refl _ c.args.order
    c.in-Err.fault refl c.in-Err.ensures.takes.err))

pub returns-in-Err-clause-refused : goal.returns-in-Err-clause-refused
returns-in-Err-clause-refused c =
    let a = c.self.inside in
    same_state c.take_by.new.m.geometry a.moves.geometry a.ranges.items a.starts.items (missed_stays c) ∙ c.self.view_is

pub returns-in-Err-clause-geometry : goal.returns-in-Err-clause-geometry
returns-in-Err-clause-geometry c =
    (missed_stays c ∙ ap (λ (s : PlainState). s.geometry) c.self.view_is, ap (λ (s : PlainState). s.ranges) c.self.view_is)

-- A block.

stays : (c : goal.After-self-2-1) → c.take_by.new.m.geometry ≡ c.self.inside.moves.geometry
stays c =
    let m = c.self.inside.moves in
    let n = c.take_by.new.m in
    same_geometry n.geometry m.geometry n.sealed m.sealed c.take_by.ensures.takes.keeps.same_key

-- the bytes that are left
bytes_are : (c : goal.After-self-2-1)
    → set c.self.inside.starts.items c.in-Ok.block.frame (first_out + c.in-Ok.block.order)
    ≡ set c.self.inside.starts.items c.frame.result c.out_byte.result
bytes_are c =
    let b : FrameBlock = c.in-Ok.block in
    let a = c.self.inside in
    ap (λ x. set a.starts.items x (first_out + b.order)) (sym c.frame.ensures)
    ∙ ap (λ x. set a.starts.items c.frame.result (first_out + x)) c.in-Ok.ensures.takes.ok.is_one.has_order
    ∙ ap (set a.starts.items c.frame.result) (sym c.out_byte.ensures)

pub invariant_of-self-2 : goal.invariant_of-self-2
invariant_of-self-2 c =
    let a = c.self.inside in
    let m = a.moves in
    let n = c.take_by.new.m in
    moved m.geometry n.geometry a.ranges.items (sym (stays c))
    (renamed (set a.starts.items c.in-Ok.block.frame (first_out + c.in-Ok.block.order))
    (set a.starts.items c.frame.result c.out_byte.result) (bytes_are c)
    (taken (sealed_key m.geometry a.ranges.items) _ _ m.words.items n.words.items a.starts.items a.habits.items a.refused
    c.self.invariant refl c.take_by.ensures.takes.keeps c.in-Ok.block c.args.order c.in-Ok.ensures.takes.ok))

pub returns-clause-quiet : goal.returns-clause-quiet
returns-clause-quiet c =
    let a = c.self.inside in
    let m = a.moves in
    let n = c.take_by.new.m in
    let rs = a.ranges.items in
    let key = sealed_key m.geometry rs in
    let b : FrameBlock = c.in-Ok.block in
    let now : List ℕ = set a.starts.items c.frame.result c.out_byte.result in
    subst (λ (s : PlainState). TakesBlock (memory_by s) (held_by s) (held_by (state_of n.geometry rs now)) c.args.order b) c.self.view_is
    (subst (λ (g : Geometry). TakesBlock key (held_with key a.starts.items) (held_by (state_of g rs now)) c.args.order b) (sym (stays c))
    (subst (λ (bytes : List ℕ). TakesBlock key (held_with key a.starts.items) (held_with key bytes) c.args.order b) (bytes_are c)
    (quiet_take key _ _ m.words.items n.words.items a.starts.items a.habits.items a.refused c.self.invariant refl
    c.take_by.ensures.takes.keeps b c.args.order c.in-Ok.ensures.takes.ok)))

pub returns-clause-out : goal.returns-clause-out
returns-clause-out c =
    let a = c.self.inside in
    let m = a.moves in
    let n = c.take_by.new.m in
    let b : FrameBlock = c.in-Ok.block in
    subst (λ (s : PlainState). IsPermutation (b ∷ s.out) (out_of (set a.starts.items c.frame.result c.out_byte.result))) c.self.view_is
    (subst (λ (bytes : List ℕ). IsPermutation (b ∷ out_of a.starts.items) (out_of bytes)) (bytes_are c)
    (out_more (sealed_key m.geometry a.ranges.items) _ _ m.words.items n.words.items a.starts.items a.habits.items a.refused
    c.self.invariant refl c.take_by.ensures.takes.keeps b c.args.order c.in-Ok.ensures.takes.ok))

pub returns-clause-kept : goal.returns-clause-kept
returns-clause-kept c =
    let a = c.self.inside in
    let m = a.moves in
    let n = c.take_by.new.m in
    ap kept_of (sym (bytes_are c))
    ∙ kept_same (sealed_key m.geometry a.ranges.items) _ _ m.words.items n.words.items a.starts.items a.habits.items a.refused
    c.self.invariant refl c.take_by.ensures.takes.keeps c.in-Ok.block c.args.order c.in-Ok.ensures.takes.ok
    ∙ ap (λ (s : PlainState). s.kept) c.self.view_is

pub returns-clause-geometry : goal.returns-clause-geometry
returns-clause-geometry c =
    (stays c ∙ ap (λ (s : PlainState). s.geometry) c.self.view_is, ap (λ (s : PlainState). s.ranges) c.self.view_is)

pub returns-clause-lawful : goal.returns-clause-lawful
returns-clause-lawful c = (invariant_of-self-2 c).lawful
