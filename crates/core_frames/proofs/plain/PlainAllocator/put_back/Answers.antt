use Rattle.std.proofs.Common.{◌≡◌, ℕ, ◌∷◌, refl, ap, sym, subst, ◌∙◌, set, arith}
use Rattle.std.specs.List.{Contains}
use Rattle.std.specs.List.Sorted.{IsPermutation}
use Rattle.frame_model.specs.declared.block.FrameBlock.{FrameBlock}
use Rattle.frame_model.specs.Key.{sealed_key}
use Rattle.core_frames.specs.Bounds.{most_in_give}
use Rattle.core_frames.specs.PlainBytes.{out_of, kept_of}
use Rattle.core_frames.specs.PlainState.{PlainState}
use Rattle.core_frames.proofs.PlainBytes.{out_byte, out_given, kept_given}
use Rattle.core_frames.proofs.PlainCalls.{same_geometry, renamed, moved, given, is_out}
use Rattle.core_frames.proofs.plain.PlainAllocator.put_back.Goals as goal

pub give_by-requires : goal.give_by-requires
give_by-requires c =
    let a = c.self.inside in
    let key = sealed_key a.moves.geometry a.ranges.items in
    let b : FrameBlock = c.args.block in
    let has : Contains (out_of a.starts.items) b = subst (λ (s : PlainState). Contains s.out b) (sym c.self.view_is) c.requires.out in
    record {
      core = omega (arith, c.requires.core, ap (λ (s : PlainState). s.geometry.cores) c.self.view_is);
      idle = c.self.invariant.idle;
      held = is_out key _ a.moves.words.items a.starts.items a.habits.items a.refused c.self.invariant b has;
    }

pub index_mut-requires : goal.index_mut-requires
index_mut-requires c =
    let a = c.self.inside in
    let b : FrameBlock = c.args.block in
    let has : Contains (out_of a.starts.items) b = subst (λ (s : PlainState). Contains s.out b) (sym c.self.view_is) c.requires.out in
    omega (arith, out_byte a.starts.items b has, c.frame-frame.ensures, a.starts.ok.0)

-- the geometry stays
stays : (c : goal.After-self-2-1) → c.give_by.new.m.geometry ≡ c.self.inside.moves.geometry
stays c =
    let m = c.self.inside.moves in
    let n = c.give_by.new.m in
    same_geometry n.geometry m.geometry n.sealed m.sealed c.give_by.ensures.gives.keeps.same_key

pub invariant_of-self : goal.invariant_of-self
invariant_of-self c =
    let a = c.self.inside in
    let m = a.moves in
    let n = c.give_by.new.m in
    let key = sealed_key m.geometry a.ranges.items in
    let b : FrameBlock = c.args.block in
    let has : Contains (out_of a.starts.items) b = subst (λ (s : PlainState). Contains s.out b) (sym c.self.view_is) c.requires.out in
    moved m.geometry n.geometry a.ranges.items (sym (stays c))
    (renamed (set a.starts.items b.frame 0) (set a.starts.items c.frame-frame.result 0)
    (ap (λ (x : ℕ). set a.starts.items x 0) (sym c.frame-frame.ensures))
    (given key _ _ m.words.items n.words.items a.starts.items a.habits.items a.refused c.self.invariant refl b has _ most_in_give
    c.give_by.ensures.gives))

pub returns-clause-out : goal.returns-clause-out
returns-clause-out c =
    let a = c.self.inside in
    let b : FrameBlock = c.args.block in
    let has : Contains (out_of a.starts.items) b = subst (λ (s : PlainState). Contains s.out b) (sym c.self.view_is) c.requires.out in
    subst (λ (s : PlainState). IsPermutation (b ∷ out_of (set a.starts.items c.frame-frame.result 0)) s.out) c.self.view_is
    (subst (λ (x : ℕ). IsPermutation (b ∷ out_of (set a.starts.items x 0)) (out_of a.starts.items))
    (sym c.frame-frame.ensures) (out_given a.starts.items b has))

pub returns-clause-kept : goal.returns-clause-kept
returns-clause-kept c =
    let a = c.self.inside in
    let b : FrameBlock = c.args.block in
    let has : Contains (out_of a.starts.items) b = subst (λ (s : PlainState). Contains s.out b) (sym c.self.view_is) c.requires.out in
    ap (λ (x : ℕ). kept_of (set a.starts.items x 0)) c.frame-frame.ensures ∙ kept_given a.starts.items b has
    ∙ ap (λ (s : PlainState). s.kept) c.self.view_is

pub returns-clause-geometry : goal.returns-clause-geometry
returns-clause-geometry c =
    (stays c ∙ ap (λ (s : PlainState). s.geometry) c.self.view_is, ap (λ (s : PlainState). s.ranges) c.self.view_is)
