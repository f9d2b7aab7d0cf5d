use Rattle.std.proofs.Common.{◌≡◌, ℕ, ◌+◌, ◌-◌, ◌^◌, List, ◌∷◌, refl, ap, sym, subst, ◌∙◌, set, arith}
use Rattle.std.specs.List.{Contains}
use Rattle.std.specs.List.Sorted.{IsPermutation}
use Rattle.frame_model.specs.declared.block.FrameBlock.{FrameBlock}
use Rattle.frame_model.specs.Block.{block}
use Rattle.frame_model.specs.Key.{sealed_key}
use Rattle.core_frames.specs.PlainBytes.{out_of, kept_of, first_out}
use Rattle.core_frames.specs.PlainState.{PlainState}
use Rattle.core_frames.proofs.PlainBytes.{out_byte}
use Rattle.core_frames.proofs.PlainCalls.{halved, same_geometry, renamed, moved, divided, halves_out, halves_kept, is_out}
use Rattle.core_frames.proofs.plain.PlainAllocator.split.Goals as goal

pub split_by-requires : goal.split_by-requires
split_by-requires c =
    let a = c.self.inside in
    let key = sealed_key a.moves.geometry a.ranges.items in
    let b : FrameBlock = c.args.block in
    let has : Contains (out_of a.starts.items) b = subst (λ (s : PlainState). Contains s.out b) (sym c.self.view_is) c.requires.out in
    record {
      idle = c.self.invariant.idle;
      held = is_out key _ a.moves.words.items a.starts.items a.habits.items a.refused c.self.invariant b has;
    }

pub out_byte-byte-requires : goal.out_byte-byte-requires
out_byte-byte-requires c =
    let a = c.self.inside in
    let b : FrameBlock = c.args.block in
    let has : Contains (out_of a.starts.items) b = subst (λ (s : PlainState). Contains s.out b) (sym c.self.view_is) c.requires.out in
    let order = ap (λ (d : FrameBlock). d.order) c.in-Ok.ensures.splits.ok.are_halves.lower in
    omega (arith, out_byte a.starts.items b has, c.order.ensures, order)

has_it : (c : goal.After-self-2-1) → Contains (out_of c.self.inside.starts.items) c.args.block
has_it c = subst (λ (s : PlainState). Contains s.out c.args.block) (sym c.self.view_is) c.requires.out

-- the geometry stays
stays : (c : goal.After-self-2-1) → c.split_by.new.m.geometry ≡ c.self.inside.moves.geometry
stays c =
    let m = c.self.inside.moves in
    let n = c.split_by.new.m in
    same_geometry n.geometry m.geometry n.sealed m.sealed c.split_by.ensures.splits.keeps.same_key

-- the bytes that are left
bytes_are : (c : goal.After-self-2-1) → halved c.self.inside.starts.items c.args.block.frame (c.args.block.order - 1)
    ≡ set (set c.self.inside.starts.items c.frame.result c.out_byte-byte.result) c.frame-2.result c.out_byte-byte.result
bytes_are c =
    let bytes = c.self.inside.starts.items in
    let o : ℕ = c.args.block.order - 1 in
    let are = c.in-Ok.ensures.splits.ok.are_halves in
    let lower : c.args.block.frame ≡ c.frame.result = sym (c.frame.ensures ∙ ap (λ (d : FrameBlock). d.frame) are.lower) in
    let upper : c.args.block.frame + 2 ^ o ≡ c.frame-2.result = sym (c.frame-2.ensures ∙ ap (λ (d : FrameBlock). d.frame) are.upper) in
    let byte : first_out + o ≡ c.out_byte-byte.result =
    sym (c.out_byte-byte.ensures ∙ ap (λ n. first_out + n) (c.order.ensures ∙ ap (λ (d : FrameBlock). d.order) are.lower)) in
    λ i. set (set bytes (lower i) (byte i)) (upper i) (byte i)

pub invariant_of-self-2 : goal.invariant_of-self-2
invariant_of-self-2 c =
    let a = c.self.inside in
    let m = a.moves in
    let n = c.split_by.new.m in
    let b : FrameBlock = c.args.block in
    moved m.geometry n.geometry a.ranges.items (sym (stays c))
    (renamed (halved a.starts.items b.frame (b.order - 1))
    (set (set a.starts.items c.frame.result c.out_byte-byte.result) c.frame-2.result c.out_byte-byte.result) (bytes_are c)
    (divided (sealed_key m.geometry a.ranges.items) _ _ m.words.items n.words.items a.starts.items a.habits.items a.refused
    c.self.invariant refl b c.in-Ok.halves.0 c.in-Ok.halves.1 (has_it c) c.split_by.ensures.splits.keeps c.in-Ok.ensures.splits.ok))

pub returns-clause-split : goal.returns-clause-split
returns-clause-split c =
    let a = c.self.inside in
    let m = a.moves in
    let n = c.split_by.new.m in
    let b : FrameBlock = c.args.block in
    let are = c.in-Ok.ensures.splits.ok.are_halves in
    let now : List ℕ = set (set a.starts.items c.frame.result c.out_byte-byte.result) c.frame-2.result c.out_byte-byte.result in
    let made = halves_out (sealed_key m.geometry a.ranges.items) _ _ m.words.items n.words.items a.starts.items a.habits.items a.refused
    c.self.invariant refl b c.in-Ok.halves.0 c.in-Ok.halves.1 (has_it c) c.split_by.ensures.splits.keeps c.in-Ok.ensures.splits.ok in
    let first : IsPermutation (b ∷ out_of now)
    (block b.frame (b.order - 1) ∷ block (b.frame + 2 ^ (b.order - 1)) (b.order - 1) ∷ out_of a.starts.items) =
    subst (λ (bytes : List ℕ). IsPermutation (b ∷ out_of bytes)
    (block b.frame (b.order - 1) ∷ block (b.frame + 2 ^ (b.order - 1)) (b.order - 1) ∷ out_of a.starts.items)) (bytes_are c) made in
    let second : IsPermutation (b ∷ out_of now) (c.in-Ok.halves.0 ∷ c.in-Ok.halves.1 ∷ out_of a.starts.items) =
    subst (λ (bs : List FrameBlock). IsPermutation (b ∷ out_of now) bs)
    (λ i. sym are.lower i ∷ sym are.upper i ∷ out_of a.starts.items) first in
    record {
      halves = are;
      out = subst (λ (s : PlainState). IsPermutation (b ∷ out_of now) (c.in-Ok.halves.0 ∷ c.in-Ok.halves.1 ∷ s.out)) c.self.view_is second;
    }

pub returns-clause-kept : goal.returns-clause-kept
returns-clause-kept c =
    let a = c.self.inside in
    let m = a.moves in
    let n = c.split_by.new.m in
    let b : FrameBlock = c.args.block in
    ap kept_of (sym (bytes_are c))
    ∙ halves_kept (sealed_key m.geometry a.ranges.items) _ _ m.words.items n.words.items a.starts.items a.habits.items a.refused
    c.self.invariant refl b c.in-Ok.halves.0 c.in-Ok.halves.1 (has_it c) c.split_by.ensures.splits.keeps c.in-Ok.ensures.splits.ok
    ∙ ap (λ (s : PlainState). s.kept) c.self.view_is

pub returns-clause-geometry : goal.returns-clause-geometry
returns-clause-geometry c =
    (stays c ∙ ap (λ (s : PlainState). s.geometry) c.self.view_is, ap (λ (s : PlainState). s.ranges) c.self.view_is)

pub returns-clause-lawful : goal.returns-clause-lawful
returns-clause-lawful c = (invariant_of-self-2 c).lawful

pub invariant_of-self : goal.invariant_of-self
invariant_of-self c = rw c.in-Err.ensures.same c.self.invariant
