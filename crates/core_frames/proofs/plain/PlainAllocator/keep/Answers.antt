use Rattle.std.proofs.Common.{◌≡◌, ℕ, ◌+◌, List, ◌∷◌, ◌++◌, ap, sym, subst, ◌∙◌, set, arith}
use Rattle.std.specs.List.{Contains}
use Rattle.std.specs.List.Sorted.{IsPermutation}
use Rattle.std.proofs.lemmas.List.Sorted.{IsPermutation-append_left}
use Rattle.frame_model.specs.declared.block.FrameBlock.{FrameBlock}
use Rattle.frame_model.specs.Key.{sealed_key}
use Rattle.frame_model.specs.View.{boot_blocks}
use Rattle.core_frames.specs.PlainAgree.{named_by}
use Rattle.core_frames.specs.PlainBytes.{out_of, kept_of, first_kept}
use Rattle.core_frames.specs.PlainState.{PlainState, held_by}
use Rattle.core_frames.proofs.PlainBytes.{out_byte, out_kept, kept_kept}
use Rattle.core_frames.proofs.PlainCalls.{renamed, keeps, held_same}
use Rattle.core_frames.proofs.plain.PlainAllocator.keep.Goals as goal

pub kept_byte-requires : goal.kept_byte-requires
kept_byte-requires c =
    let a = c.self.inside in
    let b : FrameBlock = c.args.block in
    let has : Contains (out_of a.starts.items) b = subst (λ (s : PlainState). Contains s.out b) (sym c.self.view_is) c.requires.out in
    omega (arith, out_byte a.starts.items b has, c.order-order.ensures)

pub index_mut-start-requires : goal.index_mut-start-requires
index_mut-start-requires c =
    let a = c.self.inside in
    let b : FrameBlock = c.args.block in
    let has : Contains (out_of a.starts.items) b = subst (λ (s : PlainState). Contains s.out b) (sym c.self.view_is) c.requires.out in
    omega (arith, out_byte a.starts.items b has, c.frame-frame.ensures, a.starts.ok.0)

-- the bytes that are left
bytes_are : (c : goal.After-self-1)
    → set c.self.inside.starts.items c.frame-frame.result c.kept_byte.result ≡ set c.self.inside.starts.items
    c.args.block.frame (first_kept + c.args.block.order)
bytes_are c =
    let byte : c.kept_byte.result ≡ first_kept + c.args.block.order = omega (arith, c.kept_byte.ensures, c.order-order.ensures) in
    ap (λ (x : ℕ). set c.self.inside.starts.items x c.kept_byte.result) c.frame-frame.ensures
    ∙ ap (set c.self.inside.starts.items c.args.block.frame) byte

pub invariant_of-self : goal.invariant_of-self
invariant_of-self c =
    let a = c.self.inside in
    let key = sealed_key a.moves.geometry a.ranges.items in
    let b : FrameBlock = c.args.block in
    let has : Contains (out_of a.starts.items) b = subst (λ (s : PlainState). Contains s.out b) (sym c.self.view_is) c.requires.out in
    renamed (set a.starts.items b.frame (first_kept + b.order))
    (set a.starts.items c.frame-frame.result c.kept_byte.result) (sym (bytes_are c))
    (keeps key _ a.moves.words.items a.starts.items a.habits.items a.refused c.self.invariant b has)

pub returns-clause-out : goal.returns-clause-out
returns-clause-out c =
    let a = c.self.inside in
    let b : FrameBlock = c.args.block in
    let has : Contains (out_of a.starts.items) b = subst (λ (s : PlainState). Contains s.out b) (sym c.self.view_is) c.requires.out in
    subst (λ (s : PlainState). IsPermutation (b ∷ out_of (set a.starts.items c.frame-frame.result c.kept_byte.result)) s.out) c.self.view_is
    (subst (λ (bytes : List ℕ). IsPermutation (b ∷ out_of bytes) (out_of a.starts.items)) (sym (bytes_are c))
    (out_kept a.starts.items b has))

pub returns-clause-kept : goal.returns-clause-kept
returns-clause-kept c =
    let a = c.self.inside in
    let b : FrameBlock = c.args.block in
    let has : Contains (out_of a.starts.items) b = subst (λ (s : PlainState). Contains s.out b) (sym c.self.view_is) c.requires.out in
    subst (λ (s : PlainState). IsPermutation (b ∷ s.kept)
    (kept_of (set a.starts.items c.frame-frame.result c.kept_byte.result))) c.self.view_is
    (subst (λ (bytes : List ℕ). IsPermutation (b ∷ kept_of a.starts.items) (kept_of bytes)) (sym (bytes_are c))
    (kept_kept a.starts.items b has))

pub returns-clause-held : goal.returns-clause-held
returns-clause-held c =
    let a = c.self.inside in
    let key = sealed_key a.moves.geometry a.ranges.items in
    let b : FrameBlock = c.args.block in
    let has : Contains (out_of a.starts.items) b =
    subst (λ (s : PlainState). Contains s.out b) (sym c.self.view_is) c.requires.out in
    let same = held_same key _ a.moves.words.items a.starts.items a.habits.items a.refused c.self.invariant b has in
    let now = set a.starts.items c.frame-frame.result c.kept_byte.result in
    let boot = boot_blocks key in
    subst (λ (s : PlainState). IsPermutation (held_by s) (named_by now ++ boot)) c.self.view_is
    (IsPermutation-append_left boot (named_by a.starts.items) (named_by now)
    (subst (λ (bytes : List ℕ). IsPermutation (named_by a.starts.items) (named_by bytes)) (sym (bytes_are c)) same))
