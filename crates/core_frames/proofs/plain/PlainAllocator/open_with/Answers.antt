use Rattle.std.proofs.Common.{◌≡◌, ℕ, ◌*◌, ◌<◌, List, length, get_or, false, ap, sym, ◌∙◌, arith}
use Rattle.std.proofs.lemmas.List.{get_or-replicate}
use Rattle.frame_words.specs.declared.geometry.Geometry.{Geometry}
use Rattle.frame_model.specs.Key.{sealed_key}
use Rattle.core_frames.proofs.PlainBytes.{out_none, kept_none}
use Rattle.core_frames.proofs.PlainCalls.{same_geometry, moved, ranged, opened}
use Rattle.core_frames.proofs.plain.PlainAllocator.open_with.Goals as goal

-- all bytes are 0
zeros : (c : goal.In_ok-ranges) (i : ℕ) → i < length c.in_ok-starts.starts.items → get_or c.in_ok-starts.starts.items i 0 ≡ 0
zeros c i h = ap (λ (xs : List ℕ). get_or xs i 0) (c.in_ok-starts.ensures.items_if_clones_equal (λ y e. e))
    ∙ get_or-replicate (512 * c.children.result) i 0 0
    (omega (arith, h, c.in_ok-starts.ensures.len, c.in_ok-starts.starts.ok.0))

-- the memory is the one that was asked for
stays : (c : goal.In_ok-ranges) → c.in_ok-moves.moves.geometry ≡ c.args.geometry
stays c = same_geometry c.in_ok-moves.moves.geometry c.args.geometry c.in_ok-moves.moves.sealed false c.in_ok-moves.ensures.begins.key

ranges_are : (c : goal.In_ok-ranges) → c.in_ok-ranges.ranges.items ≡ c.args.ranges.now
ranges_are c = c.in_ok-ranges.ensures.items_if_clones_equal (λ x y e. λ i. (e.0 i, e.1 i))

pub invariant_of-result : goal.invariant_of-result
invariant_of-result c =
    let m = c.in_ok-moves.moves in
    let g : Geometry = c.args.geometry in
    ranged m.geometry c.args.ranges.now c.in_ok-ranges.ranges.items (sym (ranges_are c))
    (moved g m.geometry c.args.ranges.now (sym (stays c))
    (opened (sealed_key g c.args.ranges.now) m.words.items c.in_ok-moves.ensures.opens _ c.in_ok-starts.starts.items
    c.in_ok-habits.habits.items 10 c.in_ok-moves.ensures.company c.in_ok-moves.ensures.begins
    (omega (arith, g.some_cores)) (omega (arith, c.in_ok-starts.ensures.len, c.in_ok-starts.starts.ok.0, c.children.ensures.value))
    (zeros c) (omega arith) c.in_ok-habits.ensures.cores))

pub returns-clause-geometry : goal.returns-clause-geometry
returns-clause-geometry c = (stays c, ranges_are c)

pub returns-clause-nothing : goal.returns-clause-nothing
returns-clause-nothing c = (out_none c.in_ok-starts.starts.items (zeros c), kept_none c.in_ok-starts.starts.items (zeros c))
