-- Two spans make two nodes, on which each block lies.
use Rattle.std.proofs.Common.{◌≡◌, ◌⊎◌, ℕ, zero, suc, ◌^◌, ◌<◌, List, [], ◌∷◌, length, ap, ◌∙◌, sym, subst, arith, inl, inr}
use Rattle.std.proofs.Math.Nat.{one-le-pow}
use Rattle.std.specs.Prelude.{map, Ok, Err, Result, IfOk}
use Rattle.std.specs.declared.vec.Vec.{Vec}
use Rattle.frame_words.specs.declared.fault.Fault.{Fault}
use Rattle.frame_table.specs.Seats.{block_in}
use Rattle.core_frames.specs.declared.shared.allocator.Allocator.{Allocator}
use Rattle.frame_zones.specs.Laws.{LiesInZone}
use Rattle.frame_zones.specs.Openings.{IsAt, AreOpened}
use Rattle.frame_zones.specs.Sizes.{end_from}
use Rattle.frame_zones.specs.Spans.{Place, place_of_span}
use Rattle.frame_zones.specs.Zones.{first_frame_in, IsOutOfItsZone}
use Rattle.frame_zones.specs.declared.block.ZoneBlock.{ZoneBlock}
use Rattle.frame_zones.specs.declared.spans.Span.{Span}
use Rattle.frame_zones.specs.declared.zones.Zones.{Zones}
use Rattle.frame_zones.specs.declared.zones.ZoneCore.{ZoneCore}
use Rattle.llfree_example.specs.Nodes.{second_node, IsNode, AreNodes, IsOnNode, LiesOnNode}

is_node : (p : Place) (first : ℕ) (a : Allocator) → IsAt p first a → (p.first ≡ 0) ⊎ (p.first ≡ second_node)
    → p.key.children ≡ 2048 → IsNode first (end_from first a)
is_node p first a at begins children = (
  elim begins as (λ _. (first ≡ 0) ⊎ (first ≡ second_node)) [
    | inl e ↦ inl (at.first_frame ∙ e)
    | inr e ↦ inr (at.first_frame ∙ e)
  ],
  omega (arith, ap (λ k. k.children) at.memory, children),
)

nodes_of : (p q : Place) (zs : Zones) (cs : List ZoneCore) → AreOpened 2 (p ∷ q ∷ []) zs cs
    → p.first ≡ 0 → q.first ≡ second_node → p.key.children ≡ 2048 → q.key.children ≡ 2048 → AreNodes zs
nodes_of p q zs cs opened lower upper p-children q-children zero a within =
    is_node p _ _ (opened.are_at 0 p a within) (inl lower) p-children
nodes_of p q zs cs opened lower upper p-children q-children (suc zero) a within =
    is_node q _ _ (opened.are_at 1 p a within) (inr upper) q-children
nodes_of p q zs cs opened lower upper p-children q-children (suc (suc z)) a within =
    absurd (omega (arith, within, opened.zones))

-- where zones are opened at two such spans, they are nodes
pub nodes_if : {Z : Type 0} (r : Result (Zones × Vec ZoneCore Z) Fault) (spans : List Span) (lower upper : Span)
    → spans ≡ lower ∷ upper ∷ [] → lower.first ≡ 0 → upper.first ≡ second_node
    → lower.geometry.children ≡ 2048 → upper.geometry.children ≡ 2048
    → IfOk r (λ o. AreOpened 2 (map place_of_span spans) o.0 o.1.items) → IfOk r (λ o. AreNodes o.0)
nodes_if (Ok o) spans lower upper are lower-first upper-first lower-children upper-children opened =
    nodes_of (place_of_span lower) (place_of_span upper) o.0 o.1.items
    (subst (λ (l : List Span). AreOpened 2 (map place_of_span l) o.0 o.1.items) are opened)
    lower-first upper-first lower-children upper-children
nodes_if (Err e) spans lower upper are lower-first upper-first lower-children upper-children opened = tt

-- an item of a list that has one
some_item : {A : Type 0} (l : List A) (n : ℕ) → n < length l → A
some_item [] n within = absurd (omega (arith, within))
some_item (a ∷ l) n within = a

-- a block of its zone lies on a node, where each zone is one
pub on_node : (zs : Zones) (b : ZoneBlock) → AreNodes zs → IsOutOfItsZone zs b → LiesInZone zs b
    → LiesOnNode (2 ^ (block_in b.block).order) zs b
on_node zs b nodes out lies x from to =
    let a : Allocator = some_item zs.zones.items b.zone out.zone in
    let node = nodes b.zone a out.zone in
    elim node.0 as (λ _. IsOnNode x) [
      | inl lower ↦ inl (omega (arith, lower, node.1, lies.to a, to))
      | inr upper ↦ inr (omega (arith, upper, lies.from, from), omega (arith, upper, node.1, lies.to a, to))
    ]

pub first_on_node : (n x : ℕ) (zs : Zones) (b : ZoneBlock) → LiesOnNode (2 ^ n) zs b → x ≡ first_frame_in zs b
    → IsOnNode x
first_on_node n x zs b lies is =
    subst IsOnNode (sym is)
    (lies (first_frame_in zs b) (omega arith) (omega (arith, one-le-pow n 2 (omega arith))))
