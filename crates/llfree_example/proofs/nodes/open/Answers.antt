use Rattle.std.proofs.Common.{List, [], ◌∷◌, ◌++◌, ap, ◌∙◌}
use Rattle.frame_zones.specs.declared.spans.Span.{Span}
use Rattle.llfree_example.proofs.TwoNodes.{nodes_if}
use Rattle.llfree_example.proofs.nodes.open.Goals as goal

pub returns-clause-nodes : goal.returns-clause-nodes
returns-clause-nodes c =
    let lower = c.in_ok-lower.lower in
    let upper = c.in_ok-upper.upper in
    nodes_if c.open.result c.deref.result.now lower upper
    (c.deref.ensures.value ∙ (c.push_reserved-2.ensures.items
    ∙ ap (λ (l : List Span). l ++ upper ∷ [])
    (c.push_reserved.ensures.items ∙ ap (λ (l : List Span). l ++ lower ∷ []) c.in_ok-nodes.ensures.items)))
    c.in_ok-lower.ensures.first c.in_ok-upper.ensures.first c.in_ok-lower.ensures.children c.in_ok-upper.ensures.children
    c.open.ensures.opened
