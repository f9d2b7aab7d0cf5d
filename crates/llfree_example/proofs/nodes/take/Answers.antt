use Rattle.llfree_example.proofs.TwoNodes.{on_node}
use Rattle.llfree_example.proofs.nodes.take.Goals as goal

pub returns-clause-on_node : goal.returns-clause-on_node
returns-clause-on_node c =
    on_node c.args.zones.now c.in_ok-block.block c.requires.nodes c.in_ok-block.ensures.takes.ok.is_out
    c.blocks_lie_in_zones.ensures.inside
