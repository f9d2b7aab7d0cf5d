use Rattle.std.proofs.Common.{length, ◌-◌}
use Rattle.held_blocks.specs.LabelChains.{WalksOn}
use Rattle.held_blocks.proofs.label_chains.LabelChains.walk.Given as goal

abbrev pub invariant-loop-at : goal.invariant-loop-at
invariant-loop-at g l = WalksOn l.self l.slots l.key l.at

abbrev pub decreases-loop-at : goal.decreases-loop-at
decreases-loop-at g l = length l.slots - l.at
