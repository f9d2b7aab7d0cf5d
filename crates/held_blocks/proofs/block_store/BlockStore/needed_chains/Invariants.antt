use Rattle.std.proofs.Common.{ℕ, ◌+◌, ◌<◌}
use Rattle.held_blocks.specs.Label.{packed}
use Rattle.held_blocks.specs.LabelChains.{IsBlank, Knows, ChainsHaveRoom}
use Rattle.held_blocks.specs.Slots.{StandsAt}
use Rattle.held_blocks.specs.declared.labelled_block.LabelledBlock.{LabelledBlock}
use Rattle.held_blocks.proofs.block_store.BlockStore.needed_chains.Given as goal

abbrev pub invariant-loop-slot : goal.invariant-loop-slot
invariant-loop-slot l = record {
  blank : IsBlank l.chains;
  room : ChainsHaveRoom l.chains (l.self.live + 1);
  knows : Knows l.chains l.key;
  labels : (i : ℕ) (e : LabelledBlock) → i < l.slot
      → StandsAt l.self.slots.items i e → Knows l.chains (packed e.label);
}
