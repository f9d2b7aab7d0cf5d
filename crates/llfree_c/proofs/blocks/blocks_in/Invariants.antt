use Rattle.std.specs.Prelude.{◌≡◌, ◌≤◌, length}
use Rattle.std.proofs.Common.{vec_len, vec_capacity, take}
use Rattle.llfree_c.specs.Reopenings.{claimed_blocks}
use Rattle.llfree_c.proofs.blocks.blocks_in.Given as goal

abbrev pub invariant-loop-claim : goal.invariant-loop-claim
invariant-loop-claim l = record {
  blocks : l.blocks.items ≡ claimed_blocks (take l.claim-index l.claims);
  count : vec_len l.blocks ≡ l.claim-index;
  room : length l.claims ≤ vec_capacity l.blocks;
}
