use Rattle.std.proofs.Common.{ℕ, ◌+◌, ◌≡◌, length, take, drop, vec_len}
use Rattle.held_blocks.specs.LabelChains.{Knows}
use Rattle.held_blocks.specs.SlotPages.{HasSpare, counted_at}
use Rattle.held_blocks.specs.Slots.{held}
use Rattle.held_blocks.specs.BlockStore.{HasRoom}
use Rattle.held_blocks.proofs.block_store.BlockStore.move_all.Given as goal

abbrev pub invariant-loop-slot : goal.invariant-loop-slot
invariant-loop-slot l = record {
  moved : held l.self.slots.items ≡ held (take l.slot l.initial.slots.items);
  rest : drop l.slot l.slots.items ≡ drop l.slot l.initial.slots.items;
  same : vec_len l.slots ≡ vec_len l.initial.slots;
  room : HasRoom l.self (length (held (drop l.slot l.initial.slots.items)) + 1);
  known : (q : ℕ) → Knows l.initial.self.chains q → Knows l.self.chains q;
  numbers : (f : ℕ) → counted_at l.self.pages f ≡ counted_at l.initial.self.pages f;
  spare : HasSpare l.self.pages;
}
