use Rattle.std.proofs.Common.{◌≡◌, ◌≤◌, take, vec_len, vec_capacity}
use Rattle.std.specs.Slots.{slots_items, slots_len}
use Rattle.frame_table.proofs.closings.read_words.Given as goal

abbrev pub invariant-loop-i : goal.invariant-loop-i
invariant-loop-i l = record {
  items : l.words.items ≡ take l.i (slots_items l.closed.words);
  count : vec_len l.words ≡ l.i;
  room : slots_len l.closed.words ≤ vec_capacity l.words;
}
