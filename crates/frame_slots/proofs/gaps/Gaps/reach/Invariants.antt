use Rattle.std.specs.Prelude.{◌≡◌, ℕ, slice_index}
use Rattle.std.proofs.Common.{vec_len}
use Rattle.frame_slots.proofs.gaps.Gaps.reach.Given as goal

abbrev pub invariant-loop-word : goal.invariant-loop-word
invariant-loop-word l = record {
  next : l._word ≡ vec_len l.self.words;
  same : (k : ℕ) → slice_index l.self.words.items k ≡ slice_index l.fn.self.words.items k;
}
