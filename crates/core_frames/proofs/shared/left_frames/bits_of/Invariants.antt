use Rattle.std.proofs.Common.{◌≡◌, ℕ, ◌*◌, ◌<◌, ◌≤◌, length, vec_capacity}
use Rattle.std.specs.Prelude.{slice_index}
use Rattle.frame_core.specs.Image.{key_in}
use Rattle.frame_model.specs.Words.{bit_word_of}
use Rattle.core_frames.proofs.shared.left_frames.bits_of.Given as goal

abbrev pub invariant-loop-word : goal.invariant-loop-word
invariant-loop-word l = record {
  all : l.count ≡ 8 * l.image.geometry.children;
  count : length l.bits.items ≡ l.word;
  room : l.count ≤ vec_capacity l.bits;
  each : (w : ℕ) → w < l.word
      → slice_index l.bits.items w ≡ bit_word_of (key_in l.image) l.image.words w;
}
