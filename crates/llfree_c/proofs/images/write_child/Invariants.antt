use Rattle.std.specs.Prelude.{◌≡◌, ℕ, ◌+◌, ◌*◌, ◌<◌, slice_index}
use Rattle.frame_words.specs.Words.{entry_word}
use Rattle.frame_model.specs.Words.{free_of, huge_of, bit_word_of}
use Rattle.frame_core.specs.Image.{key_in}
use Rattle.llfree_c.specs.Images.{StaysBehind}
use Rattle.llfree_c.proofs.images.write_child.Given as goal

abbrev pub invariant-loop-word : goal.invariant-loop-word
invariant-loop-word l = record {
  entry : slice_index l.numbers (9 * l.child)
      ≡ entry_word (free_of l.image.words l.child) (huge_of l.image.words l.child);
  bits : (w : ℕ) → w < l.word
      → slice_index l.numbers (9 * l.child + 1 + w) ≡ bit_word_of (key_in l.image) l.image.words (8 * l.child + w);
  below : (i : ℕ) → i < 9 * l.child → slice_index l.numbers i ≡ slice_index l.fn.numbers i;
  behind : StaysBehind (9 * l.child + 9) l.fn.numbers l.numbers;
}
