use Rattle.std.specs.Prelude.{◌≡◌, ℕ, ◌+◌, ◌*◌, ◌<◌, slice_index}
use Rattle.frame_words.specs.Words.{entry_word}
use Rattle.frame_model.specs.Key.{key_of}
use Rattle.frame_model.specs.Rebuilt.{rebuilt_free, rebuilt_bits}
use Rattle.frame_model.specs.Words.{huge_of}
use Rattle.llfree_c.specs.Images.{StaysBehind}
use Rattle.llfree_c.proofs.rebuilt_image.write_child.Given as goal

abbrev pub invariant-loop-word : goal.invariant-loop-word
invariant-loop-word l = record {
  entry : slice_index l.numbers (9 * l.child)
      ≡ entry_word (rebuilt_free (key_of l.geometry) l.words l.child) (huge_of l.words l.child);
  bits : (w : ℕ) → w < l.word
      → slice_index l.numbers (9 * l.child + 1 + w) ≡ rebuilt_bits (key_of l.geometry) l.words (8 * l.child + w);
  below : (i : ℕ) → i < 9 * l.child → slice_index l.numbers i ≡ slice_index l.fn.numbers i;
  behind : StaysBehind (9 * l.child + 9) l.fn.numbers l.numbers;
}
