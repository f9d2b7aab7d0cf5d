use Rattle.std.proofs.Common.{◌≡◌}
use Rattle.frame_model.specs.Key.{key_of}
use Rattle.frame_core.proofs.Blank.{blank_front}
use Rattle.frame_core.proofs.image.Image.blank.Given as goal

abbrev pub invariant-loop-word : goal.invariant-loop-word
invariant-loop-word l = l.words.items ≡ blank_front (key_of l.geometry) l.word
