use Rattle.std.proofs.Common.{◌≡◌, take}
use Rattle.frame_words.specs.Words.{flag, entry_word}
use Rattle.frame_core.specs.Image.{key_in, with_child}
use Rattle.frame_core.proofs.image.Image.set_child.Given as goal

abbrev pub invariant-loop-word : goal.invariant-loop-word
invariant-loop-word l =
    l.self ≡ record l.fn.self {
      words = with_child (key_in l.fn.self) l.fn.self.words l.child (entry_word l.free (flag l.huge)) (take l.word l.bits);
    }
