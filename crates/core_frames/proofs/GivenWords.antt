-- What a give leaves of words that are known before and after it.
use Rattle.std.proofs.Common.{◌≡◌, ℕ, List, Option, Some}
use Rattle.frame_model.specs.declared.block.FrameBlock.{FrameBlock}
use Rattle.frame_model.specs.declared.key.Key.{Key}
use Rattle.low_frames.specs.Alone.{HoldsMore, WordsGive}
use Rattle.core_frames.proofs.PlainCalls.{both_known}

pub given_words : (key : Key) (old new : Option (List ℕ)) (ws us : List ℕ) (b : FrameBlock) → WordsGive key old new b
    → old ≡ Some ws → new ≡ Some us → HoldsMore key us ws b
given_words key old new ws us b give was now = both_known (λ ws us. HoldsMore key us ws b) old new ws us was now give
