-- After so many doublings the bits mark runs of that power of 2.
use Rattle.std.proofs.Common.{◌^◌}
use Rattle.frame_words.proofs.RunLemmas.{Marks}
use Rattle.frame_words.proofs.runs.clear_from.Given as goal

abbrev pub invariant-loop-step : goal.invariant-loop-step
invariant-loop-step l = Marks l.word (2 ^ l.step) l.starts
