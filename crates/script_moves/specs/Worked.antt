-- One script that is worked out: what stands at its first two moves.
use Rattle.std.specs.Prelude.{◌≡◌, ℕ, ◌-◌, ◌≤◌, List, [], ◌∷◌, Some, None, slice_get, slice_index, slice_set}
use Rattle.frame_words.specs.Words.{entry_word, free_in, flag_in}
use Rattle.frame_model.specs.Words.{tree_place}
use Rattle.plain_moves.specs.declared.act.Act.TheVariants.{TreePay}
use Rattle.script_moves.specs.declared.script.cue.Cue.{Cue}
use Rattle.script_moves.specs.declared.script.cue.What.TheVariants.{Lose, Stranger, Stop}
use Rattle.plain_moves.specs.declared.plain.PlainMoves.{PlainMoves}
use Rattle.plain_moves.specs.declared.plain.party.Party.{Party}
use Rattle.script_moves.specs.declared.script.stage.Stage.{Stage}
use Rattle.plain_moves.specs.PlainState.{key_by, words_by, parties_by}
use Rattle.script_moves.specs.ScriptState.{at_by}

-- just before move 0 a stop, a payment of five frames by stranger 0, and one by stranger 8, whom there
-- is not; just before move 1 a loss
abbrev pub worked_script : List Cue
worked_script =
    record { at = 0; what = Stop }
    ∷ record { at = 0; what = Stranger 0 (TreePay 0 5) }
    ∷ record { at = 0; what = Stranger 8 (TreePay 0 5) }
    ∷ record { at = 1; what = Lose }
    ∷ []

-- the word of tree 0
abbrev pub first_tree_word : PlainMoves → ℕ
first_tree_word m = slice_index (words_by m) (tree_place (key_by m) 0)

-- it counts five free frames less
abbrev pub five_less : ℕ → ℕ
five_less word = entry_word (free_in word - 5) (flag_in word)

-- the words with five free frames of tree 0 less
abbrev pub five_paid : PlainMoves → List ℕ
five_paid m = slice_set (words_by m) (tree_place (key_by m) 0) (five_less (first_tree_word m))

-- the script stands before move 0, tree 0 has five free frames, and stranger 0 has paid none
pub record StandsFirst (m : Stage) : Type 0 where
  pub script : m.cues.items ≡ worked_script
  pub at : at_by m ≡ 0
  pub skipped : m.skipped ≡ 0
  pub enough : 5 ≤ free_in (first_tree_word m.plain)
  pub stranger : Party
  pub is_first : slice_get (parties_by m.plain) 0 ≡ Some stranger
  pub idle : stranger.paid ≡ None

-- the script stands before move 1
pub record StandsSecond (m : Stage) : Type 0 where
  pub script : m.cues.items ≡ worked_script
  pub at : at_by m ≡ 1
