-- Worked stops: one after another, with an adoption between.
use Rattle.std.specs.Prelude.{◌≡◌, ℕ, List, [], ◌∷◌, ◌++◌}
use Rattle.frame_model.specs.Block.{block}
use Rattle.frame_model.specs.View.{idle}
use Rattle.frame_model.specs.Seats.{hand_out, adopt}
use Rattle.frame_model.specs.Without.{without, less_one}
use Rattle.frame_model.specs.Events.{State, Event, cuts, LeadsTo}
use Rattle.frame_model.specs.Openings.{opened}
use Rattle.frame_model.specs.Stops.{Moment, Steps, Passes, opening_moment, stopped, known_at, lost_frames, Survives}
use Rattle.frame_model.specs.WorkedRuns.{one_child, words_of_one, full_word, all_free, claimed_two}
use Rattle.frame_model.specs.WorkedLaws.{stop_at}

-- Two words were claimed for a block of 128 frames, and the lower one is handed out by itself.
abbrev pub hands_out_lower : List Event
hands_out_lower = claimed_two ++ cuts 0 (hand_out (block 0 6) (less_one (block 0 6))) ∷ []

-- the words that rebuilding makes, at this stop and at the next
abbrev pub two_held : List ℕ
two_held = words_of_one 384 384 0 full_word full_word 0 0 0 0 0 0

-- after the stop the ground is seat 1, and the first half of the block is adopted from it
abbrev pub adopts_half : Event
adopts_half = cuts 1 (adopt (block 0 5) (without (block 0 5)))

-- All threads stop after these events, one block is adopted, and all stop again: the block that was adopted
-- and the rest that is remembered are known, and the 64 frames that were in flight are lost.
pub record StopAdoptStop : Type 0 where
  pub end : State
  pub run : LeadsTo one_child (opened all_free (idle one_child 1)) hands_out_lower end
  pub known_first : known_at (stop_at 1 end two_held) ≡ block 0 6 ∷ []
  pub lost_first : lost_frames (stop_at 1 end two_held) ≡ 64
  -- the moment between the stops
  pub adopted : Moment
  pub adopts : Steps adopts_half (stop_at 1 end two_held) adopted
  pub remembered : adopted.remembered ≡ block 32 5 ∷ []
  pub known_between : known_at adopted ≡ block 0 5 ∷ block 32 5 ∷ []
  -- the moment after the second stop
  pub passes : Passes (opening_moment one_child all_free 1) (stopped adopted two_held)
  pub twice : (stopped adopted two_held).stops ≡ 2
  pub known : known_at (stopped adopted two_held) ≡ block 0 5 ∷ block 32 5 ∷ []
  pub lost : lost_frames (stopped adopted two_held) ≡ 64
  pub survives : Survives 1 (stopped adopted two_held)
