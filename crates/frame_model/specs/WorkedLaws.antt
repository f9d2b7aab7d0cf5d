-- What the laws say of worked runs, in numbers.
use Rattle.std.specs.Prelude.{◌≡◌, ℕ, ◌≤◌, List, [], ◌∷◌, ◌++◌, None, pos, map}
use Rattle.std.specs.List.{range_with_len}
use Rattle.frame_model.specs.declared.block.FrameBlock.{FrameBlock}
use Rattle.frame_model.specs.declared.key.Key.{Key}
use Rattle.frame_model.specs.declared.view.Eye.{Eye}
use Rattle.frame_model.specs.Key.{IsKey}
use Rattle.frame_model.specs.Block.{block}
use Rattle.frame_model.specs.Words.{free_of, tree_free_of, AreInRange}
use Rattle.frame_model.specs.View.{idle, IsIdle}
use Rattle.frame_model.specs.Steps.{Rest, charge, refund, claim, claim_singles, release, take_huge, give_huge, tree_pay, tree_refund, reserve, swap_local, unreserve, local_pay, local_refund, collect, fill_word, drop_flag}
use Rattle.frame_model.specs.Seats.{part_share, hand_out, recall, part_ground, adopt, join_idle, hand_in, keep_in}
use Rattle.frame_model.specs.Without.{without}
use Rattle.frame_model.specs.Events.{State, Event, loads, makes, loses, loses_at_will, cuts, joins, views_of, Has, LeadsTo}
use Rattle.frame_model.specs.Rebuilt.{IsRebuilt}
use Rattle.frame_model.specs.Openings.{IsSealedOpening, opened}
use Rattle.frame_model.specs.Laws.{IsSafe, AddsUp, HoldsJust, Form, form_of, Happening}
use Rattle.frame_model.specs.Stops.{Moment, Passes, opening_moment, unsealed, stopped, known_at, lost_frames, IsExact, Survives}
use Rattle.frame_model.specs.WorkedRuns.{one_child, words_of_one, full_word, all_free, at_first, claimed_one, claimed_two, one_claimed}

-- a run in which every form of event happens ends safe
pub record SafeRun : Type 0 where
  pub run : Happening
  pub safe : IsSafe run.key run.end.words (views_of run.end)

-- Frame 0 is taken, handed out, and kept by the seat that took it.
abbrev pub takes_and_keeps : List Event
takes_and_keeps = loads 0 16 ∷ makes 0 (tree_pay 0 512 1)
    ∷ loads 0 8 ∷ makes 0 (charge 0 512 1)
    ∷ loads 0 32 ∷ makes 0 (claim 0 0 0 0)
    ∷ cuts 0 (hand_out (block 0 0) (without (block 0 0)))
    ∷ joins 0 1 keep_in
    ∷ []

-- after these events seat 0 is idle, has both shares and lent nothing: the counters add up, just the
-- blocks that it keeps are held, and the child, its tree and whatever is rebuilt of them count so many
-- free frames
pub record Closes (events : List Event) (kept : List FrameBlock) (free_frames : ℕ) : Type 0 where
  pub end : State
  pub run : LeadsTo one_child at_first events end
  pub closer : Eye
  pub seat : Has end 0 closer
  pub is_idle : IsIdle closer.view
  pub all_shares : closer.view.share ≡ 2
  pub nothing_lent : closer.view.lent ≡ pos 0
  pub adds_up : AddsUp one_child end.words
  pub holds : HoldsJust one_child end.words kept
  pub child : free_of end.words 0 ≡ free_frames
  pub tree : tree_free_of one_child end.words 0 ≡ free_frames
  pub rebuilt : (again : List ℕ) → IsRebuilt one_child end.words again
      → (free_of again 0 ≡ free_frames) × (tree_free_of one_child again 0 ≡ free_frames)

-- of 512 frames one is kept, so 511 are free
abbrev pub ClosesWithOneKept : Type 0
ClosesWithOneKept = Closes takes_and_keeps (block 0 0 ∷ []) 511

-- the moment after these words were made of those of a state, at a stop after an opening with so many shares
abbrev pub stop_at : ℕ → State → List ℕ → Moment
stop_at shares end again = stopped (record (opening_moment one_child all_free shares) { state = end }) again

-- all threads stop after these events of a memory with so many shares, and these words are made: then the counters
-- are exact, just these blocks are known, so many frames are lost, what was known survives, and all may stop again
pub record StopIsSurvived (shares : ℕ) (events : List Event) (again : List ℕ) (known : List FrameBlock)
    (lost : ℕ) : Type 0 where
  pub end : State
  pub run : LeadsTo one_child (opened all_free (idle one_child shares)) events end
  pub rebuilt : IsRebuilt (unsealed one_child) end.words again
  pub passes : Passes (opening_moment one_child all_free shares) (stop_at shares end again)
  pub exact : IsExact (unsealed one_child) again
  pub known_then : known_at (stop_at shares end again) ≡ known
  pub lost_then : lost_frames (stop_at shares end again) ≡ lost
  pub survives : Survives shares (stop_at shares end again)
  pub stops_again : (new : List ℕ) × IsRebuilt (unsealed one_child) again new

-- a word was claimed, and the block was not handed out yet: nobody knows of its frames
abbrev pub LosesAClaim : Type 0
LosesAClaim = StopIsSurvived 1 claimed_one one_claimed [] 64

-- the same where a stranger has a share too
abbrev pub LosesAClaimBesideAStranger : Type 0
LosesAClaimBesideAStranger = StopIsSurvived 2 claimed_one one_claimed [] 64

-- the block was handed out
abbrev pub handed_out : List Event
handed_out = claimed_two ++ cuts 0 (hand_out (block 0 7) (without (block 0 7))) ∷ []

-- it is known, so nothing is lost
abbrev pub LosesNoBlock : Type 0
LosesNoBlock = StopIsSurvived 1 handed_out
    (words_of_one 384 384 0 full_word full_word 0 0 0 0 0 0) (block 0 7 ∷ []) 0

-- whatever the words of a child are, rebuilt words of it exist, and their counters are exact
abbrev pub RebuildsToExact : Type 0
RebuildsToExact = (words : List ℕ) → AreInRange one_child words
    → (new : List ℕ) × IsRebuilt one_child words new × IsExact one_child new

-- however a memory that was opened with so many shares, for so many cores, was used, after so many stops so few
-- frames are lost
abbrev pub LosesAtMost : (shares cores stops most : ℕ) → Type 0
LosesAtMost shares cores stops most = (key : Key) (words : List ℕ) (m : Moment)
    → IsKey key → IsSealedOpening key words → Passes (opening_moment key words shares) m
    → m.key.cores ≡ cores → m.stops ≡ stops → lost_frames m ≤ most

-- a rest of blocks for events of which only the form is looked at
abbrev pub stay : Rest
stay blocks = blocks

-- one event of each form
abbrev pub one_of_each : List Event
one_of_each = makes 0 (charge 0 0 1) ∷ makes 0 (refund 0 1) ∷ makes 0 (claim 0 0 0 0) ∷
    makes 0 (release 0 0 0 stay) ∷ makes 0 (take_huge 0 0) ∷ makes 0 (give_huge 0 stay) ∷
    makes 0 (tree_pay 0 0 1) ∷ makes 0 (tree_refund 0 1) ∷ makes 0 (reserve 0 0) ∷
    makes 0 (swap_local 0 None) ∷ makes 0 (unreserve 0 1) ∷ makes 0 (local_pay 0 0 1) ∷
    makes 0 (local_refund 0 0 1) ∷ makes 0 (collect 0 0) ∷ makes 0 (fill_word 0) ∷
    makes 0 (drop_flag 0 stay) ∷ cuts 0 (part_share 1) ∷
    cuts 0 (hand_out (block 0 0) stay) ∷ cuts 0 (recall (block 0 0) stay) ∷
    cuts 0 part_ground ∷ cuts 0 (adopt (block 0 0) stay) ∷ joins 0 1 join_idle ∷
    joins 0 1 hand_in ∷ joins 0 1 keep_in ∷ loads 0 0 ∷ loses 0 (charge 0 0 1) ∷
    loses_at_will 0 (charge 0 0 1) ∷ makes 0 (claim_singles 0 0 1) ∷ []

-- their forms are as many as they are: they can be numbered from 0 to 27
abbrev pub FormsAreApart : Type 0
FormsAreApart = (number : Form → ℕ)
    × (map (λ event. number (form_of event)) one_of_each ≡ range_with_len 0 28)
