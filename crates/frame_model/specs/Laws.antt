-- What the fit says to a user: of held blocks and counters at any time, and of sums at the end.
use Rattle.std.specs.Prelude.{◌≡◌, ℕ, pos, ◌+◌, ◌<◌, ◌≤◌, List, [], ◌∷◌, ◌++◌, length, true, if◌then◌else◌, not, filter, map, Contains}
use Rattle.frame_words.specs.Geometry.{child_frames}
use Rattle.frame_model.specs.declared.block.FrameBlock.{FrameBlock}
use Rattle.frame_model.specs.declared.key.Key.{Key}
use Rattle.frame_model.specs.declared.view.Eye.{Eye}
use Rattle.frame_model.specs.declared.view.View.{View}
use Rattle.frame_model.specs.Key.{frame_count, tree_count, size_of, is_boot_frame, IsKey}
use Rattle.frame_model.specs.Block.{smalls, wholes}
use Rattle.frame_model.specs.Words.{bit_of, set_of, free_of, huge_of, held_of, held_in_tree, tree_free_of, reserved_of, resting_on, cores_on}
use Rattle.frame_model.specs.View.{IsIdle}
use Rattle.frame_model.specs.Fit.{all_views, Fit}
use Rattle.frame_model.specs.Holding.{holders, IsHolding}
use Rattle.frame_model.specs.Rebuilt.{IsRebuilt}
use Rattle.frame_model.specs.Steps.{Kind, charge, refund, claim, claim_singles, release, take_huge, give_huge, tree_pay, tree_refund, reserve, swap_local, unreserve, local_pay, local_refund, collect, fill_word, drop_flag}
use Rattle.frame_model.specs.Seats.{Cut, part_share, hand_out, recall, part_ground, adopt, Join, join_idle, hand_in, keep_in}
use Rattle.frame_model.specs.Events.{State, Has, Fits, Event, loads, makes, loses, loses_at_will, cuts, joins, LeadsTo}
use Rattle.frame_model.specs.Openings.{held_blocks, IsReopening, reopener, opened}

-- the blocks that these views hold, in flight or kept
unfoldable pub blocks_with : List View → List FrameBlock
blocks_with [] = []
blocks_with (v ∷ vs) = v.own ++ (v.kept ++ blocks_with vs)

-- all that is held
abbrev pub holding_of : Key → List View → List FrameBlock
holding_of key views = blocks_with (all_views key views)

-- the views that are not the ground
abbrev pub seats_of : List View → List View
seats_of views = filter (λ v. not v.is_ground) views

-- held blocks are aligned, inside memory and apart, none but the ground has a frame past the end, and no
-- counter promises more than is free
pub record IsSafe (key : Key) (words : List ℕ) (views : List View) : Type 0 where
  pub held : IsHolding key (holding_of key views)
  pub inside : (x : ℕ) → key.frames ≤ x → holders x (blocks_with (seats_of views)) ≡ 0
  pub entries : (c : ℕ) → c < key.children → free_of words c + set_of key words c ≤ child_frames
  pub huge : (c : ℕ) → c < key.children → 0 < huge_of words c → free_of words c ≡ 0
  pub trees : (t : ℕ) → t < tree_count key
      → tree_free_of key words t + resting_on key words t + held_in_tree key words t ≤ size_of key t

-- where words and views agree, what is held is safe
abbrev pub EveryFitIsSafe : Type 0
EveryFitIsSafe = (key : Key) (shares : ℕ) (words : List ℕ) (views : List View)
    → Fit key shares words views → IsSafe key words views

-- the counters add up to exactly what is not held, and rebuilding makes the same of them
pub record AddsUp (key : Key) (words : List ℕ) : Type 0 where
  pub entries : (c : ℕ) → c < key.children → free_of words c + held_of key words c ≡ child_frames
  pub trees : (t : ℕ) → t < tree_count key
      → tree_free_of key words t + resting_on key words t + held_in_tree key words t ≡ size_of key t
  pub reserved : (t : ℕ) → t < tree_count key → cores_on key words t ≡ reserved_of key words t
  pub same_entries : (new : List ℕ) → IsRebuilt key words new → (c : ℕ) → c < key.children
      → free_of new c ≡ free_of words c
  pub same_trees : (new : List ℕ) → IsRebuilt key words new → (t : ℕ) → t < tree_count key
      → tree_free_of key new t ≡ tree_free_of key words t + resting_on key words t

-- the held frames are exactly those of these blocks, and those that nobody is ever given
pub record HoldsJust (key : Key) (words : List ℕ) (blocks : List FrameBlock) : Type 0 where
  pub bits : (x : ℕ) → x < frame_count key
      → bit_of key words x ≡ smalls x blocks + (if is_boot_frame key x then 1 else 0)
  pub huge : (c : ℕ) → c < key.children → huge_of words c ≡ wholes c blocks

-- where one idle view has all shares, the counters add up
abbrev pub EveryClosingAddsUp : Type 0
EveryClosingAddsUp = (key : Key) (shares : ℕ) (s : State) (id : ℕ) (e : Eye)
    → Fits key shares s → Has s id e → IsIdle e.view → e.view.share ≡ shares → AddsUp key s.words

-- and where the memory is sealed and nothing is lent, just the kept blocks are held
abbrev pub EveryClosingHoldsTheKept : Type 0
EveryClosingHoldsTheKept = (key : Key) (shares : ℕ) (s : State) (id : ℕ) (e : Eye)
    → Fits key shares s → Has s id e → IsIdle e.view → e.view.share ≡ shares
    → key.sealed ≡ true → e.view.lent ≡ pos 0 → HoldsJust key s.words e.view.kept

-- the forms of events: each kind of step, each cut, each join, a load, and the two ways to lose an exchange
pub data Form : Type 0 where
  charging : Form
  refunding : Form
  claiming : Form
  claiming_singles : Form
  releasing : Form
  taking_huge : Form
  giving_huge : Form
  paying_tree : Form
  refunding_tree : Form
  reserving_tree : Form
  swapping_local : Form
  unreserving_tree : Form
  paying_local : Form
  refunding_local : Form
  collecting : Form
  filling_word : Form
  dropping_flag : Form
  parting_share : Form
  handing_out : Form
  recalling : Form
  parting_ground : Form
  adopting : Form
  joining_idle : Form
  handing_in : Form
  keeping_in : Form
  loading : Form
  losing : Form
  losing_at_will : Form

-- the form of a step that is made
abbrev pub form_of_kind : Kind → Form
form_of_kind (charge child seen n) = charging
form_of_kind (refund child n) = refunding
form_of_kind (claim word seen from order) = claiming
form_of_kind (claim_singles word seen mask) = claiming_singles
form_of_kind (release word from order rest) = releasing
form_of_kind (take_huge child seen) = taking_huge
form_of_kind (give_huge child rest) = giving_huge
form_of_kind (tree_pay tree seen n) = paying_tree
form_of_kind (tree_refund tree n) = refunding_tree
form_of_kind (reserve tree seen) = reserving_tree
form_of_kind (swap_local core put) = swapping_local
form_of_kind (unreserve tree n) = unreserving_tree
form_of_kind (local_pay core seen n) = paying_local
form_of_kind (local_refund core seen n) = refunding_local
form_of_kind (collect tree seen) = collecting
form_of_kind (fill_word word) = filling_word
form_of_kind (drop_flag child rest) = dropping_flag

-- the form of a cut
abbrev pub form_of_cut : Cut → Form
form_of_cut (part_share n) = parting_share
form_of_cut (hand_out b rest) = handing_out
form_of_cut (recall b rest) = recalling
form_of_cut part_ground = parting_ground
form_of_cut (adopt b rest) = adopting

-- the form of a join
abbrev pub form_of_join : Join → Form
form_of_join join_idle = joining_idle
form_of_join hand_in = handing_in
form_of_join keep_in = keeping_in

-- the form of an event
abbrev pub form_of : Event → Form
form_of (makes id kind) = form_of_kind kind
form_of (cuts id cut) = form_of_cut cut
form_of (joins id other join) = form_of_join join
form_of (loads id word) = loading
form_of (loses id kind) = losing
form_of (loses_at_will id kind) = losing_at_will

-- every form is that of one of these events
abbrev pub AreOfEveryForm : List Event → Type 0
AreOfEveryForm events = (form : Form) → Contains (map form_of events) form

-- a list of events of every form that happens, from an opening at words of which something is held
pub record Happening : Type 0 where
  pub key : Key
  pub words : List ℕ
  pub shares : ℕ
  pub events : List Event
  pub end : State
  pub is_key : IsKey key
  pub some_shares : 0 < shares
  pub opening : IsReopening key words
  pub some_held : 0 < length (held_blocks key words)
  pub happens : LeadsTo key (opened words (reopener key words shares)) events end
  pub every_form : AreOfEveryForm events
