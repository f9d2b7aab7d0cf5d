-- What a step asks of the view that makes it, and of the word that was seen.
use Rattle.std.specs.Prelude.{◌≡◌, ℕ, ◌+◌, ◌*◌, ◌/◌, ◌^◌, ◌<◌, ◌≤◌, bit_and, List, Option, Some, None}
use Rattle.std.specs.Int.Count.{ones}
use Rattle.frame_words.specs.Geometry.{child_frames, word_frames, tree_words}
use Rattle.frame_words.specs.Runs.{child_words}
use Rattle.frame_words.specs.Words.{free_in, flag_in, lane_in, rest_in}
use Rattle.frame_model.specs.declared.block.FrameBlock.{FrameBlock}
use Rattle.frame_model.specs.declared.key.Key.{Key}
use Rattle.frame_model.specs.declared.view.View.{View}
use Rattle.frame_model.specs.Key.{tree_count, tree_of_child}
use Rattle.frame_model.specs.Block.{block, wholes}
use Rattle.frame_model.specs.Words.{run, IsRest}
use Rattle.frame_model.specs.View.{NoneBut, LiesIn, IsIdle, names, charged_in, paid_on}
use Rattle.frame_model.specs.Steps.Amounts.{Leaves, IsRun}

-- the entry seen has no flag and n free frames, and nothing is in flight in another child
pub record CanCharge (key : Key) (v : View) (child seen n : ℕ) : Type 0 where
  pub inside : child < key.children
  pub no_flag : flag_in (lane_in seen child) ≡ 0
  pub enough : n ≤ free_in (lane_in seen child)
  pub one_child : LiesIn v child

-- n frames of the child are charged
pub record CanRefund (key : Key) (v : View) (child n : ℕ) : Type 0 where
  pub inside : child < key.children
  pub charged : n ≤ charged_in child v

-- the run was seen clear, and its frames are charged and paid
pub record CanClaim (key : Key) (v : View) (word seen from order : ℕ) : Type 0 where
  pub is_run : IsRun key word from order
  pub clear : bit_and seen (run from (2 ^ order)) ≡ 0
  pub charged : 2 ^ order ≤ charged_in (word / child_words) v
  pub paid : 2 ^ order ≤ paid_on (word / tree_words) v

-- the bits, one or more, were seen clear, and their frames are charged and paid
pub record CanClaimSingles (key : Key) (v : View) (word seen mask : ℕ) : Type 0 where
  pub inside : word < child_words * key.children
  pub some : 0 < mask
  pub fits : mask < 2 ^ 64
  pub clear : bit_and seen mask ≡ 0
  pub charged : ones mask ≤ charged_in (word / child_words) v
  pub paid : ones mask ≤ paid_on (word / tree_words) v

-- the frames of the run are in flight, and nothing is charged or paid elsewhere
pub record CanRelease (key : Key) (v : View) (word from order : ℕ)
    (rest : List FrameBlock) : Type 0 where
  pub is_run : IsRun key word from order
  pub leaves : Leaves key v.own (block (word_frames * word + from) order) rest
  pub charged : NoneBut (word / child_words) v.charged
  pub paid : NoneBut (word / tree_words) v.paid

-- the entry seen is that of a child that is free as a whole, and its frames are paid
pub record CanTakeHuge (key : Key) (v : View) (child seen : ℕ) : Type 0 where
  pub inside : child < key.children
  pub all_free : lane_in seen child ≡ child_frames
  pub paid : child_frames ≤ paid_on (tree_of_child child) v
  pub one_child : LiesIn v child

-- the view has not filled a word of the child
abbrev pub IsUnfilled : ℕ → View → Type 0
IsUnfilled child v = (word : ℕ) → word / child_words ≡ child → names word v.filled ≡ 0

-- the huge frame is in flight and unfilled, and nothing is paid on another tree
pub record CanGiveHuge (key : Key) (v : View) (child : ℕ) (rest : List FrameBlock) : Type 0 where
  pub inside : child < key.children
  pub leaves : Leaves key v.own (block (child_frames * child) 9) rest
  pub unfilled : IsUnfilled child v
  pub paid : NoneBut (tree_of_child child) v.paid

-- the tree word seen has n free frames, and nothing is paid on another tree
pub record CanTreePay (key : Key) (v : View) (tree seen n : ℕ) : Type 0 where
  pub inside : tree < tree_count key
  pub enough : n ≤ free_in seen
  pub paid : NoneBut tree v.paid

-- n frames of the tree are paid
pub record CanTreeRefund (key : Key) (v : View) (tree n : ℕ) : Type 0 where
  pub inside : tree < tree_count key
  pub paid : n ≤ paid_on tree v

-- the tree word seen is not reserved, and the view pays and reserves nothing
pub record CanReserve (key : Key) (v : View) (tree seen : ℕ) : Type 0 where
  pub inside : tree < tree_count key
  pub no_flag : flag_in seen ≡ 0
  pub paid : v.paid ≡ None
  pub reserving : v.reserving ≡ None

-- what is put in is what the view reserves and pays; with nothing to put in it is idle
abbrev pub GivesUp : Option (ℕ × ℕ) → View → Type 0
GivesUp None v = IsIdle v
GivesUp (Some rest) v =
    (v.reserving ≡ Some rest.0) × (paid_on rest.0 v ≡ rest.1) × NoneBut rest.0 v.paid

-- what is put into the local word is given up by the view, or nothing is put in by an idle view
pub record CanSwapLocal (key : Key) (v : View) (core : ℕ) (put : Option (ℕ × ℕ)) : Type 0 where
  pub inside : core < key.cores
  pub is_rest : IsRest key put
  pub gives_up : GivesUp put v

-- the view is reserving the tree, and n frames of it are paid
pub record CanUnreserve (key : Key) (v : View) (tree n : ℕ) : Type 0 where
  pub inside : tree < tree_count key
  pub reserving : v.reserving ≡ Some tree
  pub paid : n ≤ paid_on tree v

-- the local word seen has a reservation with n frames, and nothing is paid on another tree
pub record CanLocalPay (key : Key) (v : View) (core seen n : ℕ) : Type 0 where
  pub inside : core < key.cores
  pub tree : ℕ
  pub resting : ℕ
  pub seen_as : rest_in seen ≡ Some (tree, resting)
  pub enough : n ≤ resting
  pub paid : NoneBut tree v.paid

-- the local word seen has a reservation, and n frames of its tree are paid
pub record CanLocalRefund (key : Key) (v : View) (core seen n : ℕ) : Type 0 where
  pub inside : core < key.cores
  pub tree : ℕ
  pub resting : ℕ
  pub seen_as : rest_in seen ≡ Some (tree, resting)
  pub paid : n ≤ paid_on tree v

-- nothing is paid on another tree
pub record CanCollect (key : Key) (v : View) (tree : ℕ) : Type 0 where
  pub inside : tree < tree_count key
  pub paid : NoneBut tree v.paid

-- the huge frame of the word is in flight
pub record CanFillWord (key : Key) (v : View) (word : ℕ) : Type 0 where
  pub inside : word < child_words * key.children
  pub own : 0 < wholes (word / child_words) v.own

-- the huge frame is in flight, and all of its words are filled
pub record CanDropFlag (key : Key) (v : View) (child : ℕ) (rest : List FrameBlock) : Type 0 where
  pub inside : child < key.children
  pub leaves : Leaves key v.own (block (child_frames * child) 9) rest
  pub filled : (word : ℕ) → word / child_words ≡ child → names word v.filled ≡ 1
