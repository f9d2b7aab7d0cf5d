-- Steps that would be wrong: words and views that agree before one do not agree after it.
-- What each of them asks for is met at a state that is reached from an opening.
use Rattle.std.specs.Prelude.{◌≡◌, ◌≢◌, ℕ, ◌*◌, ◌/◌, ◌^◌, ◌<◌, ◌≤◌, bit_and, List, [], ◌∷◌, ◌++◌, Some, slice_index, slice_set}
use mathlib.Core.Option.{some}
use lib.ListN.{get_elem?}
use Rattle.std.specs.Int.{bit_at}
use Rattle.std.specs.Int.Count.{ones}
use Rattle.frame_words.specs.Geometry.{child_frames, word_frames}
use Rattle.frame_words.specs.Runs.{child_words}
use Rattle.frame_model.specs.declared.block.FrameBlock.{FrameBlock}
use Rattle.frame_model.specs.declared.key.Key.{Key}
use Rattle.frame_model.specs.declared.view.View.{View}
use Rattle.frame_model.specs.Key.{tree_count}
use Rattle.frame_model.specs.Block.{block, IsBlock}
use Rattle.frame_model.specs.Words.{run, bit_word_of, huge_of, free_of}
use Rattle.frame_model.specs.View.{names, charged_in, idle}
use Rattle.frame_model.specs.Fit.{Fit}
use Rattle.frame_model.specs.Steps.{Kind, place, effect, next, Rest, claim, claim_singles, refund, take_huge, reserve, unreserve, drop_flag, words_after}
use Rattle.frame_model.specs.Steps.Amounts.{Leaves, IsRun}
use Rattle.frame_model.specs.Steps.Conditions.{CanClaim, CanClaimSingles, CanRefund, CanTakeHuge, CanUnreserve, CanDropFlag}
use Rattle.frame_model.specs.Seats.{hand_out, left_by, right_by, MayCut}
use Rattle.frame_model.specs.Events.{State, views_of, Event, LeadsTo}
use Rattle.frame_model.specs.Openings.{IsSealedOpening, opened}
use Rattle.frame_model.specs.Without.{HasFrames}

-- the view after it: of these kinds none looks at the word found, for which 0 stands here
abbrev pub view_after : Kind → View → View
view_after kind v = effect next kind 0 v

-- the words and the views do not agree, however many shares there are
abbrev pub DoNotFit : Key → List ℕ → List View → Type 0
DoNotFit key words views = (shares : ℕ) → ¬ Fit key shares words views

-- the words and the views agree, and a seat has this view
pub record IsBefore (key : Key) (words : List ℕ) (views : List View) (id : ℕ) (v : View) : Type 0 where
  pub shares : ℕ
  pub fits : Fit key shares words views
  pub seat : get_elem? views id ≡ some v

-- in every memory, whatever its words and views, as long as they agree
abbrev pub Everywhere : (Key → List ℕ → List View → ℕ → View → Type 0) → Type 0
Everywhere P = (key : Key) (words : List ℕ) (views : List View) (id : ℕ) (v : View)
    → IsBefore key words views id v → P key words views id v

-- A claim.

-- the claim of a run of a bit word, as the word stands
abbrev pub claim_now : Key → List ℕ → ℕ → ℕ → ℕ → Kind
claim_now key words word from order = claim word (bit_word_of key words word) from order

-- the run is clear in its bit word
abbrev pub IsClearNow : Key → List ℕ → ℕ → ℕ → ℕ → Type 0
IsClearNow key words word from order =
    bit_and (bit_word_of key words word) (run from (2 ^ order)) ≡ 0

-- a run of a bit word that is clear
abbrev pub SeesClear : Key → List ℕ → (word from order : ℕ) → Type 0
SeesClear key words word from order =
    IsRun key word from order × IsClearNow key words word from order

-- a run that is clear, and too few of its frames are charged
abbrev pub ChargesTooFew : Key → List ℕ → View → (word from order : ℕ) → Type 0
ChargesTooFew key words v word from order =
    IsRun key word from order × IsClearNow key words word from order
    × (charged_in (word / child_words) v < 2 ^ order)

-- Bits are set, and the counter of the child is not lowered yet: the view owns the run, and its charge is as before.
abbrev pub BitsBeforeTheCharge : Type 0
BitsBeforeTheCharge = Everywhere (λ key words views id v. (word from order : ℕ)
    → SeesClear key words word from order
    → let kind : Kind = claim_now key words word from order in
    DoNotFit key (words_after key kind words)
    (slice_set views id (record (view_after kind v) { charged = v.charged })))

-- A run is claimed of which too few frames are charged, or none: the step may not be made, and would not fit.
abbrev pub ClaimsUncharged : Type 0
ClaimsUncharged = Everywhere (λ key words views id v. (word from order : ℕ)
    → ChargesTooFew key words v word from order
    → let kind : Kind = claim_now key words word from order in
    (¬ CanClaim key v word (bit_word_of key words word) from order)
    × DoNotFit key (words_after key kind words) (slice_set views id (view_after kind v)))

-- Single frames.

-- the claim of the frames at the bits of a mask, as the bit word stands
abbrev pub claim_singles_now : Key → List ℕ → ℕ → ℕ → Kind
claim_singles_now key words word mask = claim_singles word (bit_word_of key words word) mask

-- bits that are clear, and too few of their frames are charged
abbrev pub ChargesTooFewSingles : Key → List ℕ → View → (word mask : ℕ) → Type 0
ChargesTooFewSingles key words v word mask = (word < child_words * key.children) × (mask < 2 ^ 64)
    × (bit_and (bit_word_of key words word) mask ≡ 0) × (charged_in (word / child_words) v < ones mask)

-- bits of which one is set
abbrev pub HasASetBit : Key → List ℕ → (word mask bit : ℕ) → Type 0
HasASetBit key words word mask bit = (word < child_words * key.children) × (bit < word_frames)
    × (bit_at mask bit ≡ 1) × (bit_at (bit_word_of key words word) bit ≡ 1)

-- Single frames are claimed of which too few are charged, or none: the step may not be made, and would not fit.
abbrev pub ClaimsSinglesUncharged : Type 0
ClaimsSinglesUncharged = Everywhere (λ key words views id v. (word mask : ℕ)
    → ChargesTooFewSingles key words v word mask
    → let kind : Kind = claim_singles_now key words word mask in
    (¬ CanClaimSingles key v word (bit_word_of key words word) mask)
    × DoNotFit key (words_after key kind words) (slice_set views id (view_after kind v)))

-- Single frames are claimed of which one is held already: the step may not be made, and would not fit.
abbrev pub ClaimsAHeldFrame : Type 0
ClaimsAHeldFrame = Everywhere (λ key words views id v. (word mask bit : ℕ)
    → HasASetBit key words word mask bit
    → let kind : Kind = claim_singles_now key words word mask in
    (¬ CanClaimSingles key v word (bit_word_of key words word) mask)
    × DoNotFit key (words_after key kind words) (slice_set views id (view_after kind v)))

-- A refund.

-- more frames of a child than are charged, and no more than it has
abbrev pub RefundsTooMany : Key → View → (child n : ℕ) → Type 0
RefundsTooMany key v child n =
    (child < key.children) × (n ≤ child_frames) × (charged_in child v < n)

-- The counter is raised before the bits are cleared: the frames that it gains are not charged by any view.
abbrev pub RefundBeforeTheRelease : Type 0
RefundBeforeTheRelease = Everywhere (λ key words views id v. (child n : ℕ)
    → RefundsTooMany key v child n
    → (¬ CanRefund key v child n)
    × DoNotFit key (words_after key (refund child n) words)
    (slice_set views id (view_after (refund child n) v)))

-- a child without a flag, of which not all frames are free
abbrev pub HasNotAll : Key → List ℕ → (child : ℕ) → Type 0
HasNotAll key words child =
    (child < key.children) × (huge_of words child ≡ 0) × (free_of words child ≤ 511)

-- A huge frame is taken from an entry without a flag that has 511 free frames, or fewer.
abbrev pub HugeFrom511 : Type 0
HugeFrom511 = Everywhere (λ key words views id v. (child : ℕ)
    → HasNotAll key words child
    → let kind : Kind = take_huge child (slice_index words (place key (take_huge child 0))) in
    (¬ CanTakeHuge key v child (slice_index words (place key (take_huge child 0))))
    × DoNotFit key (words_after key kind words) (slice_set views id (view_after kind v)))

-- a reservation of n frames, of which fewer come back
abbrev pub GivesBackFewer : Key → View → (tree back n : ℕ) → Type 0
GivesBackFewer key v tree back n = CanUnreserve key v tree n × (back < n)

-- A reservation of n frames ends, and fewer than n of them come back to the tree, or none.
abbrev pub DropsTheRestingCount : Type 0
DropsTheRestingCount = Everywhere (λ key words views id v. (tree back n : ℕ)
    → GivesBackFewer key v tree back n
    → DoNotFit key (words_after key (unreserve tree back) words)
    (slice_set views id (view_after (unreserve tree n) v)))

-- another seat is reserving the tree
abbrev pub OtherReserves
    : Key → List View → ℕ → (other : ℕ) (u : View) (tree : ℕ) → Type 0
OtherReserves key views id other u tree = (other ≢ id) × (get_elem? views other ≡ some u)
    × (tree < tree_count key) × (u.reserving ≡ Some tree)

-- A tree that another view is reserving is reserved again, whatever is stored in its word.
abbrev pub ReservesTwice : Type 0
ReservesTwice = Everywhere (λ key words views id v. (other : ℕ) (u : View) (tree seen : ℕ) (new : List ℕ)
    → OtherReserves key views id other u tree
    → DoNotFit key new (slice_set views id (view_after (reserve tree seen) v)))

-- a block of which not all frames are in flight
abbrev pub LacksFrames : Key → View → FrameBlock → Type 0
LacksFrames key v b = IsBlock key b × (¬ HasFrames v.own b)

-- A block is handed out of which not all frames are in flight, as where only half of them are.
abbrev pub HandsOutHalf : Type 0
HandsOutHalf = Everywhere (λ key words views id v. (b : FrameBlock) (rest : Rest)
    → LacksFrames key v b
    → (¬ MayCut key (hand_out b rest) v)
    × DoNotFit key words
    (slice_set views id (left_by next (hand_out b rest) v) ++ right_by (hand_out b rest) v ∷ []))

-- a huge frame in flight, of which this word is not filled
abbrev pub LacksAWord : Key → View → (child word : ℕ) → Rest → Type 0
LacksAWord key v child word rest = (child < key.children) × (word / child_words ≡ child)
    × Leaves key v.own (block (child_frames * child) 9) (rest v.own) × (names word v.filled ≡ 0)

-- The flag of a huge frame is dropped, and one of its eight words is not filled.
abbrev pub FlagDroppedBeforeTheBits : Type 0
FlagDroppedBeforeTheBits = Everywhere (λ key words views id v. (child word : ℕ) (rest : Rest)
    → LacksAWord key v child word rest
    → (¬ CanDropFlag key v child (rest v.own))
    × DoNotFit key (words_after key (drop_flag child rest) words)
    (slice_set views id (view_after (drop_flag child rest) v)))

-- What the steps above ask for is met.

-- a seat meets this at a state that events lead to from an opening, where the words and the views agree
pub record IsMet (P : Key → List ℕ → List View → ℕ → View → Type 0) : Type 0 where
  pub key : Key
  pub words : List ℕ
  pub shares : ℕ
  pub events : List Event
  pub end : State
  pub id : ℕ
  pub view : View
  pub opening : IsSealedOpening key words
  pub run : LeadsTo key (opened words (idle key shares)) events end
  pub before : IsBefore key end.words (views_of end) id view
  pub meets : P key end.words (views_of end) id view

-- what each wrong step asks for, beside words and views that agree
pub record AreMet : Type 0 where
  pub bits : IsMet (λ key words views id v. (word : ℕ) × (from : ℕ) × (order : ℕ)
      × SeesClear key words word from order)
  pub claims : IsMet (λ key words views id v. (word : ℕ) × (from : ℕ) × (order : ℕ)
      × ChargesTooFew key words v word from order)
  pub singles : IsMet (λ key words views id v. (word : ℕ) × (mask : ℕ) × ChargesTooFewSingles key words v word mask)
  pub held : IsMet (λ key words views id v. (word : ℕ) × (mask : ℕ) × (bit : ℕ) × HasASetBit key words word mask bit)
  pub refund : IsMet (λ key words views id v. (child : ℕ) × (n : ℕ) × RefundsTooMany key v child n)
  pub huge : IsMet (λ key words views id v. (child : ℕ)
      × HasNotAll key words child × (free_of words child ≡ 511))
  pub drops : IsMet (λ key words views id v. (tree : ℕ) × (back : ℕ) × (n : ℕ)
      × GivesBackFewer key v tree back n)
  pub reserves : IsMet (λ key words views id v. (other : ℕ) × (u : View) × (tree : ℕ)
      × OtherReserves key views id other u tree)
  pub hands_out : IsMet (λ key words views id v. (b : FrameBlock) × LacksFrames key v b)
  pub drops_flag : IsMet (λ key words views id v. (child : ℕ) × (word : ℕ) × (rest : Rest)
      × LacksAWord key v child word rest)
