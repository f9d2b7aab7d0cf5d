-- Stops: all threads end between two events, and the memory is opened again with rebuilt words.
use Rattle.std.specs.Prelude.{◌≡◌, ℕ, zero, suc, ◌+◌, ◌*◌, ◌<◌, ◌≤◌, List, [], ◌∷◌, ◌++◌, Bool, true, false, not, ◌&&◌, nat_eq, nat_lt, if◌then◌else◌, replicate, map, filter, count_by, All}
use Rattle.std.specs.List.{range_with_len}
use Rattle.frame_words.specs.Geometry.{child_frames}
use Rattle.frame_model.specs.declared.block.FrameBlock.{FrameBlock}
use Rattle.frame_model.specs.declared.key.Key.{Key}
use Rattle.frame_model.specs.declared.view.Eye.{Eye}
use Rattle.frame_model.specs.declared.view.View.{View}
use Rattle.frame_model.specs.Key.{frame_count, tree_count, size_of, is_boot_frame, IsKey}
use Rattle.frame_model.specs.Block.{block, IsBlock, covers}
use Rattle.frame_model.specs.Words.{free_of, held_of, held_in_tree, tree_free_of, reserved_of, resting_on, AreInRange}
use Rattle.frame_model.specs.View.{idle, ground_with}
use Rattle.frame_model.specs.Holding.{holders, IsHolding}
use Rattle.frame_model.specs.Steps.{next}
use Rattle.frame_model.specs.Rebuilt.{IsRebuilt}
use Rattle.frame_model.specs.Openings.{held_blocks, IsSealedOpening, IsReopening, reopener, opened}
use Rattle.frame_model.specs.Seats.{part_ground, adopt, left_by, right_by}
use Rattle.frame_model.specs.Events.{State, eye, views_of, Event, cuts, Happens, Fits}
use Rattle.frame_model.specs.Laws.{holding_of}

-- a state between two events, with what an onlooker remembers of the stops before it
pub record Moment : Type 0 where
  pub key : Key
  pub shares : ℕ
  pub state : State
  -- blocks that were known at a stop, and that nobody has adopted since
  pub remembered : List FrameBlock
  -- blocks that were in flight at a stop
  pub abandoned : List FrameBlock
  pub stops : ℕ

-- the view is that of a block that was handed out
abbrev pub is_holder : View → Bool
is_holder v = nat_eq v.share 0 && not v.is_ground

-- the blocks that are out or kept
unfoldable pub known_of : List View → List FrameBlock
known_of [] = []
known_of (v ∷ vs) = (if is_holder v then v.own else []) ++ (v.kept ++ known_of vs)

-- the blocks that views with a share have in flight
unfoldable pub flying_of : List View → List FrameBlock
flying_of [] = []
flying_of (v ∷ vs) = (if nat_eq v.share 0 then [] else v.own) ++ flying_of vs

-- the blocks that somebody knows
abbrev pub known_at : Moment → List FrameBlock
known_at m = known_of (views_of m.state) ++ m.remembered

-- the blocks in flight
abbrev pub flying_at : Moment → List FrameBlock
flying_at m = flying_of (views_of m.state)

-- the frame is held, and nobody knows it: it is not in flight, and the key does not name it
unfoldable pub is_lost : Moment → ℕ → Bool
is_lost m frame =
    nat_lt 0 (holders frame (holding_of m.key (views_of m.state)))
    && nat_eq (holders frame (known_at m)) 0
    && nat_eq (holders frame (flying_at m)) 0
    && not (is_boot_frame m.key frame)

-- how many frames are lost
abbrev pub lost_frames : Moment → ℕ
lost_frames m = count_by (is_lost m) (range_with_len 0 (frame_count m.key))

-- after a stop the memory has a ground of its own, and the ranges are held by it
abbrev pub unsealed : Key → Key
unsealed key = record key { sealed = false; ranges = [] }

-- the frames of the ranges, which nobody was ever given, are known from a stop on
unfoldable pub range_blocks : Key → List FrameBlock
range_blocks key = map (λ x. block x 0) (filter (is_boot_frame key) (range_with_len 0 key.frames))

-- a block leaves what is remembered, whole or in part: exactly the other frames stay
pub record Forgets (key : Key) (before : List FrameBlock) (b : FrameBlock)
    (after : List FrameBlock) : Type 0 where
  pub are_blocks : All (IsBlock key) after
  pub here : (x : ℕ) → covers b x ≡ 1 → holders x after ≡ 0
  pub elsewhere : (x : ℕ) → covers b x ≡ 0 → holders x after ≡ holders x before

-- an adopted block is remembered no more; no other event changes what is remembered
abbrev pub Remembers : Key → Event → List FrameBlock → List FrameBlock → Type 0
Remembers key (cuts id (adopt b rest)) before after = Forgets key before b after
Remembers key event before after = after ≡ before

-- an event between stops
pub record Steps (event : Event) (m n : Moment) : Type 0 where
  pub key : n.key ≡ m.key
  pub shares : n.shares ≡ m.shares
  pub happens : Happens m.key m.state event n.state
  pub remembers : Remembers m.key event m.remembered n.remembered
  pub abandoned : n.abandoned ≡ m.abandoned
  pub stops : n.stops ≡ m.stops

-- the seats after a stop: one for each core, and the ground, which owns all that is held
abbrev pub seats_after : Key → List ℕ → List Eye
seats_after key words =
    replicate key.cores (eye (idle key 1) [])
    ++ eye (ground_with key (held_blocks key words)) [] ∷ []

-- a stop: every view vanishes, and the words are rebuilt
abbrev pub stopped : Moment → List ℕ → Moment
stopped m words = record {
  key = unsealed m.key;
  shares = m.key.cores;
  state = record { words = words; eyes = seats_after (unsealed m.key) words };
  remembered = known_at m ++ range_blocks m.key;
  abandoned = flying_at m ++ m.abandoned;
  stops = m.stops + 1;
}

-- from one moment to a later one, by events and stops
pub data Passes : Moment → Moment → Type 0 where
  stays : (m : Moment) → Passes m m
  steps : (m n o : Moment) (event : Event) → Steps event m n → Passes n o → Passes m o
  stops : (m o : Moment) (words : List ℕ) → IsRebuilt (unsealed m.key) m.state.words words
      → Passes (stopped m words) o → Passes m o

-- the counters are exact: nothing is reserved, and each counts what is not held
pub record IsExact (key : Key) (words : List ℕ) : Type 0 where
  pub entries : (c : ℕ) → c < key.children → free_of words c + held_of key words c ≡ child_frames
  pub trees : (t : ℕ) → t < tree_count key
      → tree_free_of key words t + held_in_tree key words t ≡ size_of key t
  pub unreserved : (t : ℕ) → t < tree_count key → reserved_of key words t ≡ 0
  pub resting : (t : ℕ) → resting_on key words t ≡ 0

-- the moment at a sealed opening with so many shares: one for each core, and one for each stranger
abbrev pub opening_moment : Key → List ℕ → ℕ → Moment
opening_moment key words shares = record {
  key = key;
  shares = shares;
  state = opened words (idle key shares);
  remembered = [];
  abandoned = [];
  stops = 0;
}

-- the shares that so many stops ended: those of the opening at the first, and one for each core at each later one
unfoldable pub ended_shares : (shares cores stops : ℕ) → ℕ
ended_shares shares cores zero = 0
ended_shares shares cores (suc later) = shares + cores * later

-- words and views agree, and known blocks are held whole and apart
pub record KnownIsHeld (m : Moment) : Type 0 where
  pub fits : Fits m.key m.shares m.state
  pub known_apart : IsHolding m.key (known_at m)
  pub known_held : (x : ℕ)
      → holders x (known_at m) ≤ holders x (holding_of m.key (views_of m.state))
  -- the frames that the key names are held, and nobody knows them or has them in flight
  pub named_held : (x : ℕ) → x < frame_count m.key → is_boot_frame m.key x ≡ true
      → (0 < holders x (holding_of m.key (views_of m.state)))
      × (holders x (known_at m) ≡ 0) × (holders x (flying_at m) ≡ 0)

-- what is known is held, and few frames are lost, which were in flight at a stop
pub record Survives (shares : ℕ) (m : Moment) : Type 0 where
  pub known : KnownIsHeld m
  pub few_lost : lost_frames m ≤ child_frames * ended_shares shares m.key.cores m.stops
  pub were_in_flight : (x : ℕ) → x < frame_count m.key → is_lost m x ≡ true
      → 0 < holders x m.abandoned

-- whatever events and stops lead on from a sealed opening, with however many shares, what was known survives
abbrev pub EveryStopIsSurvived : Type 0
EveryStopIsSurvived = (key : Key) (words : List ℕ) (shares : ℕ) (m : Moment)
    → IsKey key → 0 < shares → IsSealedOpening key words
    → Passes (opening_moment key words shares) m → Survives shares m

-- without strangers at most 512 frames are lost for each core and stop
abbrev pub EveryStopLosesLittle : Type 0
EveryStopLosesLittle = (key : Key) (words : List ℕ) (shares : ℕ) (m : Moment)
    → IsKey key → 0 < shares → shares ≤ key.cores → IsSealedOpening key words
    → Passes (opening_moment key words shares) m
    → lost_frames m ≤ child_frames * m.key.cores * m.stops

-- rebuilding makes exact counters of any words
abbrev pub EveryRebuildingIsExact : Type 0
EveryRebuildingIsExact = (key : Key) (old new : List ℕ)
    → AreInRange key old → IsRebuilt key old new → IsExact key new

-- and rebuilt words exist
abbrev pub EveryRebuildingExists : Type 0
EveryRebuildingExists = (key : Key) (old : List ℕ)
    → AreInRange key old → (new : List ℕ) × IsRebuilt key old new

-- so whatever led to a moment, it may be stopped
abbrev pub EveryMomentCanStop : Type 0
EveryMomentCanStop = (key : Key) (words : List ℕ) (shares : ℕ) (m : Moment)
    → IsKey key → 0 < shares → IsSealedOpening key words → Passes (opening_moment key words shares) m
    → (new : List ℕ) × IsRebuilt (unsealed m.key) m.state.words new

-- at whatever moment it is stopped, the counters are exact afterwards
abbrev pub EveryStopIsExact : Type 0
EveryStopIsExact = (key : Key) (words : List ℕ) (shares : ℕ) (m : Moment) (new : List ℕ)
    → IsKey key → 0 < shares → IsSealedOpening key words → Passes (opening_moment key words shares) m
    → IsRebuilt (unsealed m.key) m.state.words new
    → IsExact (stopped m new).key (stopped m new).state.words

-- the state once the ground parted off from the one seat of an opening at words that were in use before
abbrev pub parted : Key → List ℕ → ℕ → State
parted key words shares = record {
  words = words;
  eyes = eye (left_by next part_ground (reopener key words shares)) []
      ∷ eye (right_by part_ground (reopener key words shares)) [] ∷ [];
}

-- it may part off, and then leads there
abbrev pub EveryGroundPartsOff : Type 0
EveryGroundPartsOff = (key : Key) (words : List ℕ) (shares : ℕ) → 0 < shares
    → Happens key (opened words (reopener key words shares)) (cuts 0 part_ground)
    (parted key words shares)

-- the blocks are some of what these words hold, apart, and none past the end
pub record AreHeldIn (key : Key) (words : List ℕ) (blocks : List FrameBlock) : Type 0 where
  pub are_blocks : All (IsBlock key) blocks
  pub held : (x : ℕ) → holders x blocks ≤ holders x (held_blocks key words)
  pub inside : (x : ℕ) → key.frames ≤ x → holders x blocks ≡ 0

-- that moment, where somebody remembers these blocks from before the opening
abbrev pub reopened_moment : Key → List ℕ → ℕ → List FrameBlock → Moment
reopened_moment key words shares remembered = record {
  key = key;
  shares = shares;
  state = parted key words shares;
  remembered = remembered;
  abandoned = [];
  stops = 0;
}

-- what is known is held, few frames are lost beyond those that were lost first, and those were in flight at a
-- stop; it may be stopped, and the counters are exact then
pub record StaysKnown (first m : Moment) : Type 0 where
  pub known : KnownIsHeld m
  pub few_lost : lost_frames m
      ≤ lost_frames first + child_frames * ended_shares first.shares m.key.cores m.stops
  pub were_in_flight : (x : ℕ) → x < frame_count m.key → is_lost m x ≡ true → is_lost first x ≡ false
      → 0 < holders x m.abandoned
  pub can_stop : (new : List ℕ) × IsRebuilt (unsealed m.key) m.state.words new
  pub exact : (new : List ℕ) → IsRebuilt (unsealed m.key) m.state.words new
      → IsExact (stopped m new).key (stopped m new).state.words

-- whatever events and stops lead on from the parting off of the ground at words that were in use before, what
-- was remembered of them and what was known since stays known
abbrev pub EveryReopeningIsSurvived : Type 0
EveryReopeningIsSurvived = (key : Key) (words : List ℕ) (shares : ℕ) (remembered : List FrameBlock) (m : Moment)
    → IsKey key → 0 < shares → IsReopening key words → AreHeldIn key words remembered
    → Passes (reopened_moment key words shares remembered) m
    → StaysKnown (reopened_moment key words shares remembered) m

-- a moment after a stop at which frames were in flight, of which one is lost
pub record Stopping : Type 0 where
  pub key : Key
  pub words : List ℕ
  pub end : Moment
  pub is_key : IsKey key
  pub opening : IsSealedOpening key words
  pub passes : Passes (opening_moment key words key.cores) end
  pub once : end.stops ≡ 1
  pub frame : ℕ
  pub inside : frame < frame_count key
  pub lost : is_lost end frame ≡ true
