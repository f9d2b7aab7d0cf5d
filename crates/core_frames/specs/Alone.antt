-- What takes and gives over all trees find and leave where nobody else steps.
use Rattle.std.specs.Prelude.{◌≡◌, ◌≢◌, ◌⊎◌, ℕ, ◌^◌, ◌<◌, ◌≤◌, List, Option, None}
use Rattle.frame_words.specs.Geometry.{tree_frames}
use Rattle.frame_model.specs.declared.key.Key.{Key}
use Rattle.frame_model.specs.Steps.{words_after, reserve}
use Rattle.frame_model.specs.Key.{frame_count}
use Rattle.frame_model.specs.Words.{tree_word_of, tree_free_of, reserved_of, rest_of, bit_of, huge_of}
use Rattle.low_frames.specs.Alone.{Turns, NoneIsFree, HasNoneOfTree}
use Rattle.core_frames.specs.Search.{IsBlockOf}

-- each frame is held or free as before, by its bit and by the flag of its child
pub record SameFrames (key : Key) (old new : List ℕ) : Type 0 where
  pub bits : (x : ℕ) → x < frame_count key → bit_of key new x ≡ bit_of key old x
  pub flags : (c : ℕ) → c < key.children → huge_of new c ≡ huge_of old c

-- where the words were known, they are known, and each frame is held or free as before
abbrev pub KeepsFrames : Key → Option (List ℕ) → Option (List ℕ) → Type 0
KeepsFrames key old new = Turns (SameFrames key) old new

-- the tree is reserved, or it counts fewer free frames than one number, or more than another
abbrev pub IsPassedBy : Key → ℕ → ℕ → ℕ → List ℕ → Type 0
IsPassedBy key tree least most words =
    (0 < reserved_of key words tree)
    ⊎ ((tree_free_of key words tree < least) ⊎ (most < tree_free_of key words tree))

-- the tree, which was not reserved, is reserved, and its free frames were taken off its word
pub record IsReserved (key : Key) (tree free : ℕ) (old new : List ℕ) : Type 0 where
  pub no_flag : reserved_of key old tree ≡ 0
  pub all : tree_free_of key old tree ≡ free
  pub words : new ≡ words_after key (reserve tree (tree_word_of key old tree)) old

-- the tree is passed by, or no block of the order in it is free
abbrev pub WasTried : Key → ℕ → ℕ → ℕ → ℕ → List ℕ → Type 0
WasTried key order least most tree words =
    IsPassedBy key tree least most words ⊎ HasNoneOfTree key tree order words

-- each tree from one on, up to another, counts too few free frames, or is reserved, or has no free
-- block of the order
abbrev pub WereTried : Key → ℕ → ℕ → ℕ → List ℕ → Type 0
WereTried key order from to words =
    (tree : ℕ) → from ≤ tree → tree < to → WasTried key order (2 ^ order) tree_frames tree words

-- no core has a reservation
abbrev pub NothingRests : Key → List ℕ → Type 0
NothingRests key words = (core : ℕ) → core < key.cores → rest_of key words core ≡ None

-- each frame is held or free as before; the core has no reservation, and those of others stay
pub record IsDrainedOf (key : Key) (core : ℕ) (old new : List ℕ) : Type 0 where
  pub frames : SameFrames key old new
  pub nothing_rests : rest_of key new core ≡ None
  pub others : (other : ℕ) → other < key.cores → other ≢ core → rest_of key new other ≡ rest_of key old other

-- each frame is held or free as before, and no core has a reservation
pub record IsDrained (key : Key) (old new : List ℕ) : Type 0 where
  pub frames : SameFrames key old new
  pub nothing_rests : NothingRests key new

-- no block of the order is free
abbrev pub HasNoneOf : Key → ℕ → List ℕ → Type 0
HasNoneOf key order words = NoneIsFree key (IsBlockOf key order) words

-- each frame is held or free as before, and no block of the order is free
pub record FindsNoBlock (key : Key) (order : ℕ) (old new : List ℕ) : Type 0 where
  pub frames : SameFrames key old new
  pub none : HasNoneOf key order new
