-- What a search of all trees misses, whatever others have in flight: blocks that somebody withholds.
use Rattle.std.specs.Prelude.{◌≡◌, ◌⊎◌, ℕ, ◌^◌, ◌<◌, List}
use Rattle.std.specs.List.{All}
use Rattle.frame_words.specs.Geometry.{tree_frames}
use Rattle.frame_model.specs.declared.block.FrameBlock.{FrameBlock}
use Rattle.frame_model.specs.declared.key.Key.{Key}
use Rattle.frame_model.specs.declared.view.View.{View}
use Rattle.frame_model.specs.Key.{tree_count, child_of, tree_of, tree_of_child}
use Rattle.frame_model.specs.Words.{free_of, huge_of}
use Rattle.frame_model.specs.View.{charged_in, paid_on, reserves}
use Rattle.frame_model.specs.Fit.{total, Fit}
use Rattle.frame_core.specs.Moves.{IsAtRest}
use Rattle.low_frames.specs.Alone.{IsFreeIn, HasNoneIn}
use Rattle.core_frames.specs.Search.{IsBlockOf}
use Rattle.core_frames.specs.Alone.{IsPassedBy, NothingRests}

-- the child's entry shows a huge frame or too few free frames, or no block of the order in it is free
abbrev pub WasLookedAt : Key → ℕ → List ℕ → ℕ → Type 0
WasLookedAt key order words child =
    (0 < huge_of words child)
    ⊎ ((free_of words child < 2 ^ order) ⊎ HasNoneIn key child order words)

-- the tree was passed by, or each of its children was looked at
abbrev pub WasSearched : Key → ℕ → List ℕ → ℕ → Type 0
WasSearched key order words tree =
    IsPassedBy key tree (2 ^ order) tree_frames words
    ⊎ ((child : ℕ) → child < key.children → tree_of_child child ≡ tree → WasLookedAt key order words child)

-- somebody is reserving the block's tree, or has paid frames of it, or has charged frames of the child
-- that the block begins in
abbrev pub IsWithheld : Key → List View → FrameBlock → Type 0
IsWithheld key views b =
    (0 < total key (reserves (tree_of b.frame)) views)
    ⊎ ((0 < total key (paid_on (tree_of b.frame)) views)
    ⊎ (0 < total key (charged_in (child_of b.frame)) views))

-- at any moment, whatever all are about: where no core has a reservation, and each tree was searched for
-- a block of the order and none was found, each such block that is free is withheld
abbrev pub MissesTheWithheld : Type 0
MissesTheWithheld = (key : Key) (shares : ℕ) (words : List ℕ) (views : List View) (order : ℕ)
    → Fit key shares words views → NothingRests key words
    → ((tree : ℕ) → tree < tree_count key → WasSearched key order words tree)
    → (b : FrameBlock) → IsBlockOf key order b → IsFreeIn key words b → IsWithheld key views b

-- and no block is withheld where all who have a share are at rest
abbrev pub NobodyWithholds : Type 0
NobodyWithholds = (key : Key) (shares : ℕ) (words : List ℕ) (views : List View) (b : FrameBlock)
    → Fit key shares words views → All IsAtRest views → ¬ IsWithheld key views b
