-- What no search misses, by the law on searches.
use Rattle.std.proofs.Common.{◌≡◌, ⊎_elim, ℕ, ◌<◌, List, arith}
use Rattle.frame_model.specs.declared.block.FrameBlock.{FrameBlock}
use Rattle.frame_model.specs.declared.key.Key.{Key}
use Rattle.frame_model.specs.declared.view.View.{View}
use Rattle.frame_model.specs.Key.{tree_count, child_of, tree_of}
use Rattle.frame_model.specs.View.{charged_in, paid_on, reserves}
use Rattle.frame_model.specs.Fit.{total, Fit}
use Rattle.low_frames.specs.Alone.{IsFreeIn}
use Rattle.core_frames.specs.Alone.{NothingRests}
use Rattle.core_frames.specs.Missed.{WasSearched, MissesTheWithheld}
use Rattle.core_frames.specs.Search.{IsBlockOf}

-- who has no part of a block, of which there are three, does not withhold it
pub nothing_else : MissesTheWithheld → (key : Key) (shares : ℕ) (words : List ℕ) (views : List View) (order : ℕ) (b : FrameBlock)
    → Fit key shares words views → NothingRests key words
    → ((tree : ℕ) → tree < tree_count key → WasSearched key order words tree) → IsBlockOf key order b
    → total key (reserves (tree_of b.frame)) views ≡ 0 → total key (paid_on (tree_of b.frame)) views ≡ 0
    → total key (charged_in (child_of b.frame)) views ≡ 0 → ¬ IsFreeIn key words b
nothing_else law key shares words views order b fit none searched is reserves_none pays_none charges_none free =
    ⊎_elim
    (λ (reserving : 0 < _). omega (arith, reserving, reserves_none))
    (λ rest.
    ⊎_elim
    (λ (paid : 0 < _). omega (arith, paid, pays_none))
    (λ (charged : 0 < _). omega (arith, charged, charges_none))
    rest)
    (law key shares words views order fit none searched b is free)
