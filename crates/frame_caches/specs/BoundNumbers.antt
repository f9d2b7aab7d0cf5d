-- The bounds on moves as numbers: what their formulas come to.
use Rattle.std.specs.Prelude.{◌≡◌, ℕ, ◌+◌, ◌*◌}
use Rattle.frame_model.specs.declared.key.Key.{Key}
use Rattle.frame_model.specs.Key.{tree_count}
use Rattle.frame_caches.specs.Bounds.{most_in_cached_take, most_in_cached_give}

-- a take makes at most 3,948 moves a tree, 6 a core and 5,241: what it may give back among them
abbrev pub CachedTakeInNumbers : Type 0
CachedTakeInNumbers = (key : Key) → most_in_cached_take key ≡ 3948 * tree_count key + 6 * key.cores + 5241

-- a give makes at most 1,625
abbrev pub CachedGiveInNumbers : Type 0
CachedGiveInNumbers = most_in_cached_give ≡ 1625
