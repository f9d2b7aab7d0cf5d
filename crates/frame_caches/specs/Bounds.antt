-- The moves that a take and a give through a cache make at most.
use Rattle.std.specs.Prelude.{ℕ, ◌+◌, ◌*◌}
use Rattle.frame_model.specs.declared.key.Key.{Key}
use Rattle.core_frames.specs.Bounds.{most_moves, most_in_fill, most_in_give}
use Rattle.frame_caches.specs.Caches.{most_cached, most_refilled}

-- the older half goes back, and then a block does
abbrev pub most_in_cached_give : ℕ
most_in_cached_give = most_in_give * most_refilled + most_in_give

-- frames come to rest before a take; or it is refused, all that rests goes back, and it is made again
abbrev pub most_in_cached_take : Key → ℕ
most_in_cached_take key = 2 * most_moves key + most_in_give * most_cached + most_in_fill most_refilled
