-- What a core that is sure of the words knows of them.
use Rattle.std.specs.Prelude.{◌≡◌, ℕ, List, Some}
use Rattle.core_frames.specs.Cores.{known_by}
use Rattle.core_frames.specs.declared.shared.allocator.Core.{Core}

-- the core knows the words, and this holds of them
abbrev pub KnowsThat : (List ℕ → Type 0) → Core → Type 0
KnowsThat P core = (words : List ℕ) × ((known_by core ≡ Some words) × P words)
