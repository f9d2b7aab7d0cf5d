use Rattle.std.specs.Prelude.{◌≡◌, ◌-◌, length, take}
use Rattle.frame_caches.specs.Caches.{cached_in}
use Rattle.frame_caches.specs.Uses.{GivesRestBack}
use Rattle.frame_caches.proofs.cached_core.CachedCore.give_last.Given as goal

abbrev pub invariant-loop-i : goal.invariant-loop-i
invariant-loop-i l = GivesRestBack l.allocator l._i l.fn.self l.self
    × (cached_in l.self ≡ take (length (cached_in l.fn.self) - l._i) (cached_in l.fn.self))
