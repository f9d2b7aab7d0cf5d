use Rattle.std.proofs.Common.{rules, sym, subst, ◌≡◌, ◌++◌, ◌-◌, drop, take, length}
use Rattle.frame_caches.proofs.CacheLemmas.{newer}
use Rattle.frame_caches.specs.Caches.{half_of, cached_in}
use Rattle.frame_caches.proofs.cached_core.CachedCore.flush.Goals as goal

pub returns-clause-newer : goal.returns-clause-newer
returns-clause-newer c =
    rw (sym c.half-count.ensures)
    (newer c.half-count.result (cached_in c.args.self.now) (cached_in c.turn.new.self) _ (search rules) c.turn.ensures.turned c.give_last.ensures.first)
