use Rattle.frame_caches.proofs.CacheLemmas.{sure_after}
use Rattle.frame_caches.proofs.cached_core.CachedCore.refill.Goals as goal

pub returns-clause-sure : goal.returns-clause-sure
returns-clause-sure c = sure_after c.args.allocator.now _ _ _ c.take_more.ensures.core c.take_more.ensures.takes.alone
