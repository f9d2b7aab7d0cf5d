use Rattle.std.proofs.Common.{rules}
use Rattle.frame_caches.proofs.CacheLemmas.{refused_from}
use Rattle.frame_caches.proofs.cached_core.CachedCore.take.Goals as goal

pub returns-in-None-clause-refused : goal.returns-in-None-clause-refused
returns-in-None-clause-refused c =
    refused_from c.args.allocator.now c.args.order c.take_anew.result c.args.self.now c.pop.new.self c.take_anew.new.self
    (search rules) (search rules) (search rules) (search rules) c.pop.ensures.core c.take_anew.ensures.refused
