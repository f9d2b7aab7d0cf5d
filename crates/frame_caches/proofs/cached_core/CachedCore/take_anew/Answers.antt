use Rattle.std.proofs.Common.{rules, refl, sym, subst}
use Rattle.core_frames.specs.Cores.{IsSureOf}
use Rattle.frame_caches.proofs.CacheLemmas.{refused_behind}
use Rattle.frame_caches.proofs.cached_core.CachedCore.take_anew.Goals as goal

pub returns-in-None-clause-refused : goal.returns-in-None-clause-refused
returns-in-None-clause-refused c =
    refused_behind c.args.allocator.now 0 c.take.result c.args.self.now c.pop.new.self _ (search rules) (search rules) (search rules)
    refl (search rules) (search rules) (λ s. c.pop.ensures.cache.stays_alone (c.refill.ensures.cache.stays_alone s))
    (λ s. subst (λ k. IsSureOf c.args.allocator.now k) (sym c.pop.ensures.core) (c.refill.ensures.sure s))
    c.take.ensures.takes.err
