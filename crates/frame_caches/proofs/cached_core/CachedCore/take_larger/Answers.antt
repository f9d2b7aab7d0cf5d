use Rattle.std.proofs.Common.{rules, refl, arith}
use Rattle.std.proofs.lemmas.Result.{IfErr-at_err}
use Rattle.frame_caches.specs.Uses.{IsRefusedBehind}
use Rattle.frame_caches.proofs.CacheLemmas.{none_rests, refused_behind, refused_order}
use Rattle.frame_caches.proofs.cached_core.CachedCore.take_larger.Goals as goal

pub returns-then-resting-eq0 : goal.returns-then-resting-eq0
returns-then-resting-eq0 c = record {
  cache = search rules;
  kept = search rules;
  taken = search rules;
  refused = IfErr-at_err (λ fault. IsRefusedBehind c.args.allocator.now c.args.order fault c.args.self.now _) c.in-Err.is
      (refused_behind c.args.allocator.now c.args.order c.take.result c.args.self.now c.args.self.now _
      (search rules) refl refl refl (λ _. none_rests _ _ c.resting.ensures c.if-resting-eq0.true) (λ _. refl) (λ s. s) (λ s. s)
      c.take.ensures.takes.err);
  moves = search rules;
}

pub returns-in-Err-BadOrder-clause-refused : goal.returns-in-Err-BadOrder-clause-refused
returns-in-Err-BadOrder-clause-refused c =
    refused_order c.args.allocator.now c.args.order c.take.result c.args.self.now _ (search rules) (search rules) refl c.take.ensures.takes.err

pub returns-else-resting-eq0 : goal.returns-else-resting-eq0
returns-else-resting-eq0 c = record {
  cache = search rules;
  kept = search rules;
  taken = search rules;
  refused = refused_behind c.args.allocator.now c.args.order c.take-in-Err.result c.args.self.now c.drain.new.self _
      (search rules) (search rules) (search rules) refl (search rules) (search rules)
      (λ s. c.drain.ensures.cache.stays_alone (c.take.ensures.core.stays_alone s))
      (λ s. c.drain.ensures.sure (c.take.ensures.core.stays_alone s.0) (omega (c.resting.ensures, c.if-resting-eq0.false, arith)))
      c.take-in-Err.ensures.takes.err;
  moves = search rules;
}
