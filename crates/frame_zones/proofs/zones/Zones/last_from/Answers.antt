use Rattle.std.proofs.Common.{ℕ, ◌<◌, List, Ok, Err, nat_cmp, subst, arith}
use Rattle.std.specs.List.Sorted.{IsBinarySearchResult}
use Rattle.std.proofs.lemmas.List.Sorted.{searched}
use Rattle.frame_zones.proofs.Found.{firsts_rise, at_its_first, before_the_next}
use Rattle.frame_zones.proofs.zones.Zones.last_from.Goals as goal

pub returns-in-Ok-clause-last : goal.returns-in-Ok-clause-last
returns-in-Ok-clause-last c =
    let found = searched c.args.self.now.firsts.items c.args.frame (Ok c.in-Ok.zone)
    (subst (λ (l : List ℕ). IsBinarySearchResult (λ y. nat_cmp y c.args.frame) l (Ok c.in-Ok.zone))
    c.deref.ensures.value c.in-Ok.ensures.position) (firsts_rise c.args.self.now) in
    at_its_first c.args.self.now c.args.frame c.in-Ok.zone
    (subst (λ n. c.in-Ok.zone < n) c.args.self.now.laid_out.count found.0) found.1

pub returns-in-Err-eq0-clause-none : goal.returns-in-Err-eq0-clause-none
returns-in-Err-eq0-clause-none c =
    let found = searched c.args.self.now.firsts.items c.args.frame (Err c.in-Err-eq0.field-0)
    (subst (λ (l : List ℕ). IsBinarySearchResult (λ y. nat_cmp y c.args.frame) l (Err c.in-Err-eq0.field-0))
    c.deref.ensures.value c.in-Err-eq0.ensures.position) (firsts_rise c.args.self.now) in
    λ k within. found.2 k (omega (arith, c.in-Err-eq0.field-0-test)) (omega (arith, within, c.args.self.now.laid_out.count))

pub returns-in-Err-clause-last : goal.returns-in-Err-clause-last
returns-in-Err-clause-last c =
    let found = searched c.args.self.now.firsts.items c.args.frame (Err c.in-Err.past)
    (subst (λ (l : List ℕ). IsBinarySearchResult (λ y. nat_cmp y c.args.frame) l (Err c.in-Err.past))
    c.deref.ensures.value c.in-Err.ensures.position) (firsts_rise c.args.self.now) in
    before_the_next c.args.self.now c.args.frame c.in-Err.past c.in-Err.past-test.1 found.0 found.1 found.2
