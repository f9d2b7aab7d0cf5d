use Rattle.std.proofs.Common.{◌≡◌, ◌<◌, false, refl, sym, subst, inr, arith}
use Rattle.frame_zones.specs.Uses.{HadNone}
use Rattle.frame_zones.specs.Zones.{zone_at}
use Rattle.frame_zones.proofs.Rounds.{stay_on, stay_at_all, stay_there, looked, are_there, none_there, one_more_none, round_taken}
use Rattle.frame_zones.proofs.Staying.{began_there, began_past}
use Rattle.frame_zones.proofs.Sums.{within_all}
use Rattle.frame_zones.proofs.zones.Zones.take.Goals as goal

pub take_in-requires-clause-core : goal.take_in-requires-clause-core
take_in-requires-clause-core c = are_there _ _ _ c.requires

pub returns-in-Ok-clause-core : goal.returns-in-Ok-clause-core
returns-in-Ok-clause-core c =
    stay_on _ _ _ _ (stay_there _ _ _ _ (stay_at_all _ _ c.requires)) c.in-Ok.ensures.core

pub returns-in-Ok-clause-takes : goal.returns-in-Ok-clause-takes
returns-in-Ok-clause-takes c =
    round_taken _ (λ k. k < 0) _ false _ _ _ _ _ (omega (arith, c.first_zone-first.ensures.zone, c.len.ensures))
    (none_there _ (λ k. k < 0) _ _ _ c.requires (λ z is. omega (arith, is)))
    c.in-Ok.ensures.takes (λ is. omega (arith, is))

pub returns-in-Ok-clause-all_moves : goal.returns-in-Ok-clause-all_moves
returns-in-Ok-clause-all_moves c =
    within_all _ _ _ c.requires c.in-Ok.ensures.core.are_cores (returns-in-Ok-clause-takes c).moves

pub returns-in-Err-clause-core : goal.returns-in-Err-clause-core
returns-in-Err-clause-core c =
    stay_on _ _ _ _ (stay_on _ _ _ _ (stay_there _ _ _ _ (stay_at_all _ _ c.requires)) c.in-Err.ensures.core) c.take_elsewhere.ensures.core

pub returns-in-Err-clause-takes : goal.returns-in-Err-clause-takes
returns-in-Err-clause-takes c =
    c.take_elsewhere.ensures.takes c.args.core.now
    (subst (λ b. HadNone c.args.self.now (λ z. z ≡ c.first_zone-first.result) c.args.order b c.args.core.now c.take_in.new.core)
    (sym c.or_contended.ensures)
    (one_more_none _ (λ k. k < 0) (λ z. z ≡ c.first_zone-first.result) _ false _ c.first_zone-first.result _ _ _ (omega arith) (omega (arith, c.first_zone-first.ensures.zone, c.len.ensures))
    (none_there _ (λ k. k < 0) _ _ _ c.requires (λ z is. omega (arith, is)))
    c.in-Err.ensures.core c.in-Err.ensures.takes
    (λ is. omega (arith, is)) refl (λ k is. inr is) (λ k is. absurd (omega (arith, is)))))

pub returns-in-Err-clause-all_moves : goal.returns-in-Err-clause-all_moves
returns-in-Err-clause-all_moves c =
    within_all _ _ _ c.requires c.take_elsewhere.ensures.core.are_cores (returns-in-Err-clause-takes c).moves

pub returns-in-Ok-clause-stays : goal.returns-in-Ok-clause-stays
returns-in-Ok-clause-stays c =
    began_there c.args.self.now c.args.order _ c.first_zone-first.result _ c.args.core.now c.take_in.new.core _
    (omega arith) (omega arith) c.len.ensures c.in-Ok.ensures.stays c.first_zone-first.ensures.begins
    c.first_zone-first.ensures.stay c.in-Ok.ensures.takes.ok.0

pub returns-in-Err-clause-stays : goal.returns-in-Err-clause-stays
returns-in-Err-clause-stays c =
    began_past c.args.self.now c.args.order _ c.first_zone-first.result _ c.args.core.now c.take_in.new.core c.take_elsewhere.new.core
    _ (omega arith) (omega arith) c.len.ensures c.in-Err.ensures.stays c.first_zone-first.ensures.begins
    c.first_zone-first.ensures.stay
    (λ a x. looked (zone_at c.args.self.now c.first_zone-first.result a) c.args.order _ _ _ (omega arith)
    (c.in-Err.ensures.takes.err a x).0)
    c.take_elsewhere.ensures.stays
