use Rattle.frame_zones.specs.Places.{MovesForPlace}
use Rattle.frame_zones.specs.declared.pairs.PairCore.{PairCore}
use Rattle.frame_zones.specs.declared.zones.ZoneCore.{ZoneCore}
use Rattle.frame_zones.proofs.Pairing.{through_huge, through_small}
use Rattle.frame_zones.proofs.pairs.PairCore.take_at.Goals as goal

pub returns-then-order-eq-HUGE_ORDER-clause-all_moves : goal.returns-then-order-eq-HUGE_ORDER-clause-all_moves
returns-then-order-eq-HUGE_ORDER-clause-all_moves c =
    let q : PairCore = record { small = c.args.self.now.small; huge = c.take_at.new.core } in
    through_huge (λ (x y : ZoneCore). MovesForPlace c.args.zones.now c.args.frame x y) c.args.order c.args.self.now q
    c.if-order-eq-HUGE_ORDER.true c.take_at.ensures.all_moves

pub returns-else-order-eq-HUGE_ORDER-clause-all_moves : goal.returns-else-order-eq-HUGE_ORDER-clause-all_moves
returns-else-order-eq-HUGE_ORDER-clause-all_moves c =
    let q : PairCore = record { small = c.take_at-else-order-eq-HUGE_ORDER.new.core; huge = c.args.self.now.huge } in
    through_small (λ (x y : ZoneCore). MovesForPlace c.args.zones.now c.args.frame x y) c.args.order c.args.self.now q
    c.if-order-eq-HUGE_ORDER.false c.take_at-else-order-eq-HUGE_ORDER.ensures.all_moves
