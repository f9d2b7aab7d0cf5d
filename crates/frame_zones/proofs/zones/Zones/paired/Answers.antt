use Rattle.std.proofs.Common.{◌<◌, length, arith, rules}
use Rattle.frame_zones.specs.Zones.{AreCoresOf}
use Rattle.frame_zones.proofs.Pairing.{last_holds, pair_one}
use Rattle.frame_zones.proofs.zones.Zones.paired.Goals as goal

pub home_of-home-requires-clause-zones : goal.home_of-home-requires-clause-zones
home_of-home-requires-clause-zones c =
    let inv = c.loop-number.invariant in
    let are : AreCoresOf c.args.self.now c.in-Some.small =
    last_holds (AreCoresOf c.args.self.now) c.loop-number.number _ _ _ c.in-Some.small c.requires.small
    inv.pairing.small_is c.in-Some.ensures.items
    (omega (arith, c.loop-number-test.true, c.len-count.ensures, c.args.for_small.ok.0)) in
    omega (arith, are.home, c.len-zones.ensures)

pub pair_at-requires-clause-small : goal.pair_at-requires-clause-small
pair_at-requires-clause-small c =
    last_holds (AreCoresOf c.args.self.now) c.loop-number.number _ _ _ c.in-Some.small c.requires.small
    c.loop-number.invariant.pairing.small_is c.in-Some.ensures.items
    (omega (arith, c.loop-number-test.true, c.len-count.ensures, c.args.for_small.ok.0))

pub pair_at-requires-clause-huge : goal.pair_at-requires-clause-huge
pair_at-requires-clause-huge c =
    last_holds (AreCoresOf c.args.self.now) c.loop-number.number _ _ _ c.in-Some-pop.huge c.requires.huge
    c.loop-number.invariant.pairing.huge_is c.in-Some-pop.ensures.items
    (omega (arith, c.loop-number-test.true, c.len-count.ensures, c.requires.as_many, c.args.for_huge.ok.0))

pub loop-number-preserved : goal.loop-number-preserved
loop-number-preserved c =
    let inv = c.loop-number.invariant in
    let below : c.loop-number.number < length c.args.for_small.items =
    omega (arith, c.loop-number-test.true, c.len-count.ensures, c.args.for_small.ok.0) in
    let below_huge : c.loop-number.number < length c.args.for_huge.items =
    omega (arith, c.loop-number-test.true, c.len-count.ensures, c.requires.as_many, c.args.for_huge.ok.0) in
    record {
      pairing = pair_one c.args.self.now (length c.args.for_small.items) c.loop-number.number c.home_of-home.result
          c.args.for_small.items c.args.for_huge.items c.loop-number.for_small.items c.loop-number.for_huge.items
          c.pop.new.self.items c.pop-in-loop-number.new.self.items c.loop-number.pairs.items c.push_reserved.new.self.items
          c.in-Some.small c.in-Some-pop.huge c.pair_at.result inv.pairing c.in-Some.ensures.items c.in-Some-pop.ensures.items
          below below_huge c.push_reserved.ensures.items (search rules) c.pair_at.ensures.from c.pair_at.ensures.pair;
      small_left = search rules;
      huge_left = search rules;
      room = search rules;
    }
