use Rattle.std.proofs.Common.{None, Option, sym, subst, Some, IfSome}
use Rattle.frame_zones.specs.Zones.{IsOutOfItsZone}
use Rattle.frame_zones.specs.declared.block.ZoneBlock.{ZoneBlock}
use Rattle.zone_slots.specs.Resting.{GoBackOrJoin}
use Rattle.zone_slots.proofs.Joined.{first_back, second_back}
use Rattle.zone_slots.proofs.memory.Memory.join_or_give.Goals as goal

pub returns-in-Some-None : goal.returns-in-Some-None
returns-in-Some-None c =
    let zs = c.args.self.now.zones in
    let given = c.give_to-given in
    let b : ZoneBlock = c.in-Some-None.first in
    subst (λ (r : Option ZoneBlock). GoBackOrJoin zs c.args.core.now r c.args.second given.new.core None) (sym c.in-Some-None.is-0)
    (subst (λ (r : Option ZoneBlock). GoBackOrJoin zs c.args.core.now (Some b) r given.new.core None) (sym c.in-Some-None.is-1)
    (first_back zs b c.args.core.now given.new.core
    (subst (λ (r : Option ZoneBlock). IfSome r (IsOutOfItsZone zs)) c.in-Some-None.is-0 c.requires.first)
    given.ensures.core given.ensures.given))

pub returns-in-None-Some : goal.returns-in-None-Some
returns-in-None-Some c =
    let zs = c.args.self.now.zones in
    let given = c.give_to-given-in-None-Some in
    let b : ZoneBlock = c.in-None-Some.second in
    subst (λ (r : Option ZoneBlock). GoBackOrJoin zs c.args.core.now r c.args.second given.new.core None) (sym c.in-None-Some.is-0)
    (subst (λ (r : Option ZoneBlock). GoBackOrJoin zs c.args.core.now None r given.new.core None) (sym c.in-None-Some.is-1)
    (second_back zs b c.args.core.now given.new.core
    (subst (λ (r : Option ZoneBlock). IfSome r (IsOutOfItsZone zs)) c.in-None-Some.is-1 c.requires.second)
    given.ensures.core given.ensures.given))
