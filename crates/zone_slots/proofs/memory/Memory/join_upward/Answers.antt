use Rattle.std.proofs.Common.{subst}
use Rattle.frame_zones.specs.declared.block.ZoneBlock.{ZoneBlock}
use Rattle.zone_slots.specs.Uses.{GivesInZone}
use Rattle.zone_slots.proofs.Joined.{all_stay, both_back, joined_up}
use Rattle.zone_slots.proofs.memory.Memory.join_upward.Goals as goal

pub returns-in-Ok : goal.returns-in-Ok
returns-in-Ok c =
    joined_up c.args.self.now.zones c.args.first c.args.second c.in-Ok.block c.args.core.now c.join.new.core
    c.requires.first c.requires.second c.in-Ok.ensures.core.are_cores c.in-Ok.ensures.joins.kept
    c.in-Ok.ensures.joins.ok c.in-Ok.ensures.joins.others

pub returns-in-Err : goal.returns-in-Err
returns-in-Err c =
    let zs = c.args.self.now.zones in
    let joins = c.in-Err.ensures.joins in
    both_back zs c.args.first c.args.second c.args.core.now c.join.new.core c.give_to-given.new.core
    c.give_to-given-in-Err.new.core c.requires.first c.requires.second c.give_to-given-in-Err.ensures.core
    (all_stay zs c.args.first.zone c.args.core.now c.join.new.core joins.err.3 joins.others)
    (subst (λ (b : ZoneBlock). GivesInZone zs b.block.order c.join.new.core c.give_to-given.new.core b.zone b.block.frame)
    joins.err.0 c.give_to-given.ensures.given)
    (subst (λ (b : ZoneBlock). GivesInZone zs b.block.order c.give_to-given.new.core c.give_to-given-in-Err.new.core b.zone b.block.frame)
    joins.err.1 c.give_to-given-in-Err.ensures.given)
