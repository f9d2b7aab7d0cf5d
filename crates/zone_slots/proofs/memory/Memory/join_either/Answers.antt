use Rattle.std.proofs.Common.{Some, subst}
use Rattle.frame_zones.specs.declared.block.ZoneBlock.{ZoneBlock}
use Rattle.zone_slots.specs.Resting.{GoBackOrJoin}
use Rattle.zone_slots.proofs.Joined.{all_stay, go_on, joined_over}
use Rattle.zone_slots.proofs.memory.Memory.join_either.Goals as goal

pub returns-in-Ok : goal.returns-in-Ok
returns-in-Ok c =
    joined_over c.args.self.now.zones c.args.second c.args.first c.in-Ok.block c.args.core.now c.join.new.core
    c.requires.second c.requires.first c.in-Ok.ensures.core.are_cores c.in-Ok.ensures.joins.kept
    c.in-Ok.ensures.joins.ok c.in-Ok.ensures.joins.others

pub returns-in-Err : goal.returns-in-Err
returns-in-Err c =
    let zs = c.args.self.now.zones in
    let joins = c.in-Err.ensures.joins in
    let last = c.join_upward.new.core in
    go_on zs c.args.core.now c.join.new.core last (Some c.args.first) (Some c.args.second) c.join_upward.result
    (all_stay zs c.args.second.zone c.args.core.now c.join.new.core joins.err.3 joins.others)
    (subst (λ (b : ZoneBlock). GoBackOrJoin zs c.join.new.core (Some b) (Some c.args.second) last c.join_upward.result)
    joins.err.1
    (subst (λ (b : ZoneBlock). GoBackOrJoin zs c.join.new.core (Some c.in-Err.first) (Some b) last c.join_upward.result)
    joins.err.0 c.join_upward.ensures))
