use Rattle.zone_slots.proofs.memory.Memory.+lay_parts.Given as goal

abbrev pub decreases-lay_parts : goal.decreases-lay_parts
decreases-lay_parts l = l.held.block.order
