use Rattle.zone_slots.proofs.memory.Memory.+join_last.Given as goal

abbrev pub decreases-join_last : goal.decreases-join_last
decreases-join_last l = l.order
