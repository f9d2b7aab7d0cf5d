use Rattle.frame_slots.proofs.slots.SlotList.+add_inside.Given as goal

abbrev pub decreases-add_inside : goal.decreases-add_inside
decreases-add_inside l = l.held.order
