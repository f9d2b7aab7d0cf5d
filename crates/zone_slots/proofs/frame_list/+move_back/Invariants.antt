use Rattle.zone_slots.proofs.frame_list.+move_back.Given as goal

abbrev pub decreases-move_back : goal.decreases-move_back
decreases-move_back l = l.times
