use Rattle.zone_slots.proofs.WrongPlaces.{place_from_boot, place_in_a_hole, place_elsewhere, free_place_is_refused}
use Rattle.zone_slots.proofs.WrongPlaces.{place_loss_is_untold, place_contended_for_nothing, place_order_is_another}
use Rattle.zone_slots.proofs.laws.wrong_takes_of_one_block_are_not_told.Goals as goal

pub returns : goal.returns
returns c = record {
  boot_frames = place_from_boot;
  holes = place_in_a_hole;
  elsewhere = place_elsewhere;
  free = free_place_is_refused;
  losses = place_loss_is_untold;
  contended = place_contended_for_nothing;
  order = place_order_is_another;
}
