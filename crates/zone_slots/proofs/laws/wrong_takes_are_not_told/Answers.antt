use Rattle.zone_slots.proofs.WrongTakes.{taken_from_boot, taken_from_a_hole, taken_of_two_zones}
use Rattle.zone_slots.proofs.WrongTakes.{none_is_unsought, contended_for_nothing, order_is_another}
use Rattle.zone_slots.proofs.laws.wrong_takes_are_not_told.Goals as goal

pub returns : goal.returns
returns c = record {
  boot_frames = taken_from_boot;
  holes = taken_from_a_hole;
  two_zones = taken_of_two_zones;
  unsought = none_is_unsought;
  contended = contended_for_nothing;
  order = order_is_another;
}
