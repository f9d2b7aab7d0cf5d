use Rattle.llfree_c.proofs.WrongImages.{image_is_of_no_state, boot_frame_is_clear_in_image, counters_are_off, zone_stands_at_anothers_place}
use Rattle.llfree_c.proofs.laws.wrong_images_are_not_left.Goals as goal

pub returns : goal.returns
returns c = record {
  state = image_is_of_no_state;
  boot_frame = boot_frame_is_clear_in_image;
  counters = counters_are_off;
  zones = zone_stands_at_anothers_place;
}
