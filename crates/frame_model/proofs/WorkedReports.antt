-- The worked reports, computed.
use Rattle.std.proofs.Common.{refl}
use Rattle.std.specs.Int.Count.{ones}
use Rattle.frame_words.specs.Words.{flag_in, lane_in, lane_shift}
use Rattle.frame_model.specs.Words.{entry_place, bits_place, huge_of, entry_of, bit_word_of, bit_of, set_of}
use Rattle.frame_model.specs.Report.{held_at, held_within, clear_at, clear_within}
use Rattle.frame_model.specs.Rebuilt.{rebuilt_free, rebuilt_in_tree, rebuilt_bits}
use Rattle.frame_model.specs.WorkedReports.{OneIsHeld, EveryOtherIsHeld, TreesDiffer, RebuiltFromBits, RebuiltFromTheFlag}

pub one_is_held : OneIsHeld
unfolding clear_within clear_at held_within held_at bit_of bit_word_of bits_place huge_of entry_of entry_place flag_in lane_in lane_shift
one_is_held = refl

pub every_other_is_held : EveryOtherIsHeld
unfolding clear_within clear_at held_within held_at bit_of bit_word_of bits_place huge_of entry_of entry_place flag_in lane_in lane_shift
every_other_is_held = refl

pub trees_differ : TreesDiffer
unfolding clear_within clear_at held_within held_at bit_of bit_word_of bits_place huge_of entry_of entry_place flag_in lane_in lane_shift
trees_differ = (refl, refl)

pub rebuilt_from_bits : RebuiltFromBits
unfolding rebuilt_free rebuilt_in_tree rebuilt_bits set_of ones bit_word_of bits_place huge_of entry_of entry_place
    flag_in lane_in lane_shift
rebuilt_from_bits = refl

pub rebuilt_from_the_flag : RebuiltFromTheFlag
unfolding rebuilt_free rebuilt_in_tree rebuilt_bits set_of ones bit_word_of bits_place huge_of entry_of entry_place
    flag_in lane_in lane_shift
rebuilt_from_the_flag = refl
