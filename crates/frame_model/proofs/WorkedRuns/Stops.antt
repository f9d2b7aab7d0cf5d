-- A wide take that is stopped at three places.
use Rattle.std.proofs.Common.{◌≡◌, [], refl, arith}
use Rattle.frame_words.specs.Words.{entry_word, free_in, flag_in, lane_in, lane_put, lane_shift}
use Rattle.frame_model.specs.Words.{entry_place, tree_place, local_place, bits_place, word_count, entry_of, free_of, huge_of, set_of}
use Rattle.frame_model.specs.View.{count_in, counted}
use Rattle.frame_model.specs.Steps.Amounts.{more, less}
use Rattle.frame_model.specs.Events.{last_seen, views_of}
use Rattle.frame_model.specs.Rebuilt.{IsRebuilt}
use Rattle.frame_model.specs.Stops.{known_of, unsealed}
use Rattle.frame_model.specs.WorkedRuns.{one_child, words_of_one, full_word, at_first, loads_and_claims, claims_second, charged_wide}
use Rattle.frame_model.specs.WorkedRuns.{claimed_one, claimed_two, one_claimed, StopsAfter, StopAfterTheCharge, StopAfterOneClaim}
use Rattle.frame_model.specs.WorkedRuns.{StopAfterTwoClaims}
use Rattle.frame_model.proofs.Bits.{ones_zero}
use Rattle.frame_model.proofs.Sets.{ones_full}
use Rattle.frame_model.proofs.WorkedRuns.Adopting.{claimed_is_adopted, rest_is_not_held}
use Rattle.frame_model.proofs.WorkedRuns.Lost.{lost_set}
use Rattle.frame_model.proofs.WorkedRuns.Pieces.{can_pay, can_charge, can_claim, set_eight}
use Rattle.frame_model.proofs.HeldBack.{rebuilt_unsealed}
use Rattle.frame_model.proofs.WorkedRuns.Rebuilding.{no_bits, all_bits, rebuilt_by_bits}
use Rattle.frame_model.proofs.ComputedRuns.{reached, AllAllowed, run_of, and_then, ◌⟫◌}

stop_after_the_charge_allowed : AllAllowed one_child at_first charged_wide
unfolding entry_place tree_place bits_place local_place word_count last_seen free_in flag_in entry_word lane_in
    lane_put lane_shift count_in counted more less
stop_after_the_charge_allowed =
    (refl, refl, omega arith)
    ⟫ (refl, record { share = omega arith; may = can_pay _ 512 128 refl (omega arith); read = refl }, refl)
    ⟫ (refl, refl, omega arith)
    ⟫ (refl, record { share = omega arith; may = can_charge _ 512 128 refl refl refl (omega arith); read = refl }, refl)
    ⟫ tt

stop_after_the_charge_set : set_of one_child (words_of_one 384 384 0 0 0 0 0 0 0 0 0) 0 ≡ 0
stop_after_the_charge_set = omega (arith, set_eight 384 384 0 0 0 0 0 0 0 0 0, ones_zero, ones_full)

none_0 : known_of (views_of (reached one_child at_first charged_wide)) ≡ []
unfolding known_of
none_0 = refl

clear_0 : huge_of (words_of_one 512 512 0 0 0 0 0 0 0 0 0) 0 ≡ 0
unfolding huge_of entry_of entry_place flag_in lane_in lane_shift
clear_0 = refl

set_0 : set_of one_child (words_of_one 512 512 0 0 0 0 0 0 0 0 0) 0 ≡ 0
set_0 = omega (arith, set_eight 512 512 0 0 0 0 0 0 0 0 0, ones_zero, ones_full)

none_64 : known_of (views_of (reached one_child at_first claimed_one)) ≡ []
unfolding known_of
none_64 = refl

pub clear_64 : huge_of one_claimed 0 ≡ 0
unfolding huge_of entry_of entry_place flag_in lane_in lane_shift
clear_64 = refl

pub set_64 : set_of one_child one_claimed 0 ≡ 64
set_64 = omega (arith, set_eight 448 448 0 full_word 0 0 0 0 0 0 0, ones_zero, ones_full)

none_128 : known_of (views_of (reached one_child at_first claimed_two)) ≡ []
unfolding known_of
none_128 = refl

clear_128 : huge_of (words_of_one 384 384 0 full_word full_word 0 0 0 0 0 0) 0 ≡ 0
unfolding huge_of entry_of entry_place flag_in lane_in lane_shift
clear_128 = refl

set_128 : set_of one_child (words_of_one 384 384 0 full_word full_word 0 0 0 0 0 0) 0 ≡ 128
set_128 = omega (arith, set_eight 384 384 0 full_word full_word 0 0 0 0 0 0, ones_zero, ones_full)

pub stop_after_the_charge : StopAfterTheCharge
unfolding entry_place tree_place bits_place local_place word_count last_seen free_in flag_in entry_word lane_in
    lane_put lane_shift count_in counted more less free_of entry_of
stop_after_the_charge =
    let r : IsRebuilt (unsealed one_child) (reached one_child at_first charged_wide).words (words_of_one 512 512 0 0 0 0 0 0 0 0 0) =
    rebuilt_unsealed one_child _ _ (rebuilt_by_bits 384 384 0 512 0 0 0 0 0 0 0 0 (omega arith) (omega (arith, ones_zero, ones_full))
    no_bits no_bits no_bits no_bits no_bits no_bits no_bits no_bits) in
    record {
      end = reached one_child at_first charged_wide;
      run = run_of one_child at_first charged_wide stop_after_the_charge_allowed;
      free = refl;
      bits = stop_after_the_charge_set;
      rebuilt = r;
      lost_now = lost_set (reached one_child at_first charged_wide) (words_of_one 512 512 0 0 0 0 0 0 0 0 0) none_0 r.in_range 0 clear_0
          set_0;
    }

pub stop_after_one_claim_allowed : AllAllowed one_child at_first claimed_one
unfolding entry_place tree_place bits_place local_place word_count last_seen free_in flag_in entry_word lane_in
    lane_put lane_shift count_in counted more less
stop_after_one_claim_allowed =
    and_then one_child at_first charged_wide loads_and_claims stop_after_the_charge_allowed (
    (refl, refl, omega arith)
    ⟫ (refl, refl, omega arith)
    ⟫ (refl, refl, omega arith)
    ⟫ (refl, refl, omega arith)
    ⟫ (refl, refl, omega arith)
    ⟫ (refl, refl, omega arith)
    ⟫ (refl, refl, omega arith)
    ⟫ (refl, refl, omega arith)
    ⟫ (refl, record { share = omega arith; may = can_claim _ 0 0 (omega arith) refl (omega arith) (omega arith); read = refl }, refl)
    ⟫ tt
    )

stop_after_one_claim_set : set_of one_child (words_of_one 384 384 0 full_word 0 0 0 0 0 0 0) 0 ≡ 64
stop_after_one_claim_set = omega (arith, set_eight 384 384 0 full_word 0 0 0 0 0 0 0, ones_zero, ones_full)

one_claim : StopsAfter claimed_one 384 64 one_claimed 64
unfolding entry_place tree_place bits_place local_place word_count last_seen free_in flag_in entry_word lane_in
    lane_put lane_shift count_in counted more less free_of entry_of
one_claim =
    let r : IsRebuilt (unsealed one_child) (reached one_child at_first claimed_one).words (one_claimed) =
    rebuilt_unsealed one_child _ _ (rebuilt_by_bits 384 384 0 448 full_word 0 0 0 0 0 0 0 (omega arith)
    (omega (arith, ones_zero, ones_full))
    all_bits no_bits no_bits no_bits no_bits no_bits no_bits no_bits) in
    record {
      end = reached one_child at_first claimed_one;
      run = run_of one_child at_first claimed_one stop_after_one_claim_allowed;
      free = refl;
      bits = stop_after_one_claim_set;
      rebuilt = r;
      lost_now = lost_set (reached one_child at_first claimed_one) (one_claimed) none_64 r.in_range 64 clear_64 set_64;
    }

pub stop_after_one_claim : StopAfterOneClaim
stop_after_one_claim = (one_claim, rest_is_not_held, claimed_is_adopted)

stop_after_two_claims_allowed : AllAllowed one_child at_first claimed_two
unfolding entry_place tree_place bits_place local_place word_count last_seen free_in flag_in entry_word lane_in
    lane_put lane_shift count_in counted more less
stop_after_two_claims_allowed =
    and_then one_child at_first claimed_one claims_second stop_after_one_claim_allowed (
    (refl, record { share = omega arith; may = can_claim _ 1 0 (omega arith) refl (omega arith) (omega arith); read = refl }, refl)
    ⟫ tt
    )

stop_after_two_claims_set : set_of one_child (words_of_one 384 384 0 full_word full_word 0 0 0 0 0 0) 0 ≡ 128
stop_after_two_claims_set = omega (arith, set_eight 384 384 0 full_word full_word 0 0 0 0 0 0, ones_zero, ones_full)

pub stop_after_two_claims : StopAfterTwoClaims
unfolding entry_place tree_place bits_place local_place word_count last_seen free_in flag_in entry_word lane_in
    lane_put lane_shift count_in counted more less free_of entry_of
stop_after_two_claims =
    let r : IsRebuilt (unsealed one_child) (reached one_child at_first claimed_two).words
    (words_of_one 384 384 0 full_word full_word 0 0 0 0 0 0) =
    rebuilt_unsealed one_child _ _
    (rebuilt_by_bits 384 384 0 384 full_word full_word 0 0 0 0 0 0 (omega arith) (omega (arith, ones_zero, ones_full))
    all_bits all_bits no_bits no_bits no_bits no_bits no_bits no_bits) in
    record {
      end = reached one_child at_first claimed_two;
      run = run_of one_child at_first claimed_two stop_after_two_claims_allowed;
      free = refl;
      bits = stop_after_two_claims_set;
      rebuilt = r;
      lost_now = lost_set (reached one_child at_first claimed_two) (words_of_one 384 384 0 full_word full_word 0 0 0 0 0 0) none_128
          r.in_range 128 clear_128 set_128;
    }
