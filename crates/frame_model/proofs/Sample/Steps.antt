-- A run that does happen, from an opening at words in which a huge frame is held: it uses every kind of step, cut and join.
use Rattle.std.proofs.Common.{List, [], ◌∷◌, ◌++◌, Some, true, refl, arith}
use Rattle.std.specs.Int.Count.{ones}
use Rattle.frame_words.specs.Words.{entry_word, free_in, flag_in, lane_in, lane_put, lane_shift, rest_in, local_word}
use Rattle.frame_model.specs.Block.{block}
use Rattle.frame_model.specs.Words.{entry_place, tree_place, local_place, bits_place, word_count}
use Rattle.frame_model.specs.View.{counted, count_in, names, is_at, spent}
use Rattle.frame_model.specs.Steps.{charge, refund, claim, claim_singles, release, take_huge, give_huge, tree_pay, tree_refund, reserve, swap_local}
use Rattle.frame_model.specs.Steps.{unreserve, local_pay, local_refund, collect, fill_word, drop_flag}
use Rattle.frame_model.specs.Steps.Amounts.{more, less, rest_amount}
use Rattle.frame_model.specs.Seats.{part_share, hand_out, recall, part_ground, adopt, join_idle, hand_in, keep_in}
use Rattle.frame_model.specs.Events.{State, eye, last_seen, Event, loads, makes, loses, loses_at_will, cuts, joins, LeadsTo}
use Rattle.frame_model.proofs.Amounts.{count_none, count_else, names_none}
use Rattle.frame_model.proofs.ComputedRuns.{reached, AllAllowed, run_of, and_then, ◌⟫◌}
use Rattle.frame_model.proofs.Sample.Pieces.{key, words, none_left, second_left, after_release, no_blocks, is_half, whole_block}
use Rattle.frame_model.proofs.Sample.Pieces.{second_half, second_run, gone, one_half, released, lies, first_run, has_whole, all_filled, differs}

-- one seat has both shares, and keeps the huge frame until the ground parts off
abbrev pub first : State
first = record {
  words = words 32768 0 0 (0 ∷ 0 ∷ 0 ∷ 0 ∷ 0 ∷ 0 ∷ 0 ∷ 0 ∷ []);
  eyes = eye (record spent { about = Some key; share = 2; is_ground = true; kept = block 0 9 ∷ [] }) [] ∷ [];
}

-- the huge frame is adopted, handed in and given, and its frames are paid again
abbrev gives_the_huge_frame : List Event
gives_the_huge_frame =
    cuts 0 part_ground ∷
    cuts 0 (part_share 1) ∷
    joins 0 2 join_idle ∷
    cuts 0 (part_share 1) ∷
    cuts 1 (adopt (block 0 9) none_left) ∷
    joins 0 4 hand_in ∷
    makes 0 (give_huge 0 none_left) ∷
    makes 0 (tree_refund 0 512) ∷
    loads 0 16 ∷
    makes 0 (tree_pay 0 512 512) ∷
    []

-- it is taken again, and all of its words are filled
abbrev takes_and_fills : List Event
takes_and_fills =
    loads 0 8 ∷
    makes 0 (take_huge 0 512) ∷
    makes 0 (fill_word 0) ∷
    makes 0 (fill_word 1) ∷
    makes 0 (fill_word 2) ∷
    makes 0 (fill_word 3) ∷
    makes 0 (fill_word 4) ∷
    makes 0 (fill_word 5) ∷
    makes 0 (fill_word 6) ∷
    makes 0 (fill_word 7) ∷
    []

-- its flag is dropped, one half goes out, is kept and recalled, and a word of it is given
abbrev splits_and_releases : List Event
splits_and_releases =
    makes 0 (drop_flag 0 none_left) ∷
    cuts 0 (hand_out (block 0 8) second_left) ∷
    joins 0 5 keep_in ∷
    cuts 0 (recall (block 0 8) none_left) ∷
    joins 0 6 hand_in ∷
    makes 0 (release 0 0 6 after_release) ∷
    makes 0 (refund 0 64) ∷
    makes 0 (tree_refund 0 64) ∷
    loads 3 16 ∷
    loads 0 16 ∷
    []

-- the tree is reserved, put back, reserved again and put into the local word
abbrev reserves : List Event
reserves =
    makes 0 (reserve 0 64) ∷
    loses 3 (tree_pay 0 64 1) ∷
    loses_at_will 3 (tree_pay 0 32768 0) ∷
    makes 0 (unreserve 0 64) ∷
    loads 0 16 ∷
    makes 0 (reserve 0 64) ∷
    makes 0 (swap_local 0 (Some (0, 64))) ∷
    loads 0 24 ∷
    makes 0 (local_pay 0 9223372036854775872 64) ∷
    loads 0 24 ∷
    []

-- frames go into the local word and out of it, and single frames and a run of a word are claimed
abbrev pays_at_the_local_word : List Event
pays_at_the_local_word =
    makes 0 (local_refund 0 9223372036854775808 32) ∷
    makes 0 (tree_refund 0 32) ∷
    loads 0 16 ∷
    makes 0 (collect 0 32800) ∷
    loads 0 24 ∷
    makes 0 (local_pay 0 9223372036854775840 32) ∷
    loads 0 8 ∷
    makes 0 (charge 0 64 64) ∷
    loads 0 32 ∷
    makes 0 (claim_singles 0 0 5) ∷
    loads 0 32 ∷
    makes 0 (claim 0 5 32 5) ∷
    []

gives_the_huge_frame_allowed : AllAllowed key first gives_the_huge_frame
unfolding last_seen entry_place tree_place local_place bits_place word_count lane_in lane_put lane_shift entry_word
    free_in flag_in rest_in local_word count_in counted names is_at more less rest_amount
gives_the_huge_frame_allowed =
    (refl, record { share = omega arith; is_ground = refl })
    ⟫ (refl, record { some = omega arith; fewer = omega arith })
    ⟫ (
      refl,
      (λ e. omega arith),
      refl,
      record {
        keeper = record { share = omega arith; paid = refl; charged = refl; reserving = refl; own = refl };
        other = record { share = omega arith; paid = refl; charged = refl; reserving = refl; own = refl };
      },
    )
    ⟫ (refl, record { some = omega arith; fewer = omega arith })
    ⟫ (refl, record { share = refl; is_ground = refl; is_block = whole_block; inside = omega arith; leaves = gone (block 0 9) })
    ⟫ (
      refl,
      (λ e. omega arith),
      refl,
      record {
        takes = record { share = omega arith; out = refl; not_ground = refl; block = block 0 9; owns = refl };
        one_child = lies (λ d ne. count_none d) no_blocks;
      },
    )
    ⟫ (
      refl,
      record {
        share = omega arith;
        may = record { inside = omega arith; leaves = gone (block 0 9); unfilled = λ w e. names_none w; paid = λ d ne. count_none d };
        read = tt;
      },
      tt,
    )
    ⟫ (refl, record { share = omega arith; may = record { inside = omega arith; paid = omega arith }; read = tt }, tt)
    ⟫ (refl, refl, omega arith)
    ⟫ (
      refl,
      record {
        share = omega arith;
        may = record { inside = omega arith; enough = omega arith; paid = λ d ne. count_none d };
        read = refl;
      },
      refl,
    )
    ⟫ tt

abbrev then_1 : State
then_1 = reached key first gives_the_huge_frame

takes_and_fills_allowed : AllAllowed key then_1 takes_and_fills
unfolding last_seen entry_place tree_place local_place bits_place word_count lane_in lane_put lane_shift entry_word
    free_in flag_in rest_in local_word count_in counted names is_at more less rest_amount
takes_and_fills_allowed =
    (refl, refl, omega arith)
    ⟫ (
      refl,
      record {
        share = omega arith;
        may = record { inside = omega arith; all_free = refl; paid = omega arith; one_child = lies (λ d ne. count_none d) no_blocks };
        read = refl;
      },
      refl,
    )
    ⟫ (refl, record { share = omega arith; may = record { inside = omega arith; own = has_whole }; read = tt }, tt)
    ⟫ (refl, record { share = omega arith; may = record { inside = omega arith; own = has_whole }; read = tt }, tt)
    ⟫ (refl, record { share = omega arith; may = record { inside = omega arith; own = has_whole }; read = tt }, tt)
    ⟫ (refl, record { share = omega arith; may = record { inside = omega arith; own = has_whole }; read = tt }, tt)
    ⟫ (refl, record { share = omega arith; may = record { inside = omega arith; own = has_whole }; read = tt }, tt)
    ⟫ (refl, record { share = omega arith; may = record { inside = omega arith; own = has_whole }; read = tt }, tt)
    ⟫ (refl, record { share = omega arith; may = record { inside = omega arith; own = has_whole }; read = tt }, tt)
    ⟫ (refl, record { share = omega arith; may = record { inside = omega arith; own = has_whole }; read = tt }, tt)
    ⟫ tt

abbrev then_2 : State
then_2 = reached key then_1 takes_and_fills

splits_and_releases_allowed : AllAllowed key then_2 splits_and_releases
unfolding last_seen entry_place tree_place local_place bits_place word_count lane_in lane_put lane_shift entry_word
    free_in flag_in rest_in local_word count_in counted names is_at more less rest_amount
splits_and_releases_allowed = (
  refl,
  record {
    share = omega arith;
    may = record { inside = omega arith; leaves = gone (block 0 9); filled = all_filled };
    read = tt;
  },
  tt,
)
    ⟫ (refl, record { share = omega arith; is_block = is_half; leaves = one_half; unfilled = λ e. λ w s. names_none w })
    ⟫ (refl, (λ e. omega arith), refl, record { share = omega arith; out = refl; not_ground = refl; block = block 0 8; owns = refl })
    ⟫ (
      refl,
      record {
        share = omega arith;
        not_ground = refl;
        is_kept = (0, omega arith, refl);
        is_block = is_half;
        leaves = gone (block 0 8);
      },
    )
    ⟫ (
      refl,
      (λ e. omega arith),
      refl,
      record {
        takes = record { share = omega arith; out = refl; not_ground = refl; block = block 0 8; owns = refl };
        one_child = lies (λ d ne. count_none d) second_half;
      },
    )
    ⟫ (
      refl,
      record {
        share = omega arith;
        may = record { is_run = first_run; leaves = released; charged = λ d ne. count_none d; paid = λ d ne. count_none d };
        read = tt;
      },
      tt,
    )
    ⟫ (refl, record { share = omega arith; may = record { inside = omega arith; charged = omega arith }; read = tt }, tt)
    ⟫ (refl, record { share = omega arith; may = record { inside = omega arith; paid = omega arith }; read = tt }, tt)
    ⟫ (refl, refl, omega arith)
    ⟫ (refl, refl, omega arith)
    ⟫ tt

abbrev then_3 : State
then_3 = reached key then_2 splits_and_releases

reserves_allowed : AllAllowed key then_3 reserves
unfolding last_seen entry_place tree_place local_place bits_place word_count lane_in lane_put lane_shift entry_word
    free_in flag_in rest_in local_word count_in counted names is_at more less rest_amount
reserves_allowed = (
  refl,
  record {
    share = omega arith;
    may = record { inside = omega arith; no_flag = refl; paid = refl; reserving = refl };
    read = refl;
  },
  refl,
)
    ⟫ (
      refl,
      record {
        share = omega arith;
        may = record { inside = omega arith; enough = omega arith; paid = λ d ne. count_none d };
        read = refl;
      },
      (64, refl),
      (λ e. differs e),
    )
    ⟫ (
      refl,
      record {
        share = omega arith;
        may = record { inside = omega arith; enough = omega arith; paid = λ d ne. count_none d };
        read = refl;
      },
      (32768, refl),
    )
    ⟫ (refl, record { share = omega arith; may = record { inside = omega arith; reserving = refl; paid = omega arith }; read = tt }, tt)
    ⟫ (refl, refl, omega arith)
    ⟫ (
      refl,
      record {
        share = omega arith;
        may = record { inside = omega arith; no_flag = refl; paid = refl; reserving = refl };
        read = refl;
      },
      refl,
    )
    ⟫ (
      refl,
      record {
        share = omega arith;
        may = record {
          inside = omega arith;
          is_rest = (omega arith, omega arith);
          gives_up = (refl, refl, λ d ne. count_else 0 d 64 ne);
        };
        read = tt;
      },
      tt,
    )
    ⟫ (refl, refl, omega arith)
    ⟫ (
      refl,
      record {
        share = omega arith;
        may = record {
          inside = omega arith;
          tree = 0;
          resting = 64;
          seen_as = refl;
          enough = omega arith;
          paid = λ d ne. count_none d;
        };
        read = refl;
      },
      refl,
    )
    ⟫ (refl, refl, omega arith)
    ⟫ tt

abbrev then_4 : State
then_4 = reached key then_3 reserves

pays_at_the_local_word_allowed : AllAllowed key then_4 pays_at_the_local_word
unfolding last_seen entry_place tree_place local_place bits_place word_count lane_in lane_put lane_shift entry_word
    free_in flag_in rest_in local_word count_in counted names is_at more less rest_amount ones
pays_at_the_local_word_allowed = (
  refl,
  record {
    share = omega arith;
    may = record { inside = omega arith; tree = 0; resting = 0; seen_as = refl; paid = omega arith };
    read = refl;
  },
  refl,
)
    ⟫ (refl, record { share = omega arith; may = record { inside = omega arith; paid = omega arith }; read = tt }, tt)
    ⟫ (refl, refl, omega arith)
    ⟫ (refl, record { share = omega arith; may = record { inside = omega arith; paid = λ d ne. count_none d }; read = refl }, refl)
    ⟫ (refl, refl, omega arith)
    ⟫ (
      refl,
      record {
        share = omega arith;
        may = record {
          inside = omega arith;
          tree = 0;
          resting = 32;
          seen_as = refl;
          enough = omega arith;
          paid = λ d ne. count_else 0 d 32 ne;
        };
        read = refl;
      },
      refl,
    )
    ⟫ (refl, refl, omega arith)
    ⟫ (
      refl,
      record {
        share = omega arith;
        may = record {
          inside = omega arith;
          no_flag = refl;
          enough = omega arith;
          one_child = lies (λ d ne. count_none d) released.are_blocks;
        };
        read = refl;
      },
      refl,
    )
    ⟫ (refl, refl, omega arith)
    ⟫ (
      refl,
      record {
        share = omega arith;
        may = record {
          inside = omega arith;
          some = omega arith;
          fits = omega arith;
          clear = refl;
          charged = omega arith;
          paid = omega arith;
        };
        read = refl;
      },
      refl,
    )
    ⟫ (refl, refl, omega arith)
    ⟫ (
      refl,
      record {
        share = omega arith;
        may = record { is_run = second_run; clear = refl; charged = omega arith; paid = omega arith };
        read = refl;
      },
      refl,
    )
    ⟫ tt

-- the whole run
abbrev pub events : List Event
events = gives_the_huge_frame ++ takes_and_fills ++ splits_and_releases ++ reserves ++ pays_at_the_local_word

abbrev pub last : State
last = reached key first events

events_allowed : AllAllowed key first events
events_allowed =
    and_then key first gives_the_huge_frame (takes_and_fills ++ (splits_and_releases ++ (reserves ++ pays_at_the_local_word)))
    gives_the_huge_frame_allowed
    (and_then key then_1 takes_and_fills (splits_and_releases ++ (reserves ++ pays_at_the_local_word)) takes_and_fills_allowed
    (and_then key then_2 splits_and_releases (reserves ++ pays_at_the_local_word) splits_and_releases_allowed
    (and_then key then_3 reserves pays_at_the_local_word reserves_allowed
    pays_at_the_local_word_allowed)))

pub sample_run : LeadsTo key first events last
sample_run = run_of key first events events_allowed
