-- What the wrong steps ask for is met: each of them at a state that is reached from an opening.
use Rattle.std.proofs.Common.{◌≡◌, ℕ, ◌<◌, ◌≤◌, List, [], ◌∷◌, Some, refl, arith}
use Rattle.std.specs.Int.{bit_at}
use mathlib.Core.Option.{some}
use lib.ListN.{get_elem?}
use Rattle.frame_words.specs.Words.{entry_word, free_in, flag_in, lane_in, lane_put, lane_shift}
use Rattle.frame_model.specs.declared.key.Key.{Key}
use Rattle.frame_model.specs.declared.view.View.{View}
use Rattle.frame_model.specs.Block.{block, IsBlock, covers}
use Rattle.frame_model.specs.Words.{entry_place, tree_place, local_place, bits_place, word_count, entry_of, free_of, huge_of, bit_word_of}
use Rattle.frame_model.specs.View.{count_in, counted, names, charged_in}
use Rattle.frame_model.specs.Steps.{charge, tree_pay, reserve}
use Rattle.frame_model.specs.Steps.Amounts.{more, less, Leaves, IsRun}
use Rattle.frame_model.specs.Steps.Conditions.{CanUnreserve}
use Rattle.frame_model.specs.Seats.{part_share}
use Rattle.frame_model.specs.Events.{State, views_of, Event, loads, makes, cuts, last_seen, Fits}
use Rattle.frame_model.specs.Without.{HasFrames, less_one, is_same}
use Rattle.frame_model.specs.WorkedRuns.{one_child, at_first, all_free, claimed_one, fills_half}
use Rattle.frame_model.specs.WrongSteps.{IsBefore, IsClearNow, IsMet, AreMet}
use Rattle.frame_model.proofs.Blocks.{smalls_cons, smalls_none, behind_block}
use Rattle.frame_model.proofs.Opening.{sealed_fits}
use Rattle.frame_model.proofs.Runs.{every_run_fits}
use Rattle.frame_model.proofs.WorkedRuns.Pieces.{can_pay, can_charge, ones_one}
use Rattle.frame_model.proofs.WorkedRuns.Rebuilding.{opens_all_free}
use Rattle.frame_model.proofs.WorkedRuns.Splits.{stop_with_half_filled_allowed, whole_leaves}
use Rattle.frame_model.proofs.ComputedRuns.{seat, reached, AllAllowed, run_of, ◌⟫◌}
use Rattle.frame_model.proofs.WorkedRuns.Stops.{stop_after_one_claim_allowed}

-- the words and the views agree wherever these events lead
abbrev at_end : List Event → State
at_end events = reached one_child at_first events

fits_at_end : (events : List Event) → AllAllowed one_child at_first events → Fits one_child 2 (at_end events)
fits_at_end events all =
    every_run_fits one_child 2 at_first events (at_end events)
    (sealed_fits one_child all_free 2 (omega arith) opens_all_free) (run_of one_child at_first events all)

abbrev Before : List Event → ℕ → Type 0
Before events id = IsBefore one_child (at_end events).words (views_of (at_end events)) id (seat (at_end events) id).view

before : (events : List Event) (id : ℕ) → AllAllowed one_child at_first events
    → get_elem? (views_of (at_end events)) id ≡ some (seat (at_end events) id).view → Before events id
before events id all there = record { shares = 2; fits = fits_at_end events all; seat = there }

-- An idle view charges nothing: a claim of frame 0, and a refund of one frame, find too little charged.
idle_before : Before [] 0
idle_before = before [] 0 tt refl

frame_0_is_run : IsRun one_child 0 0 0
frame_0_is_run = record { inside = omega arith; small = omega arith; aligned = refl; fits = omega arith }

frame_0_is_clear : IsClearNow one_child (at_end []).words 0 0 0
unfolding bit_word_of bits_place
frame_0_is_clear = refl

nothing_charged : charged_in 0 (seat (at_end []) 0).view < 1
unfolding count_in
nothing_charged = omega arith

-- One frame is charged: 511 are free.
abbrev one_charged : List Event
one_charged = loads 0 16 ∷ makes 0 (tree_pay 0 512 1) ∷ loads 0 8 ∷ makes 0 (charge 0 512 1) ∷ []

one_charged_allowed : AllAllowed one_child at_first one_charged
unfolding entry_place tree_place bits_place local_place word_count last_seen free_in flag_in entry_word lane_in
    lane_put lane_shift count_in counted more less
one_charged_allowed =
    (refl, refl, omega arith)
    ⟫ (refl, record { share = omega arith; may = can_pay _ 512 1 refl (omega arith); read = refl }, refl)
    ⟫ (refl, refl, omega arith)
    ⟫ (refl, record { share = omega arith; may = can_charge _ 512 1 refl refl refl (omega arith); read = refl }, refl)
    ⟫ tt

before_511 : Before one_charged 0
before_511 = before one_charged 0 one_charged_allowed refl

free_511 : (huge_of (at_end one_charged).words 0 ≡ 0) × (free_of (at_end one_charged).words 0 ≡ 511)
unfolding entry_place tree_place entry_of huge_of free_of free_in flag_in entry_word lane_in lane_put lane_shift
free_511 = (refl, refl)

-- The tree is reserved: its 512 frames are to come back, and nobody else may reserve it.
abbrev reserved : List Event
reserved = cuts 0 (part_share 1) ∷ loads 0 16 ∷ makes 0 (reserve 0 512) ∷ []

reserved_allowed : AllAllowed one_child at_first reserved
unfolding entry_place tree_place bits_place local_place word_count last_seen free_in flag_in entry_word
reserved_allowed =
    (refl, record { some = omega arith; fewer = omega arith })
    ⟫ (refl, refl, omega arith)
    ⟫ (
      refl,
      record {
        share = omega arith;
        may = record { inside = omega arith; no_flag = refl; paid = refl; reserving = refl };
        read = refl;
      },
      refl,
    )
    ⟫ tt

before_unreserve : Before reserved 0
before_unreserve = before reserved 0 reserved_allowed refl

can_unreserve : CanUnreserve one_child (seat (at_end reserved) 0).view 0 512
unfolding count_in counted free_in
can_unreserve = record { inside = omega arith; reserving = refl; paid = omega arith }

before_second_reserve : Before reserved 1
before_second_reserve = before reserved 1 reserved_allowed refl

other_reserves : (get_elem? (views_of (at_end reserved)) 0 ≡ some (seat (at_end reserved) 0).view)
    × ((seat (at_end reserved) 0).view.reserving ≡ Some 0)
other_reserves = (refl, refl)

-- One word is claimed: half of a block of order 7.
before_half : Before claimed_one 0
before_half = before claimed_one 0 stop_after_one_claim_allowed refl

only_half : ¬ HasFrames (seat (at_end claimed_one) 0).view.own (block 0 7)
unfolding covers
only_half has =
    omega (
      arith,
      has.smalls (omega arith) 64 refl,
      smalls_cons 64 (block 0 6) [],
      smalls_none 64,
      behind_block 64 (block 0 6) (omega arith),
    )

frame_0_is_set : bit_at (bit_word_of one_child (at_end claimed_one).words 0) 0 ≡ 1
unfolding bit_word_of entry_place tree_place bits_place local_place word_count
frame_0_is_set = refl

-- Four words of a huge frame are filled, and word 4 is not.
before_drop : Before fills_half 0
before_drop = before fills_half 0 stop_with_half_filled_allowed refl

word_4_is_unfilled : names 4 (seat (at_end fills_half) 0).view.filled ≡ 0
unfolding names
word_4_is_unfilled = refl

half_leaves : Leaves one_child (seat (at_end fills_half) 0).view.own (block 0 9)
    (less_one (block 0 9) (seat (at_end fills_half) 0).view.own)
unfolding less_one is_same
half_leaves = whole_leaves

-- All of it, as a contract says it.

met : (P : Key → List ℕ → List View → ℕ → View → Type 0) (events : List Event) (id : ℕ)
    → AllAllowed one_child at_first events → Before events id
    → P one_child (at_end events).words (views_of (at_end events)) id (seat (at_end events) id).view → IsMet P
met P events id all b p = record {
  key = one_child;
  words = all_free;
  shares = 2;
  events = events;
  end = at_end events;
  id = id;
  view = (seat (at_end events) id).view;
  opening = opens_all_free;
  run = run_of one_child at_first events all;
  before = b;
  meets = p;
}

pub are_met : AreMet
are_met = record {
  bits = met _ [] 0 tt idle_before (0, 0, 0, (frame_0_is_run, frame_0_is_clear));
  claims = met _ [] 0 tt idle_before (0, 0, 0, (frame_0_is_run, frame_0_is_clear, nothing_charged));
  singles = met _ [] 0 tt idle_before (0, 1, (omega arith, omega arith, frame_0_is_clear, omega (arith, nothing_charged, ones_one)));
  held = met _ claimed_one 0 stop_after_one_claim_allowed before_half (0, 1, 0, (omega arith, omega arith, refl, frame_0_is_set));
  refund = met _ [] 0 tt idle_before (0, 1, (omega arith, omega arith, nothing_charged));
  huge = met _ one_charged 0 one_charged_allowed before_511 (0, (omega arith, free_511.0, at_most), free_511.1);
  drops = met _ reserved 0 reserved_allowed before_unreserve (0, 0, 512, (can_unreserve, omega arith));
  reserves = met _ reserved 1 reserved_allowed before_second_reserve
      (0, (seat (at_end reserved) 0).view, 0, ((λ e. absurd (omega arith)), other_reserves.0, omega arith, other_reserves.1));
  hands_out = met _ claimed_one 0 stop_after_one_claim_allowed before_half (block 0 7, (low_half, only_half));
  drops_flag = met _ fills_half 0 stop_with_half_filled_allowed before_drop
      (0, 4, less_one (block 0 9), (omega arith, refl, half_leaves, word_4_is_unfilled));
}
  where
    low_half : IsBlock one_child (block 0 7)
    low_half = record { order = omega arith; aligned = refl; inside = omega arith }

    at_most : free_of (at_end one_charged).words 0 ≤ 511
    at_most = omega (arith, free_511.1)
