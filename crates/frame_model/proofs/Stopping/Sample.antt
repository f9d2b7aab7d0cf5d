-- A stop that happens, with the frames of a claimed word in flight, which are lost.
use Rattle.std.proofs.Common.{◌≡◌, ◌^◌, ◌<◌, ℕ, List, [], ◌∷◌, true, refl, sym, subst, arith}
use Rattle.frame_words.specs.Words.{entry_word, free_in, flag_in, lane_in, lane_put, lane_shift}
use Rattle.frame_model.specs.declared.block.FrameBlock.{FrameBlock}
use Rattle.frame_model.specs.declared.key.Key.{Key}
use Rattle.frame_model.specs.Key.{AreRanges, is_in_range, is_boot_frame, IsKey}
use Rattle.frame_model.specs.Block.{covers}
use Rattle.frame_model.specs.Words.{entry_place, tree_place, local_place, bits_place, word_count, entry_of, huge_of, bit_word_of, bit_of}
use Rattle.frame_model.specs.View.{count_in, counted, idle, boot_blocks, fixed_ground}
use Rattle.frame_model.specs.Holding.{holders}
use Rattle.frame_model.specs.Rebuilt.{IsRebuilt}
use Rattle.frame_model.specs.Openings.{set_blocks, huge_blocks, opened}
use Rattle.frame_model.specs.Laws.{blocks_with}
use Rattle.frame_model.specs.Seats.{part_share, hand_out, recall, part_ground, adopt}
use Rattle.frame_model.specs.Steps.Amounts.{more, less}
use Rattle.frame_model.specs.Events.{State, last_seen, Event, loads, makes, loses, loses_at_will, cuts, joins, LeadsTo}
use Rattle.frame_model.specs.Stops.{Moment, known_of, flying_of, is_lost, range_blocks, Remembers, stopped, Passes, stays, steps, stops}
use Rattle.frame_model.specs.Stops.{opening_moment, Stopping}
use Rattle.frame_model.specs.WorkedRuns.{one_child, words_of_one, all_free, full_word, claimed_one}
use Rattle.frame_model.proofs.Amounts.{count_none}
use Rattle.frame_model.proofs.Bits.{ones_zero}
use Rattle.frame_model.proofs.Sets.{ones_full}
use Rattle.frame_model.proofs.HeldBack.{rebuilt_unsealed}
use Rattle.frame_model.proofs.WorkedRuns.Rebuilding.{rebuilt_by_bits, opens_all_free}
use Rattle.frame_model.proofs.WorkedRuns.Pieces.{lies_anywhere, whole_word}
use Rattle.frame_model.proofs.ComputedRuns.{reached, AllAllowed, run_of}

-- a list of events without an adoption
abbrev pub IsPlain : Event → Type 0
IsPlain (cuts id (adopt b rest)) = ⊥
IsPlain event = Unit {0}

abbrev pub ArePlain : List Event → Type 0
ArePlain [] = Unit {0}
ArePlain (event ∷ events) = IsPlain event × ArePlain events

remembers_all : (key : Key) (event : Event) (blocks : List FrameBlock) → IsPlain event
    → Remembers key event blocks blocks
remembers_all key (loads id word) blocks plain = refl
remembers_all key (makes id kind) blocks plain = refl
remembers_all key (loses id kind) blocks plain = refl
remembers_all key (loses_at_will id kind) blocks plain = refl
remembers_all key (cuts id (part_share n)) blocks plain = refl
remembers_all key (cuts id (hand_out b rest)) blocks plain = refl
remembers_all key (cuts id (recall b rest)) blocks plain = refl
remembers_all key (cuts id part_ground) blocks plain = refl
remembers_all key (cuts id (adopt b rest)) blocks plain = absurd plain
remembers_all key (joins id other join) blocks plain = refl

-- events between stops lead from one moment to the next
pub passes_by : (m o : Moment) (events : List Event) (t : State) → ArePlain events → LeadsTo m.key m.state events t
    → Passes (record m { state = t }) o → Passes m o
passes_by m o [] t plain is rest = subst (λ (s : State). Passes (record m { state = s }) o) is rest
passes_by m o (event ∷ events) t plain (mid, first, others) rest =
    steps m (record m { state = mid }) o event
    (record {
      key = refl;
      shares = refl;
      happens = first;
      remembers = remembers_all m.key event m.remembered plain.0;
      abandoned = refl;
      stops = refl;
    })
    (passes_by (record m { state = mid }) o events t plain.1 others rest)

abbrev pub before : State
before = opened all_free (idle one_child 1)

pub allowed : AllAllowed one_child before claimed_one
unfolding entry_place tree_place bits_place local_place word_count last_seen free_in flag_in entry_word lane_in
    lane_put lane_shift count_in counted more less
allowed = (
  (refl, refl, omega arith),
  (
    (
      refl,
      record {
        share = omega arith;
        may = record { inside = omega arith; enough = omega arith; paid = λ d ne. count_none d };
        read = refl;
      },
      refl,
    ),
    (
      (refl, refl, omega arith),
      (
        (
          refl,
          record {
            share = omega arith;
            may = record { inside = omega arith; no_flag = refl; enough = omega arith; one_child = lies_anywhere _ refl refl };
            read = refl;
          },
          refl,
        ),
        (
          (refl, refl, omega arith),
          (
            (refl, refl, omega arith),
            (
              (refl, refl, omega arith),
              (
                (refl, refl, omega arith),
                (
                  (refl, refl, omega arith),
                  (
                    (refl, refl, omega arith),
                    (
                      (refl, refl, omega arith),
                      (
                        (refl, refl, omega arith),
                        (
                          (
                            refl,
                            record {
                              share = omega arith;
                              may = record {
                                is_run = whole_word 0 (omega arith);
                                clear = refl;
                                charged = omega arith;
                                paid = omega arith;
                              };
                              read = refl;
                            },
                            refl,
                          ),
                          tt,
                        ),
                      ),
                    ),
                  ),
                ),
              ),
            ),
          ),
        ),
      ),
    ),
  ),
)

abbrev ws : List ℕ
ws = words_of_one 384 384 0 full_word 0 0 0 0 0 0 0

abbrev again : List ℕ
again = words_of_one 448 448 0 full_word 0 0 0 0 0 0 0

low_word : 0 < 2 ^ 64
low_word = omega arith

full_fits : full_word < 2 ^ 64
full_fits = omega arith

abbrev pub then : State
then = reached one_child before claimed_one

pub ends_so : then.words ≡ ws
unfolding entry_place tree_place bits_place local_place word_count last_seen free_in flag_in entry_word lane_in
    lane_put lane_shift count_in counted more less
ends_so = refl

rebuilt : IsRebuilt one_child ws again
unfolding entry_place tree_place
rebuilt = rebuilt_by_bits 384 384 0 448 full_word 0 0 0 0 0 0 0 (omega arith)
    (omega (arith, ones_zero, ones_full)) full_fits low_word low_word low_word low_word low_word low_word low_word

abbrev first : Moment
first = opening_moment one_child all_free 1

abbrev last : Moment
last = stopped (record first { state = then }) again

goes : Passes first last
goes =
    passes_by first last claimed_one then
    (tt, (tt, (tt, (tt, (tt, (tt, (tt, (tt, (tt, (tt, (tt, (tt, (tt, tt)))))))))))))
    (run_of one_child before claimed_one allowed)
    (stops (record first { state = then }) last again
    (rebuilt_unsealed one_child then.words again
    (subst (λ (l : List ℕ). IsRebuilt one_child l again) (sym ends_so) rebuilt)) (stays last))

held_still : is_lost last 0 ≡ true
unfolding is_lost known_of flying_of range_blocks is_boot_frame is_in_range holders covers blocks_with fixed_ground
    boot_blocks set_blocks huge_blocks bit_of huge_of entry_of bit_word_of entry_place bits_place tree_place
    local_place word_count free_in flag_in lane_in lane_put lane_shift entry_word count_in counted more less last_seen
held_still = refl

pub is_key : IsKey one_child
unfolding AreRanges
is_key = record {
  sizes = record {
    some_children = omega arith;
    few_children = omega arith;
    some_cores = omega arith;
    few_cores = omega arith;
    last_child = omega arith;
    inside = omega arith;
  };
  ranges = tt;
  few_ranges = omega arith;
  unsealed = λ e. refl;
}

pub stopping : Stopping
stopping = record {
  key = one_child;
  words = all_free;
  end = last;
  is_key = is_key;
  opening = opens_all_free;
  passes = goes;
  once = refl;
  frame = 0;
  inside = omega arith;
  lost = held_still;
}
