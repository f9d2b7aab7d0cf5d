-- A stop after a stop, with an adoption between.
use Rattle.std.proofs.Common.{◌≡◌, ℕ, ◌+◌, ◌/◌, ◌%◌, ◌<◌, ◌≤◌, List, [], ◌∷◌, ◌++◌, refl, ap, sym, subst, ◌∙◌, arith}
use Rattle.std.specs.Int.{bit_at}
use Rattle.std.proofs.lemmas.Bool.Decides.{nat_tests}
use Rattle.std.proofs.lemmas.List.Elements.{All-cons, All-nil}
use Rattle.frame_words.specs.Words.{entry_word, free_in, flag_in, lane_in, lane_put, lane_shift}
use Rattle.frame_model.specs.declared.block.FrameBlock.{FrameBlock}
use Rattle.frame_model.specs.declared.key.Key.{Key}
use Rattle.frame_model.specs.Key.{is_in_range, is_boot_frame}
use Rattle.frame_model.specs.Block.{block, IsBlock, covers}
use Rattle.frame_model.specs.Words.{entry_place, tree_place, local_place, bits_place, word_count, entry_of, huge_of, bit_word_of, bit_of}
use Rattle.frame_model.specs.View.{count_in, counted, boot_blocks, fixed_ground}
use Rattle.frame_model.specs.Seats.{hand_out}
use Rattle.frame_model.specs.Steps.Amounts.{more, less, Leaves}
use Rattle.frame_model.specs.Holding.{holders}
use Rattle.frame_model.specs.Rebuilt.{IsRebuilt}
use Rattle.frame_model.specs.Openings.{held_blocks, set_blocks, huge_blocks}
use Rattle.frame_model.specs.Events.{State, last_seen, cuts}
use Rattle.frame_model.specs.Laws.{blocks_with}
use Rattle.frame_model.specs.Stops.{Moment, Forgets, Steps, Passes, stays, steps, stops, opening_moment, unsealed, stopped, known_of, flying_of}
use Rattle.frame_model.specs.Stops.{known_at, is_lost, lost_frames, range_blocks, EveryStopIsSurvived}
use Rattle.frame_model.specs.Without.{less_one, times, is_same}
use Rattle.frame_model.specs.WorkedRuns.{one_child, full_word, all_free, claimed_one, claims_second, MayBeAdopted}
use Rattle.frame_model.specs.WorkedLaws.{stop_at}
use Rattle.frame_model.specs.WorkedStops.{hands_out_lower, two_held, adopts_half, StopAdoptStop}
use Rattle.frame_model.proofs.Bits.{ones_zero}
use Rattle.frame_model.proofs.Blocks.{halves}
use Rattle.frame_model.proofs.ComputedRuns.{seat, reached, leads, AllAllowed, run_of, and_then, ◌⟫◌}
use Rattle.frame_model.proofs.HeldBack.{rebuilt_unsealed}
use Rattle.frame_model.proofs.Opening.{held_are_blocks, held_smalls}
use Rattle.frame_model.proofs.Sets.{ones_full, bit_at_full}
use Rattle.frame_model.proofs.Steps.Shared.{bit_is}
use Rattle.frame_model.proofs.Stopping.Sample.{ArePlain, before, allowed, is_key, passes_by}
use Rattle.frame_model.proofs.Without.{less_one_leaves, without_leaves}
use Rattle.frame_model.proofs.WorkedRuns.Pieces.{can_claim, claimed, claimed_are_blocks, word_is_block, small_covers, covers_within}
use Rattle.frame_model.proofs.WorkedRuns.Rebuilding.{opens_all_free, no_bits, all_bits, rebuilt_by_bits}

-- Up to the first stop.

lower_leaves : Leaves one_child (claimed 0 2) (block 0 6) (less_one (block 0 6) (claimed 0 2))
unfolding times is_same
lower_leaves = less_one_leaves one_child (block 0 6) (claimed 0 2) (claimed_are_blocks 0 2 (omega arith)) (omega arith)

lower_allowed : AllAllowed one_child before hands_out_lower
unfolding entry_place tree_place bits_place local_place word_count last_seen free_in flag_in entry_word lane_in
    lane_put lane_shift count_in counted more less
lower_allowed =
    and_then one_child before claimed_one (claims_second ++ cuts 0 (hand_out (block 0 6) (less_one (block 0 6))) ∷ []) allowed (
    (refl, record { share = omega arith; may = can_claim _ 1 0 (omega arith) refl (omega arith) (omega arith); read = refl }, refl)
    ⟫ (
      refl,
      record {
        share = omega arith;
        is_block = word_is_block 0 (omega arith);
        leaves = lower_leaves;
        unfilled = λ e. absurd (omega arith);
      },
    )
    ⟫ tt
    )

lower_plain : ArePlain hands_out_lower
lower_plain = (tt, (tt, (tt, (tt, (tt, (tt, (tt, (tt, (tt, (tt, (tt, (tt, (tt, (tt, (tt, tt)))))))))))))))

abbrev ended : State
ended = reached one_child before hands_out_lower

pub held_again : IsRebuilt one_child two_held two_held
held_again =
    rebuilt_by_bits 384 384 0 384 full_word full_word 0 0 0 0 0 0 (omega arith) (omega (arith, ones_zero, ones_full)) all_bits
    all_bits no_bits no_bits no_bits no_bits no_bits no_bits

rebuilt_first : IsRebuilt (unsealed one_child) ended.words two_held
unfolding entry_place tree_place bits_place local_place word_count last_seen free_in flag_in entry_word lane_in
    lane_put lane_shift count_in counted more less
rebuilt_first = rebuilt_unsealed one_child _ _ held_again

-- Between the stops.

abbrev first : Moment
first = opening_moment one_child all_free 1

abbrev pub once : Moment
once = stop_at 1 ended two_held

known_once : known_at once ≡ block 0 6 ∷ []
unfolding known_of range_blocks is_boot_frame is_in_range
known_once = refl

remembered_once : once.remembered ≡ block 0 6 ∷ []
unfolding known_of range_blocks is_boot_frame is_in_range
remembered_once = refl

pub lost_once : lost_frames once ≡ 64
unfolding is_lost known_of flying_of range_blocks is_boot_frame is_in_range holders covers blocks_with fixed_ground
    boot_blocks set_blocks huge_blocks bit_of huge_of entry_of bit_word_of entry_place bits_place tree_place
    local_place word_count free_in flag_in lane_in lane_put lane_shift entry_word count_in counted more less last_seen
lost_once = refl

abbrev between : Moment
between = record once { state = leads (unsealed one_child) once.state adopts_half; remembered = block 32 5 ∷ [] }

pub holders_one : (x : ℕ) (b : FrameBlock) → holders x (b ∷ []) ≡ covers b x
unfolding holders
holders_one x b = omega arith

at_most_once : (x : ℕ) (b : FrameBlock) → covers b x ≤ 1
unfolding covers
at_most_once x b = grind (arith, nat_tests)

two_halves : (x : ℕ) → covers (block 0 6) x ≡ covers (block 0 5) x + covers (block 32 5) x
two_halves x = omega (
  arith,
  halves x 0 5 (omega arith),
  small_covers x (block 0 6) (omega arith),
  small_covers x (block 0 5) (omega arith),
  small_covers x (block 32 5) (omega arith),
)

-- the upper half stays
pub forgets_half : Forgets (unsealed one_child) (block 0 6 ∷ []) (block 0 5) (block 32 5 ∷ [])
forgets_half = record {
  are_blocks = All-cons (IsBlock (unsealed one_child)) (block 32 5) []
      (record { order = omega arith; aligned = refl; inside = omega arith }) (All-nil (IsBlock (unsealed one_child)));
  here = λ x e. omega (arith, holders_one x (block 32 5), two_halves x, at_most_once x (block 0 6), e);
  elsewhere = λ x e. omega (arith, holders_one x (block 32 5), holders_one x (block 0 6), two_halves x, e);
}

half_is_forgotten : Forgets (unsealed one_child) once.remembered (block 0 5) (block 32 5 ∷ [])
half_is_forgotten =
    subst (λ (l : List FrameBlock). Forgets (unsealed one_child) l (block 0 5) (block 32 5 ∷ [])) (sym remembered_once) forgets_half

half_is_block : IsBlock (unsealed one_child) (block 0 5)
half_is_block = record { order = omega arith; aligned = refl; inside = omega arith }

first_word : bit_word_of (unsealed one_child) two_held 0 ≡ full_word
unfolding bit_word_of bits_place
first_word = refl

pub half_is_adopted : MayBeAdopted two_held (block 0 5)
half_is_adopted =
    let key : Key = unsealed one_child in
    let set : (x : ℕ) → x < 32 → bit_of key two_held x ≡ 1 =
    λ x h. let first : 0 ≡ x / 64 = omega arith in
    bit_is key two_held x (x / 64) refl
    ∙ ap (λ n. bit_at n (x % 64)) (ap (bit_word_of key two_held) (sym first) ∙ first_word)
    ∙ bit_at_full (x % 64) (omega arith) in
    record {
      share = refl;
      is_ground = refl;
      is_block = half_is_block;
      inside = omega arith;
      leaves = without_leaves key (block 0 5) (held_blocks key two_held) half_is_block (held_are_blocks key two_held) (record {
        smalls = λ l x e. let h : x < 32 = covers_within (block 0 5) x e in
            held_smalls key two_held x (omega arith) ∙ set x h;
        wholes = λ o. absurd (omega arith);
      });
    }

half_adopts : Steps adopts_half once between
half_adopts = record {
  key = refl;
  shares = refl;
  happens = (seat once.state 1, refl, half_is_adopted, refl);
  remembers = half_is_forgotten;
  abandoned = refl;
  stops = refl;
}

known_between : known_at between ≡ block 0 5 ∷ block 32 5 ∷ []
unfolding known_of
known_between = refl

-- After the second.

abbrev pub twice : Moment
twice = stopped between two_held

known_twice : known_at twice ≡ block 0 5 ∷ block 32 5 ∷ []
unfolding known_of range_blocks is_boot_frame is_in_range
known_twice = refl

pub lost_twice : lost_frames twice ≡ 64
unfolding is_lost known_of flying_of range_blocks is_boot_frame is_in_range holders covers blocks_with fixed_ground
    boot_blocks set_blocks huge_blocks bit_of huge_of entry_of bit_word_of entry_place bits_place tree_place
    local_place word_count free_in flag_in lane_in lane_put lane_shift entry_word count_in counted more less last_seen
lost_twice = refl

passes_twice : Passes first twice
passes_twice =
    passes_by first twice hands_out_lower ended lower_plain (run_of one_child before hands_out_lower lower_allowed)
    (stops (record first { state = ended }) twice two_held rebuilt_first
    (steps once between twice adopts_half half_adopts
    (stops between twice two_held (rebuilt_unsealed one_child two_held two_held held_again) (stays twice))))

pub stop_adopt_stop : EveryStopIsSurvived → StopAdoptStop
stop_adopt_stop survived = record {
  end = ended;
  run = run_of one_child before hands_out_lower lower_allowed;
  known_first = known_once;
  lost_first = lost_once;
  adopted = between;
  adopts = half_adopts;
  remembered = refl;
  known_between = known_between;
  passes = passes_twice;
  twice = refl;
  known = known_twice;
  lost = lost_twice;
  survives = survived one_child all_free 1 twice is_key (omega arith) opens_all_free passes_twice;
}
