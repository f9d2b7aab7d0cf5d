-- What the laws say of the worked runs.
use Rattle.std.proofs.Common.{◌≡◌, ℕ, ◌+◌, ◌*◌, ◌<◌, List, [], ◌∷◌, ◌++◌, refl, arith}
use Rattle.frame_words.specs.Words.{entry_word, free_in, flag_in, lane_in, lane_put, lane_shift, rest_in}
use Rattle.frame_model.specs.declared.block.FrameBlock.{FrameBlock}
use Rattle.frame_model.specs.Seats.{hand_out}
use Rattle.frame_model.specs.Key.{is_in_range, is_boot_frame}
use Rattle.frame_model.specs.Block.{block, IsBlock, covers}
use Rattle.frame_model.specs.Words.{entry_place, tree_place, local_place, bits_place, word_count, entry_of, free_of, huge_of, tree_word_of}
use Rattle.frame_model.specs.Words.{tree_free_of, local_word_of, rest_of, bit_word_of, bit_of, count_on, resting_on}
use Rattle.frame_model.specs.View.{IsIdle, idle, count_in, counted, boot_blocks, fixed_ground}
use Rattle.frame_model.specs.Steps.Amounts.{more, less, IsRun, Leaves}
use Rattle.frame_model.specs.Holding.{holders}
use Rattle.frame_model.specs.Rebuilt.{IsRebuilt}
use Rattle.frame_model.specs.Events.{views_of, last_seen, State, Event, cuts, LeadsTo, Fits, EveryRunFits}
use Rattle.frame_model.specs.Laws.{EveryFitIsSafe, EveryClosingAddsUp, EveryClosingHoldsTheKept, AddsUp, Happening}
use Rattle.frame_model.specs.Laws.{blocks_with, Form, charging, refunding, claiming, claiming_singles, releasing, taking_huge, giving_huge}
use Rattle.frame_model.specs.Laws.{paying_tree, refunding_tree, reserving_tree, swapping_local, unreserving_tree}
use Rattle.frame_model.specs.Laws.{paying_local, refunding_local, collecting, filling_word, dropping_flag}
use Rattle.frame_model.specs.Laws.{parting_share, handing_out, recalling, parting_ground, adopting, joining_idle}
use Rattle.frame_model.specs.Laws.{handing_in, keeping_in, loading, losing, losing_at_will}
use Rattle.frame_model.specs.Openings.{EveryRunFromSealed, EveryRunFromReopening, set_blocks, huge_blocks, opened}
use Rattle.frame_model.specs.Stops.{Moment, Passes, stays, stops, opening_moment, unsealed, known_at, known_of, flying_of, is_lost}
use Rattle.frame_model.specs.Stops.{range_blocks, lost_frames, ended_shares, EveryStopIsSurvived, EveryStopLosesLittle, EveryStopIsExact, EveryMomentCanStop}
use Rattle.frame_model.specs.Stops.{EveryRebuildingExists, EveryRebuildingIsExact}
use Rattle.frame_model.specs.Without.{without, remains, remainder, is_apart, is_inside}
use Rattle.frame_model.specs.WorkedRuns.{one_child, words_of_one, full_word, all_free, at_first, claimed_one, claims_second, one_claimed}
use Rattle.frame_model.specs.WorkedLaws.{SafeRun, takes_and_keeps, ClosesWithOneKept, stop_at, StopIsSurvived, LosesAClaim, handed_out}
use Rattle.frame_model.specs.WorkedLaws.{LosesAClaimBesideAStranger, LosesAtMost}
use Rattle.frame_model.specs.WorkedLaws.{LosesNoBlock, RebuildsToExact, FormsAreApart}
use Rattle.frame_model.proofs.Bits.{ones_zero}
use Rattle.frame_model.proofs.Blocks.{smalls_cons, smalls_none, wholes_cons, wholes_none}
use Rattle.frame_model.proofs.ComputedRuns.{seat, reached, AllAllowed, run_of, and_then, ◌⟫◌}
use Rattle.frame_model.proofs.Sample.Whole.{happening}
use Rattle.frame_model.proofs.Sets.{ones_full}
use Rattle.frame_model.proofs.Stopping.Survival.{same_cores}
use Rattle.frame_model.proofs.Stopping.Sample.{ArePlain, before, allowed, is_key, passes_by}
use Rattle.frame_model.proofs.WorkedRuns.Lost.{lost_set}
use Rattle.frame_model.proofs.WorkedRuns.Pieces.{can_pay, can_charge, can_claim, claimed, claimed_are_blocks, two_words, small_covers}
use Rattle.frame_model.proofs.WorkedRuns.Pieces.{no_blocks}
use Rattle.frame_model.proofs.WorkedRuns.Stops.{clear_64, set_64, stop_after_one_claim_allowed}
use Rattle.frame_model.proofs.Without.{without_leaves}
use Rattle.frame_model.proofs.HeldBack.{rebuilt_unsealed}
use Rattle.frame_model.proofs.WorkedRuns.Rebuilding.{opens_all_free, no_bits, all_bits, rebuilt_by_bits}

-- a run of every form
pub safe_run : EveryRunFromReopening → EveryFitIsSafe → SafeRun
safe_run fits safe =
    let h : Happening = happening in
    record {
      run = happening;
      safe = safe h.key h.shares h.end.words (views_of h.end)
          (fits h.key h.words h.shares h.events h.end h.some_shares h.opening h.happens);
    }

-- A closing.

frame_0 : IsBlock one_child (block 0 0)
frame_0 = record { order = omega arith; aligned = refl; inside = omega arith }

frame_0_leaves : Leaves one_child (block 0 0 ∷ []) (block 0 0) []
frame_0_leaves = record {
  smalls = λ x. omega (arith, smalls_cons x (block 0 0) [], smalls_none x);
  wholes = λ c. omega (arith, wholes_cons c (block 0 0) [], wholes_none c);
  are_blocks = no_blocks;
}

frame_0_is_run : IsRun one_child 0 0 0
frame_0_is_run = record { inside = omega arith; small = omega arith; aligned = refl; fits = omega arith }

kept_allowed : AllAllowed one_child at_first takes_and_keeps
unfolding entry_place tree_place bits_place local_place word_count last_seen free_in flag_in entry_word lane_in
    lane_put lane_shift count_in counted more less without remains remainder is_apart is_inside covers
kept_allowed =
    (refl, refl, omega arith)
    ⟫ (refl, record { share = omega arith; may = can_pay _ 512 1 refl (omega arith); read = refl }, refl)
    ⟫ (refl, refl, omega arith)
    ⟫ (refl, record { share = omega arith; may = can_charge _ 512 1 refl refl refl (omega arith); read = refl }, refl)
    ⟫ (refl, refl, omega arith)
    ⟫ (
      refl,
      record {
        share = omega arith;
        may = record { is_run = frame_0_is_run; clear = refl; charged = omega arith; paid = omega arith };
        read = refl;
      },
      refl,
    )
    ⟫ (refl, record { share = omega arith; is_block = frame_0; leaves = frame_0_leaves; unfilled = λ e. absurd (omega arith) })
    ⟫ (
      refl,
      λ e. absurd (omega arith),
      refl,
      record { share = omega arith; out = refl; not_ground = refl; block = block 0 0; owns = refl },
    )
    ⟫ tt

abbrev kept_end : State
kept_end = reached one_child at_first takes_and_keeps

pub closes_with_one_kept : EveryRunFits → EveryRunFromSealed → EveryClosingAddsUp → EveryClosingHoldsTheKept → ClosesWithOneKept
unfolding entry_place tree_place bits_place local_place word_count last_seen free_in flag_in entry_word lane_in
    lane_put lane_shift count_in counted more less without remains remainder is_apart is_inside covers entry_of free_of
    tree_word_of tree_free_of local_word_of rest_of rest_in count_on resting_on
closes_with_one_kept fit runs counters held =
    let run : LeadsTo one_child at_first takes_and_keeps kept_end = run_of one_child at_first takes_and_keeps kept_allowed in
    let fits : Fits one_child 2 kept_end =
    fit one_child 2 at_first takes_and_keeps kept_end (runs one_child all_free 2 [] at_first (omega arith) opens_all_free refl) run in
    let idle : IsIdle (seat kept_end 0).view =
    record { share = omega arith; paid = refl; charged = refl; reserving = refl; own = refl } in
    let adds : AddsUp one_child kept_end.words = counters one_child 2 kept_end 0 (seat kept_end 0) fits refl idle refl in
    record {
      end = kept_end;
      run = run;
      closer = seat kept_end 0;
      seat = refl;
      is_idle = idle;
      all_shares = refl;
      nothing_lent = refl;
      adds_up = adds;
      holds = held one_child 2 kept_end 0 (seat kept_end 0) fits refl idle refl refl refl;
      child = refl;
      tree = refl;
      rebuilt = λ again r. (adds.same_entries again r 0 (omega arith), adds.same_trees again r 0 (omega arith));
    }

-- Stops.

abbrev first : ℕ → Moment
first shares = opening_moment one_child all_free shares

abbrev opens : ℕ → State
opens shares = opened all_free (idle one_child shares)

-- a run, and then a stop
goes : (shares : ℕ) (events : List Event) (again : List ℕ) → ArePlain events → (all : AllAllowed one_child (opens shares) events)
    → IsRebuilt (unsealed one_child) (reached one_child (opens shares) events).words again
    → Passes (first shares) (stop_at shares (reached one_child (opens shares) events) again)
goes shares events again plain all r =
    let end : State = reached one_child (opens shares) events in
    passes_by (first shares) (stop_at shares end again) events end plain (run_of one_child (opens shares) events all)
    (stops (record (first shares) { state = end }) (stop_at shares end again) again r (stays (stop_at shares end again)))

-- the moment just before that stop
goes_before : (shares : ℕ) (events : List Event) → ArePlain events → (all : AllAllowed one_child (opens shares) events)
    → Passes (first shares) (record (first shares) { state = reached one_child (opens shares) events })
goes_before shares events plain all =
    let end : State = reached one_child (opens shares) events in
    passes_by (first shares) (record (first shares) { state = end }) events end plain (run_of one_child (opens shares) events all)
    (stays (record (first shares) { state = end }))

survived_with : EveryStopIsSurvived → EveryStopIsExact → EveryMomentCanStop
    → (shares : ℕ) → 0 < shares → (events : List Event) (again : List ℕ) (known : List FrameBlock) (lost : ℕ)
    → ArePlain events → AllAllowed one_child (opens shares) events
    → IsRebuilt (unsealed one_child) (reached one_child (opens shares) events).words again
    → known_at (stop_at shares (reached one_child (opens shares) events) again) ≡ known
    → lost_frames (stop_at shares (reached one_child (opens shares) events) again) ≡ lost
    → StopIsSurvived shares events again known lost
survived_with survived exact can_stop shares some events again known lost plain all r who how_many =
    let end : State = reached one_child (opens shares) events in
    let gone : Passes (first shares) (stop_at shares end again) = goes shares events again plain all r in
    record {
      end = end;
      run = run_of one_child (opens shares) events all;
      rebuilt = r;
      passes = gone;
      exact = exact one_child all_free shares (record (first shares) { state = end }) again is_key some opens_all_free
          (goes_before shares events plain all) r;
      known_then = who;
      lost_then = how_many;
      survives = survived one_child all_free shares (stop_at shares end again) is_key some opens_all_free gone;
      stops_again = can_stop one_child all_free shares (stop_at shares end again) is_key some opens_all_free gone;
    }

claimed_plain : ArePlain claimed_one
claimed_plain = (tt, (tt, (tt, (tt, (tt, (tt, (tt, (tt, (tt, (tt, (tt, (tt, (tt, tt)))))))))))))

none_known : known_at (stop_at 1 (reached one_child before claimed_one) one_claimed) ≡ []
unfolding known_of range_blocks is_boot_frame is_in_range
none_known = refl

rebuilt_one : IsRebuilt (unsealed one_child) (reached one_child before claimed_one).words one_claimed
unfolding entry_place tree_place bits_place local_place word_count last_seen free_in flag_in entry_word lane_in
    lane_put lane_shift count_in counted more less
rebuilt_one =
    rebuilt_unsealed one_child _ _ (rebuilt_by_bits 384 384 0 448 full_word 0 0 0 0 0 0 0 (omega arith)
    (omega (arith, ones_zero, ones_full))
    all_bits no_bits no_bits no_bits no_bits no_bits no_bits no_bits)

lost_one : lost_frames (stop_at 1 (reached one_child before claimed_one) one_claimed) ≡ 64
unfolding known_of
lost_one = lost_set (reached one_child before claimed_one) one_claimed refl rebuilt_one.in_range 64 clear_64 set_64

pub loses_a_claim : EveryStopIsSurvived → EveryStopIsExact → EveryMomentCanStop → LosesAClaim
loses_a_claim survived exact can_stop =
    survived_with survived exact can_stop 1 (omega arith) claimed_one one_claimed [] 64 claimed_plain allowed rebuilt_one none_known lost_one

-- the same with a share for a stranger

none_known_of_two : known_at (stop_at 2 (reached one_child at_first claimed_one) one_claimed) ≡ []
unfolding known_of range_blocks is_boot_frame is_in_range
none_known_of_two = refl

rebuilt_of_two : IsRebuilt (unsealed one_child) (reached one_child at_first claimed_one).words one_claimed
unfolding entry_place tree_place bits_place local_place word_count last_seen free_in flag_in entry_word lane_in
    lane_put lane_shift count_in counted more less
rebuilt_of_two =
    rebuilt_unsealed one_child _ _ (rebuilt_by_bits 384 384 0 448 full_word 0 0 0 0 0 0 0 (omega arith)
    (omega (arith, ones_zero, ones_full))
    all_bits no_bits no_bits no_bits no_bits no_bits no_bits no_bits)

lost_of_two : lost_frames (stop_at 2 (reached one_child at_first claimed_one) one_claimed) ≡ 64
unfolding known_of
lost_of_two = lost_set (reached one_child at_first claimed_one) one_claimed refl rebuilt_of_two.in_range 64 clear_64 set_64

pub loses_a_claim_beside_a_stranger : EveryStopIsSurvived → EveryStopIsExact → EveryMomentCanStop → LosesAClaimBesideAStranger
loses_a_claim_beside_a_stranger survived exact can_stop =
    survived_with survived exact can_stop 2 (omega arith) claimed_one one_claimed [] 64 claimed_plain stop_after_one_claim_allowed
    rebuilt_of_two none_known_of_two lost_of_two

-- the two words of the block leave what is in flight
two_leave : Leaves one_child (claimed 0 2) (block 0 7) (without (block 0 7) (claimed 0 2))
two_leave =
    without_leaves one_child (block 0 7) (claimed 0 2) (record { order = omega arith; aligned = refl; inside = omega arith })
    (claimed_are_blocks 0 2 (omega arith))
    (record {
      smalls = λ low x e. omega (
        arith,
        smalls_cons x (block 64 6) (block 0 6 ∷ []),
        smalls_cons x (block 0 6) [],
        smalls_none x,
        two_words 0 x,
        small_covers x (block 0 7) low,
        e,
      );
      wholes = λ e. absurd (omega arith);
    })

handed_allowed : AllAllowed one_child before handed_out
unfolding entry_place tree_place bits_place local_place word_count last_seen free_in flag_in entry_word lane_in
    lane_put lane_shift count_in counted more less without remains remainder is_apart is_inside covers
handed_allowed =
    and_then one_child before claimed_one (claims_second ++ cuts 0 (hand_out (block 0 7) (without (block 0 7))) ∷ []) allowed (
    (refl, record { share = omega arith; may = can_claim _ 1 0 (omega arith) refl (omega arith) (omega arith); read = refl }, refl)
    ⟫ (
      refl,
      record {
        share = omega arith;
        is_block = record { order = omega arith; aligned = refl; inside = omega arith };
        leaves = two_leave;
        unfilled = λ e. absurd (omega arith);
      },
    )
    ⟫ tt
    )

handed_plain : ArePlain handed_out
handed_plain = (tt, (tt, (tt, (tt, (tt, (tt, (tt, (tt, (tt, (tt, (tt, (tt, (tt, (tt, (tt, tt)))))))))))))))

abbrev two_claimed : List ℕ
two_claimed = words_of_one 384 384 0 full_word full_word 0 0 0 0 0 0

rebuilt_two : IsRebuilt (unsealed one_child) (reached one_child before handed_out).words two_claimed
unfolding entry_place tree_place bits_place local_place word_count last_seen free_in flag_in entry_word lane_in
    lane_put lane_shift count_in counted more less
rebuilt_two =
    rebuilt_unsealed one_child _ _
    (rebuilt_by_bits 384 384 0 384 full_word full_word 0 0 0 0 0 0 (omega arith) (omega (arith, ones_zero, ones_full))
    all_bits all_bits no_bits no_bits no_bits no_bits no_bits no_bits)

block_known : known_at (stop_at 1 (reached one_child before handed_out) two_claimed) ≡ block 0 7 ∷ []
unfolding known_of range_blocks is_boot_frame is_in_range
block_known = refl

lost_none : lost_frames (stop_at 1 (reached one_child before handed_out) two_claimed) ≡ 0
unfolding is_lost known_of flying_of range_blocks is_boot_frame is_in_range holders covers blocks_with fixed_ground
    boot_blocks set_blocks huge_blocks bit_of huge_of entry_of bit_word_of entry_place bits_place tree_place
    local_place word_count free_in flag_in lane_in lane_put lane_shift entry_word count_in counted more less last_seen
lost_none = refl

pub loses_no_block : EveryStopIsSurvived → EveryStopIsExact → EveryMomentCanStop → LosesNoBlock
loses_no_block survived exact can_stop =
    survived_with survived exact can_stop 1 (omega arith) handed_out two_claimed (block 0 7 ∷ []) 0 handed_plain handed_allowed rebuilt_two block_known
    lost_none

pub rebuilds_to_exact : EveryRebuildingExists → EveryRebuildingIsExact → RebuildsToExact
rebuilds_to_exact exists exact ws r =
    let new : (new : List ℕ) × IsRebuilt one_child ws new = exists one_child ws r in
    (new.0, new.1, exact one_child ws new.0 r new.1)

ended_never : (shares cores n : ℕ) → n ≡ 0 → ended_shares shares cores n ≡ 0
unfolding ended_shares
ended_never shares cores n e = rw e refl

ended_once : (shares cores n : ℕ) → cores ≡ 1 → n ≡ 1 → ended_shares shares cores n ≡ shares + 0
unfolding ended_shares
ended_once shares cores n e f = rw (e, f) refl

ended_twice : (shares cores n : ℕ) → cores ≡ 4 → n ≡ 2 → ended_shares shares cores n ≡ shares + 4
unfolding ended_shares
ended_twice shares cores n e f = rw (e, f) refl

four_twice : (cores n : ℕ) → cores ≡ 4 → n ≡ 2 → 512 * cores * n ≡ 4096
four_twice cores n e f = rw (e, f) refl

pub loses_at_most_none : EveryStopIsSurvived → LosesAtMost 64 64 0 0
loses_at_most_none survived key ws m k o p cores now =
    let few = (survived key ws 64 m k (omega arith) o p).few_lost in omega (arith, few, ended_never 64 m.key.cores m.stops now)

pub loses_at_most_once : EveryStopIsSurvived → LosesAtMost 1 1 1 512
loses_at_most_once survived key ws m k o p cores now =
    let few = (survived key ws 1 m k (omega arith) o p).few_lost in omega (arith, few, ended_once 1 m.key.cores m.stops cores now)

-- four cores with their own shares, by what is said of memories without strangers
pub loses_at_most_twice : EveryStopLosesLittle → LosesAtMost 4 4 2 4096
loses_at_most_twice little key ws m k o p cores now =
    let few = little key ws 4 m k (omega arith) (omega (arith, cores, same_cores (opening_moment key ws 4) m p)) o p in
    omega (arith, few, four_twice m.key.cores m.stops cores now)

pub loses_at_most_beside_strangers : EveryStopIsSurvived → LosesAtMost 12 4 2 8192
loses_at_most_beside_strangers survived key ws m k o p cores now =
    let few = (survived key ws 12 m k (omega arith) o p).few_lost in omega (arith, few, ended_twice 12 m.key.cores m.stops cores now)

-- Forms.

abbrev number : Form → ℕ
number charging = 0
number refunding = 1
number claiming = 2
number releasing = 3
number taking_huge = 4
number giving_huge = 5
number paying_tree = 6
number refunding_tree = 7
number reserving_tree = 8
number swapping_local = 9
number unreserving_tree = 10
number paying_local = 11
number refunding_local = 12
number collecting = 13
number filling_word = 14
number dropping_flag = 15
number parting_share = 16
number handing_out = 17
number recalling = 18
number parting_ground = 19
number adopting = 20
number joining_idle = 21
number handing_in = 22
number keeping_in = 23
number loading = 24
number losing = 25
number losing_at_will = 26
number claiming_singles = 27

pub forms_are_apart : FormsAreApart
forms_are_apart = (number, refl)
