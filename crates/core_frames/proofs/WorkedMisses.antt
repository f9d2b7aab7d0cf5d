-- What searches of worked words miss, by the law on searches, and the numbers, computed.
use Rattle.std.proofs.Common.{◌≡◌, ◌≢◌, ⊎_elim, inl, inr, ℕ, zero, suc, ◌+◌, ◌-◌, ◌*◌, ◌/◌, ◌%◌, ◌^◌, ◌<◌, ◌≤◌, List, [], ◌∷◌, ◌++◌, Some, refl, ap, sym, subst, ◌∙◌, arith}
use Rattle.std.specs.List.{sum_by, range_with_len}
use Rattle.std.proofs.lemmas.List.Elements.{All-cons, All-nil}
use Rattle.frame_words.specs.Words.{entry_word, free_in, flag_in, lane_in, lane_put, lane_shift, rest_in, local_word}
use Rattle.frame_words.specs.Geometry.{tree_frames}
use Rattle.frame_model.specs.declared.block.FrameBlock.{FrameBlock}
use Rattle.frame_model.specs.declared.key.Key.{Key}
use Rattle.frame_model.specs.declared.view.View.{View}
use Rattle.frame_model.specs.Block.{block}
use Rattle.frame_model.specs.Words.{entry_place, tree_place, local_place, bits_place, word_count, entry_of, free_of, huge_of, bit_word_of, bit_of}
use Rattle.frame_model.specs.Words.{rest_of, local_word_of, reserved_of, tree_word_of, tree_free_of}
use Rattle.frame_model.specs.View.{count_in, counted, idle, is_at, charged_in, paid_on, reserves, fixed_ground}
use Rattle.frame_model.specs.Fit.{total}
use Rattle.frame_model.specs.Report.{held_at, held_within}
use Rattle.frame_model.specs.Steps.Amounts.{more, less}
use Rattle.frame_model.specs.Seats.{hand_out}
use Rattle.frame_model.specs.Without.{without}
use Rattle.frame_model.specs.Events.{State, Event, loads, cuts, LeadsTo, views_of}
use Rattle.frame_model.specs.Openings.{EveryRunFromSealed}
use Rattle.frame_model.specs.WorkedRuns.{one_child, all_free, at_first, both_charge, both_claim, claim_is_lost, claims_word, releases_word, still_huge}
use Rattle.frame_model.specs.WorkedProgress.{with_a_rest}
use Rattle.frame_model.specs.WorkedReports.{nine_children}
use Rattle.frame_model.proofs.Sums.{range_at}
use Rattle.frame_model.proofs.ComputedRuns.{leads, reached, AllAllowed, run_of}
use Rattle.frame_model.proofs.WorkedRuns.Rebuilding.{opens_all_free}
use Rattle.frame_model.proofs.WorkedRuns.Takes.{wide_allowed}
use Rattle.frame_core.specs.Moves.{IsAtRest}
use Rattle.low_frames.specs.Alone.{IsFreeIn, HasNoneIn}
use Rattle.low_frames.proofs.ViewLemmas.{is_covered, covered_from}
use Rattle.core_frames.specs.Search.{IsBlockOf}
use Rattle.core_frames.specs.Alone.{IsPassedBy, NothingRests}
use Rattle.core_frames.specs.Missed.{WasLookedAt, WasSearched, IsWithheld, MissesTheWithheld}
use Rattle.core_frames.specs.WorkedMisses.{MissesAHugeFrame, every_other, AreSearched, LooksAtAHugeFrame, FindsAHugeFrame}
use Rattle.core_frames.specs.WorkedMisses.{ReservingWithholds, PayingWithholds, ChargingWithholds, AllRestAtFirst}

-- Two seats that have charged.

-- what a list of events asks for its front asks for
front_allowed : (key : Key) (s : State) (events others : List Event) → AllAllowed key s (events ++ others) → AllAllowed key s events
front_allowed key s [] others all = tt
front_allowed key s (event ∷ events) others all = (all.0, front_allowed key (leads key s event) events others all.1)

abbrev end_then : State
end_then = reached one_child at_first both_charge

-- what seat 0 does in the rest of its take
abbrev rest_of_take : List Event
rest_of_take = loads 0 33 ∷ releases_word 0 0 ∷ claims_word 0 2 ∷ claims_word 0 3
    ∷ cuts 0 (hand_out (block 128 7) (without (block 128 7))) ∷ []

charges : LeadsTo one_child at_first both_charge end_then
charges = run_of one_child at_first both_charge
    (front_allowed one_child at_first both_charge (both_claim ++ claim_is_lost ∷ rest_of_take) wide_allowed)

huge_is_block : IsBlockOf one_child 9 (block 0 9)
huge_is_block = record {
  is_block = record { order = omega arith; aligned = refl; inside = omega arith };
  has_order = refl;
}

none_rest : NothingRests one_child end_then.words
unfolding entry_place tree_place bits_place local_place word_count free_in flag_in entry_word lane_in lane_put lane_shift
    count_in counted more less rest_of local_word_of rest_in
none_rest zero h = refl
none_rest (suc k) h = absurd (omega (arith, h))

few_in_tree : tree_free_of one_child end_then.words 0 ≡ 383
unfolding entry_place tree_place bits_place local_place word_count free_in flag_in entry_word lane_in lane_put lane_shift
    count_in counted more less tree_free_of tree_word_of
few_in_tree = refl

few_in_child : free_of end_then.words 0 ≡ 383
unfolding entry_place tree_place bits_place local_place word_count free_in flag_in entry_word lane_in lane_put lane_shift
    count_in counted more less free_of entry_of
few_in_child = refl

none_held_then : held_within one_child end_then.words 0 512 ≡ 0
unfolding entry_place tree_place bits_place local_place word_count free_in flag_in entry_word lane_in lane_put lane_shift
    count_in counted more less held_within held_at bit_of bit_word_of huge_of entry_of
none_held_then = refl

paid_then : total one_child (paid_on 0) (views_of end_then) ≡ 129
unfolding entry_place tree_place bits_place local_place word_count free_in flag_in entry_word lane_in lane_put lane_shift
    count_in counted more less total fixed_ground
paid_then = refl

charged_then : total one_child (charged_in 0) (views_of end_then) ≡ 129
unfolding entry_place tree_place bits_place local_place word_count free_in flag_in entry_word lane_in lane_put lane_shift
    count_in counted more less total fixed_ground
charged_then = refl

reserving_then : total one_child (reserves 0) (views_of end_then) ≡ 0
unfolding entry_place tree_place bits_place local_place word_count free_in flag_in entry_word lane_in lane_put lane_shift
    count_in counted more less total fixed_ground is_at
reserving_then = refl

-- a term of a sum that is 0 is 0
none_of : (term sum : ℕ) → term ≤ sum → sum ≡ 0 → term ≡ 0
none_of term sum few none = omega (arith, few, none)

-- where no frame of one child is held, its huge frame is free
huge_is_free : (ws : List ℕ) → held_within one_child ws 0 512 ≡ 0 → IsFreeIn one_child ws (block 0 9)
unfolding held_within
huge_is_free ws none x covered =
    let inside : x < 0 + 2 ^ 9 = (covered_from (block 0 9) x covered).1 in
    none_of (held_at one_child ws x) (sum_by (held_at one_child ws) (range_with_len 0 512))
    (range_at (held_at one_child ws) 0 512 x (omega arith) (omega (arith, inside))) none

pub misses_a_huge_frame : EveryRunFromSealed → MissesTheWithheld → MissesAHugeFrame
misses_a_huge_frame fits misses =
    let few : tree_free_of one_child end_then.words 0 < 512 = omega (arith, few_in_tree) in
    let passed : IsPassedBy one_child 0 512 tree_frames end_then.words = inr (inl few) in
    let free = huge_is_free end_then.words none_held_then in
    record {
      end = end_then;
      run = charges;
      nothing_rests = none_rest;
      passed = passed;
      looked = inr (inl (omega (arith, few_in_child)));
      is_block = huge_is_block;
      is_free = free;
      withheld = misses one_child 2 end_then.words (views_of end_then) 9
          (fits one_child all_free 2 both_charge end_then (omega arith) opens_all_free charges)
          none_rest (searched passed) (block 0 9) huge_is_block free;
      paid = paid_then;
      charged = charged_then;
      reserving = reserving_then;
    }
  where
    searched : IsPassedBy one_child 0 512 tree_frames end_then.words → (tree : ℕ) → tree < 1
        → WasSearched one_child 9 end_then.words tree
    searched passed zero h = inl passed
    searched passed (suc tree) h = absurd (omega (arith, h))

-- Words that were searched, and such as were not.

reserved_there : reserved_of one_child with_a_rest 0 ≡ 1
unfolding tree_place entry_place reserved_of tree_word_of flag_in entry_word local_word
reserved_there = refl

-- 1 where the first frame of a pair is free
clear_first : ℕ → ℕ
clear_first i = 1 - held_at one_child every_other (2 * i)

none_clear : sum_by clear_first (range_with_len 0 256) ≡ 0
unfolding clear_first held_at bit_of bit_word_of bits_place huge_of entry_of entry_place flag_in lane_in lane_shift
none_clear = refl

-- no first frame of a pair is free
first_is_held : (half : ℕ) → half < 256 → held_at one_child every_other (2 * half) ≢ 0
unfolding clear_first
first_is_held half h clear =
    let none : clear_first half ≡ 0 =
    none_of (clear_first half) (sum_by clear_first (range_with_len 0 256)) (range_at clear_first 0 256 half (omega arith) h) none_clear in
    one_less (held_at one_child every_other (2 * half)) none clear
  where
    one_less : (n : ℕ) → 1 - n ≡ 0 → n ≢ 0
    one_less n none e = omega (arith, none, e)

no_pair : HasNoneIn one_child 0 1 every_other
no_pair b is free =
    let two : 2 ^ b.order ≡ 2 = ap (λ n. 2 ^ n) is.has_order in
    let aligned : b.frame % 2 ≡ 0 = subst (λ n. b.frame % n ≡ 0) two is.is_block.aligned in
    let inside : b.frame + 2 ≤ 512 = subst (λ n. b.frame + n ≤ 512) two is.is_block.inside in
    let even : b.frame ≡ 2 * (b.frame / 2) = halved b.frame aligned in
    first_is_held (b.frame / 2) (few b.frame inside)
    (ap (held_at one_child every_other) (sym even) ∙ free b.frame (is_covered b b.frame (least b.frame) (more b.frame (2 ^ b.order) two)))
  where
    halved : (n : ℕ) → n % 2 ≡ 0 → n ≡ 2 * (n / 2)
    halved n e = omega (arith, e)

    few : (n : ℕ) → n + 2 ≤ 512 → n / 2 < 256
    few n h = omega (arith, h)

    least : (n : ℕ) → n ≤ n
    least n = omega arith

    more : (n m : ℕ) → m ≡ 2 → n < n + m
    more n m e = omega (arith, e)

pub are_searched : AreSearched
are_searched = (inl (inl (omega (arith, reserved_there))), inr each)
  where
    each : (child : ℕ) → child < 1 → child / 8 ≡ 0 → WasLookedAt one_child 1 every_other child
    each zero h e = inr (inr no_pair)
    each (suc child) h e = absurd (omega (arith, h))

flag_there : huge_of still_huge 0 ≡ 1
unfolding huge_of entry_of entry_place flag_in lane_in lane_shift
flag_there = refl

pub looks_at_a_huge_frame : LooksAtAHugeFrame
looks_at_a_huge_frame = inl (omega (arith, flag_there))

none_held_first : held_within one_child all_free 0 512 ≡ 0
unfolding held_within held_at bit_of bit_word_of bits_place huge_of entry_of entry_place flag_in lane_in lane_shift
none_held_first = refl

no_flag_first : reserved_of one_child all_free 0 ≡ 0
unfolding tree_place entry_place reserved_of tree_word_of flag_in
no_flag_first = refl

all_in_tree : tree_free_of one_child all_free 0 ≡ 512
unfolding tree_place entry_place tree_free_of tree_word_of free_in
all_in_tree = refl

not_huge_first : huge_of all_free 0 ≡ 0
unfolding huge_of entry_of entry_place flag_in lane_in lane_shift
not_huge_first = refl

all_in_child : free_of all_free 0 ≡ 512
unfolding free_of entry_of entry_place free_in lane_in lane_shift
all_in_child = refl

pub finds_a_huge_frame : FindsAHugeFrame
finds_a_huge_frame searched =
    ⊎_elim
    (λ passed.
    ⊎_elim
    (λ (flag : 0 < _). omega (arith, flag, no_flag_first))
    (λ counts. ⊎_elim (λ few. omega (arith, few, all_in_tree)) (λ many. omega (arith, many, all_in_tree)) counts)
    passed)
    (λ looked.
    ⊎_elim
    (λ (huge : 0 < _). omega (arith, huge, not_huge_first))
    (λ rest.
    ⊎_elim
    (λ few. omega (arith, few, all_in_child))
    (λ none. none (block 0 9)
    (record { is_block = huge_is_block.is_block; has_order = refl; in_child = refl })
    (huge_is_free all_free none_held_first))
    rest)
    (looked 0 (omega arith) refl))
    searched

-- One view each.

abbrev reserving_second : List View
reserving_second = record (idle nine_children 1) { reserving = Some 1 } ∷ []

abbrev paying_second : List View
paying_second = record (idle nine_children 1) { paid = counted 1 1 } ∷ []

abbrev charging_last : List View
charging_last = record (idle nine_children 1) { charged = counted 7 1 } ∷ []

-- what a view reserves and pays of a tree, and charges of a child
record Parts (views : List View) (tree child reserved paid charged : ℕ) : Type 0 where
  reserving : total nine_children (reserves tree) views ≡ reserved
  paying : total nine_children (paid_on tree) views ≡ paid
  charging : total nine_children (charged_in child) views ≡ charged

reserving_there : total nine_children (reserves 1) reserving_second ≡ 1
unfolding total fixed_ground is_at
reserving_there = refl

reserving_else : Parts reserving_second 0 7 0 0 0
unfolding total fixed_ground is_at count_in counted
reserving_else = record { reserving = refl; paying = refl; charging = refl }

paying_there : total nine_children (paid_on 1) paying_second ≡ 1
unfolding total fixed_ground count_in counted
paying_there = refl

paying_else : Parts paying_second 0 7 0 0 0
unfolding total fixed_ground is_at count_in counted
paying_else = record { reserving = refl; paying = refl; charging = refl }

charging_there : total nine_children (charged_in 7) charging_last ≡ 1
unfolding total fixed_ground count_in counted
charging_there = refl

charging_else : Parts charging_last 0 6 0 0 0
unfolding total fixed_ground is_at count_in counted
charging_else = record { reserving = refl; paying = refl; charging = refl }

-- who has no part of a block does not withhold it
not_withheld : (views : List View) (b : FrameBlock) (tree child : ℕ) → b.frame / 4096 ≡ tree → b.frame / 512 ≡ child
    → Parts views tree child 0 0 0 → ¬ IsWithheld nine_children views b
not_withheld views b tree child t c none withheld =
    ⊎_elim
    (λ (reserving : 0 < _). omega (arith, reserving, none.reserving, ap (λ n. total nine_children (reserves n) views) t))
    (λ rest.
    ⊎_elim
    (λ (paying : 0 < _). omega (arith, paying, none.paying, ap (λ n. total nine_children (paid_on n) views) t))
    (λ (charging : 0 < _). omega (arith, charging, none.charging, ap (λ n. total nine_children (charged_in n) views) c))
    rest)
    withheld

pub reserving_withholds : ReservingWithholds
reserving_withholds = (
  inl (omega (arith, reserving_there)),
  not_withheld reserving_second (block 3584 9) 0 7 refl refl reserving_else,
)

pub paying_withholds : PayingWithholds
paying_withholds = (
  inr (inl (omega (arith, paying_there))),
  not_withheld paying_second (block 3584 9) 0 7 refl refl paying_else,
)

pub charging_withholds : ChargingWithholds
charging_withholds = (
  inr (inr (omega (arith, charging_there))),
  not_withheld charging_last (block 3072 9) 0 6 refl refl charging_else,
)

pub all_rest_at_first : AllRestAtFirst
all_rest_at_first =
    All-cons IsAtRest (idle one_child 2) []
    (λ share. record { share = share; paid = refl; charged = refl; reserving = refl; own = refl })
    (All-nil IsAtRest)
