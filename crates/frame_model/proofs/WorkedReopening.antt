-- A reopening, an adoption and a stop.
use Rattle.std.proofs.Common.{◌≡◌, ⊎_elim, ℕ, ◌/◌, ◌%◌, ◌<◌, ◌≤◌, [], ◌∷◌, refl, ap, sym, ◌∙◌, arith}
use Rattle.std.specs.Int.{bit_at}
use Rattle.std.proofs.lemmas.Bool.Decides.{nat_tests}
use Rattle.std.proofs.lemmas.Bool.{cases_lt}
use Rattle.std.proofs.lemmas.List.Elements.{All-cons, All-nil}
use Rattle.frame_model.specs.Key.{AreRanges, is_in_range, is_boot_frame, IsKey}
use Rattle.frame_model.specs.Block.{block, IsBlock, covers}
use Rattle.frame_model.specs.Words.{bits_place, bit_word_of, bit_of}
use Rattle.frame_model.specs.Holding.{holders}
use Rattle.frame_model.specs.Laws.{blocks_with}
use Rattle.frame_model.specs.Openings.{held_blocks, IsReopening}
use Rattle.frame_model.specs.Stops.{Moment, Steps, Passes, stays, steps, stops, stopped, known_of, flying_of, known_at, is_lost}
use Rattle.frame_model.specs.Stops.{lost_frames, range_blocks, AreHeldIn, EveryGroundPartsOff, EveryReopeningIsSurvived}
use Rattle.frame_model.specs.WorkedRuns.{one_child, full_word}
use Rattle.frame_model.specs.WorkedStops.{two_held, adopts_half}
use Rattle.frame_model.specs.WorkedReopening.{one_again, reopens, ReopenAdoptStop}
use Rattle.frame_model.proofs.ComputedRuns.{seat, leads}
use Rattle.frame_model.proofs.HeldBack.{rebuilt_unsealed}
use Rattle.frame_model.proofs.Opening.{held_are_blocks, held_smalls}
use Rattle.frame_model.proofs.Safe.{holders_are}
use Rattle.frame_model.proofs.Sets.{bit_at_full}
use Rattle.frame_model.proofs.Steps.Shared.{bit_is}
use Rattle.frame_model.proofs.WorkedStops.{once, twice, held_again, lost_once, lost_twice, holders_one, forgets_half, half_is_adopted}

key_again : IsKey one_again
unfolding AreRanges
key_again = record {
  sizes = record {
    some_children = omega arith;
    few_children = omega arith;
    some_cores = omega arith;
    few_cores = omega arith;
    last_child = omega arith;
    inside = omega arith;
  };
  ranges = tt;
  few_ranges = omega arith;
  unsealed = λ e. refl;
}

is_reopening : IsReopening one_again two_held
is_reopening = record {
  unsealed = refl;
  exact = rebuilt_unsealed one_child two_held two_held held_again;
  past_end = λ x past h. absurd (omega (arith, past, h));
}

first_word : bit_word_of one_again two_held 0 ≡ full_word
unfolding bit_word_of bits_place
first_word = refl

is_set : (x : ℕ) → x < 64 → bit_of one_again two_held x ≡ 1
is_set x h =
    let first : 0 ≡ x / 64 = omega arith in
    bit_is one_again two_held x (x / 64) refl
    ∙ ap (λ n. bit_at n (x % 64)) (ap (bit_word_of one_again two_held) (sym first) ∙ first_word)
    ∙ bit_at_full (x % 64) (omega arith)

lower_word : (x : ℕ) → holders x (block 0 6 ∷ []) ≤ 1
unfolding covers
lower_word x = let one = holders_one x (block 0 6) in grind (arith, nat_tests, one)

none_above : (x : ℕ) → 64 ≤ x → holders x (block 0 6 ∷ []) ≡ 0
unfolding covers
none_above x h = let one = holders_one x (block 0 6) in grind (arith, nat_tests, one)

is_held : (x : ℕ) → holders x (block 0 6 ∷ []) ≤ holders x (held_blocks one_again two_held)
is_held x =
    ⊎_elim
    (λ below. omega (
      arith,
      lower_word x,
      is_set x below,
      held_smalls one_again two_held x (omega arith),
      holders_are one_again x (held_blocks one_again two_held) (held_are_blocks one_again two_held),
    ))
    (λ above. omega (arith, none_above x above))
    (cases_lt x 64)

are_held : AreHeldIn one_again two_held (block 0 6 ∷ [])
are_held = record {
  are_blocks = All-cons (IsBlock one_again) (block 0 6) [] (record { order = omega arith; aligned = refl; inside = omega arith })
      (All-nil (IsBlock one_again));
  held = is_held;
  inside = λ x past. none_above x (omega (arith, past));
}

known_first : known_at reopens ≡ block 0 6 ∷ []
unfolding known_of
known_first = refl

-- the ground holds what it holds after a stop, and as much is known
same_lost_first : lost_frames reopens ≡ lost_frames once
unfolding is_lost known_of flying_of blocks_with range_blocks is_boot_frame is_in_range
same_lost_first = refl

lost_first : lost_frames reopens ≡ 64
lost_first = same_lost_first ∙ lost_once

abbrev adopted : Moment
adopted = record reopens { state = leads one_again reopens.state adopts_half; remembered = block 32 5 ∷ [] }

half_adopts : Steps adopts_half reopens adopted
half_adopts = record {
  key = refl;
  shares = refl;
  happens = (seat reopens.state 1, refl, half_is_adopted, refl);
  remembers = forgets_half;
  abandoned = refl;
  stops = refl;
}

known_between : known_at adopted ≡ block 0 5 ∷ block 32 5 ∷ []
unfolding known_of
known_between = refl

abbrev last : Moment
last = stopped adopted two_held

remembered_then : last.remembered ≡ block 0 5 ∷ block 32 5 ∷ []
unfolding known_of range_blocks is_boot_frame is_in_range
remembered_then = refl

known_then : known_at last ≡ block 0 5 ∷ block 32 5 ∷ []
unfolding known_of range_blocks is_boot_frame is_in_range
known_then = refl

same_lost_then : lost_frames last ≡ lost_frames twice
unfolding is_lost known_of flying_of blocks_with range_blocks is_boot_frame is_in_range
same_lost_then = refl

lost_then : lost_frames last ≡ 64
lost_then = same_lost_then ∙ lost_twice

passes : Passes reopens last
passes =
    steps reopens adopted last adopts_half half_adopts
    (stops adopted last two_held (rebuilt_unsealed one_child two_held two_held held_again) (stays last))

pub reopen_adopt_stop : EveryGroundPartsOff → EveryReopeningIsSurvived → ReopenAdoptStop
reopen_adopt_stop parts survived = record {
  is_key = key_again;
  reopening = is_reopening;
  remembers = are_held;
  parts_off = (reopens.state, parts one_again two_held 1 (omega arith), refl);
  known_first = known_first;
  lost_first = lost_first;
  adopted = adopted;
  adopts = half_adopts;
  remembered = refl;
  known_between = known_between;
  passes = passes;
  once = refl;
  remembered_then = remembered_then;
  known = known_then;
  lost = lost_then;
  stays = survived one_again two_held 1 (block 0 6 ∷ []) last key_again (omega arith) is_reopening are_held passes;
}
