-- A frame of a block lies in a range, and the place of a block says which one it is.
use Rattle.std.proofs.Common.{◌≡◌, ℕ, ◌+◌, ◌*◌, ◌/◌, ◌^◌, ◌<◌, ◌≤◌, List, length, slice_index_or, true, inl, inr, refl, arith}
use Rattle.std.proofs.lemmas.Bool.Decides.{nat_tests}
use Rattle.std.proofs.lemmas.List.Folds.{list_any_at}
use Rattle.std.proofs.lemmas.Nat.{pow_pos}
use Rattle.frame_model.specs.Key.{is_in_range}
use Rattle.frame_slots.specs.SlotLists.{place_for, HasSlotFor, MeetsRanges, AccountsFor, HasSlotsBeside}
use Rattle.frame_slots.specs.declared.slots.SlotList.{SlotList}

in_one : (x : ℕ) (range : ℕ × ℕ) → range.0 ≤ x → x < range.0 + range.1 → is_in_range x range ≡ true
unfolding is_in_range
in_one x range from to = grind (arith, nat_tests)

-- where the frame lies in one of the ranges, the block meets it
pub meets : (ranges : List (ℕ × ℕ)) (frame order x k : ℕ) (d : ℕ × ℕ) → k < length ranges → frame ≤ x → x < frame + 2 ^ order
    → (slice_index_or ranges k d).0 ≤ x → x < (slice_index_or ranges k d).0 + (slice_index_or ranges k d).1
    → MeetsRanges ranges frame order
meets ranges frame order x k d within from to low high = record {
  held = x;
  from = from;
  to = to;
  in_range = list_any_at (is_in_range x) ranges k d within (in_one x (slice_index_or ranges k d) low high);
}

-- where each place is accounted for, each block beside the ranges has its slot
pub all_accounted : (frames : ℕ) (ranges : List (ℕ × ℕ)) (s : SlotList)
    → ((place : ℕ) → place < 2 * frames → AccountsFor frames ranges place s) → HasSlotsBeside frames ranges s
all_accounted frames ranges s all frame order few aligned inside apart =
    elim (all (place_for frame order) (omega (arith, inside, pow_pos order)) frame order few aligned refl inside)
    as (λ _. HasSlotFor frame order s) [
      | inl slot ↦ record { few = few; aligned = aligned; slot = slot }
      | inr meeting ↦ absurd (apart meeting)
    ]

-- a block has the frame at half its place
pub by_middle : (ranges : List (ℕ × ℕ)) (place frame order : ℕ) → place_for frame order ≡ place
    → MeetsRanges ranges (place / 2) 0 → MeetsRanges ranges frame order
by_middle ranges place frame order at one = record {
  held = one.held;
  from = omega (arith, at, one.from, pow_pos order);
  to = omega (arith, at, one.to, pow_pos order);
  in_range = one.in_range;
}
