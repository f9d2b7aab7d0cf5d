use Rattle.std.proofs.Common.{ℕ, ◌<◌, ◌≤◌}
use Rattle.zone_slots.specs.Layouts.{stretch_at, end_of, LiesInOne}
use Rattle.zone_slots.proofs.cuts.are_inside.Given as goal

abbrev pub invariant-loop-first : goal.invariant-loop-first
invariant-loop-first l =
    let i = l.first-index in
    record {
      below : (k : ℕ) → k < i → end_of (stretch_at l.zones k) ≤ l.from;
      inside : (x : ℕ) → x < l.from → LiesInOne x l.ranges → LiesInOne x l.zones;
    }
