-- Moves in all zones, as one sum.
use Rattle.std.proofs.Common.{◌≡◌, ℕ, suc, ◌+◌, ◌<◌, ◌≤◌, List, [], ◌∷◌, length, slice_index_or, slice_set, sym, subst, arith}
use Rattle.std.specs.List.{sum_by}
use Rattle.std.proofs.lemmas.List.Sums.{sum_by-set, sum_by-cons}
use Rattle.core_frames.specs.declared.shared.allocator.Allocator.{Allocator}
use Rattle.core_frames.specs.declared.shared.allocator.Core.{Core}
use Rattle.core_frames.specs.Cores.{moves_by}
use Rattle.frame_zones.specs.Zones.{zone_count, core_at, InEach, AreCoresOf}
use Rattle.frame_zones.specs.Uses.{MovesWithin, most_moves_in, moves_through, most_moves_among}
use Rattle.frame_zones.specs.declared.zones.Zones.{Zones}
use Rattle.frame_zones.specs.declared.zones.ZoneCore.{ZoneCore}

-- one zone's core was written, so the sum changed by what its own moves did
one_written : (c : ZoneCore) (l : List Core) (z : ℕ) (x y : Core) → z < length c.cores.items → x ≡ core_at c z x
    → l ≡ slice_set c.cores.items z y → sum_by moves_by l + moves_by x ≡ moves_through c + moves_by y
one_written c l z x y within x-is is =
    subst (λ (m : List Core). sum_by moves_by m + moves_by x ≡ moves_through c + moves_by y) (sym is)
    (subst (λ (e : Core). sum_by moves_by (slice_set c.cores.items z y) + moves_by e ≡ moves_through c + moves_by y) (sym x-is)
    (sum_by-set moves_by c.cores.items z y x within))

pub at_most_more : (n : ℕ) (zs : Zones) (c : ZoneCore) (l : List Core) (z : ℕ) (x y : Core) → AreCoresOf zs c
    → z < zone_count zs → x ≡ core_at c z x → l ≡ slice_set c.cores.items z y → moves_by y ≤ moves_by x + n
    → sum_by moves_by l ≤ moves_through c + n
at_most_more n zs c l z x y are within x-is is few =
    omega (arith, one_written c l z x y (subst (λ k. z < k) (sym are.parts.count) within) x-is is, few)

pub just_more : (n : ℕ) (zs : Zones) (c : ZoneCore) (l : List Core) (z : ℕ) (x y : Core) → AreCoresOf zs c
    → z < zone_count zs → x ≡ core_at c z x → l ≡ slice_set c.cores.items z y → moves_by y ≡ moves_by x + n
    → sum_by moves_by l ≡ moves_through c + n
just_more n zs c l z x y are within x-is is few =
    omega (arith, one_written c l z x y (subst (λ k. z < k) (sym are.parts.count) within) x-is is, few)

-- what holds place by place holds of the sums
sums_within : (zones : List Allocator) (xs ys : List Core) → length xs ≡ length zones → length ys ≡ length zones
    → ((z : ℕ) (a : Allocator) (x : Core) → z < length zones
    → MovesWithin (slice_index_or zones z a) (slice_index_or xs z x) (slice_index_or ys z x))
    → sum_by moves_by ys ≤ sum_by moves_by xs + sum_by most_moves_in zones
sums_within [] [] [] xs-count ys-count each = omega arith
sums_within [] [] (y ∷ ys) xs-count ys-count each = absurd (omega (arith, ys-count))
sums_within [] (x ∷ xs) ys xs-count ys-count each = absurd (omega (arith, xs-count))
sums_within (a ∷ zones) [] ys xs-count ys-count each = absurd (omega (arith, xs-count))
sums_within (a ∷ zones) (x ∷ xs) [] xs-count ys-count each = absurd (omega (arith, ys-count))
sums_within (a ∷ zones) (x ∷ xs) (y ∷ ys) xs-count ys-count each =
    let here : moves_by y ≤ moves_by x + most_moves_in a = each 0 a x (omega arith) in
    let there : sum_by moves_by ys ≤ sum_by moves_by xs + sum_by most_moves_in zones =
    sums_within zones xs ys (omega (arith, xs-count)) (omega (arith, ys-count)) (λ z b e within. each (suc z) b e (omega (arith, within))) in
    omega (arith, sum_by-cons moves_by x xs, sum_by-cons moves_by y ys, sum_by-cons most_moves_in a zones, here, there)

pub within_all : (zs : Zones) (c d : ZoneCore) → AreCoresOf zs c → AreCoresOf zs d → InEach zs MovesWithin c d
    → moves_through d ≤ moves_through c + most_moves_among zs
within_all zs c d was are each =
    sums_within zs.zones.items c.cores.items d.cores.items was.parts.count are.parts.count each
