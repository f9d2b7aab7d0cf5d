-- A look over the zones, one after another, and what they count together.
use Rattle.std.proofs.Common.{◌≡◌, ℕ, suc, ◌+◌, ◌*◌, ◌/◌, ◌^◌, ◌<◌, ◌≤◌, List, [], ◌∷◌, length, slice_index_or}
use Rattle.std.proofs.Common.{refl, sym, ◌∙◌, ap, subst, arith, inl, inr}
use Rattle.std.specs.List.{sum_by, range_with_len}
use Rattle.std.specs.Vec.{with_item}
use Rattle.std.proofs.lemmas.Bool.{cases_lt}
use Rattle.std.proofs.lemmas.List.Sums.{sum_by-cons}
use Rattle.frame_words.specs.Geometry.{child_frames}
use Rattle.frame_model.specs.declared.key.Key.{Key}
use Rattle.frame_model.specs.declared.view.View.{View}
use Rattle.low_frames.specs.Alone.{FindsOf}
use Rattle.core_frames.proofs.PlainSums.{range_cons, range_same, range_parts}
use Rattle.core_frames.specs.declared.shared.allocator.Allocator.{Allocator}
use Rattle.core_frames.specs.declared.shared.allocator.Core.{Core}
use Rattle.core_frames.specs.Cores.{memory_of, moves_by, known_by, StepsAlone}
use Rattle.frame_zones.specs.FreeCounts.{free_frames_in, free_huge_in, entry_words_in, HasReadEntries, ReadsIn, IsCountIn, IsExactIn, MovesForEntries}
use Rattle.frame_zones.specs.FreeCounts.{frames_among, entry_words_among}
use Rattle.frame_zones.specs.Uses.{moves_through}
use Rattle.frame_zones.specs.Zones.{zone_count, zone_at, core_at, AreCoresOf, StayCoresOf}
use Rattle.frame_zones.specs.declared.zones.Zones.{Zones}
use Rattle.frame_zones.specs.declared.zones.ZoneCore.{ZoneCore}
use Rattle.frame_zones.proofs.Placing.{at_any_zone, at_that_zone}
use Rattle.frame_zones.proofs.Sums.{just_more}
use Rattle.frame_zones.proofs.Rounds.{stay_on, one_step, some_zone, some_core}

-- the zones below one were looked over, the others, and where takes begin, were left alone, and so much was counted
pub record Counted (count : Allocator → Core → ℕ) (zs : Zones) (z n : ℕ) (c d : ZoneCore) : Type 0 where
  pub stay : StayCoresOf zs c d
  pub seen : (k : ℕ) (a : Allocator) (x : Core) → k < z → k < zone_count zs
      → HasReadEntries (zone_at zs k a) (core_at c k x) (core_at d k x)
  pub unseen : (k : ℕ) (x : Core) → k < zone_count zs → z ≤ k → core_at d k x ≡ core_at c k x
  pub same_stays : d.stays ≡ c.stays
  pub sum : (a : Allocator) (x : Core)
      → n ≡ sum_by (λ k. count (zone_at zs k a) (core_at d k x)) (range_with_len 0 z)
  pub small : n ≤ 2 ^ 32 * z

-- what is counted of a zone's core once it was read and written is counted in that zone
pub counted_here : (count : Allocator → Core → ℕ) (zs : Zones) (c : ZoneCore) (z n : ℕ) (b : Allocator) (x y : Core)
    → AreCoresOf zs c → z < zone_count zs → b ≡ zone_at zs z b → x ≡ core_at c z x → n ≡ count b y
    → IsCountIn count zs z (record c { cores = with_item c.cores z y }) n
counted_here count zs c z n b x y are within b-is x-is counted = λ a other.
    at_any_zone (λ e _ w. n ≡ count e w) zs c (record c { cores = with_item c.cores z y }) z b a x y other
    within are.parts.count b-is x-is refl counted

-- the moves of that zone are those of all
pub entries_here : (zs : Zones) (c : ZoneCore) (z : ℕ) (b : Allocator) (x y : Core) → AreCoresOf zs c
    → z < zone_count zs → b ≡ zone_at zs z b → x ≡ core_at c z x → HasReadEntries b x y
    → MovesForEntries zs z c (record c { cores = with_item c.cores z y })
entries_here zs c z b x y are within b-is x-is read = λ a.
    at_that_zone (λ e. moves_through (record c { cores = with_item c.cores z y }) ≡ moves_through c + entry_words_in e)
    zs z b a within b-is
    (just_more (entry_words_in b) zs c (with_item c.cores z y).items z x y are within x-is refl (ap (λ (v : View). v.moves) read))

-- what the words of that zone count where nobody else steps is counted there
pub exact_here : (count : Key → List ℕ → ℕ) (zs : Zones) (c : ZoneCore) (z n : ℕ) (b : Allocator) (x y : Core)
    → AreCoresOf zs c → z < zone_count zs → b ≡ zone_at zs z b → x ≡ core_at c z x
    → (StepsAlone b x → FindsOf (λ words. n ≡ count (memory_of b) words) (known_by x) (known_by y))
    → IsExactIn count zs z c (record c { cores = with_item c.cores z y }) n
exact_here count zs c z n b x y are within b-is x-is exact = λ a other.
    at_any_zone (λ e u w. StepsAlone e u → FindsOf (λ words. n ≡ count (memory_of e) words) (known_by u) (known_by w))
    zs c (record c { cores = with_item c.cores z y }) z b a x y other within are.parts.count b-is x-is refl exact

-- a sum with its last term
last_term : (f : ℕ → ℕ) (z : ℕ)
    → sum_by f (range_with_len 0 (z + 1)) ≡ sum_by f (range_with_len 0 z) + f z
last_term f z =
    let place : 0 + z ≡ z = omega arith in
    let one : sum_by f (range_with_len z 1) ≡ f z = range_cons f z 0 ∙ omega arith in
    omega (arith, range_parts f 0 z 1, ap (λ k. sum_by f (range_with_len k 1)) place, one)

-- one zone more was looked over
pub one_counted : (count : Allocator → Core → ℕ) (zs : Zones) (z n m : ℕ) (c d e : ZoneCore)
    → z < zone_count zs → Counted count zs z n c d → StayCoresOf zs d e → ReadsIn zs z d e
    → IsCountIn count zs z e m → m < 2 ^ 32 → Counted count zs (z + 1) (n + m) c e
one_counted count zs z n m c d e within was stays step is few =
    let alone : (x : Core) → core_at d z x ≡ core_at c z x = λ x. was.unseen z x within (omega arith) in
    record {
      stay = stay_on zs c d e was.stay stays;
      seen = λ k a x below k-within. one_step HasReadEntries zs z c d e alone step.others step.here k a x k-within
          (λ other. was.seen k a x (omega (arith, below, other)) k-within);
      unseen = λ k x k-within above.
          step.others k x k-within (λ same. omega (arith, same, above)) ∙ was.unseen k x k-within (omega (arith, above));
      same_stays = step.same_stays ∙ was.same_stays;
      sum = λ a x.
          let before : ℕ → ℕ = λ k. count (zone_at zs k a) (core_at d k x) in
          let after : ℕ → ℕ = λ k. count (zone_at zs k a) (core_at e k x) in
          let same = range_same before after 0 z
          (λ k l h. ap (count (zone_at zs k a)) (step.others k x (omega (arith, h, within)) (λ is. omega (arith, is, h)))) in
          omega (arith, was.sum a x, same, last_term after z, is a x);
      small = omega (arith, was.small, few);
    }

-- what holds place by place holds of the sums
sums_within : (h : ℕ → ℕ) (most : Allocator → ℕ) (a : Allocator) (k : ℕ) (zones : List Allocator)
    → ((z : ℕ) → z < length zones → h (k + z) ≤ most (slice_index_or zones z a))
    → sum_by h (range_with_len k (length zones)) ≤ sum_by most zones
sums_within h most a k [] each = omega arith
sums_within h most a k (b ∷ zones) each =
    let start : k + 0 ≡ k = omega arith in
    let here : h (k + 0) ≤ most b = each 0 (omega arith) in
    let there = sums_within h most a (k + 1) zones
    (λ z within.
    let place : k + suc z ≡ k + 1 + z = omega arith in
    subst (λ i. h i ≤ most (slice_index_or zones z a)) place (each (suc z) (omega (arith, within)))) in
    omega (arith, range_cons h k (length zones), sum_by-cons most b zones, here, ap h start, there)

-- all zones were looked over
counted_all : (count : Allocator → Core → ℕ) (zs : Zones) (z n : ℕ) (c d : ZoneCore) → z ≡ zone_count zs
    → Counted count zs z n c d → Counted count zs (zone_count zs) n c d
counted_all count zs z n c d end all = subst (λ k. Counted count zs k n c d) end all

-- no more is counted than there may be
few_counted : (count : Allocator → Core → ℕ) (most : Allocator → ℕ) (zs : Zones) (n : ℕ) (c d : ZoneCore)
    → Counted count zs (zone_count zs) n c d → ((a : Allocator) (x : Core) → count a x ≤ most a)
    → n ≤ sum_by most zs.zones.items
few_counted count most zs n c d all each =
    elim (cases_lt 0 (zone_count zs)) as (λ _. n ≤ sum_by most zs.zones.items) [
      | inl some ↦
          let a : Allocator = some_zone zs 0 some in
          let x : Core = some_core d 0 (subst (λ k. 0 < k) (sym all.stay.are_cores.parts.count) some) in
          omega (
            arith,
            all.sum a x,
            sums_within (λ z. count (zone_at zs z a) (core_at d z x)) most a 0 zs.zones.items
                (λ z within.
                let place : z ≡ 0 + z = omega arith in
                subst (λ i. count (zone_at zs i a) (core_at d i x) ≤ most (zone_at zs z a)) place
                (each (zone_at zs z a) (core_at d z x))),
          )
      | inr none ↦ omega (arith, none, all.small)
    ]

pub few_frames : (zs : Zones) (z n : ℕ) (c d : ZoneCore) → z ≡ zone_count zs → Counted free_frames_in zs z n c d
    → n ≤ frames_among zs
few_frames zs z n c d end all =
    few_counted free_frames_in (λ a. (memory_of a).frames) zs n c d (counted_all free_frames_in zs z n c d end all)
    (λ a x. omega arith)

-- children that are whole have no more frames than there are
whole_frames : (zones : List Allocator)
    → child_frames * sum_by (λ a. (memory_of a).frames / child_frames) zones ≤ sum_by (λ a. (memory_of a).frames) zones
whole_frames [] = omega arith
whole_frames (a ∷ zones) =
    omega (
      arith,
      sum_by-cons (λ b. (memory_of b).frames / child_frames) a zones,
      sum_by-cons (λ b. (memory_of b).frames) a zones,
      whole_frames zones,
    )

pub few_huge : (zs : Zones) (z n : ℕ) (c d : ZoneCore) → z ≡ zone_count zs → Counted free_huge_in zs z n c d
    → child_frames * n ≤ frames_among zs
few_huge zs z n c d end all =
    omega (
      arith,
      few_counted free_huge_in (λ a. (memory_of a).frames / child_frames) zs n c d
          (counted_all free_huge_in zs z n c d end all) (λ a x. omega arith),
      whole_frames zs.zones.items,
    )

-- the moves in all zones, as one sum
moves_more : (zones : List Allocator) (xs ys : List Core) → length xs ≡ length zones → length ys ≡ length zones
    → ((z : ℕ) (a : Allocator) (x : Core) → z < length zones
    → HasReadEntries (slice_index_or zones z a) (slice_index_or xs z x) (slice_index_or ys z x))
    → sum_by moves_by ys ≡ sum_by moves_by xs + sum_by entry_words_in zones
moves_more [] [] [] xs-count ys-count each = refl
moves_more [] [] (y ∷ ys) xs-count ys-count each = absurd (omega (arith, ys-count))
moves_more [] (x ∷ xs) ys xs-count ys-count each = absurd (omega (arith, xs-count))
moves_more (a ∷ zones) [] ys xs-count ys-count each = absurd (omega (arith, xs-count))
moves_more (a ∷ zones) (x ∷ xs) [] xs-count ys-count each = absurd (omega (arith, ys-count))
moves_more (a ∷ zones) (x ∷ xs) (y ∷ ys) xs-count ys-count each =
    let here : moves_by y ≡ moves_by x + entry_words_in a = ap (λ (v : View). v.moves) (each 0 a x (omega arith)) in
    let there : sum_by moves_by ys ≡ sum_by moves_by xs + sum_by entry_words_in zones =
    moves_more zones xs ys (omega (arith, xs-count)) (omega (arith, ys-count)) (λ z b e within. each (suc z) b e (omega (arith, within))) in
    omega (arith, sum_by-cons moves_by x xs, sum_by-cons moves_by y ys, sum_by-cons entry_words_in a zones, here, there)

pub all_moves : (count : Allocator → Core → ℕ) (zs : Zones) (z n : ℕ) (c d : ZoneCore) → z ≡ zone_count zs
    → AreCoresOf zs c → Counted count zs z n c d → moves_through d ≡ moves_through c + entry_words_among zs
all_moves count zs z n c d end are all =
    moves_more zs.zones.items c.cores.items d.cores.items are.parts.count all.stay.are_cores.parts.count
    (λ k a x within. all.seen k a x (subst (λ i. k < i) (sym end) within) within)
