-- Looks at a block, and for a run of huge frames.
use Rattle.std.proofs.Common.{◌≡◌, ⊎_elim, ℕ, suc, ◌+◌, ◌-◌, ◌*◌, ◌/◌, ◌%◌, ◌^◌, ◌<◌, ◌≤◌, List, [], ◌∷◌, length, slice_index_or, Option, None, Some, refl, ap, sym}
use Rattle.std.proofs.Common.{subst, ◌∙◌, arith, inl, inr}
use Rattle.std.specs.Prelude.{true, false}
use Rattle.std.specs.List.{sum_by}
use Rattle.std.proofs.lemmas.List.Sums.{sum_by-cons}
use Rattle.std.proofs.lemmas.Bool.{cases_eq, cases_lt, cases_order}
use Rattle.std.proofs.lemmas.Nat.{pow_below, column_fits, mod-mul-add}
use Rattle.std.proofs.Math.Nat.{pow-suc}
use Rattle.frame_model.specs.declared.key.Key.{Key}
use Rattle.frame_model.specs.declared.view.View.{View}
use Rattle.frame_model.specs.Block.{block}
use Rattle.frame_table.specs.Ties.{table_sizes}
use Rattle.low_frames.specs.Alone.{IsFreeIn, FindsOf}
use Rattle.low_frames.proofs.AloneLemmas.{if_known, then_found}
use Rattle.core_frames.specs.declared.shared.allocator.Allocator.{Allocator}
use Rattle.core_frames.specs.declared.shared.allocator.Core.{Core}
use Rattle.core_frames.specs.Cores.{memory_of, view_in, known_by, moves_by, StepsAlone, IsCoreOf, StaysCoreOf}
use Rattle.core_frames.specs.Looks.{TellsTruly, TellsFree, IsSameWithin}
use Rattle.core_frames.specs.Places.{HasSuchBlock}
use Rattle.frame_zones.specs.Looks.{AreFreeHuge, MayBeginRun, IsRunStep, HasNoFreeFrom, HasNoFreeBefore, HasLookedAtChildren, HasNoFreeRun}
use Rattle.frame_zones.specs.Looks.{HasNoFreeRunBefore, LooksForRunIn, LooksForRun, most_in_run, children_among}
use Rattle.frame_zones.specs.Uses.{moves_through}
use Rattle.frame_zones.specs.Zones.{zone_count, zone_at, core_at, first_frame_of, InEach, AreCoresOf, StayCoresOf}
use Rattle.frame_zones.specs.declared.zones.ZoneCore.{ZoneCore}
use Rattle.frame_zones.specs.declared.zones.Zones.{Zones}
use Rattle.frame_zones.proofs.Rounds.{stay_on, one_step, some_zone, some_core}

-- Multiples.

-- two multiples are a step apart
pub a_step_apart : (s x f : ℕ) → 0 < s → x % s ≡ 0 → f % s ≡ 0 → x < f → x + s ≤ f
a_step_apart s x f some x-is f-is less =
    let p : ℕ = x / s in
    let q : ℕ = f / s in
    let x-at : s * p ≡ x = omega (arith, some, x-is) in
    let f-at : s * q ≡ f = omega (arith, some, f-is) in
    elim (cases_order p q) as (λ _. x + s ≤ f) [
      | inl same ↦ absurd (omega (arith, x-at, f-at, ap (λ n. s * n) same, less))
      | inr other ↦ elim other as (λ _. x + s ≤ f) [
        | inl below ↦ omega (arith, x-at, f-at, column_fits s p s q below (omega arith))
        | inr above ↦ absurd (omega (arith, x-at, f-at, column_fits s q s p above (omega arith), less))
      ]
    ]

-- between one multiple and the next there is no other
pub the_same : (s x f : ℕ) → 0 < s → x % s ≡ 0 → f % s ≡ 0 → f ≤ x → x < f + s → x ≡ f
the_same s x f some x-is f-is from below =
    elim (cases_order x f) as (λ _. x ≡ f) [
      | inl same ↦ same
      | inr other ↦ elim other as (λ _. x ≡ f) [
        | inl less ↦ absurd (omega (arith, less, from))
        | inr more ↦ absurd (omega (arith, a_step_apart s f x some f-is x-is more, below))
      ]
    ]

-- a product is a multiple
pub times_is : (s q n : ℕ) → 0 < s → n ≡ q * s → n % s ≡ 0
times_is s q n some e = ap (λ k. k % s) (e ∙ omega arith) ∙ mod-mul-add q s 0 some

-- the next multiple
pub next_is : (s f : ℕ) → 0 < s → f % s ≡ 0 → (f + s) % s ≡ 0
next_is s f some f-is = times_is s (f / s + 1) (f + s) some (grind (arith, some, f-is))

-- what is left below a number is a multiple
pub low_is : (s g : ℕ) → 0 < s → (g - g % s) % s ≡ 0
low_is s g some = times_is s (g / s) (g - g % s) some (grind (arith, some))

-- a multiple of 512 times a number is one of 512
pub whole_child : (p f : ℕ) → 0 < p → f % (512 * p) ≡ 0 → f % 512 ≡ 0
whole_child p f some e =
    let s : ℕ = 512 * p in
    let q : ℕ = f / s in
    let at : s * q ≡ f = omega (arith, some, e) in
    times_is 512 (p * q) f (omega arith) (sym at ∙ grind arith)

-- Powers of two.

-- a number is rounded up to one power of two alone
pub one_power : (count a b : ℕ) → count ≤ 2 ^ a → 2 ^ a < 2 * count → count ≤ 2 ^ b → 2 ^ b < 2 * count → a ≡ b
one_power count a b al ah bl bh =
    elim (cases_order a b) as (λ _. a ≡ b) [
      | inl same ↦ same
      | inr other ↦ elim other as (λ _. a ≡ b) [
        | inl below ↦ absurd (omega (arith, twice a b below, al, bh))
        | inr above ↦ absurd (omega (arith, twice b a above, bl, ah))
      ]
    ]
  where
    twice : (i j : ℕ) → i < j → 2 * 2 ^ i ≤ 2 ^ j
    twice i j less =
        let up : 2 ^ suc i ≤ 2 ^ j = pow_rises (suc i) j (omega (arith, less)) in
        omega (arith, pow-suc 2 i, up)
      where
        pow_rises : (i j : ℕ) → i ≤ j → 2 ^ i ≤ 2 ^ j
        pow_rises i j h =
            elim (cases_lt i j) as (λ _. 2 ^ i ≤ 2 ^ j) [
              | inl less ↦ omega (arith, pow_below i j less)
              | inr past ↦ let same : i ≡ j = omega (arith, h, past) in omega (arith, ap (λ k. 2 ^ k) same)
            ]

-- a run may begin at multiples of its step, and nowhere else
pub begins_at_step : (count step x : ℕ) → IsRunStep count step → MayBeginRun count x → x % step ≡ 0
begins_at_step count step x s b =
    let same : b.order ≡ s.order = one_power count b.order s.order b.enough b.least s.enough s.least in
    subst (λ n. x % n ≡ 0) (sym s.is) (subst (λ o. x % (512 * 2 ^ o) ≡ 0) same b.aligned)

pub may_begin : (count step x : ℕ) → IsRunStep count step → x % step ≡ 0 → MayBeginRun count x
may_begin count step x s at = record {
  order = s.order;
  enough = s.enough;
  least = s.least;
  aligned = subst (λ n. x % n ≡ 0) s.is at;
}

-- Cores.

pub same_both : (a b : ℕ) (u v w : View) → IsSameWithin a u v → IsSameWithin b v w → IsSameWithin (a + b) u w
same_both a b u v w x y =
    let sum : u.moves + x.0 + y.0 ≡ u.moves + (x.0 + y.0) = omega arith in (
      x.0 + y.0,
      (
        omega (arith, x.1.0, y.1.0),
        y.1.1 ∙ ap (λ (z : View). record z { moves = z.moves + y.0 }) x.1.1 ∙ ap (λ m. record u { moves = m }) sum,
      ),
    )

pub same_none : (n : ℕ) (v : View) → IsSameWithin n v v
same_none n v = let sum : v.moves ≡ v.moves + 0 = omega arith in (0, (omega arith, ap (λ m. record v { moves = m }) sum))

pub same_more : (a b : ℕ) (v w : View) → a ≤ b → IsSameWithin a v w → IsSameWithin b v w
same_more a b v w h x = (x.0, (omega (arith, x.1.0, h), x.1.1))

pub stays_itself : (a : Allocator) (x : Core) → IsCoreOf a x → StaysCoreOf a x x
stays_itself a x is = record { is_core = is; same_number = refl; stays_alone = λ h. h }

pub stays_both : (a : Allocator) (x y z : Core) → StaysCoreOf a x y → StaysCoreOf a y z → StaysCoreOf a x z
stays_both a x y z one two = record {
  is_core = two.is_core;
  same_number = two.same_number ∙ one.same_number;
  stays_alone = λ h. two.stays_alone (one.stays_alone h);
}

-- what is known stays known
pub found_still : (P : List ℕ → Type 0) (o : Option (List ℕ)) → ((ws : List ℕ) → P ws) → FindsOf P o o
found_still P None all = tt
found_still P (Some ws) all = (refl, all ws)

pub found_as : (P Q : List ℕ → Type 0) (old new : Option (List ℕ)) → ((ws : List ℕ) → P ws → Q ws) → FindsOf P old new → FindsOf Q old new
found_as P Q old new to found =
    if_known old (λ ws. (new ≡ Some ws) × P ws) (λ ws. (new ≡ Some ws) × Q ws) found (λ ws e h. (h.0, to ws h.1))

-- Huge frames, one after another.

-- the memory has each huge frame of the run
pub has_huge : (key : Key) (local count i : ℕ) → local % 512 ≡ 0 → local + 512 * count ≤ key.frames → i < count
    → HasSuchBlock key (block (local + 512 * i) 9)
has_huge key local count i al inside h = record {
  order = omega arith;
  aligned = omega (arith, al);
  inside = omega (arith, inside, h);
}

-- one more is free
pub free_more : (key : Key) (local i : ℕ) (old mid new : Option (List ℕ)) → FindsOf (AreFreeHuge key local i) old mid
    → FindsOf (TellsFree key (block (local + 512 * i) 9) true) mid new → FindsOf (AreFreeHuge key local (i + 1)) old new
free_more key local i old mid new before here =
    then_found (AreFreeHuge key local i) (TellsFree key (block (local + 512 * i) 9) true) (AreFreeHuge key local (i + 1)) old mid new
    (λ ws were is j h.
    ⊎_elim
    (λ (low : j < i). were j low)
    (λ high. let same : i ≡ j = omega (arith, high, h) in subst (λ k. IsFreeIn key ws (block (local + 512 * k) 9)) same is.1)
    (cases_lt j i))
    before here

-- one is not
pub not_all_free : (key : Key) (local i count : ℕ) (old mid new : Option (List ℕ)) → HasSuchBlock key (block (local + 512 * i) 9) → i < count
    → FindsOf (AreFreeHuge key local i) old mid → FindsOf (TellsFree key (block (local + 512 * i) 9) false) mid new
    → FindsOf (TellsTruly (AreFreeHuge key local count) false) old new
not_all_free key local i count old mid new has h before here =
    then_found (AreFreeHuge key local i) (TellsFree key (block (local + 512 * i) 9) false) (TellsTruly (AreFreeHuge key local count) false)
    old mid new (λ ws were not all. not (has, all i h)) before here

-- all are
pub all_free : (key : Key) (local i count : ℕ) (old new : Option (List ℕ)) → count ≤ i → FindsOf (AreFreeHuge key local i) old new
    → FindsOf (TellsTruly (AreFreeHuge key local count) true) old new
all_free key local i count old new h found =
    found_as (AreFreeHuge key local i) (TellsTruly (AreFreeHuge key local count) true) old new (λ ws all j low. all j (omega (arith, low, h))) found

-- Runs of one memory.

-- none begins below the first multiple
pub none_before : (first count from low to step : ℕ) (key : Key) (ws : List ℕ) → 0 < step → IsRunStep count step → first ≤ low
    → ((x : ℕ) → first ≤ x → from ≤ x → low ≤ x) → to % step ≡ 0 → to < low + step → HasNoFreeBefore first count from to key ws
none_before first count from low to step key ws some s at least is next x local lies behind below free =
    let there : low ≤ x = least x (omega (arith, lies.sum)) behind in
    omega (arith, a_step_apart step x to some (begins_at_step count step x s lies.begins) is below, next, there)

-- one more was looked at
pub none_more : (first count from to step local : ℕ) (key : Key) (old mid new : Option (List ℕ)) → 0 < step → IsRunStep count step
    → to % step ≡ 0 → first + local ≡ to → FindsOf (HasNoFreeBefore first count from to key) old mid
    → FindsOf (TellsTruly (AreFreeHuge key local count) false) mid new
    → FindsOf (HasNoFreeBefore first count from (to + step) key) old new
none_more first count from to step local key old mid new some s is at before here =
    then_found (HasNoFreeBefore first count from to key) (TellsTruly (AreFreeHuge key local count) false)
    (HasNoFreeBefore first count from (to + step) key) old mid new
    (λ ws none not x other lies behind below.
    ⊎_elim
    (λ (low : x < to). none x other lies behind low)
    (λ high free.
    let same : x ≡ to = the_same step x to some (begins_at_step count step x s lies.begins) is high below in
    let there : other ≡ local = omega (arith, lies.sum, at, same) in
    not (subst (λ l. AreFreeHuge key l count ws) there free))
    (cases_lt x to))
    before here

-- none lies behind
pub none_of_all : (first count from to : ℕ) (key : Key) (old new : Option (List ℕ)) → first + key.frames < to + 512 * count
    → FindsOf (HasNoFreeBefore first count from to key) old new → FindsOf (HasNoFreeFrom first count from key) old new
none_of_all first count from to key old new past found =
    found_as (HasNoFreeBefore first count from to key) (HasNoFreeFrom first count from key) old new
    (λ ws none x local lies behind. none x local lies behind (omega (arith, lies.inside, lies.sum, past))) found

-- Zones, one after another.

-- the zones below one were looked over and have no free run, and the others were left alone
pub record Searched (zs : Zones) (count from z : ℕ) (c d : ZoneCore) : Type 0 where
  pub stay : StayCoresOf zs c d
  pub same_stays : d.stays ≡ c.stays
  pub seen : (k : ℕ) (a : Allocator) (y : Core) → k < z → k < zone_count zs
      → HasLookedAtChildren (zone_at zs k a) (core_at c k y) (core_at d k y)
  pub none : (k : ℕ) (a : Allocator) (y : Core) → k < z → k < zone_count zs → StepsAlone (zone_at zs k a) (core_at c k y)
      → FindsOf (HasNoFreeRun zs count from k (memory_of (zone_at zs k a))) (known_by (core_at c k y)) (known_by (core_at d k y))
  pub unseen : (k : ℕ) (y : Core) → k < zone_count zs → z ≤ k → core_at d k y ≡ core_at c k y

looked_itself : (a : Allocator) (y : Core) → HasLookedAtChildren a y y
looked_itself a y = record { view = same_none (memory_of a).children (view_in y); same_habit = refl }

pub none_searched : (zs : Zones) (count from : ℕ) (c : ZoneCore) → AreCoresOf zs c → Searched zs count from 0 c c
none_searched zs count from c are = record {
  stay = record { are_cores = are; same_home = refl; same_numbers = λ z a x h. refl };
  same_stays = refl;
  seen = λ k a y below. absurd (omega (arith, below));
  none = λ k a y below. absurd (omega (arith, below));
  unseen = λ k y h from. refl;
}

-- no run of that memory is none of the zone's
no_run_of : (zs : Zones) (count from z : ℕ) (a : Allocator) (old new : Option (List ℕ))
    → FindsOf (HasNoFreeFrom (first_frame_of zs z) count from (memory_of (zone_at zs z a))) old new
    → FindsOf (HasNoFreeRun zs count from z (memory_of (zone_at zs z a))) old new
no_run_of zs count from z a old new found =
    found_as (HasNoFreeFrom (first_frame_of zs z) count from (memory_of (zone_at zs z a)))
    (HasNoFreeRun zs count from z (memory_of (zone_at zs z a))) old new
    (λ ws none x local is. none x local (record { begins = is.begins; sum = is.is_there.sum; inside = is.inside a })) found

-- one zone more has none
pub search_on : (zs : Zones) (count from z : ℕ) (c d e : ZoneCore) → z < zone_count zs → Searched zs count from z c d
    → StayCoresOf zs d e → LooksForRunIn zs z count from None d e → Searched zs count from (z + 1) c e
search_on zs count from z c d e within was stays step =
    let same : (y : Core) → core_at d z y ≡ core_at c z y = λ y. was.unseen z y within (omega arith) in
    record {
      stay = stay_on zs c d e was.stay stays;
      same_stays = step.same_stays ∙ was.same_stays;
      seen = λ k a y below k-within. one_step HasLookedAtChildren zs z c d e same step.others (λ b x. (step.here b x).looked) k a y k-within
          (λ other. was.seen k a y (omega (arith, below, other)) k-within);
      none = λ k a y below k-within.
          elim (cases_eq k z) as (λ _. StepsAlone (zone_at zs k a) (core_at c k y)
          → FindsOf (HasNoFreeRun zs count from k (memory_of (zone_at zs k a))) (known_by (core_at c k y)) (known_by (core_at e k y))) [
            | inl at ↦
                subst (λ i. StepsAlone (zone_at zs i a) (core_at c i y)
                → FindsOf (HasNoFreeRun zs count from i (memory_of (zone_at zs i a))) (known_by (core_at c i y)) (known_by (core_at e i y)))
                (sym at)
                (subst (λ (x : Core). StepsAlone (zone_at zs z a) x
                → FindsOf (HasNoFreeRun zs count from z (memory_of (zone_at zs z a))) (known_by x) (known_by (core_at e z y)))
                (same y)
                (λ h. no_run_of zs count from z a (known_by (core_at d z y)) (known_by (core_at e z y)) ((step.here a y).none h)))
            | inr other ↦
                subst (λ (x : Core). StepsAlone (zone_at zs k a) (core_at c k y)
                → FindsOf (HasNoFreeRun zs count from k (memory_of (zone_at zs k a))) (known_by (core_at c k y)) (known_by x))
                (sym (step.others k y k-within other)) (was.none k a y (omega (arith, below, other)) k-within)
          ];
      unseen = λ k y k-within above.
          step.others k y k-within (λ at. omega (arith, at, above)) ∙ was.unseen k y k-within (omega (arith, above));
    }

-- none of that memory before another one is none of the zone's
no_run_before : (zs : Zones) (count from to z : ℕ) (a : Allocator) (old new : Option (List ℕ))
    → FindsOf (HasNoFreeBefore (first_frame_of zs z) count from to (memory_of (zone_at zs z a))) old new
    → FindsOf (HasNoFreeRunBefore zs count from to z (memory_of (zone_at zs z a))) old new
no_run_before zs count from to z a old new found =
    found_as (HasNoFreeBefore (first_frame_of zs z) count from to (memory_of (zone_at zs z a)))
    (HasNoFreeRunBefore zs count from to z (memory_of (zone_at zs z a))) old new
    (λ ws none x local is. none x local (record { begins = is.begins; sum = is.is_there.sum; inside = is.inside a })) found

-- where the found run is the first one of its zone, it is that of all
lowest_there : (zs : Zones) (count from z x : ℕ) (c d e : ZoneCore) → z < zone_count zs
    → Searched zs count from z c d → LooksForRunIn zs z count from (Some x) d e
    → (k : ℕ) (a : Allocator) (y : Core) → k < zone_count zs → StepsAlone (zone_at zs k a) (core_at c k y)
    → FindsOf (HasNoFreeRunBefore zs count from x k (memory_of (zone_at zs k a))) (known_by (core_at c k y)) (known_by (core_at e k y))
lowest_there zs count from z x c d e within was step k a y k-within =
    elim (cases_order k z) as (λ _. StepsAlone (zone_at zs k a) (core_at c k y)
    → FindsOf (HasNoFreeRunBefore zs count from x k (memory_of (zone_at zs k a))) (known_by (core_at c k y)) (known_by (core_at e k y))) [
      | inl at ↦
          subst (λ i. StepsAlone (zone_at zs i a) (core_at c i y)
          → FindsOf (HasNoFreeRunBefore zs count from x i (memory_of (zone_at zs i a))) (known_by (core_at c i y)) (known_by (core_at e i y)))
          (sym at)
          (subst (λ (u : Core). StepsAlone (zone_at zs z a) u
          → FindsOf (HasNoFreeRunBefore zs count from x z (memory_of (zone_at zs z a))) (known_by u) (known_by (core_at e z y)))
          (was.unseen z y within (omega arith))
          (λ h. no_run_before zs count from x z a (known_by (core_at d z y)) (known_by (core_at e z y)) ((step.here a y).some.lowest h)))
      | inr other ↦ elim other as (λ _. StepsAlone (zone_at zs k a) (core_at c k y)
          → FindsOf (HasNoFreeRunBefore zs count from x k (memory_of (zone_at zs k a))) (known_by (core_at c k y)) (known_by (core_at e k y))) [
            | inl below ↦
                subst (λ (u : Core). StepsAlone (zone_at zs k a) (core_at c k y)
                → FindsOf (HasNoFreeRunBefore zs count from x k (memory_of (zone_at zs k a))) (known_by (core_at c k y)) (known_by u))
                (sym (step.others k y k-within (λ at. omega (arith, at, below))))
                (λ h. found_as (HasNoFreeRun zs count from k (memory_of (zone_at zs k a)))
                (HasNoFreeRunBefore zs count from x k (memory_of (zone_at zs k a))) (known_by (core_at c k y)) (known_by (core_at d k y))
                (λ ws none w local is behind less. none w local is behind) (was.none k a y below k-within h))
            | inr above ↦
                let same : core_at e k y ≡ core_at c k y =
                step.others k y k-within (λ at. omega (arith, at, above)) ∙ was.unseen k y k-within (omega (arith, above)) in
                subst (λ (u : Core). StepsAlone (zone_at zs k a) (core_at c k y)
                → FindsOf (HasNoFreeRunBefore zs count from x k (memory_of (zone_at zs k a))) (known_by (core_at c k y)) (known_by u)) (sym same)
                (λ h. found_still (HasNoFreeRunBefore zs count from x k (memory_of (zone_at zs k a))) (known_by (core_at c k y))
                (λ ws w local is behind less.
                let lies = (step.here a y).some.lies in
                absurd (omega (
                  arith,
                  is.is_there.sum,
                  less,
                  lies.sum,
                  lies.inside,
                  (table_sizes (zone_at zs z a).table).inside,
                  zs.laid_out.ascend z k a above k-within,
                ))))
          ]
    ]

-- a run was found in the next zone
pub found_there : (zs : Zones) (count from z x : ℕ) (c d e : ZoneCore) → 1 ≤ count → count ≤ most_in_run → z < zone_count zs
    → Searched zs count from z c d → LooksForRunIn zs z count from (Some x) d e → LooksForRun zs count from (Some x) c e
found_there zs count from z x c d e some few within was step =
    let same : (y : Core) → core_at d z y ≡ core_at c z y = λ y. was.unseen z y within (omega arith) in
    let b : Allocator = some_zone zs z within in
    let w : Core = some_core d z (subst (λ k. z < k) (sym was.stay.are_cores.parts.count) within) in
    let one = (step.here b w).some in
    let local : ℕ = one.local in
    let lies : (a : Allocator) (y : Core) → (step.here a y).some.local ≡ local =
    λ a y. omega (arith, (step.here a y).some.lies.sum, one.lies.sum) in
    let inside : (a : Allocator) → local + 512 * count ≤ (memory_of (zone_at zs z a)).frames =
    λ a. omega (arith, (step.here a w).some.lies.inside, lies a w) in
    record {
      each = λ k a y k-within. one_step HasLookedAtChildren zs z c d e same step.others (λ a' y'. (step.here a' y').looked) k a y k-within
          (λ other. elim (cases_lt k z) as (λ _. HasLookedAtChildren (zone_at zs k a) (core_at c k y) (core_at d k y)) [
            | inl below ↦ was.seen k a y below k-within
            | inr above ↦ subst (λ (u : Core). HasLookedAtChildren (zone_at zs k a) (core_at c k y) u)
                (sym (was.unseen k y k-within above)) (looked_itself (zone_at zs k a) (core_at c k y))
          ]);
      same_stays = step.same_stays ∙ was.same_stays;
      some = record {
        zone = z;
        local = local;
        is_run = record {
          some = some;
          few = few;
          begins = one.lies.begins;
          is_there = record { zone = within; sum = one.lies.sum; inside = λ a. omega (arith, inside a, some) };
          inside = inside;
        };
        behind = one.behind;
        alone = λ a y.
            subst (λ (u : Core). StepsAlone (zone_at zs z a) u
            → FindsOf (AreFreeHuge (memory_of (zone_at zs z a)) local count) (known_by u) (known_by (core_at e z y))) (same y)
            (λ h. subst (λ l. FindsOf (AreFreeHuge (memory_of (zone_at zs z a)) l count) (known_by (core_at d z y)) (known_by (core_at e z y)))
            (lies a y) ((step.here a y).some.alone h));
        lowest = lowest_there zs count from z x c d e within was step;
      };
      none = tt;
    }

-- no zone has one
pub searched_all : (zs : Zones) (count from z : ℕ) (c d : ZoneCore) → zone_count zs ≤ z → Searched zs count from z c d
    → LooksForRun zs count from None c d
searched_all zs count from z c d end was = record {
  each = λ k a y within. was.seen k a y (omega (arith, end, within)) within;
  same_stays = was.same_stays;
  some = tt;
  none = λ k a y within. was.none k a y (omega (arith, end, within)) within;
}

-- there are no runs of so few or so many
pub no_such_run : (zs : Zones) (count from : ℕ) (c : ZoneCore) → ((1 ≤ count) → count ≤ most_in_run → ⊥)
    → LooksForRun zs count from None c c
no_such_run zs count from c no_run = record {
  each = λ k a y within. looked_itself (zone_at zs k a) (core_at c k y);
  same_stays = refl;
  some = tt;
  none = λ k a y within h.
      found_still (HasNoFreeRun zs count from k (memory_of (zone_at zs k a))) (known_by (core_at c k y))
      (λ ws x local is. absurd (no_run is.some is.few));
}

-- the moves in all zones, as one sum
sums_of_children : (zones : List Allocator) (xs ys : List Core) → length xs ≡ length zones → length ys ≡ length zones
    → ((z : ℕ) (a : Allocator) (x : Core) → z < length zones
    → HasLookedAtChildren (slice_index_or zones z a) (slice_index_or xs z x) (slice_index_or ys z x))
    → sum_by moves_by ys ≤ sum_by moves_by xs + sum_by (λ a. (memory_of a).children) zones
sums_of_children [] [] [] xs-count ys-count each = omega arith
sums_of_children [] [] (y ∷ ys) xs-count ys-count each = absurd (omega (arith, ys-count))
sums_of_children [] (x ∷ xs) ys xs-count ys-count each = absurd (omega (arith, xs-count))
sums_of_children (a ∷ zones) [] ys xs-count ys-count each = absurd (omega (arith, xs-count))
sums_of_children (a ∷ zones) (x ∷ xs) [] xs-count ys-count each = absurd (omega (arith, ys-count))
sums_of_children (a ∷ zones) (x ∷ xs) (y ∷ ys) xs-count ys-count each =
    let same = (each 0 a x (omega arith)).view in
    let here : moves_by y ≤ moves_by x + (memory_of a).children = omega (arith, same.1.0, ap (λ (v : View). v.moves) same.1.1) in
    let there : sum_by moves_by ys ≤ sum_by moves_by xs + sum_by (λ b. (memory_of b).children) zones =
    sums_of_children zones xs ys (omega (arith, xs-count)) (omega (arith, ys-count))
    (λ z b e within. each (suc z) b e (omega (arith, within))) in
    omega (
      arith,
      sum_by-cons moves_by x xs,
      sum_by-cons moves_by y ys,
      sum_by-cons (λ (b : Allocator). (memory_of b).children) a zones,
      here,
      there,
    )

pub few_moves : (zs : Zones) (c d : ZoneCore) → AreCoresOf zs c → AreCoresOf zs d → InEach zs HasLookedAtChildren c d
    → moves_through d ≤ moves_through c + children_among zs
few_moves zs c d was are each =
    sums_of_children zs.zones.items c.cores.items d.cores.items was.parts.count are.parts.count each
