-- A round over the zones, one after another, each of them once.
use Rattle.std.proofs.Common.{◌≡◌, ℕ, ◌<◌, ◌≤◌, Bool, true, false, ◌||◌, Result, Ok, Err, refl, sym, ◌∙◌, ap, subst, arith, inl, inr, ◌⊎◌, List, [], ◌∷◌, length}
use Rattle.std.proofs.lemmas.Bool.{cases_eq, or_cases, true≢false, false≢true}
use Rattle.frame_words.specs.declared.fault.TakeFault.{TakeFault}
use Rattle.frame_words.specs.declared.fault.TakeFault.TheVariants.{BadOrder, NoBlock, Contended}
use Rattle.core_frames.specs.declared.shared.allocator.Allocator.{Allocator}
use Rattle.core_frames.specs.declared.shared.allocator.Core.{Core}
use Rattle.core_frames.specs.Cores.{lent_by, losses_by, IsOutOf}
use Rattle.core_frames.specs.Uses.{HasTaken, HasMovedForEach, IsRefusedFor}
use Rattle.frame_zones.specs.Faults.{is_contended}
use Rattle.frame_zones.specs.Zones.{zone_count, zone_at, core_at, InEach, AreCoresOf, StayCoresOf}
use Rattle.frame_zones.specs.Uses.{OthersStay, KeepsAll, LendsSame, MovesWithin, LosesNothing, LosesIn, TakesIn, AreRefusedFor, TakesAmong, HadNone}
use Rattle.frame_zones.specs.declared.zones.Zones.{Zones}
use Rattle.frame_zones.specs.declared.zones.ZoneCore.{ZoneCore}
use Rattle.frame_zones.specs.declared.zones.Stay.{Stay}
use Rattle.frame_zones.specs.declared.block.ZoneBlock.{ZoneBlock}

pub stay_on : (zs : Zones) (c d e : ZoneCore) → StayCoresOf zs c d → StayCoresOf zs d e → StayCoresOf zs c e
stay_on zs c d e one two = record {
  are_cores = two.are_cores;
  same_home = two.same_home ∙ one.same_home;
  same_numbers = λ z a x within. two.same_numbers z a x within ∙ one.same_numbers z a x within;
}

-- a core whose takes begin elsewhere stays one of all zones
pub stay_there : (zs : Zones) (c d : ZoneCore) (stays : List Stay) → StayCoresOf zs c d
    → StayCoresOf zs c (record d { stays = stays })
stay_there zs c d stays stay = record {
  are_cores = record {
    parts = record { count = stay.are_cores.parts.count; each = stay.are_cores.parts.each };
    home = stay.are_cores.home;
  };
  same_home = stay.same_home;
  same_numbers = stay.same_numbers;
}

pub stay_at_all : (zs : Zones) (c : ZoneCore) → AreCoresOf zs c → StayCoresOf zs c c
stay_at_all zs c are = record {
  are_cores = are;
  same_home = refl;
  same_numbers = λ z a x within. refl;
}

-- wherever takes begin, it is a core of all zones, and nothing was done yet
pub are_there : (zs : Zones) (c : ZoneCore) (stays : List Stay) → AreCoresOf zs c → AreCoresOf zs (record c { stays = stays })
are_there zs c stays are = record {
  parts = record { count = are.parts.count; each = are.parts.each };
  home = are.home;
}

pub none_there : (zs : Zones) (Seen : ℕ → Type 0) (n : ℕ) (c : ZoneCore) (stays : List Stay) → AreCoresOf zs c
    → ((z : ℕ) → ¬ Seen z) → HadNone zs Seen n false c (record c { stays = stays })
none_there zs Seen n c stays are none = record {
  stay = stay_there zs c c stays (stay_at_all zs c are);
  kept = λ z a x within. refl;
  lent = λ z a x within. refl;
  moves = λ z a x within. omega arith;
  seen = λ z a x is within. absurd (none z is);
  calm = λ e z a x within. refl;
  missed = λ e. absurd (false≢true e);
  unseen = λ z x within not. refl;
}

pub none_yet : (zs : Zones) (Seen : ℕ → Type 0) (n : ℕ) (c : ZoneCore) → AreCoresOf zs c
    → ((z : ℕ) → ¬ Seen z) → HadNone zs Seen n false c c
none_yet zs Seen n c are none = record {
  stay = stay_at_all zs c are;
  kept = λ z a x within. refl;
  lent = λ z a x within. refl;
  moves = λ z a x within. omega arith;
  seen = λ z a x is within. absurd (none z is);
  calm = λ e z a x within. refl;
  missed = λ e. absurd (false≢true e);
  unseen = λ z x within not. refl;
}

-- what holds after a step in one zone that was left alone before, and held in the others
pub one_step : (P : Allocator → Core → Core → Type 0) (zs : Zones) (z : ℕ) (c d e : ZoneCore)
    → ((x : Core) → core_at d z x ≡ core_at c z x) → OthersStay zs z d e
    → ((a : Allocator) (x : Core) → P (zone_at zs z a) (core_at d z x) (core_at e z x))
    → (k : ℕ) (a : Allocator) (x : Core) → k < zone_count zs
    → (¬ (k ≡ z) → P (zone_at zs k a) (core_at c k x) (core_at d k x))
    → P (zone_at zs k a) (core_at c k x) (core_at e k x)
one_step P zs z c d e alone others here k a x within before =
    elim (cases_eq k z) as (λ _. P (zone_at zs k a) (core_at c k x) (core_at e k x)) [
      | inl same ↦ subst (λ i. P (zone_at zs i a) (core_at c i x) (core_at e i x)) (sym same)
          (subst (λ (y : Core). P (zone_at zs z a) y (core_at e z x)) (alone x) (here a x))
      | inr other ↦ subst (λ (y : Core). P (zone_at zs k a) (core_at c k x) y)
          (sym (others k x within other)) (before other)
    ]

-- what a refusal of an order that there is says
pub looked : (a : Allocator) (n : ℕ) (x y : Core) (fault : TakeFault) → n ≤ 9 → IsRefusedFor a n x y fault
    → HasMovedForEach a n x y
looked a n x y BadOrder few refused = absurd (omega (arith, few, refused.0))
looked a n x y NoBlock few refused = refused.0
looked a n x y Contended few refused = refused.0

lost_none : (a : Allocator) (n : ℕ) (x y : Core) (fault : TakeFault) → n ≤ 9 → IsRefusedFor a n x y fault
    → is_contended fault ≡ false → losses_by y ≡ losses_by x
lost_none a n x y BadOrder few refused calm = absurd (omega (arith, few, refused.0))
lost_none a n x y NoBlock few refused calm = refused.1
lost_none a n x y Contended few refused calm = absurd (true≢false calm)

lost_some : (a : Allocator) (n : ℕ) (x y : Core) (fault : TakeFault) → n ≤ 9 → IsRefusedFor a n x y fault
    → is_contended fault ≡ true → losses_by x < losses_by y
lost_some a n x y BadOrder few refused is = absurd (false≢true is)
lost_some a n x y NoBlock few refused is = absurd (false≢true is)
lost_some a n x y Contended few refused is = refused.1

or_left : (x y : Bool) → (x || y) ≡ false → x ≡ false
or_left false y e = refl
or_left true y e = absurd (true≢false e)

or_right : (x y : Bool) → (x || y) ≡ false → y ≡ false
or_right false y e = e
or_right true y e = absurd (true≢false e)

-- some zone, where there is one
some_item : (l : List Allocator) → 0 < length l → Allocator
some_item [] within = absurd (omega (arith, within))
some_item (a ∷ l) within = a

pub some_zone : (zs : Zones) (z : ℕ) → z < zone_count zs → Allocator
some_zone zs z within = some_item zs.zones.items (omega (arith, within))

some_part : (l : List Core) → 0 < length l → Core
some_part [] within = absurd (omega (arith, within))
some_part (x ∷ l) within = x

pub some_core : (c : ZoneCore) (z : ℕ) → z < length c.cores.items → Core
some_core c z within = some_part c.cores.items (omega (arith, within))

-- the moves of a step in the next zone, and those before it
pub round_moves : (zs : Zones) (Seen : ℕ → Type 0) (n : ℕ) (contended : Bool) (answer : Result ZoneBlock TakeFault)
    (z : ℕ) (c d e : ZoneCore) → z < zone_count zs → HadNone zs Seen n contended c d
    → TakesIn zs z n answer d e → ¬ Seen z → InEach zs MovesWithin c e
round_moves zs Seen n contended answer z c d e within was step fresh k a x k-within =
    one_step MovesWithin zs z c d e (λ y. was.unseen z y within fresh) step.others (λ b y. step.moves b y) k a x k-within
    (λ _. was.moves k a x k-within)

-- one zone more was seen
pub one_more_none : (zs : Zones) (Seen Now : ℕ → Type 0) (n : ℕ) (contended : Bool) (fault : TakeFault)
    (z : ℕ) (c d e : ZoneCore) → n ≤ 9 → z < zone_count zs → HadNone zs Seen n contended c d
    → StayCoresOf zs d e → TakesIn zs z n (Err fault) d e
    → ¬ Seen z → Now z → ((k : ℕ) → Now k → Seen k ⊎ (k ≡ z)) → ((k : ℕ) → Seen k → Now k)
    → HadNone zs Now n (contended || is_contended fault) c e
one_more_none zs Seen Now n contended fault z c d e few within was stays step fresh now one_more all =
    let alone : (x : Core) → core_at d z x ≡ core_at c z x = λ x. was.unseen z x within fresh in
    record {
      stay = stay_on zs c d e was.stay stays;
      kept = λ k a x k-within. one_step KeepsAll zs z c d e alone step.others (λ b y. step.kept y) k a x k-within
          (λ _. was.kept k a x k-within);
      lent = λ k a x k-within. one_step LendsSame zs z c d e alone step.others (λ b y. (step.err b y).1) k a x k-within
          (λ _. was.lent k a x k-within);
      moves = round_moves zs Seen n contended (Err fault) z c d e within was step fresh;
      seen = λ k a x is k-within. one_step (λ b. HasMovedForEach b n) zs z c d e alone step.others
          (λ b y. looked _ n _ _ fault few (step.err b y).0) k a x k-within
          (λ other. elim (one_more k is) as (λ _. HasMovedForEach (zone_at zs k a) n (core_at c k x) (core_at d k x)) [
            | inl before ↦ was.seen k a x before k-within
            | inr same ↦ absurd (other same)
          ]);
      calm = λ is k a x k-within. one_step LosesNothing zs z c d e alone step.others
          (λ b y. lost_none _ n _ _ fault few (step.err b y).0 (or_right contended (is_contended fault) is)) k a x k-within
          (λ _. was.calm (or_left contended (is_contended fault) is) k a x k-within);
      missed = λ is. elim (or_cases contended (is_contended fault) is) as (λ _. (k : ℕ) × (k < zone_count zs) × LosesIn c e k) [
        | inl before ↦
            let old = was.missed before in (
              old.0,
              old.1,
              λ x. elim (cases_eq old.0 z) as (λ _. losses_by (core_at c old.0 x) < losses_by (core_at e old.0 x)) [
                | inl same ↦ absurd (omega (
                  arith,
                  old.2 x,
                  ap losses_by (was.unseen old.0 x old.1 (λ seen. fresh (subst Seen same seen))),
                ))
                | inr other ↦ subst (λ (y : Core). losses_by (core_at c old.0 x) < losses_by y)
                    (sym (step.others old.0 x old.1 other)) (old.2 x)
              ],
            )
        | inr lost ↦ (
          z,
          within,
          λ x. subst (λ (y : Core). losses_by y < losses_by (core_at e z x)) (alone x)
              (lost_some _ n _ _ fault few (step.err (some_zone zs z within) x).0 lost),
        )
      ];
      unseen = λ k x k-within not.
          step.others k x k-within (λ same. not (subst Now (sym same) now))
          ∙ was.unseen k x k-within (λ is. not (all k is));
    }

-- the same round, said in other words
pub same_none : (zs : Zones) (Seen Now : ℕ → Type 0) (n : ℕ) (contended : Bool) (c d : ZoneCore)
    → HadNone zs Seen n contended c d
    → ((k : ℕ) → k < zone_count zs → Now k → Seen k) → ((k : ℕ) → k < zone_count zs → ¬ Now k → ¬ Seen k)
    → HadNone zs Now n contended c d
same_none zs Seen Now n contended c d was some none = record {
  stay = was.stay;
  kept = was.kept;
  lent = was.lent;
  moves = was.moves;
  seen = λ z a x is within. was.seen z a x (some z within is) within;
  calm = was.calm;
  missed = was.missed;
  unseen = λ z x within not. was.unseen z x within (none z within not);
}

-- a block was taken in the next zone
pub round_taken : (zs : Zones) (Seen : ℕ → Type 0) (n : ℕ) (contended : Bool) (b : ZoneBlock)
    (z : ℕ) (c d e : ZoneCore) → z < zone_count zs → HadNone zs Seen n contended c d
    → TakesIn zs z n (Ok b) d e → ¬ Seen z → TakesAmong zs n (Ok b) c e
round_taken zs Seen n contended b z c d e within was step fresh =
    let alone : (x : Core) → core_at d z x ≡ core_at c z x = λ x. was.unseen z x within fresh in
    record {
      kept = λ k a x k-within. one_step KeepsAll zs z c d e alone step.others (λ b y. step.kept y) k a x k-within
          (λ _. was.kept k a x k-within);
      moves = round_moves zs Seen n contended (Ok b) z c d e within was step fresh;
      ok = record {
        is_out = record {
          zone = subst (λ i. i < zone_count zs) (sym step.ok.0) within;
          is_out = λ a. subst (λ i. IsOutOf (zone_at zs i a) b.block) (sym step.ok.0)
              (step.ok.1 a (some_core d z (subst (λ i. z < i) (sym was.stay.are_cores.parts.count) within))).is_out;
        };
        here = λ a x. subst (λ i. HasTaken (zone_at zs i a) n b.block (core_at c i x) (core_at e i x)) (sym step.ok.0)
            (subst (λ (y : Core). HasTaken (zone_at zs z a) n b.block y (core_at e z x)) (alone x) (step.ok.1 a x));
        others = λ k x k-within other.
            ap lent_by (step.others k x k-within (λ same. other (same ∙ sym step.ok.0)))
            ∙ was.lent k (some_zone zs z within) x k-within;
      };
      err = tt;
    }

-- and what was taken is taken wherever takes begin from then on
pub taken_there : (zs : Zones) (n : ℕ) (b : ZoneBlock) (c d : ZoneCore) (stays : List Stay)
    → TakesAmong zs n (Ok b) c d → TakesAmong zs n (Ok b) c (record d { stays = stays })
taken_there zs n b c d stays took = record {
  kept = took.kept;
  moves = took.moves;
  ok = record { is_out = took.ok.is_out; here = took.ok.here; others = took.ok.others };
  err = tt;
}

-- each zone was seen, and none had a block
pub round_ends : (zs : Zones) (Seen : ℕ → Type 0) (n : ℕ) (contended : Bool) (fault : TakeFault) (c d : ZoneCore)
    → HadNone zs Seen n contended c d → ((k : ℕ) → k < zone_count zs → Seen k)
    → AreRefusedFor zs n c d fault → TakesAmong zs n (Err fault) c d
round_ends zs Seen n contended fault c d was each why = record {
  kept = was.kept;
  moves = was.moves;
  ok = tt;
  err = (why, was.lent);
}
