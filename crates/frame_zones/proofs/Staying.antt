-- What takes leave of the stays of the orders.
use Rattle.std.proofs.Common.{◌≡◌, ℕ, suc, zero, ◌+◌, ◌<◌, ◌≤◌, Result, Ok, Err, IfOk, List, length, slice_index_or, slice_set, refl, sym, ◌∙◌, ap, subst, add-one, get_or-set_same, get_or-set_other, arith}
use Rattle.frame_words.specs.declared.fault.TakeFault.{TakeFault}
use Rattle.core_frames.specs.declared.shared.allocator.Allocator.{Allocator}
use Rattle.core_frames.specs.declared.shared.allocator.Core.{Core}
use Rattle.core_frames.specs.Uses.{HasMovedForEach}
use Rattle.frame_zones.specs.Zones.{zone_count, zone_at, core_at}
use Rattle.frame_zones.specs.Stays.{stay_of, Lasts, TakesBeginIn, IsShorterBy, IsUsed, IsWholeStay, BeginsAndStays, GoesPast, StayInNumbers}
use Rattle.frame_zones.specs.Uses.{TakesIn}
use Rattle.frame_zones.specs.declared.zones.Zones.{Zones}
use Rattle.frame_zones.specs.declared.zones.ZoneCore.{ZoneCore}
use Rattle.frame_zones.specs.declared.zones.Stay.{Stay}
use Rattle.frame_zones.specs.declared.block.ZoneBlock.{ZoneBlock}

abbrev no_stay : Stay
no_stay = record { zone = 0; left = 0 }

-- the stay of an order was written, and no other
pub stay_written : (n : ℕ) (c d : ZoneCore) (t : Stay) → n < length c.stays → d.stays ≡ slice_set c.stays n t → stay_of n d ≡ t
stay_written n c d t within is =
    ap (λ (l : List Stay). slice_index_or l n no_stay) is ∙ get_or-set_same c.stays n t no_stay within

pub other_stays : (n : ℕ) (c d : ZoneCore) (t : Stay) → d.stays ≡ slice_set c.stays n t
    → (k : ℕ) → ¬ (k ≡ n) → stay_of k d ≡ stay_of k c
other_stays n c d t is k other =
    ap (λ (l : List Stay). slice_index_or l k no_stay) is ∙ get_or-set_other c.stays n k t no_stay other

used_stay : (m count : ℕ) (s t u : Stay) → count ≡ m → u ≡ t → IsUsed count s t → IsUsed m s u
used_stay m count s t u count-is u-is used =
    subst (λ k. IsUsed k s u) count-is (subst (λ (r : Stay). IsUsed count s r) (sym u-is) used)

-- a take was answered in the zone where it began
pub began_there : (zs : Zones) (n count first : ℕ) (b : ZoneBlock) (c d : ZoneCore) (t : Stay) → n ≤ 9
    → n < length c.stays → count ≡ zone_count zs → d.stays ≡ slice_set c.stays n t
    → TakesBeginIn count c.home (stay_of n c) first → IsUsed count (stay_of n c) t → b.zone ≡ first
    → BeginsAndStays zs n (Ok b) c d
began_there zs n count first b c d t few within count-is is begins used here = record {
  began = λ _. (
    first,
    record {
      begins = subst (λ m. TakesBeginIn m c.home (stay_of n c) first) count-is begins;
      there = λ _. used_stay (zone_count zs) count (stay_of n c) t (stay_of n d) count-is (stay_written n c d t within is) used;
      looked = λ not. absurd (not here);
      elsewhere = λ not. absurd (not here);
      nowhere = tt;
    },
  );
  others = other_stays n c d t is;
  none = λ more. absurd (omega (arith, few, more));
}

-- a take was answered past the zone where it began, or nowhere
pub began_past : (zs : Zones) (n count first : ℕ) (answer : Result ZoneBlock TakeFault) (c d e : ZoneCore) (t : Stay)
    → n ≤ 9 → n < length c.stays → count ≡ zone_count zs → d.stays ≡ slice_set c.stays n t
    → TakesBeginIn count c.home (stay_of n c) first → IsUsed count (stay_of n c) t
    → ((a : Allocator) (x : Core) → HasMovedForEach (zone_at zs first a) n (core_at c first x) (core_at d first x))
    → GoesPast n first answer d e → BeginsAndStays zs n answer c e
began_past zs n count first (Ok b) c d e t few within count-is is begins used looked past = record {
  began = λ _. (
    first,
    record {
      begins = subst (λ m. TakesBeginIn m c.home (stay_of n c) first) count-is begins;
      there = λ here. absurd (past.ok.0 here);
      looked = λ _ a x. subst (λ (y : Core). HasMovedForEach (zone_at zs first a) n (core_at c first x) y)
          (sym (past.alone x)) (looked a x);
      elsewhere = λ _. past.ok.1;
      nowhere = tt;
    },
  );
  others = λ k other. past.others k other ∙ other_stays n c d t is k other;
  none = λ more. absurd (omega (arith, few, more));
}
began_past zs n count first (Err fault) c d e t few within count-is is begins used looked past = record {
  began = λ _. (
    first,
    record {
      begins = subst (λ m. TakesBeginIn m c.home (stay_of n c) first) count-is begins;
      there = tt;
      looked = tt;
      elsewhere = tt;
      nowhere = used_stay (zone_count zs) count (stay_of n c) t (stay_of n e) count-is
          (past.err ∙ stay_written n c d t within is) used;
    },
  );
  others = λ k other. past.others k other ∙ other_stays n c d t is k other;
  none = λ more. absurd (omega (arith, few, more));
}

-- a zone past the first had a block, and takes of the order stay there
pub past_there : (zs : Zones) (n first z : ℕ) (b : ZoneBlock) (c d e : ZoneCore) (t : Stay) → first < zone_count zs
    → ¬ (first ≡ z) → n < length e.stays → d.stays ≡ c.stays → ((x : Core) → core_at d first x ≡ core_at c first x)
    → e.stays ≡ d.stays → TakesIn zs z n (Ok b) d e → IsWholeStay z t
    → GoesPast n first (Ok b) c (record e { stays = slice_set e.stays n t })
past_there zs n first z b c d e t within other in_stays was alone same step whole =
    let f : ZoneCore = record e { stays = slice_set e.stays n t } in
    let now : stay_of n f ≡ t = stay_written n e f t in_stays refl in
    record {
      alone = λ x. step.others first x within other ∙ alone x;
      ok = (
        λ is. other (sym is ∙ step.ok.0),
        record {
          zone = ap (λ (s : Stay). s.zone) now ∙ whole.zone ∙ sym step.ok.0;
          left = ap (λ (s : Stay). s.left) now ∙ whole.left;
        },
      );
      err = tt;
      others = λ k not. other_stays n e f t refl k not
          ∙ ap (λ (l : List Stay). slice_index_or l k no_stay) (same ∙ was);
    }

-- no zone past the first had one
pub past_all : (n first : ℕ) (fault : TakeFault) (c d : ZoneCore) → d.stays ≡ c.stays
    → ((x : Core) → core_at d first x ≡ core_at c first x) → GoesPast n first (Err fault) c d
past_all n first fault c d same alone = record {
  alone = alone;
  ok = tt;
  err = ap (λ (l : List Stay). slice_index_or l n no_stay) same;
  others = λ k not. ap (λ (l : List Stay). slice_index_or l k no_stay) same;
}

-- a take in the zone of a stay that lasts uses it
used_there : (zs : Zones) (n z : ℕ) (answer : Result ZoneBlock TakeFault) (c d : ZoneCore) → n ≤ 9
    → Lasts (zone_count zs) (stay_of n c) → (stay_of n c).zone ≡ z → BeginsAndStays zs n answer c d
    → IfOk answer (λ b. b.zone ≡ z) → IsShorterBy 1 (stay_of n c) (stay_of n d)
used_there zs n z (Ok b) c d few lasts at takes here =
    let one = takes.began few in
    (one.1.there (here ∙ sym (one.1.begins.in_stay lasts ∙ at))).shorter lasts
used_there zs n z (Err fault) c d few lasts at takes here = (takes.began few).1.nowhere.shorter lasts

-- what is left of a whole stay after k takes
record IsLeft (z k : ℕ) (s : Stay) : Type 0 where
  zone : s.zone ≡ z
  left : s.left + k ≡ 1024

left_after : (zs : Zones) (n z : ℕ) (answers : ℕ → Result ZoneBlock TakeFault) (before after : ℕ → ZoneCore)
    → n ≤ 9 → z < zone_count zs → IsWholeStay z (stay_of n (before 0))
    → ((k : ℕ) → k < 1024 → BeginsAndStays zs n (answers k) (before k) (after k)
    × IfOk (answers k) (λ b. b.zone ≡ z) × (stay_of n (before (k + 1)) ≡ stay_of n (after k)))
    → (k : ℕ) → k ≤ 1024 → IsLeft z k (stay_of n (before k))
left_after zs n z answers before after few within whole takes zero most =
    record { zone = whole.zone; left = omega (arith, whole.left) }
left_after zs n z answers before after few within whole takes (suc k) most =
    let was = left_after zs n z answers before after few within whole takes k (omega (arith, most)) in
    let below : k < 1024 = omega (arith, most) in
    let step = takes k below in
    let one = used_there zs n z (answers k) (before k) (after k) few
    (omega (arith, was.left, below), subst (λ m. m < zone_count zs) (sym was.zone) within) was.zone step.0 step.1 in
    subst (λ m. IsLeft z (suc k) (stay_of n (before m))) (add-one k)
    (subst (λ (s : Stay). IsLeft z (suc k) s) (sym step.2)
    (record { zone = one.zone ∙ was.zone; left = omega (arith, one.left, was.left, below) }))

pub comes_home : StayInNumbers
comes_home zs n z answers before after few within whole takes = (
  λ k below.
      let was = left_after zs n z answers before after few within whole takes k (omega (arith, below)) in
      record {
        in_stay = λ _. sym was.zone;
        at_home = λ not. absurd (not (
          omega (arith, was.left, below),
          subst (λ m. m < zone_count zs) (sym was.zone) within,
        ));
      },
  let was = left_after zs n z answers before after few within whole takes 1024 (omega arith) in
      record {
        in_stay = λ lasts. absurd (omega (arith, lasts.0, was.left));
        at_home = λ _. refl;
      },
)
