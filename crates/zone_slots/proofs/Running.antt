-- Runs: huge frames that are taken and given side by side.
use Rattle.std.proofs.Common.{◌≡◌, ℕ, ℤ, pos, ◌+◌, ◌-◌, ◌*◌, ◌^◌, ◌+ℤ◌, ◌-ℤ◌, ◌<◌, ◌≤◌, inl, inr, refl, sym, ◌∙◌, ap, subst, arith}
use Rattle.std.specs.Prelude.{Bool, true, false, MatchBool, Option}
use Rattle.std.proofs.lemmas.Bool.{cases_eq}
use Rattle.std.proofs.lemmas.Int.{ints}
use Rattle.core_frames.specs.Cores.{lent_by}
use Rattle.core_frames.specs.declared.shared.allocator.Allocator.{Allocator}
use Rattle.core_frames.specs.declared.shared.allocator.Core.{Core}
use Rattle.frame_model.specs.declared.view.View.{View}
use Rattle.frame_table.specs.Ties.{table_sizes}
use Rattle.frame_words.specs.declared.fault.TakeFault.{TakeFault}
use Rattle.frame_words.specs.declared.fault.TakeFault.TheVariants.{NoBlock, Contended}
use Rattle.frame_zones.proofs.Rounds.{some_zone, some_core}
use Rattle.frame_zones.specs.Frames.{IsFrameIn}
use Rattle.frame_zones.specs.Looks.{HasLookedAtChildren}
use Rattle.frame_zones.specs.Places.{HasTakenPlace}
use Rattle.frame_zones.specs.Uses.{KeepsAll, GivesIn}
use Rattle.frame_zones.specs.Zones.{zone_count, zone_at, core_at, first_frame_of, InEach, AreCoresOf}
use Rattle.frame_zones.specs.declared.block.ZoneBlock.{ZoneBlock}
use Rattle.frame_zones.specs.declared.zones.ZoneCore.{ZoneCore}
use Rattle.frame_zones.specs.declared.zones.Zones.{Zones}
use Rattle.zone_slots.specs.Layouts.{most_numbers}
use Rattle.zone_slots.specs.Memories.{HaveNumbers}
use Rattle.zone_slots.specs.Parts.{IsNextPart}
use Rattle.zone_slots.specs.Runs.{frame_in_run, IsRunCount, IsTakeable, OfEach, TakesRunInZone, HasTakenRun, LendsFewer}
use Rattle.zone_slots.specs.Runs.{MissesSlot, FindsNoRunFor, IsRefusedRun, GivesRunInZone}
use Rattle.zone_slots.specs.Uses.{HasBlock, MovesForTake, TakesInZone, GivesInZone, EachLendsSame, IsReceiptOf}
use Rattle.zone_slots.specs.declared.given_back.GivenBack.{GivenBack}
use Rattle.zone_slots.specs.declared.parts.Parts.{Parts}
use Rattle.zone_slots.specs.declared.zone_receipt.ZoneReceipt.{ZoneReceipt}
use Rattle.zone_slots.proofs.Lifted.{taken_in, taken_order, lent_again}
use Rattle.zone_slots.proofs.Placed.{place_taken}

-- Numbers.

-- a frame of a zone is one of all numbers
pub is_number : (zs : Zones) (x z local : ℕ) → HaveNumbers zs → IsFrameIn zs x z local → x < most_numbers
is_number zs x z local numbered is =
    let a : Allocator = some_zone zs z is.zone in
    omega (arith, numbered z a is.zone, is.sum, is.inside a, (table_sizes (zone_at zs z a).table).inside)

-- a zone has at most 2,097,152 frames
pub is_local : (zs : Zones) (x z local : ℕ) → IsFrameIn zs x z local → local < 2097152
is_local zs x z local is =
    let a : Allocator = some_zone zs z is.zone in
    omega (arith, is.inside a, (table_sizes (zone_at zs z a).table).inside, (table_sizes (zone_at zs z a).table).few_children)

-- the first frame of a run has a number
pub run_fits : (zs : Zones) (count : ℕ) (c d : ZoneCore) (p : Parts) → HaveNumbers zs → AreCoresOf zs c
    → HasTakenRun zs count c d p → first_frame_of zs p.zone + p.frame < most_numbers
run_fits zs count c d p numbered are run =
    let a : Allocator = some_zone zs p.zone run.within in
    let x : Core = some_core c p.zone (subst (λ k. p.zone < k) (sym are.parts.count) run.within) in
    omega (
      arith,
      numbered p.zone a run.within,
      ((run.taken.here a x).each 0 run.some).inside,
      (table_sizes (zone_at zs p.zone a).table).inside,
    )

-- Each of several.

one_of_each : (P : ℕ → Type 0) (first n : ℕ) → OfEach P first n → P (frame_in_run first n) → OfEach P first (n + 1)
one_of_each P first n each here i below =
    elim (cases_eq i n) as (λ _. P (frame_in_run first i)) [
      | inl same ↦ subst (λ k. P (frame_in_run first k)) (sym same) here
      | inr other ↦ each i (omega (arith, below, other))
    ]

none_of_each : (P : ℕ → Type 0) (first n : ℕ) → n ≡ 0 → OfEach P first n
none_of_each P first n none i below = absurd (omega (arith, below, none))

-- What is lent.

add_more : (k l m : ℤ) (n o : ℕ) → l ≡ k +ℤ pos n → m ≡ l +ℤ pos o → m ≡ k +ℤ pos (n + o)
add_more k l m n o one two = omega (arith, ints, one, two)

take_more : (k l m : ℤ) (n o : ℕ) → l ≡ k -ℤ pos n → m ≡ l -ℤ pos o → m ≡ k -ℤ pos (n + o)
take_more k l m n o one two = omega (arith, ints, one, two)

add_and_take : (k l m : ℤ) (n o : ℕ) → o ≤ n → l ≡ k +ℤ pos n → m ≡ l -ℤ pos o → m ≡ k +ℤ pos (n - o)
add_and_take k l m n o few one two = omega (arith, ints, few, one, two)

add_none : (k : ℤ) (n : ℕ) → n ≡ 0 → k ≡ k +ℤ pos n
add_none k n none = omega (arith, ints, none)

take_none : (k : ℤ) (n : ℕ) → n ≡ 0 → k ≡ k -ℤ pos n
take_none k n none = omega (arith, ints, none)

no_more : (k l : ℤ) (n : ℕ) → n ≡ 0 → l ≡ k +ℤ pos n → l ≡ k
no_more k l n none is = omega (arith, ints, none, is)

-- Takes.

-- after a look for a run
pub looked_same : (zs : Zones) (c d : ZoneCore) → InEach zs HasLookedAtChildren c d → EachLendsSame zs c d
looked_same zs c d looked z a x within = ap (λ (v : View). v.lent) (looked z a x within).view.1.1

-- before the first one
pub none_taken : (zs : Zones) (n z f : ℕ) (c : ZoneCore) → n ≡ 0 → TakesRunInZone zs n c c z f
none_taken zs n z f c none = record {
  here = λ a x. record {
    each = none_of_each (IsTakeable (zone_at zs z a)) f n none;
    lent = add_none (lent_by (core_at c z x)) n none;
  };
  others = λ k x within other. refl;
}

-- one more was taken
pub one_more_taken : (zs : Zones) (n z f : ℕ) (c d e : ZoneCore) → TakesRunInZone zs n c d z f
    → TakesInZone zs 9 d e z (frame_in_run f n) → TakesRunInZone zs (n + 1) c e z f
one_more_taken zs n z f c d e run one = record {
  here = λ a x.
      let last = one.here a x in
      record {
        each = one_of_each (IsTakeable (zone_at zs z a)) f n (run.here a x).each (record {
          is_block = last.is_block;
          no_boot_frame = last.no_boot_frame;
          inside = last.inside;
        });
        lent = add_more (lent_by (core_at c z x)) (lent_by (core_at d z x)) (lent_by (core_at e z x)) n 1
            (run.here a x).lent last.lent;
      };
  others = λ k x within other. one.others k x within other ∙ run.others k x within other;
}

-- none was taken after them, or before
pub then_same : (zs : Zones) (n z f : ℕ) (c d e : ZoneCore) → z < zone_count zs → TakesRunInZone zs n c d z f
    → EachLendsSame zs d e → TakesRunInZone zs n c e z f
then_same zs n z f c d e here-zone run same = record {
  here = λ a x. record {
    each = (run.here a x).each;
    lent = same z a x here-zone ∙ (run.here a x).lent;
  };
  others = λ k x within other. same k (some_zone zs k within) x within ∙ run.others k x within other;
}

pub after_same : (zs : Zones) (n z f : ℕ) (c d e : ZoneCore) → z < zone_count zs → EachLendsSame zs c d
    → TakesRunInZone zs n d e z f → TakesRunInZone zs n c e z f
after_same zs n z f c d e here-zone same run = record {
  here = λ a x. record {
    each = (run.here a x).each;
    lent = (run.here a x).lent ∙ ap (λ k. k +ℤ pos n) (same z a x here-zone);
  };
  others = λ k x within other. run.others k x within other ∙ same k (some_zone zs k within) x within;
}

pub same_twice : (zs : Zones) (c d e : ZoneCore) → EachLendsSame zs c d → EachLendsSame zs d e → EachLendsSame zs c e
same_twice zs c d e one two z a x within = two z a x within ∙ one z a x within

pub after_same_run : (zs : Zones) (count : ℕ) (p : Parts) (c d e : ZoneCore) → EachLendsSame zs c d
    → HasTakenRun zs count d e p → HasTakenRun zs count c e p
after_same_run zs count p c d e same run = record {
  within = run.within;
  some = run.some;
  order = run.order;
  all = run.all;
  taken = after_same zs count p.zone p.frame c d e run.within same run.taken;
}

-- a huge frame that was taken lies right behind the others
next_frame : (zs : Zones) (x : ℕ) (b : ZoneBlock) (p : Parts) (c d : ZoneCore) → HasTakenPlace zs x 9 b c d
    → b.zone ≡ p.zone → x ≡ first_frame_of zs p.zone + frame_in_run p.frame p.count
    → b.block.frame ≡ frame_in_run p.frame p.count
next_frame zs x b p c d taken zone is =
    let begins : first_frame_of zs p.zone + b.block.frame ≡ x =
    ap (λ z. first_frame_of zs z + b.block.frame) (sym zone) ∙ taken.begins in
    omega (arith, begins, is)

pub next_part : (zs : Zones) (x : ℕ) (b : ZoneBlock) (r : ZoneReceipt) (p : Parts) (c d : ZoneCore) → AreCoresOf zs c
    → HasTakenPlace zs x 9 b c d → IsReceiptOf b r → b.zone ≡ p.zone
    → x ≡ first_frame_of zs p.zone + frame_in_run p.frame p.count → p.order ≡ 9 → p.count < 512 → IsNextPart p r
next_part zs x b r p c d are taken receipt zone is order few =
    let size : p.count * 2 ^ p.order ≡ p.count * 512 = ap (λ o. p.count * 2 ^ o) order in
    record {
      zone = receipt.zone ∙ zone;
      frame = omega (arith, receipt.frame, next_frame zs x b p c d taken zone is, size);
      order = receipt.order ∙ taken_order zs 9 b c d are (place_taken zs x 9 b c d taken) ∙ sym order;
      few = few;
    }

-- and was taken there
pub next_taken : (zs : Zones) (x : ℕ) (b : ZoneBlock) (p : Parts) (c d e : ZoneCore) → InEach zs KeepsAll c d
    → MovesForTake zs c d → HasTakenPlace zs x 9 b c d → b.zone ≡ p.zone
    → x ≡ first_frame_of zs p.zone + frame_in_run p.frame p.count → e ≡ d
    → TakesInZone zs 9 c e p.zone (frame_in_run p.frame p.count)
next_taken zs x b p c d e kept moves taken zone is same =
    subst (λ (y : ZoneCore). TakesInZone zs 9 c y p.zone (frame_in_run p.frame p.count)) (sym same)
    (subst (λ f. TakesInZone zs 9 c d p.zone f) (next_frame zs x b p c d taken zone is)
    (subst (λ z. TakesInZone zs 9 c d z b.block.frame) zone
    (taken_in zs 9 b c d kept moves (place_taken zs x 9 b c d taken))))

-- it was given again
pub given_again : (zs : Zones) (x : ℕ) (b : ZoneBlock) (c d e : ZoneCore) → HasTakenPlace zs x 9 b c d
    → GivesIn zs b.zone d e → EachLendsSame zs c e
given_again zs x b c d e taken gives = lent_again zs 9 b c d e (place_taken zs x 9 b c d taken) gives

-- one that was taken ends where the zone does
pub ends_inside : (zs : Zones) (z f n : ℕ) (c d : ZoneCore) → AreCoresOf zs c → z < zone_count zs
    → TakesInZone zs 9 c d z (frame_in_run f n) → f + 512 * (n + 1) ≤ 2097152
ends_inside zs z f n c d are within taken =
    let a : Allocator = some_zone zs z within in
    let x : Core = some_core c z (subst (λ k. z < k) (sym are.parts.count) within) in
    let sizes = table_sizes (zone_at zs z a).table in
    omega (arith, (taken.here a x).inside, sizes.inside, sizes.few_children)

-- Gives.

pub none_fewer : (zs : Zones) (n z : ℕ) (c d : ZoneCore) → n ≡ 0 → d ≡ c → LendsFewer zs n c d z
none_fewer zs n z c d none same =
    subst (λ (e : ZoneCore). LendsFewer zs n c e z) (sym same) (record {
      here = λ x. take_none (lent_by (core_at c z x)) n none;
      others = λ k x within other. refl;
    })

pub one_fewer : (zs : Zones) (z local order : ℕ) (c d : ZoneCore) → z < zone_count zs → GivesInZone zs order c d z local
    → LendsFewer zs 1 c d z
one_fewer zs z local order c d within given = record {
  here = λ x. (given.here (some_zone zs z within) x).lent;
  others = given.others;
}

pub more_fewer : (zs : Zones) (n m z : ℕ) (c d e : ZoneCore) → LendsFewer zs n c d z → LendsFewer zs m d e z
    → LendsFewer zs (n + m) c e z
more_fewer zs n m z c d e one two = record {
  here = λ x. take_more (lent_by (core_at c z x)) (lent_by (core_at d z x)) (lent_by (core_at e z x)) n m (one.here x)
      (two.here x);
  others = λ k x within other. two.others k x within other ∙ one.others k x within other;
}

-- all that was taken was given again
pub all_given : (zs : Zones) (n o z f : ℕ) (c d e : ZoneCore) → z < zone_count zs → n ≡ o
    → TakesRunInZone zs n c d z f → LendsFewer zs o d e z → EachLendsSame zs c e
all_given zs n o z f c d e within all run gives k a x k-within =
    elim (cases_eq k z) as (λ _. lent_by (core_at e k x) ≡ lent_by (core_at c k x)) [
      | inl same ↦ subst (λ i. lent_by (core_at e i x) ≡ lent_by (core_at c i x)) (sym same)
          (no_more (lent_by (core_at c z x)) (lent_by (core_at e z x)) (n - o) (omega (arith, all))
          (add_and_take (lent_by (core_at c z x)) (lent_by (core_at d z x)) (lent_by (core_at e z x)) n o (omega (arith, all))
          (run.here (some_zone zs z within) x).lent (gives.here x)))
      | inr other ↦ ap lent_by (gives.others k x k-within other) ∙ run.others k x k-within other
    ]

-- Refusals.

pub refused_for : (zs : Zones) (count : ℕ) (c d : ZoneCore) (times later : ℕ) (back : Option GivenBack)
    (contended : Bool) (fault : TakeFault) → IsRunCount count → FindsNoRunFor zs count c d times later
    → MatchBool contended (fault ≡ Contended) (fault ≡ NoBlock) → IsRefusedRun zs count c d times later back fault
refused_for zs count c d times later back true fault is none why =
    subst (λ e. IsRefusedRun zs count c d times later back e) (sym why) (is, inl none)
refused_for zs count c d times later back false fault is none why =
    subst (λ e. IsRefusedRun zs count c d times later back e) (sym why) (is, none)

pub refused_missed : (zs : Zones) (count : ℕ) (c d : ZoneCore) (times later : ℕ) (back : Option GivenBack)
    (fault : TakeFault) → IsRunCount count → fault ≡ Contended → MissesSlot zs count c d times later back
    → IsRefusedRun zs count c d times later back fault
refused_missed zs count c d times later back fault is why missed =
    subst (λ e. IsRefusedRun zs count c d times later back e) (sym why) (is, inr missed)

-- Gives of runs.

pub none_given : (zs : Zones) (n z f : ℕ) (c : ZoneCore) → n ≡ 0 → GivesRunInZone zs n c c z f
none_given zs n z f c none = record {
  here = λ a x. record {
    each = none_of_each (λ frame. HasBlock 9 frame (zone_at zs z a)) f n none;
    lent = take_none (lent_by (core_at c z x)) n none;
  };
  others = λ k x within other. refl;
}

pub one_more_given : (zs : Zones) (n z f : ℕ) (c d e : ZoneCore) → GivesRunInZone zs n c d z f
    → GivesInZone zs 9 d e z (frame_in_run f n) → GivesRunInZone zs (n + 1) c e z f
one_more_given zs n z f c d e run one = record {
  here = λ a x. record {
    each = one_of_each (λ frame. HasBlock 9 frame (zone_at zs z a)) f n (run.here a x).each (one.here a x).block;
    lent = take_more (lent_by (core_at c z x)) (lent_by (core_at d z x)) (lent_by (core_at e z x)) n 1
        (run.here a x).lent (one.here a x).lent;
  };
  others = λ k x within other. one.others k x within other ∙ run.others k x within other;
}
