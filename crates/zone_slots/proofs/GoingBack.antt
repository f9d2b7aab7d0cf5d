-- Huge frames of a run that go back, where another one of it was refused.
use Rattle.std.proofs.Common.{◌≡◌, ℕ, ℤ, pos, ◌+◌, ◌+ℤ◌, ◌-ℤ◌, ◌<◌, ◌≤◌, Result, Ok, Err, IfOk, IfErr, sym, ◌∙◌, ap, subst, arith}
use Rattle.std.specs.Prelude.{Option}
use Rattle.std.proofs.lemmas.Int.{ints}
use Rattle.core_frames.specs.Cores.{lent_by}
use Rattle.frame_zones.proofs.Rounds.{some_zone}
use Rattle.frame_zones.specs.Uses.{KeepsAll}
use Rattle.frame_zones.specs.Zones.{zone_count, core_at, InEach}
use Rattle.frame_zones.specs.declared.block.GivenBlock.{GivenBlock}
use Rattle.frame_zones.specs.declared.zones.ZoneCore.{ZoneCore}
use Rattle.frame_zones.specs.declared.zones.Zones.{Zones}
use Rattle.zone_slots.specs.GivenBack.{IsNextBack, IsOneMoreBack}
use Rattle.zone_slots.specs.Runs.{frame_in_run, TakesRunInZone, LendsFewer, GivesBack, MissesSlot}
use Rattle.zone_slots.specs.Uses.{EachLendsSame}
use Rattle.zone_slots.specs.declared.given_back.GivenBack.{GivenBack}
use Rattle.zone_slots.specs.declared.given_back.Missed.{Missed}
use Rattle.zone_slots.proofs.Running.{more_fewer}
use Rattle.zone_slots.proofs.RunsKept.{kept_twice}

-- the answer is of the huge frame right behind them
pub next_back : (b : GivenBack) (zone frame : ℕ) (answer : Result GivenBlock Missed) → zone ≡ b.parts.zone
    → frame ≡ frame_in_run b.parts.frame (b.given + b.missed) → b.given + b.missed < b.parts.count
    → b.parts.count ≤ 512 → IfOk answer (λ g. (g.zone ≡ zone) × (g.frame ≡ frame) × (g.order ≡ 9))
    → IfErr answer (λ m. (m.zone ≡ zone) × (m.frame ≡ frame)) → IsNextBack b answer
next_back b zone frame (Ok g) zone-is frame-is fewer few very missed = record {
  given = (very.2, (very.0 ∙ zone-is, very.1 ∙ frame-is));
  missed = tt;
  fewer = fewer;
  few = few;
}
next_back b zone frame (Err m) zone-is frame-is fewer few very missed = record {
  given = tt;
  missed = (missed.0 ∙ zone-is, missed.1 ∙ frame-is);
  fewer = fewer;
  few = few;
}

-- one more was looked for: it is lent no more, or it was missed
pub one_more_fewer : (zs : Zones) (z : ℕ) (b later : GivenBack) (answer : Result GivenBlock Missed) (c d e : ZoneCore)
    → IsOneMoreBack b answer later → IfOk answer (λ _. LendsFewer zs 1 d e z) → IfErr answer (λ _. e ≡ d)
    → LendsFewer zs b.given c d z → LendsFewer zs later.given c e z
one_more_fewer zs z b later (Ok g) c d e more one same gives =
    subst (λ n. LendsFewer zs n c e z) (sym more.given.0) (more_fewer zs b.given 1 z c d e gives one)
one_more_fewer zs z b later (Err m) c d e more one same gives =
    subst (λ n. LendsFewer zs n c e z) (sym more.missed.0)
    (subst (λ (y : ZoneCore). LendsFewer zs b.given c y z) (sym same) gives)

pub one_more_back : (i : ℕ) (b later : GivenBack) (answer : Result GivenBlock Missed) → IsOneMoreBack b answer later
    → b.given + b.missed ≡ i → later.given + later.missed ≡ i + 1
one_more_back i b later (Ok g) more all = omega (arith, more.given.0, more.given.1, all)
one_more_back i b later (Err m) more all = omega (arith, more.missed.0, more.missed.1, all)

missed_lent : (k l m : ℤ) (n given missed : ℕ) → given + missed ≡ n → l ≡ k +ℤ pos n → m ≡ l -ℤ pos given
    → m ≡ k +ℤ pos missed
missed_lent k l m n given missed all one two = omega (arith, ints, all, one, two)

-- of a run that was taken only what was missed is lent
pub missed_left : (zs : Zones) (count n z f : ℕ) (b : GivenBack) (c d e : ZoneCore) → z < zone_count zs
    → b.parts.zone ≡ z → b.parts.order ≡ 9 → b.parts.count ≡ n → n ≤ count → b.given + b.missed ≡ b.parts.count
    → TakesRunInZone zs n c d z f → LendsFewer zs b.given d e z → GivesBack zs count c e b
missed_left zs count n z f b c d e within zone order laid few all run gives = record {
  within = subst (λ k. k < zone_count zs) (sym zone) within;
  order = order;
  few = omega (arith, laid, few);
  all = all;
  here = λ x. subst (λ k. lent_by (core_at e k x) ≡ lent_by (core_at c k x) +ℤ pos b.missed) (sym zone)
      (missed_lent (lent_by (core_at c z x)) (lent_by (core_at d z x)) (lent_by (core_at e z x)) n b.given b.missed
      (all ∙ laid) (run.here (some_zone zs z within) x).lent (gives.here x));
  others = λ k x k-within other.
      ap lent_by (gives.others k x k-within (λ same. other (same ∙ sym zone)))
      ∙ run.others k x k-within (λ same. other (same ∙ sym zone));
}

-- before that as many were lent
pub misses_after : (zs : Zones) (count : ℕ) (c d e : ZoneCore) (times later : ℕ) (back : Option GivenBack)
    → InEach zs KeepsAll c d → EachLendsSame zs c d → MissesSlot zs count d e times later back
    → MissesSlot zs count c e times later back
misses_after zs count c d e times later back kept same missed =
    let b = missed.what in
    let left = missed.lent in
    record {
      kept = kept_twice zs c d e kept missed.kept;
      counted = missed.counted;
      what = b;
      very = missed.very;
      missed = missed.missed;
      lent = record {
        within = left.within;
        order = left.order;
        few = left.few;
        all = left.all;
        here = λ x. left.here x
            ∙ ap (λ k. k +ℤ pos b.missed) (same b.parts.zone (some_zone zs b.parts.zone left.within) x left.within);
        others = λ k x within other. left.others k x within other ∙ same k (some_zone zs k within) x within;
      };
    }
