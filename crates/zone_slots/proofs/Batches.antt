-- Single frames of a batch come to rest.
use Rattle.std.proofs.Common.{◌≡◌, ℕ, ℤ, pos, ◌+◌, ◌*◌, ◌<◌, List, [], ◌∷◌, ◌++◌, length, inl, inr, refl, sym, ◌∙◌, ap, ap₂, subst, arith, ◌+ℤ◌, ◌-ℤ◌, Result, Ok, Err, IfOk, IfErr}
use Rattle.std.specs.List.{All}
use Rattle.std.proofs.Math.Nat.{one-le-pow}
use Rattle.std.proofs.lemmas.Bool.{cases_eq}
use Rattle.std.proofs.lemmas.Int.{ints}
use Rattle.std.proofs.lemmas.List.{length_push, nil_from_length}
use Rattle.std.specs.Arc.{arc_value}
use Rattle.core_frames.specs.Cores.{memory_of, kept_by, lent_by}
use Rattle.core_frames.specs.Fills.{IsMore}
use Rattle.core_frames.specs.declared.shared.allocator.Allocator.{Allocator}
use Rattle.core_frames.specs.declared.shared.allocator.Core.{Core}
use Rattle.frame_table.specs.declared.block.Block.{Block}
use Rattle.frame_words.specs.declared.fault.TakeFault.{TakeFault}
use Rattle.frame_zones.proofs.Rounds.{some_zone, some_core}
use Rattle.frame_zones.specs.Fills.{TakesMoreIn}
use Rattle.frame_zones.specs.Uses.{KeepsAll}
use Rattle.frame_zones.specs.Zones.{zone_count, zone_at, core_at, first_frame_of, InEach, AreCoresOf}
use Rattle.frame_zones.specs.declared.zones.Zones.{Zones}
use Rattle.frame_zones.specs.declared.zones.ZoneCore.{ZoneCore}
use Rattle.zone_slots.specs.Calls.{zones_of, SharesOne}
use Rattle.zone_slots.specs.FrameCalls.{resting_in, next_batch, LendsAsManyInEach, TakesSingle, RefusesOne, RefusesSingle}
use Rattle.zone_slots.specs.Resting.{IsSingleIn, AreSingles, one_in, singles_in, lent_besides, LendAsManyBesides, IsSingleOfZone, ComeToRest, BringsNone}
use Rattle.zone_slots.specs.Rights.{IsRightIn}
use Rattle.zone_slots.specs.Uses.{EachLendsSame, IsRefusedBlock}
use Rattle.zone_slots.specs.declared.core_state.CoreState.{CoreState}
use Rattle.zone_slots.specs.declared.single_frame.SingleFrame.{SingleFrame}
use Rattle.zone_slots.proofs.Lifted.{kept_twice}
use Rattle.zone_slots.proofs.Rested.{count_more, none_elsewhere, one_here, pushed_all, then_keeps}

-- all that a batch laid down
batch : (zs : Zones) (z k n : ℕ) (blocks : List Block) (c d : ZoneCore) (a : Allocator) (x : Core)
    → TakesMoreIn zs z k n [] blocks c d → All (IsMore (zone_at zs z a) (kept_by (core_at c z x))) blocks
batch zs z k n blocks c d a x takes =
    let here = takes.here a x in
    subst (λ (l : List Block). All (IsMore (zone_at zs z a) (kept_by (core_at c z x))) l) (sym here.items) here.each

-- each is a single frame that is out in the zone
pub batch_out : (zs : Zones) (z k n : ℕ) (blocks : List Block) (c d : ZoneCore) → AreCoresOf zs c
    → TakesMoreIn zs z k n [] blocks c d → All (IsSingleOfZone zs z) blocks
batch_out zs z k n blocks c d are takes i e less =
    let x : Core = some_core c z (subst (λ m. z < m) (sym are.parts.count) takes.zone) in record {
      is_out = λ a. (batch zs z k n blocks c d a x takes i e less).is_out;
      single = (batch zs z k n blocks c d (some_zone zs z takes.zone) x takes i e less).order;
    }

-- how many they are
pub batch_count : (zs : Zones) (z k n : ℕ) (blocks : List Block) (c d : ZoneCore) → AreCoresOf zs c
    → TakesMoreIn zs z k n [] blocks c d → length blocks ≡ k
batch_count zs z k n blocks c d are takes =
    let x : Core = some_core c z (subst (λ m. z < m) (sym are.parts.count) takes.zone) in
    let here = takes.here (some_zone zs z takes.zone) x in
    ap length here.items ∙ here.count

-- nothing came to rest yet
pub none_came : (zs : Zones) (z : ℕ) (frames : List SingleFrame) → AreSingles zs frames → ComeToRest zs z 0 frames frames
none_came zs z frames all = record {
  are_singles = all;
  count = omega arith;
  here = omega arith;
  others = λ k within not. refl;
}

-- one more did
pub one_came : (zs : Zones) (z n m : ℕ) (b : Block) (f : SingleFrame) (start before after : List SingleFrame)
    → z < zone_count zs → IsSingleOfZone zs z b → IsSingleIn zs f → f.frame ≡ first_frame_of zs z + b.frame
    → after ≡ before ++ f ∷ [] → m ≡ n + 1 → ComeToRest zs z n start before → ComeToRest zs z m start after
one_came zs z n m b f start before after within out single number is next came =
    let a : Allocator = some_zone zs z within in
    let few : b.frame < 512 * (memory_of (zone_at zs z a)).children =
    omega (arith, (out.is_out a).is_block.inside, one-le-pow b.order 2 (omega arith)) in
    record {
      are_singles = pushed_all zs before after f is came.are_singles single;
      count = omega (arith, ap length is, length_push before f, came.count, next);
      here = omega (
        arith,
        count_more zs before after f z is,
        one_here zs z f.frame b.frame a within number few,
        came.here,
        next,
      );
      others = λ k k-within not. omega (
        arith,
        count_more zs before after f k is,
        none_elsewhere zs k z f.frame b.frame a k-within within not number few,
        came.others k k-within not,
      );
    }

-- a batch leaves what the core keeps in each zone
batch_keeps : (zs : Zones) (z k n : ℕ) (blocks : List Block) (c d : ZoneCore) → TakesMoreIn zs z k n [] blocks c d
    → InEach zs KeepsAll c d
batch_keeps zs z k n blocks c d takes i a x within =
    elim (cases_eq i z) as (λ _. kept_by (core_at d i x) ≡ kept_by (core_at c i x)) [
      | inl same ↦ subst (λ j. kept_by (core_at d j x) ≡ kept_by (core_at c j x)) (sym same) (takes.here a x).kept
      | inr other ↦ ap kept_by (takes.others i x within other)
    ]

-- a batch came to rest: each zone lends as many besides as before
pub batch_rests : (zs : Zones) (z k n : ℕ) (blocks : List Block) (c d : ZoneCore) (before after : List SingleFrame)
    → AreCoresOf zs c → AreCoresOf zs d → TakesMoreIn zs z k n [] blocks c d
    → ComeToRest zs z (length blocks) before after → LendAsManyBesides zs c before d after
batch_rests zs z k n blocks c d before after were are takes came =
    let all : length blocks ≡ k = batch_count zs z k n blocks c d were takes in record {
      are_cores = are;
      are_singles = came.are_singles;
      lent = λ i x within.
          elim (cases_eq i z) as (λ _. lent_besides zs d after i x ≡ lent_besides zs c before i x) [
            | inl same ↦ subst (λ j. lent_besides zs d after j x ≡ lent_besides zs c before j x) (sym same)
                (ap (λ l. l -ℤ pos (singles_in zs after z)) (takes.here (some_zone zs z takes.zone) x).lent
                ∙ up (lent_by (core_at c z x)) k (singles_in zs before z) (singles_in zs after z) (came.here ∙ ap (λ m. singles_in zs before z + m) all))
            | inr other ↦
                ap₂ (λ (y : Core) m. lent_by y -ℤ pos m) (takes.others i x within other) (came.others i within other)
          ];
      kept = batch_keeps zs z k n blocks c d takes;
    }
  where
    up : (l : ℤ) (k a b : ℕ) → b ≡ a + k → (l +ℤ pos k) -ℤ pos b ≡ l -ℤ pos a
    up l k a b is = omega (arith, ints, is)

-- where none rests behind it, it brought none
pub batch_none : (zs : Zones) (z k n : ℕ) (blocks : List Block) (c d : ZoneCore) (before after : List SingleFrame)
    → AreCoresOf zs c → TakesMoreIn zs z k n [] blocks c d → ComeToRest zs z (length blocks) before after → after ≡ []
    → BringsNone zs n c d
batch_none zs z k n blocks c d before after were takes came none =
    let empty : length blocks ≡ 0 = omega (arith, came.count, ap length none) in
    let zero : k ≡ 0 = sym (batch_count zs z k n blocks c d were takes) ∙ empty in record {
      zone = z;
      none = subst (λ m. TakesMoreIn zs z m n [] [] c d) zero
          (subst (λ (l : List Block). TakesMoreIn zs z k n [] l c d) (nil_from_length blocks empty) takes);
    }

-- it lent none then
pub lends_none : (zs : Zones) (n : ℕ) (c d : ZoneCore) → BringsNone zs n c d → EachLendsSame zs c d
lends_none zs n c d brings i a x within =
    let z : ℕ = brings.zone in
    elim (cases_eq i z) as (λ _. lent_by (core_at d i x) ≡ lent_by (core_at c i x)) [
      | inl same ↦ subst (λ j. lent_by (core_at d j x) ≡ lent_by (core_at c j x)) (sym same)
          ((brings.none.here a x).lent ∙ left (lent_by (core_at c z x)))
      | inr other ↦ ap lent_by (brings.none.others i x within other)
    ]
  where
    left : (l : ℤ) → l +ℤ pos 0 ≡ l
    left l = omega (arith, ints)

-- a single frame was taken where as many were lent in between as before
pub then_taken : (r : Result SingleFrame TakeFault) (s m t : CoreState) → SharesOne s m → LendsAsManyInEach s m
    → IfOk r (TakesSingle m t) → IfOk r (TakesSingle s t)
then_taken (Ok f) s m t same as_many taken =
    let zones : zones_of m ≡ zones_of s = λ i. (arc_value (same i)).zones in record {
      is_single = subst (λ (zs : Zones). IsRightIn zs f.frame 0 f.seat.table_id f.seat.me) zones taken.is_single;
      lent = record {
        lent = λ z x within.
            taken.lent.lent z x (subst (λ (zs : Zones). z < zone_count zs) (sym zones) within)
            ∙ ap₂ (λ l (zs : Zones). l +ℤ pos (one_in zs z f.frame)) (as_many.lent z x within) zones;
        kept = then_keeps s m t same as_many.kept taken.lent.kept;
      };
    }
then_taken (Err e) s m t same as_many taken = tt

-- a take of one was refused behind a batch that brought none
pub then_refused : (r : Result SingleFrame TakeFault) (s m t : CoreState) → SharesOne s m → resting_in s ≡ []
    → (resting_in m ≡ [] → BringsNone (zones_of s) (next_batch s) s.core m.core) → IfErr r (RefusesOne m t)
    → IfErr r (RefusesSingle s t)
then_refused (Ok f) s m t same none brings refused = tt
then_refused (Err e) s m t same none brings refused =
    let zones : zones_of m ≡ zones_of s = λ i. (arc_value (same i)).zones in
    let why : IsRefusedBlock (zones_of s) 0 m.core t.core e =
    subst (λ (zs : Zones). IsRefusedBlock zs 0 m.core t.core e) zones refused.why in
    let brought = brings refused.none in record {
      core = m.core;
      batch = brought;
      why = why;
      lent = λ z a x within. why.1 z a x within ∙ lends_none (zones_of s) (next_batch s) s.core m.core brought z a x within;
      kept = kept_twice (zones_of s) s.core m.core t.core
          (batch_keeps (zones_of s) brought.zone 0 (next_batch s) [] s.core m.core brought.none) why.2;
      none = none;
      none_then = refused.none_then;
    }

-- the same, seen from where nothing but the list's end was looked at
pub refused_from : (r : Result SingleFrame TakeFault) (s m t : CoreState) → m.shared ≡ s.shared → m.core ≡ s.core
    → next_batch m ≡ next_batch s → resting_in s ≡ [] → IfErr r (RefusesSingle m t) → IfErr r (RefusesSingle s t)
refused_from (Ok f) s m t same core next none refused = tt
refused_from (Err e) s m t same core next none refused =
    let zones : zones_of m ≡ zones_of s = λ i. (arc_value (same i)).zones in record {
      core = refused.core;
      batch = subst (λ (c : ZoneCore). BringsNone (zones_of s) (next_batch s) c refused.core) core
          (subst (λ (zs : Zones). BringsNone zs (next_batch s) m.core refused.core) zones
          (subst (λ n. BringsNone (zones_of m) n m.core refused.core) next refused.batch));
      why = subst (λ (zs : Zones). IsRefusedBlock zs 0 refused.core t.core e) zones refused.why;
      lent = subst (λ (c : ZoneCore). EachLendsSame (zones_of s) c t.core) core
          (subst (λ (zs : Zones). EachLendsSame zs m.core t.core) zones refused.lent);
      kept = subst (λ (c : ZoneCore). InEach (zones_of s) KeepsAll c t.core) core
          (subst (λ (zs : Zones). InEach zs KeepsAll m.core t.core) zones refused.kept);
      none = none;
      none_then = refused.none_then;
    }
