-- A memory of zones is opened, with the slots of each.
use Rattle.std.proofs.Common.{◌≡◌, ℕ, ◌+◌, ◌<◌, List, [], ◌∷◌, ◌++◌, length, map, slice_index_or, slice_set, sym, ◌∙◌, ap, subst, arith, inl, inr, length-set, Result, Ok, Err, IfOk}
use Rattle.std.specs.List.{All}
use Rattle.std.specs.Prelude.{Bool}
use Rattle.std.proofs.lemmas.Bool.{cases_eq, cases_lt}
use Rattle.std.proofs.lemmas.List.{get_or_append_left, get_or_push, get_or_default, get_or-map, length-map}
use Rattle.frame_words.specs.declared.fault.Fault.{Fault}
use Rattle.frame_model.specs.declared.key.Key.{Key}
use Rattle.core_frames.specs.declared.shared.allocator.Allocator.{Allocator}
use Rattle.core_frames.specs.declared.shared.allocator.Core.{Core}
use Rattle.core_frames.specs.Cores.{memory_of, IsCoreOf, IsNewCore}
use Rattle.frame_slots.specs.SlotLists.{IsListOf}
use Rattle.frame_slots.specs.Slots.{IsUnused, IsUsedAsBefore}
use Rattle.frame_slots.specs.declared.slots.SlotList.{SlotList}
use Rattle.frame_zones.specs.Openings.{AreOpened, IsNewIn, IsAt}
use Rattle.frame_zones.specs.Spans.{Place, place_of_span}
use Rattle.frame_zones.specs.Zones.{zone_count, zone_at, core_at, first_frame_of, AreCoresOf}
use Rattle.frame_zones.specs.declared.spans.Span.{Span}
use Rattle.frame_zones.specs.declared.zones.Zones.{Zones}
use Rattle.frame_zones.specs.declared.zones.ZoneCore.{ZoneCore}
use Rattle.frame_zones.proofs.Parted.{some_of}
use Rattle.frame_zones.proofs.Placing.{others_stay, at_any_zone}
use Rattle.zone_slots.specs.Memories.{HaveNumbers, AreSlotted}
use Rattle.zone_slots.specs.Openings.{HasSlots, IsListIn, AreListsIn, IsUsedAlike, IsUnusedCore, HasNumbers, HoldBack, AreUnusedIn}

-- where the written core belongs to its zone, all do
pub cores_still : (zs : Zones) (c d : ZoneCore) (z : ℕ) (a : Allocator) (x y : Core) → AreCoresOf zs c → z < zone_count zs
    → a ≡ zone_at zs z a → x ≡ core_at c z x → d.cores.items ≡ slice_set c.cores.items z y → d.home ≡ c.home → IsCoreOf a y
    → AreCoresOf zs d
cores_still zs c d z a x y are within a-is x-is is home one = record {
  parts = record {
    count = ap length is ∙ length-set c.cores.items z y ∙ are.parts.count;
    each = λ k b e k-within. elim (cases_eq k z) as (λ _. IsCoreOf (zone_at zs k b) (core_at d k e)) [
      | inl same ↦ subst (λ i. IsCoreOf (zone_at zs i b) (core_at d i e)) (sym same)
          (at_any_zone (λ f _ h. IsCoreOf f h) zs c d z a b x y e within are.parts.count a-is x-is is one)
      | inr other ↦ subst (λ (g : Core). IsCoreOf (zone_at zs k b) g) (sym (others_stay zs c d z y is k e k-within other))
          (are.parts.each k b e k-within)
    ];
  };
  home = subst (λ h. h < zone_count zs) (sym home) are.home;
}

pub used_then : (zs : Zones) (c d e : ZoneCore) → IsUsedAlike zs c d → IsUsedAlike zs d e → IsUsedAlike zs c e
used_then zs c d e one two z a x within = record {
  lent = (two z a x within).lent ∙ (one z a x within).lent;
  kept = (two z a x within).kept ∙ (one z a x within).kept;
}

-- a core that is used as before is unused still
pub unused_still : (zs : Zones) (c d : ZoneCore) → AreCoresOf zs c → AreCoresOf zs d → IsUsedAlike zs c d → IsUnusedCore c
    → IsUnusedCore d
unused_still zs c d was are used unused z x within =
    let here : z < zone_count zs = subst (λ n. z < n) are.parts.count within in
    let a : Allocator = some_of zs.zones.items (omega (arith, here)) in
    let one : IsUsedAsBefore (core_at c z x) (core_at d z x) = used z a x here in
    let none : IsUnused (core_at c z x) = unused z x (subst (λ n. z < n) (sym was.parts.count) here) in
    record { lent = one.lent ∙ none.lent; kept = one.kept ∙ none.kept }

-- the list of a zone as it was read
pub list_here : (has : Bool) (zs : Zones) (z : ℕ) (a : Allocator) (s : SlotList) → z < zone_count zs → a ≡ zone_at zs z a
    → IsListOf a s → HasSlots has (memory_of a) s → IsListIn has zs z s
list_here has zs z a s within a-is list slots =
    let at : (b : Allocator) → a ≡ zone_at zs z b = λ b. a-is ∙ get_or_default zs.zones.items z a b within in
    record {
      is_list = λ b. subst (λ (e : Allocator). IsListOf e s) (at b) list;
      slots = λ b. subst (λ (e : Allocator). HasSlots has (memory_of e) s) (at b) slots;
    }

-- zones hold back what the spans say that they were opened at
pub holding_back : (as_many : ℕ) (spans : List Span) (zs : Zones) (cs : List ZoneCore)
    → AreOpened as_many (map place_of_span spans) zs cs → HoldBack spans zs
holding_back as_many spans zs cs opened =
    let count : zone_count zs ≡ length spans = omega (arith, opened.zones, length-map spans place_of_span) in
    record {
      count = count;
      each = λ z s a within.
          let p : Place = place_of_span s in
          let at : IsAt (slice_index_or (map place_of_span spans) z p) (first_frame_of zs z) (zone_at zs z a) = opened.are_at z p a within in
          let same : slice_index_or (map place_of_span spans) z p ≡ place_of_span (slice_index_or spans z s) =
          get_or-map place_of_span spans z s p (subst (λ n. z < n) count within) in
          ap (λ (k : Key). k.ranges) at.memory ∙ ap (λ (q : Place). q.key.ranges) same;
    }

-- the list of one zone more
pub list_more : (has : Bool) (zs : Zones) (lists : List SlotList) (i : ℕ) (list : SlotList) → length lists ≡ i
    → ((z : ℕ) (s : SlotList) → z < i → IsListIn has zs z (slice_index_or lists z s)) → IsListIn has zs i list
    → (z : ℕ) (s : SlotList) → z < i + 1 → IsListIn has zs z (slice_index_or (lists ++ list ∷ []) z s)
list_more has zs lists i list count before one z s below =
    elim (cases_lt z i) as (λ _. IsListIn has zs z (slice_index_or (lists ++ list ∷ []) z s)) [
      | inl less ↦ subst (λ (l : SlotList). IsListIn has zs z l)
          (sym (get_or_append_left lists (list ∷ []) s z (subst (λ n. z < n) (sym count) less))) (before z s less)
      | inr past ↦
          let here : i ≡ z = omega (arith, past, below) in
          subst (λ (l : SlotList). IsListIn has zs z l) (sym (get_or_push lists list s z (count ∙ here)))
          (subst (λ n. IsListIn has zs n list) here one)
    ]

pub slotted : (has : Bool) (zs : Zones) (lists : List SlotList) → AreListsIn has zs lists → AreSlotted zs lists
slotted has zs lists are = record { count = are.count; each = λ z a s within. (are.each z s within).is_list a }

pub unused_in : (as_many : ℕ) (places : List Place) (zs : Zones) (cs : List ZoneCore) → AreOpened as_many places zs cs
    → AreUnusedIn zs cs
unused_in as_many places zs cs opened = record {
  are_cores = λ k c within. (opened.each k c within).are_cores;
  unused = λ k c within z x z-within.
      let new : IsNewIn zs (slice_index_or cs k c) = opened.each k c within in
      let here : z < zone_count zs = subst (λ n. z < n) new.are_cores.parts.count z-within in
      let a : Allocator = some_of zs.zones.items (omega (arith, here)) in
      let one : IsNewCore (zone_at zs z a) (core_at (slice_index_or cs k c) z x) = new.each z a x here in
      record { lent = one.lent; kept = one.kept };
}

pub numbered : (as_many : ℕ) (spans : List Span) (zs : Zones) (cs : List ZoneCore)
    → AreOpened as_many (map place_of_span spans) zs cs → All HasNumbers spans → HaveNumbers zs
numbered as_many spans zs cs opened numbers z a within =
    let here : z < length spans = omega (arith, within, opened.zones, length-map spans place_of_span) in
    let s : Span = some_of spans (omega (arith, here)) in
    let p : Place = place_of_span s in
    let at : IsAt (slice_index_or (map place_of_span spans) z p) (first_frame_of zs z) (zone_at zs z a) = opened.are_at z p a within in
    let same : slice_index_or (map place_of_span spans) z p ≡ place_of_span (slice_index_or spans z s) = get_or-map place_of_span spans z s p here in
    omega (
      arith,
      at.first_frame,
      ap (λ (k : Key). k.children) at.memory,
      ap (λ (q : Place). q.first) same,
      ap (λ (q : Place). q.key.children) same,
      numbers z s here,
    )

-- where it is an answer, three facts of it give a fourth
pub all_ok : (r : Result SlotList Fault) (P Q S R : SlotList → Type 0) → ((s : SlotList) → P s → Q s → S s → R s)
    → IfOk r P → IfOk r Q → IfOk r S → IfOk r R
all_ok (Ok s) P Q S R all p q t = all s p q t
all_ok (Err e) P Q S R all p q t = tt
