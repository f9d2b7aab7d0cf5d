-- Single frames that come to rest, leave, and go back.
use Rattle.std.proofs.Common.{◌≡◌, ℕ, ℤ, pos, ◌+◌, ◌-◌, ◌*◌, ◌<◌, ◌≤◌, ◌&&◌, Bool, true, false, List, [], ◌∷◌, ◌++◌, drop, take, length, inl, inr, refl, sym, ◌∙◌, ap, ap₂, subst, arith, ◌+ℤ◌, ◌-ℤ◌, None, if◌then◌else◌, nat_le, nat_lt, Option, Some, IfSome, IfNone, Result, Ok, Err, IfOk, IfErr}
use Rattle.std.proofs.Common.{le-leb, lt-ltb, le-ltb}
use Rattle.std.specs.List.{sum_by}
use Rattle.std.proofs.lemmas.Bool.{cases_eq, cases_order, lt-leb}
use Rattle.std.proofs.lemmas.Int.{ints}
use Rattle.std.proofs.lemmas.List.Elements.{All-append, All-drop, All-pop, All-push, All-same, All-take}
use Rattle.std.proofs.lemmas.List.{append_assoc, drop_at, length-append, length-take, take-append-drop, take-append-le, take-take, take_all}
use Rattle.std.proofs.lemmas.List.Sums.{sum_by-append, sum_by-take-drop, sum_by_push}
use Rattle.atomic_table.specs.declared.shared.Seat.{Seat}
use Rattle.core_frames.specs.Cores.{memory_of, kept_by, lent_by}
use Rattle.core_frames.specs.declared.shared.allocator.Allocator.{Allocator}
use Rattle.core_frames.specs.declared.shared.allocator.Core.{Core}
use Rattle.frame_model.specs.Block.{block, IsBlock}
use Rattle.frame_model.specs.View.{holder}
use Rattle.frame_table.specs.Rule.{watch}
use Rattle.frame_table.specs.declared.rule.Watch.{Watch}
use Rattle.frame_words.specs.declared.fault.TakeFault.{TakeFault}
use Rattle.frame_zones.proofs.Rounds.{some_zone}
use Rattle.frame_zones.specs.Stops.{AreStopped}
use Rattle.frame_zones.specs.declared.image.ZoneImage.{ZoneImage}
use Rattle.frame_zones.specs.Uses.{KeepsAll}
use Rattle.frame_zones.specs.Zones.{zone_count, zone_at, core_at, first_frame_of, first_frame_in, InEach, AreCoresOf, IsOutOfItsZone}
use Rattle.frame_zones.specs.declared.block.ZoneBlock.{ZoneBlock}
use Rattle.frame_zones.specs.declared.zones.Zones.{Zones}
use Rattle.frame_zones.specs.declared.zones.ZoneCore.{ZoneCore}
use Rattle.std.specs.Arc.{arc_value}
use Rattle.zone_slots.specs.Calls.{zones_of, SharesOne, KeepsAllInEach}
use Rattle.zone_slots.specs.FrameCalls.{resting_in, LendsOneLess, LendsAsManyInEach, TakesSingle, RefusesOne, StopsWithout}
use Rattle.zone_slots.specs.Layouts.{end_of_children}
use Rattle.zone_slots.specs.Resting.{IsSingleIn, AreSingles, stretch_of, one_in, singles_in, lent_besides, LendAsManyBesides, HasTakenSingle}
use Rattle.zone_slots.specs.Rights.{IsRightFrom}
use Rattle.zone_slots.specs.Uses.{GivesInZone, TakesByNumber, GivesByNumber, IsRefusedBlock}
use Rattle.zone_slots.specs.declared.core_state.CoreState.{CoreState}
use Rattle.zone_slots.specs.declared.memory.Memory.{Memory}
use Rattle.zone_slots.specs.declared.single_frame.SingleFrame.{SingleFrame}
use Rattle.zone_slots.proofs.Reopened.{children_of}
use Rattle.zone_slots.proofs.Rights.{right_from, right_in}

-- the seat of a single frame that is out is the right to it
pub single_of : (zs : Zones) (b : ZoneBlock) (frame : ℕ) (seat : Seat (Unit {0}) Watch) → IsOutOfItsZone zs b
    → b.block.order ≡ 0 → frame ≡ first_frame_in zs b → seat ≡ b.block.seat → IsRightFrom zs frame 0 seat.table_id seat.me
single_of zs b frame seat out order number same =
    subst (λ (s : Seat (Unit {0}) Watch). IsRightFrom zs frame 0 s.table_id s.me) (sym same)
    (right_from zs frame 0 b.block.seat.table_id b.block.seat.me (record {
      zone = b.zone;
      local = b.block.frame;
      within = out.zone;
      number = number;
      holds = record {
        owns = b.block.owns
            ∙ ap (λ n. (watch (holder b.block.seat.me.0.view.about (block b.block.frame n)) [] None, [])) order;
        table = λ a. (out.is_out a).table;
        about = λ a. (out.is_out a).about;
        is_block = λ a. subst (λ n. IsBlock (memory_of (zone_at zs b.zone a)) (block b.block.frame n)) order (out.is_out a).is_block;
      };
    }))

-- where a zone's children end
end_is : (zs : Zones) (z : ℕ) (a : Allocator) → z < zone_count zs
    → end_of_children (stretch_of zs z) ≡ first_frame_of zs z + 512 * (memory_of (zone_at zs z a)).children
end_is zs z a within = omega (arith, children_of (zone_at zs z a) (stretch_of zs z).1 (zs.sized.each z a within))

-- the zone of a frame has it
pub one_here : (zs : Zones) (z n local : ℕ) (a : Allocator) → z < zone_count zs → n ≡ first_frame_of zs z + local
    → local < 512 * (memory_of (zone_at zs z a)).children → one_in zs z n ≡ 1
one_here zs z n local a within is few =
    ap (λ b. if b then 1 else 0)
    (ap₂ (λ p q. p && q) (le-leb (first_frame_of zs z) n (omega (arith, is)))
    (lt-ltb n (end_of_children (stretch_of zs z)) (omega (arith, is, few, end_is zs z a within))))

no_more : (b : Bool) → b && false ≡ false
no_more true = refl
no_more false = refl

-- and no other zone does
pub none_elsewhere : (zs : Zones) (k z n local : ℕ) (a : Allocator) → k < zone_count zs → z < zone_count zs → ¬ (k ≡ z)
    → n ≡ first_frame_of zs z + local → local < 512 * (memory_of (zone_at zs z a)).children → one_in zs k n ≡ 0
none_elsewhere zs k z n local a before within not is few =
    elim (cases_order k z) as (λ _. one_in zs k n ≡ 0) [
      | inl same ↦ absurd (not same)
      | inr less ↦ elim less as (λ _. one_in zs k n ≡ 0) [
        | inl below ↦
            let past : end_of_children (stretch_of zs k) ≤ n = omega (arith, is, end_is zs k a before, zs.laid_out.ascend k z a below within) in
            ap (λ b. if b then 1 else 0)
            (ap (λ q. nat_le (first_frame_of zs k) n && q) (le-ltb n (end_of_children (stretch_of zs k)) past)
            ∙ no_more (nat_le (first_frame_of zs k) n))
        | inr above ↦
            let past : n < first_frame_of zs k = omega (arith, is, few, zs.laid_out.ascend z k a above before) in
            ap (λ b. if b then 1 else 0)
            (ap (λ p. p && nat_lt n (end_of_children (stretch_of zs k))) (lt-leb (first_frame_of zs k) n past))
      ]
    ]

-- a single frame was given: its zone lends one block less, and each other as many as before
pub gives_one : (zs : Zones) (n : ℕ) (c d : ZoneCore) → GivesByNumber zs 0 n c d → (k : ℕ) (x : Core) → k < zone_count zs
    → lent_by (core_at d k x) ≡ lent_by (core_at c k x) -ℤ pos (one_in zs k n)
gives_one zs n c d given k x before =
    let z : ℕ = given.zone in
    let a : Allocator = some_zone zs z given.within in
    let few : given.local < 512 * (memory_of (zone_at zs z a)).children = omega (arith, (given.holds.here a x).block.inside) in
    elim (cases_eq k z) as (λ _. lent_by (core_at d k x) ≡ lent_by (core_at c k x) -ℤ pos (one_in zs k n)) [
      | inl same ↦ subst (λ i. lent_by (core_at d i x) ≡ lent_by (core_at c i x) -ℤ pos (one_in zs i n)) (sym same)
          ((given.holds.here a x).lent
          ∙ ap (λ m. lent_by (core_at c z x) -ℤ pos m) (sym (one_here zs z n given.local a given.within given.number few)))
      | inr other ↦
          let none : one_in zs k n ≡ 0 = none_elsewhere zs k z n given.local a before given.within other given.number few in
          let left : (l : ℤ) → l ≡ l -ℤ pos 0 = λ l. omega (arith, ints) in
          ap lent_by (given.holds.others k x before other) ∙ left (lent_by (core_at c k x))
          ∙ ap (λ m. lent_by (core_at c k x) -ℤ pos m) (sym none)
    ]

-- what the core keeps in each zone is as before
pub gives_keep : (zs : Zones) (z local order : ℕ) (c d : ZoneCore) → z < zone_count zs
    → GivesInZone zs order c d z local → InEach zs KeepsAll c d
gives_keep zs z local order c d within given k a x before =
    elim (cases_eq k z) as (λ _. kept_by (core_at d k x) ≡ kept_by (core_at c k x)) [
      | inl same ↦ subst (λ i. kept_by (core_at d i x) ≡ kept_by (core_at c i x)) (sym same)
          (given.here (some_zone zs z within) x).kept
      | inr other ↦ ap kept_by (given.others k x before other)
    ]

pub gives_keep_all : (zs : Zones) (n : ℕ) (c d : ZoneCore) → GivesByNumber zs 0 n c d → InEach zs KeepsAll c d
gives_keep_all zs n c d given = gives_keep zs given.zone given.local 0 c d given.within given.holds

-- one was taken: its zone lends one block more
pub takes_one : (zs : Zones) (n : ℕ) (c d : ZoneCore) → TakesByNumber zs 0 n c d → (k : ℕ) (x : Core) → k < zone_count zs
    → lent_by (core_at d k x) ≡ lent_by (core_at c k x) +ℤ pos (one_in zs k n)
takes_one zs n c d taken k x before =
    let z : ℕ = taken.zone in
    let a : Allocator = some_zone zs z taken.within in
    let few : taken.local < 512 * (memory_of (zone_at zs z a)).children = omega (arith, (taken.holds.here a x).is_block.inside) in
    elim (cases_eq k z) as (λ _. lent_by (core_at d k x) ≡ lent_by (core_at c k x) +ℤ pos (one_in zs k n)) [
      | inl same ↦ subst (λ i. lent_by (core_at d i x) ≡ lent_by (core_at c i x) +ℤ pos (one_in zs i n)) (sym same)
          ((taken.holds.here a x).lent
          ∙ ap (λ m. lent_by (core_at c z x) +ℤ pos m) (sym (one_here zs z n taken.local a taken.within taken.number few)))
      | inr other ↦
          let none : one_in zs k n ≡ 0 = none_elsewhere zs k z n taken.local a before taken.within other taken.number few in
          let left : (l : ℤ) → l ≡ l +ℤ pos 0 = λ l. omega (arith, ints) in
          taken.holds.others k x before other ∙ left (lent_by (core_at c k x))
          ∙ ap (λ m. lent_by (core_at c k x) +ℤ pos m) (sym none)
    ]

-- one frame more rests in the zone of its number
pub count_more : (zs : Zones) (before after : List SingleFrame) (f : SingleFrame) (z : ℕ) → after ≡ before ++ f ∷ []
    → singles_in zs after z ≡ singles_in zs before z + one_in zs z f.frame
count_more zs before after f z is =
    ap (λ (fs : List SingleFrame). singles_in zs fs z) is ∙ sum_by_push (λ (g : SingleFrame). one_in zs z g.frame) before f

-- what left the list is lent besides
pub left_list : (l : ℤ) (a b n : ℕ) → a ≡ b + n → l -ℤ pos b ≡ (l -ℤ pos a) +ℤ pos n
left_list l a b n is = omega (arith, ints, is)

-- what came into it is not
pub into_list : (l : ℤ) (a b n : ℕ) → a ≡ b + n → l -ℤ pos a ≡ (l -ℤ pos b) -ℤ pos n
into_list l a b n is = omega (arith, ints, is)

-- all that is left of the list, and what left it
pub popped_all : (zs : Zones) (before after : List SingleFrame) (f : SingleFrame) → before ≡ after ++ f ∷ [] → AreSingles zs before
    → AreSingles zs after × IsSingleIn zs f
popped_all zs before after f is all =
    let popped = All-pop (IsSingleIn zs) before after (Some f) is all.each in
    (record { each = popped.0 }, popped.1)

-- the same where it may have had none
pub left_all : (zs : Zones) (before after : List SingleFrame) (r : Option SingleFrame) → IfSome r (λ f. before ≡ after ++ f ∷ [])
    → IfNone r ((before ≡ []) × (after ≡ [])) → AreSingles zs before → AreSingles zs after
left_all zs before after (Some f) some none all = (popped_all zs before after f some all).0
left_all zs before after None some none all = subst (AreSingles zs) (none.0 ∙ sym none.1) all

-- one more
pub pushed_all : (zs : Zones) (before after : List SingleFrame) (f : SingleFrame) → after ≡ before ++ f ∷ [] → AreSingles zs before
    → IsSingleIn zs f → AreSingles zs after
pushed_all zs before after f is all one =
    record { each = All-same (IsSingleIn zs) after (before ++ f ∷ []) is (All-push (IsSingleIn zs) before f all.each one) }

-- the frame that left the list last went back
pub gives_last : (zs : Zones) (c d : ZoneCore) (before after : List SingleFrame) (f : SingleFrame) → AreCoresOf zs d
    → AreSingles zs before → before ≡ after ++ f ∷ [] → GivesByNumber zs 0 f.frame c d → LendAsManyBesides zs c before d after
gives_last zs c d before after f are all is given = record {
  are_cores = are;
  are_singles = (popped_all zs before after f is all).0;
  lent = λ z x within.
      ap (λ l. l -ℤ pos (singles_in zs after z)) (gives_one zs f.frame c d given z x within)
      ∙ down (lent_by (core_at c z x)) (singles_in zs before z) (singles_in zs after z) (one_in zs z f.frame)
      (count_more zs after before f z is);
  kept = gives_keep_all zs f.frame c d given;
}
  where
    down : (l : ℤ) (a b n : ℕ) → a ≡ b + n → (l -ℤ pos n) -ℤ pos b ≡ l -ℤ pos a
    down l a b n is = omega (arith, ints, is)

-- some went back, then others
pub besides_twice : (zs : Zones) (c d e : ZoneCore) (xs ys ws : List SingleFrame) → LendAsManyBesides zs c xs d ys
    → LendAsManyBesides zs d ys e ws → LendAsManyBesides zs c xs e ws
besides_twice zs c d e xs ys ws one two = record {
  are_cores = two.are_cores;
  are_singles = two.are_singles;
  lent = λ z x within. two.lent z x within ∙ one.lent z x within;
  kept = λ z a x within. two.kept z a x within ∙ one.kept z a x within;
}

-- one more left the end of a list
pub one_shorter : {X : Type 0} (n : ℕ) (xs ys ws : List X) → ys ≡ take (length xs - n) xs → ws ≡ take (length ys - 1) ys
    → ws ≡ take (length xs - (n + 1)) xs
one_shorter n xs ys ws first second =
    let long : length ys ≡ length xs - n = omega (arith, ap length first, length-take (length xs - n) xs) in
    let less : length ys - 1 ≡ length xs - (n + 1) = omega (arith, long) in
    second ∙ ap (λ k. take k ys) less ∙ ap (take (length xs - (n + 1))) first
    ∙ take-take (length xs - (n + 1)) (length xs - n) xs (omega arith)

-- the ones that came first stand last, and still all are rights
pub turned_all : (zs : Zones) (n : ℕ) (xs ys : List SingleFrame) → ys ≡ drop n xs ++ take n xs → AreSingles zs xs
    → AreSingles zs ys
turned_all zs n xs ys is all = record {
  each = All-same (IsSingleIn zs) ys (drop n xs ++ take n xs) is
      (All-append (IsSingleIn zs) (drop n xs) (take n xs) (All-drop (IsSingleIn zs) n xs all.each) (All-take (IsSingleIn zs) n xs all.each));
}

-- as many of each zone
pub turned_count : (zs : Zones) (n z : ℕ) (xs ys : List SingleFrame) → ys ≡ drop n xs ++ take n xs
    → singles_in zs ys z ≡ singles_in zs xs z
turned_count zs n z xs ys is =
    let f : SingleFrame → ℕ = λ g. one_in zs z g.frame in
    omega (
      arith,
      ap (λ (fs : List SingleFrame). sum_by f fs) is,
      sum_by-append f (drop n xs) (take n xs),
      sum_by-take-drop f xs n,
    )

-- the front of two lists, as long as the first
front : {X : Type 0} (n : ℕ) (xs ys : List X) → length xs ≡ n → take n (xs ++ ys) ≡ xs
front n xs ys e = take-append-le n xs ys (omega (e, arith)) ∙ take_all n xs (omega (e, arith))

-- the ones that came first stood last and went: the others are left
pub newer : {X : Type 0} (n : ℕ) (xs turned left : List X) → n ≤ length xs → turned ≡ drop n xs ++ take n xs
    → left ≡ take (length turned - n) turned → left ≡ drop n xs
newer n xs turned left le e l =
    let all : length turned ≡ length (drop n xs) + length (take n xs) = ap length e ∙ length-append (drop n xs) (take n xs) in
    let gone : length (take n xs) ≡ n = omega (length-take n xs, le, arith) in
    let long : length (drop n xs) ≡ length turned - n = omega (all, gone, arith) in
    l ∙ ap (take (length turned - n)) e ∙ front (length turned - n) (drop n xs) (take n xs) long

-- the first n moved behind the next n, and then behind the rest
pub moved_back : {X : Type 0} (n : ℕ) (all first others next rest moved : List X) → first ≡ take n all → others ≡ drop n all
    → length first ≡ n → next ≡ take n others → rest ≡ drop n others
    → moved ≡ drop n (first ++ rest) ++ take n (first ++ rest) → next ++ moved ≡ drop n all ++ take n all
moved_back n all first others next rest moved is_first is_others long is_next is_rest is =
    let both : next ++ rest ≡ others = ap₂ (λ p q. p ++ q) is_next is_rest ∙ take-append-drop n others in
    ap (λ l. next ++ l) (is ∙ ap₂ (λ p q. p ++ q) (drop_at first rest n long) (front n first rest long))
    ∙ sym (append_assoc next rest first) ∙ ap₂ (λ p q. p ++ q) (both ∙ is_others) is_first

-- a frame that rested left: it is lent besides
pub left_rest : (zs : Zones) (c : ZoneCore) (before after : List SingleFrame) (f : SingleFrame) → before ≡ after ++ f ∷ []
    → (z : ℕ) (x : Core) → lent_besides zs c after z x ≡ lent_besides zs c before z x +ℤ pos (one_in zs z f.frame)
left_rest zs c before after f is z x =
    left_list (lent_by (core_at c z x)) (singles_in zs before z) (singles_in zs after z) (one_in zs z f.frame) (count_more zs after before f z is)

-- a frame came to rest: it is lent no more
pub came_to_rest : (zs : Zones) (c : ZoneCore) (before after : List SingleFrame) (f : SingleFrame) → after ≡ before ++ f ∷ []
    → (z : ℕ) (x : Core) → lent_besides zs c after z x ≡ lent_besides zs c before z x -ℤ pos (one_in zs z f.frame)
came_to_rest zs c before after f is z x =
    into_list (lent_by (core_at c z x)) (singles_in zs after z) (singles_in zs before z) (one_in zs z f.frame) (count_more zs before after f z is)

-- a frame was taken, whatever rests
pub taken_besides : (zs : Zones) (c d : ZoneCore) (frames : List SingleFrame) (n : ℕ) → TakesByNumber zs 0 n c d
    → (z : ℕ) (x : Core) → z < zone_count zs
    → lent_besides zs d frames z x ≡ lent_besides zs c frames z x +ℤ pos (one_in zs z n)
taken_besides zs c d frames n taken z x within =
    ap (λ l. l -ℤ pos (singles_in zs frames z)) (takes_one zs n c d taken z x within)
    ∙ turned (lent_by (core_at c z x)) (singles_in zs frames z) (one_in zs z n)
  where
    turned : (l : ℤ) (a b : ℕ) → (l +ℤ pos b) -ℤ pos a ≡ (l -ℤ pos a) +ℤ pos b
    turned l a b = omega (arith, ints)

-- nothing rests any more
pub all_given : (zs : Zones) (c d : ZoneCore) (before after : List SingleFrame) → after ≡ [] → LendAsManyBesides zs c before d after
    → (z : ℕ) (x : Core) → z < zone_count zs → lent_by (core_at d z x) ≡ lent_besides zs c before z x
all_given zs c d before after none gives z x within =
    let left : (l : ℤ) → l ≡ l -ℤ pos 0 = λ l. omega (arith, ints) in
    left (lent_by (core_at d z x)) ∙ ap (λ (fs : List SingleFrame). lent_besides zs d fs z x) (sym none) ∙ gives.lent z x within

-- what is kept stays so, before and behind
pub then_keeps : (s m t : CoreState) → SharesOne s m → KeepsAllInEach s m → KeepsAllInEach m t → KeepsAllInEach s t
then_keeps s m t same one two z a x within =
    let zones : zones_of m ≡ zones_of s = λ i. (arc_value (same i)).zones in
    two z a x (subst (λ (zs : Zones). z < zone_count zs) (sym zones) within) ∙ one z a x within

-- one less is lent out than before, where as many were in between
pub then_one_less : (s m t : CoreState) (n : ℕ) → SharesOne s m → LendsAsManyInEach s m → LendsOneLess n m t → LendsOneLess n s t
then_one_less s m t n same as_many less =
    let zones : zones_of m ≡ zones_of s = λ i. (arc_value (same i)).zones in record {
      lent = λ z x within.
          less.lent z x (subst (λ (zs : Zones). z < zone_count zs) (sym zones) within)
          ∙ ap₂ (λ l (zs : Zones). l -ℤ pos (one_in zs z n)) (as_many.lent z x within) zones;
      kept = then_keeps s m t same as_many.kept less.kept;
    }

-- a single frame was taken where none rested
pub taken_single : (r : Result SingleFrame TakeFault) (s t : CoreState) → resting_in s ≡ [] → resting_in t ≡ []
    → t.shared ≡ s.shared → IfOk r (HasTakenSingle (zones_of s) s.core t.core) → IfOk r (TakesSingle s t)
taken_single (Ok f) s t none none_then same taken =
    let zones : zones_of t ≡ zones_of s = λ i. (arc_value (same i)).zones in record {
      is_single = right_in (zones_of s) f.frame 0 f.seat.table_id f.seat.me taken.is_single;
      lent = record {
        lent = λ z x within.
            ap₂ (λ (zs : Zones) (fs : List SingleFrame). lent_besides zs t.core fs z x) zones (none_then ∙ sym none)
            ∙ taken_besides (zones_of s) s.core t.core (resting_in s) f.frame taken.taken z x within;
        kept = taken.taken.holds.kept;
      };
    }
taken_single (Err e) s t none none_then same taken = tt

-- or it was refused
pub refused_single : (r : Result SingleFrame TakeFault) (s t : CoreState) → resting_in s ≡ [] → resting_in t ≡ []
    → IfErr r (IsRefusedBlock (zones_of s) 0 s.core t.core) → IfErr r (RefusesOne s t)
refused_single (Ok f) s t none none_then refused = tt
refused_single (Err e) s t none none_then refused = record { why = refused; none = none; none_then = none_then }

-- of so many none are left
pub none_left : {X : Type 0} (n : ℕ) (xs ys : List X) → n ≡ length xs → ys ≡ take (length xs - n) xs → ys ≡ []
none_left n xs ys all is =
    let none : length xs - n ≡ 0 = omega (arith, all) in
    is ∙ ap (λ k. take k xs) none

-- all that rested went back, and the zones were stopped
pub stopped_without : (s : CoreState) (m : Memory) (d : ZoneCore) (after : List SingleFrame) (images : List ZoneImage)
    → m ≡ arc_value s.shared → after ≡ [] → LendAsManyBesides m.zones s.core (resting_in s) d after → AreStopped m.zones d images
    → StopsWithout s images
stopped_without s m d after images is none back stopped =
    let gives : LendAsManyBesides (zones_of s) s.core (resting_in s) d after =
    subst (λ (k : Memory). LendAsManyBesides k.zones s.core (resting_in s) d after) is back in record {
      core = d;
      rest = record {
        are_cores = gives.are_cores;
        lent = λ z x within. all_given (zones_of s) s.core d (resting_in s) after none gives z x within;
        kept = gives.kept;
      };
      stopped = subst (λ (k : Memory). AreStopped k.zones d images) is stopped;
    }
