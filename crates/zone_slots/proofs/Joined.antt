-- Frames that leave a list together, and blocks that are joined or go back.
use Rattle.std.proofs.Common.{◌≡◌, ℕ, suc, ℤ, pos, ◌+◌, ◌-◌, ◌*◌, ◌^◌, ◌<◌, List, [], ◌∷◌, ◌++◌, take, length, inl, inr, refl, sym, ◌∙◌, ap, subst, arith, ◌+ℤ◌, ◌-ℤ◌, Option, Some, None}
use Rattle.std.proofs.Math.Nat.{pow-suc}
use Rattle.std.proofs.lemmas.Bool.{cases_eq}
use Rattle.std.proofs.lemmas.Int.{ints}
use Rattle.std.proofs.lemmas.List.{length-take, take-take}
use Rattle.std.proofs.lemmas.Nat.{pow_pos}
use Rattle.core_frames.specs.Cores.{memory_of, kept_by, lent_by}
use Rattle.core_frames.specs.declared.shared.allocator.Allocator.{Allocator}
use Rattle.core_frames.specs.declared.shared.allocator.Core.{Core}
use Rattle.frame_zones.proofs.Rounds.{some_zone}
use Rattle.frame_zones.specs.Joins.{HasJoinedIn}
use Rattle.frame_zones.specs.Uses.{OthersStay}
use Rattle.frame_zones.specs.Zones.{zone_count, zone_at, core_at, first_frame_in, AreCoresOf, IsOutOfItsZone}
use Rattle.frame_zones.specs.declared.block.ZoneBlock.{ZoneBlock}
use Rattle.frame_zones.specs.declared.zones.Zones.{Zones}
use Rattle.frame_zones.specs.declared.zones.ZoneCore.{ZoneCore}
use Rattle.zone_slots.specs.Resting.{AreSingles, one_in, singles_in, lent_besides, LendAsManyBesides, block_in_zone, in_hand, GoBackOrJoin, LeaveTheList}
use Rattle.zone_slots.specs.Uses.{GivesInZone}
use Rattle.zone_slots.specs.declared.single_frame.SingleFrame.{SingleFrame}
use Rattle.zone_slots.proofs.Lifted.{kept_all, kept_twice}
use Rattle.zone_slots.proofs.Rested.{one_here, none_elsewhere, gives_keep, popped_all, left_rest}

-- a block that is out begins in a child of its zone
begins_inside : (zs : Zones) (b : ZoneBlock) (a : Allocator) → IsOutOfItsZone zs b
    → b.block.frame < 512 * (memory_of (zone_at zs b.zone a)).children
begins_inside zs b a out = omega (arith, (out.is_out a).is_block.inside, pow_pos b.block.order)

-- it counts for its zone
counts_here : (zs : Zones) (b : ZoneBlock) → IsOutOfItsZone zs b → block_in_zone zs b b.zone ≡ 1
counts_here zs b out =
    let a : Allocator = some_zone zs b.zone out.zone in
    one_here zs b.zone (first_frame_in zs b) b.block.frame a out.zone refl (begins_inside zs b a out)

-- and for no other
counts_nowhere_else : (zs : Zones) (b : ZoneBlock) (k : ℕ) → IsOutOfItsZone zs b → k < zone_count zs → ¬ (k ≡ b.zone)
    → block_in_zone zs b k ≡ 0
counts_nowhere_else zs b k out within other =
    let a : Allocator = some_zone zs b.zone out.zone in
    none_elsewhere zs k b.zone (first_frame_in zs b) b.block.frame a within out.zone other refl (begins_inside zs b a out)

less_none : (l : ℤ) (n : ℕ) → n ≡ 0 → l ≡ l -ℤ pos n
less_none l n is = omega (arith, ints, is)

-- a block went back: its zone lends one less
pub went_back : (zs : Zones) (b : ZoneBlock) (c d : ZoneCore) → IsOutOfItsZone zs b
    → GivesInZone zs b.block.order c d b.zone b.block.frame → (z : ℕ) (x : Core) → z < zone_count zs
    → lent_by (core_at d z x) ≡ lent_by (core_at c z x) -ℤ pos (block_in_zone zs b z)
went_back zs b c d out given z x within =
    elim (cases_eq z b.zone) as (λ _. lent_by (core_at d z x) ≡ lent_by (core_at c z x) -ℤ pos (block_in_zone zs b z)) [
      | inl same ↦
          let a : Allocator = some_zone zs b.zone out.zone in
          subst (λ k. lent_by (core_at d k x) ≡ lent_by (core_at c k x) -ℤ pos (block_in_zone zs b k)) (sym same)
          ((given.here a x).lent
          ∙ ap (λ n. lent_by (core_at c b.zone x) -ℤ pos n) (sym (counts_here zs b out)))
      | inr other ↦
          ap lent_by (given.others z x within other)
          ∙ less_none (lent_by (core_at c z x)) (block_in_zone zs b z) (counts_nowhere_else zs b z out within other)
    ]

one_of_two : (l m : ℤ) (p q r : ℕ) → m ≡ l -ℤ pos 1 → p ≡ 1 → q ≡ 1 → r ≡ 1 → m -ℤ pos p ≡ (l -ℤ pos q) -ℤ pos r
one_of_two l m p q r less a b c = omega (arith, ints, less, a, b, c)

none_of_two : (l m : ℤ) (p q r : ℕ) → m ≡ l → p ≡ 0 → q ≡ 0 → r ≡ 0 → m -ℤ pos p ≡ (l -ℤ pos q) -ℤ pos r
none_of_two l m p q r same a b c = omega (arith, ints, same, a, b, c)

-- two blocks were joined: besides what is in hand as many are lent
pub joined : (zs : Zones) (l u b : ZoneBlock) (c d : ZoneCore) → IsOutOfItsZone zs l → IsOutOfItsZone zs u
    → HasJoinedIn zs l u b c d → OthersStay zs l.zone c d → (z : ℕ) (x : Core) → z < zone_count zs
    → lent_by (core_at d z x) -ℤ pos (block_in_zone zs b z)
    ≡ (lent_by (core_at c z x) -ℤ pos (block_in_zone zs l z)) -ℤ pos (block_in_zone zs u z)
joined zs l u b c d lower upper join others z x within =
    elim (cases_eq z l.zone) as (λ _. lent_by (core_at d z x) -ℤ pos (block_in_zone zs b z)
    ≡ (lent_by (core_at c z x) -ℤ pos (block_in_zone zs l z)) -ℤ pos (block_in_zone zs u z)) [
      | inl same ↦
          let a : Allocator = some_zone zs l.zone lower.zone in
          subst (λ k. lent_by (core_at d k x) -ℤ pos (block_in_zone zs b k)
          ≡ (lent_by (core_at c k x) -ℤ pos (block_in_zone zs l k)) -ℤ pos (block_in_zone zs u k)) (sym same)
          (one_of_two (lent_by (core_at c l.zone x)) (lent_by (core_at d l.zone x)) (block_in_zone zs b l.zone)
          (block_in_zone zs l l.zone) (block_in_zone zs u l.zone) (join.here a x).lent
          (subst (λ k. block_in_zone zs b k ≡ 1) join.zone (counts_here zs b join.is_out))
          (counts_here zs l lower)
          (subst (λ k. block_in_zone zs u k ≡ 1) join.same_zone (counts_here zs u upper)))
      | inr other ↦
          none_of_two (lent_by (core_at c z x)) (lent_by (core_at d z x)) (block_in_zone zs b z)
          (block_in_zone zs l z) (block_in_zone zs u z) (ap lent_by (others z x within other))
          (counts_nowhere_else zs b z join.is_out within (λ e. other (e ∙ join.zone)))
          (counts_nowhere_else zs l z lower within other)
          (counts_nowhere_else zs u z upper within (λ e. other (e ∙ join.same_zone)))
    ]

-- no core is another than before
pub all_stay : (zs : Zones) (k : ℕ) (c d : ZoneCore) → ((x : Core) → core_at d k x ≡ core_at c k x) → OthersStay zs k c d
    → (z : ℕ) (x : Core) → z < zone_count zs → core_at d z x ≡ core_at c z x
all_stay zs k c d here others z x within =
    elim (cases_eq z k) as (λ _. core_at d z x ≡ core_at c z x) [
      | inl same ↦ subst (λ i. core_at d i x ≡ core_at c i x) (sym same) (here x)
      | inr other ↦ others z x within other
    ]

swap_less : (l : ℤ) (p q : ℕ) → (l -ℤ pos p) -ℤ pos q ≡ (l -ℤ pos q) -ℤ pos p
swap_less l p q = omega (arith, ints)

-- joined the other way round
pub joined_over : (zs : Zones) (l u b : ZoneBlock) (c d : ZoneCore) → IsOutOfItsZone zs l → IsOutOfItsZone zs u
    → AreCoresOf zs d → ((x : Core) → kept_by (core_at d l.zone x) ≡ kept_by (core_at c l.zone x))
    → HasJoinedIn zs l u b c d → OthersStay zs l.zone c d → GoBackOrJoin zs c (Some u) (Some l) d (Some b)
joined_over zs l u b c d lower upper are kept join others = record {
  are_cores = are;
  out = join.is_out;
  lent = λ z x within. joined zs l u b c d lower upper join others z x within
      ∙ swap_less (lent_by (core_at c z x)) (block_in_zone zs l z) (block_in_zone zs u z);
  kept = kept_all zs l.zone c d kept others;
}

pub joined_up : (zs : Zones) (l u b : ZoneBlock) (c d : ZoneCore) → IsOutOfItsZone zs l → IsOutOfItsZone zs u
    → AreCoresOf zs d → ((x : Core) → kept_by (core_at d l.zone x) ≡ kept_by (core_at c l.zone x))
    → HasJoinedIn zs l u b c d → OthersStay zs l.zone c d → GoBackOrJoin zs c (Some l) (Some u) d (Some b)
joined_up zs l u b c d lower upper are kept join others = record {
  are_cores = are;
  out = join.is_out;
  lent = λ z x within. joined zs l u b c d lower upper join others z x within;
  kept = kept_all zs l.zone c d kept others;
}

none_left : (l : ℤ) → l -ℤ pos 0 ≡ l
none_left l = omega (arith, ints)

-- both went back, one after the other
pub both_back : (zs : Zones) (l u : ZoneBlock) (b c d e : ZoneCore) → IsOutOfItsZone zs l → IsOutOfItsZone zs u → AreCoresOf zs e
    → ((z : ℕ) (x : Core) → z < zone_count zs → core_at c z x ≡ core_at b z x)
    → GivesInZone zs l.block.order c d l.zone l.block.frame → GivesInZone zs u.block.order d e u.zone u.block.frame
    → GoBackOrJoin zs b (Some l) (Some u) e None
both_back zs l u b c d e lower upper are same first second = record {
  are_cores = are;
  out = tt;
  lent = λ z x within. none_left (lent_by (core_at e z x)) ∙ went_back zs u d e upper second z x within
      ∙ ap (λ n. n -ℤ pos (block_in_zone zs u z)) (went_back zs l c d lower first z x within)
      ∙ ap (λ y. (lent_by y -ℤ pos (block_in_zone zs l z)) -ℤ pos (block_in_zone zs u z)) (same z x within);
  kept = λ z a x within.
      gives_keep zs u.zone u.block.frame u.block.order d e upper.zone second z a x within
      ∙ gives_keep zs l.zone l.block.frame l.block.order c d lower.zone first z a x within
      ∙ ap kept_by (same z x within);
}

-- the same where the cores were as they had been
pub go_on : (zs : Zones) (b c d : ZoneCore) (first second r : Option ZoneBlock)
    → ((z : ℕ) (x : Core) → z < zone_count zs → core_at c z x ≡ core_at b z x)
    → GoBackOrJoin zs c first second d r → GoBackOrJoin zs b first second d r
go_on zs b c d first second r same go = record {
  are_cores = go.are_cores;
  out = go.out;
  lent = λ z x within. go.lent z x within
      ∙ ap (λ y. (lent_by y -ℤ pos (in_hand zs first z)) -ℤ pos (in_hand zs second z)) (same z x within);
  kept = λ z a x within. go.kept z a x within ∙ ap kept_by (same z x within);
}

-- one went back, and there was no other
pub first_back : (zs : Zones) (b : ZoneBlock) (c d : ZoneCore) → IsOutOfItsZone zs b → AreCoresOf zs d
    → GivesInZone zs b.block.order c d b.zone b.block.frame → GoBackOrJoin zs c (Some b) None d None
first_back zs b c d out are given = record {
  are_cores = are;
  out = tt;
  lent = λ z x within. ap (λ n. n -ℤ pos 0) (went_back zs b c d out given z x within);
  kept = gives_keep zs b.zone b.block.frame b.block.order c d out.zone given;
}

pub second_back : (zs : Zones) (b : ZoneBlock) (c d : ZoneCore) → IsOutOfItsZone zs b → AreCoresOf zs d
    → GivesInZone zs b.block.order c d b.zone b.block.frame → GoBackOrJoin zs c None (Some b) d None
second_back zs b c d out are given = record {
  are_cores = are;
  out = tt;
  lent = λ z x within. ap (λ n. n -ℤ pos 0) (went_back zs b c d out given z x within)
      ∙ swap_less (lent_by (core_at c z x)) (block_in_zone zs b z) 0;
  kept = gives_keep zs b.zone b.block.frame b.block.order c d out.zone given;
}

pub none_back : (zs : Zones) (c : ZoneCore) → AreCoresOf zs c → GoBackOrJoin zs c None None c None
none_back zs c are = record {
  are_cores = are;
  out = tt;
  lent = λ z x within. sym (none_left (lent_by (core_at c z x) -ℤ pos 0));
  kept = λ z a x within. refl;
}

one_off : (l m : ℤ) (n : ℕ) → m ≡ l +ℤ pos n → m -ℤ pos n ≡ l
one_off l m n is = omega (arith, ints, is)

-- one frame left the list and is in hand
pub one_lifted : (zs : Zones) (c : ZoneCore) (before after : List SingleFrame) (f : SingleFrame) (b : ZoneBlock)
    → AreCoresOf zs c → AreSingles zs before → before ≡ after ++ f ∷ [] → first_frame_in zs b ≡ f.frame
    → IsOutOfItsZone zs b → LeaveTheList zs c before c after (Some b)
one_lifted zs c before after f b are all is number out = record {
  are_cores = are;
  are_singles = (popped_all zs before after f is all).0;
  out = out;
  lent = λ z x within.
      ap (λ n. lent_besides zs c after z x -ℤ pos n) (ap (λ k. one_in zs z k) number)
      ∙ one_off (lent_besides zs c before z x) (lent_besides zs c after z x) (one_in zs z f.frame) (left_rest zs c before after f is z x);
  kept = λ z a x within. refl;
}

through : (lc lc1 lc2 lc3 : ℤ) (s s1 s2 h h1 h2 : ℕ) → (lc1 -ℤ pos s1) -ℤ pos h1 ≡ lc -ℤ pos s
    → (lc2 -ℤ pos s2) -ℤ pos h2 ≡ lc1 -ℤ pos s1 → lc3 -ℤ pos h ≡ (lc2 -ℤ pos h1) -ℤ pos h2
    → (lc3 -ℤ pos s2) -ℤ pos h ≡ lc -ℤ pos s
through lc lc1 lc2 lc3 s s1 s2 h h1 h2 one two both = omega (arith, ints, one, two, both)

-- some left it, then others, and what was in hand was joined or went back
pub left_together : (zs : Zones) (c d e f : ZoneCore) (before between after : List SingleFrame) (first second r : Option ZoneBlock)
    → LeaveTheList zs c before d between first → LeaveTheList zs d between e after second
    → GoBackOrJoin zs e first second f r → LeaveTheList zs c before f after r
left_together zs c d e f before between after first second r one two both = record {
  are_cores = both.are_cores;
  are_singles = two.are_singles;
  out = both.out;
  lent = λ z x within.
      through (lent_by (core_at c z x)) (lent_by (core_at d z x)) (lent_by (core_at e z x)) (lent_by (core_at f z x))
      (singles_in zs before z) (singles_in zs between z) (singles_in zs after z) (in_hand zs r z) (in_hand zs first z)
      (in_hand zs second z) (one.lent z x within) (two.lent z x within) (both.lent z x within);
  kept = kept_twice zs c e f (kept_twice zs c d e one.kept two.kept) both.kept;
}

back_at_last : (l m k : ℤ) (s h : ℕ) → (m -ℤ pos s) -ℤ pos h ≡ k → l ≡ m -ℤ pos h → l -ℤ pos s ≡ k
back_at_last l m k s h was less = omega (arith, ints, was, less)

-- what was in hand went back
pub all_back : (zs : Zones) (c d e : ZoneCore) (before after : List SingleFrame) (b : ZoneBlock) → AreCoresOf zs e
    → LeaveTheList zs c before d after (Some b) → GivesInZone zs b.block.order d e b.zone b.block.frame
    → LendAsManyBesides zs c before e after
all_back zs c d e before after b are left given = record {
  are_cores = are;
  are_singles = left.are_singles;
  lent = λ z x within.
      back_at_last (lent_by (core_at e z x)) (lent_by (core_at d z x)) (lent_besides zs c before z x) (singles_in zs after z)
      (block_in_zone zs b z) (left.lent z x within) (went_back zs b d e left.out given z x within);
  kept = kept_twice zs c d e left.kept (gives_keep zs b.zone b.block.frame b.block.order d e left.out.zone given);
}

-- or nothing was
pub none_in_hand : (zs : Zones) (c d : ZoneCore) (before after : List SingleFrame) → LeaveTheList zs c before d after None
    → LendAsManyBesides zs c before d after
none_in_hand zs c d before after left = record {
  are_cores = left.are_cores;
  are_singles = left.are_singles;
  lent = λ z x within. sym (none_left (lent_besides zs d after z x)) ∙ left.lent z x within;
  kept = left.kept;
}

-- a block has as many frames as both of its halves
pub halves : (n : ℕ) → 0 < n → 2 ^ n ≡ 2 ^ (n - 1) + 2 ^ (n - 1)
halves n some =
    let next : n ≡ suc (n - 1) = omega (arith, some) in
    omega (arith, ap (λ k. 2 ^ k) next ∙ pow-suc 2 (n - 1))

-- the first half left the list, then the second
pub twice : {X : Type 0} (half all : ℕ) (xs ys zs : List X) → all ≡ half + half → ys ≡ take (length xs - half) xs
    → zs ≡ take (length ys - half) ys → zs ≡ take (length xs - all) xs
twice half all xs ys zs both first second =
    let long : length ys ≡ length xs - half = omega (arith, ap length first, length-take (length xs - half) xs) in
    let less : length ys - half ≡ length xs - all = omega (arith, long, both) in
    second ∙ ap (λ n. take n ys) less ∙ ap (take (length xs - all)) first
    ∙ take-take (length xs - all) (length xs - half) xs (omega (arith, both))
