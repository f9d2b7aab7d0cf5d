-- Blocks that are split into all their blocks of one order.
use Rattle.std.proofs.Common.{◌≡◌, ℕ, ℤ, pos, ◌+◌, ◌-◌, ◌*◌, ◌^◌, ◌+ℤ◌, ◌-ℤ◌, ◌<◌, ◌≤◌, refl, sym, ◌∙◌, ap, subst, arith}
use Rattle.std.specs.Prelude.{Option, Some, None, IfSome, IfNone}
use Rattle.std.proofs.Math.Pow.{pow_mono}
use Rattle.std.proofs.lemmas.Int.{ints}
use Rattle.std.proofs.lemmas.Nat.{pow-add, pow_pos}
use Rattle.core_frames.specs.Bounds.{most_in_split}
use Rattle.core_frames.specs.Cores.{kept_by, lent_by}
use Rattle.core_frames.specs.Splits.{AreHalves}
use Rattle.core_frames.specs.declared.shared.allocator.Core.{Core}
use Rattle.frame_model.specs.declared.block.FrameBlock.{FrameBlock}
use Rattle.frame_table.specs.Seats.{block_in}
use Rattle.frame_zones.proofs.Rounds.{some_zone, some_core}
use Rattle.frame_zones.specs.Splits.{HasSplitIn}
use Rattle.frame_zones.specs.Uses.{OthersStay, GivesIn, moves_through}
use Rattle.frame_zones.specs.Zones.{core_at, first_frame_in, AreCoresOf, IsOutOfItsZone}
use Rattle.frame_zones.specs.declared.block.ZoneBlock.{ZoneBlock}
use Rattle.frame_zones.specs.declared.zones.Zones.{Zones}
use Rattle.frame_zones.specs.declared.zones.ZoneCore.{ZoneCore}
use Rattle.zone_slots.specs.Parts.{count_of_parts, AreMore, BeginsNext, LaysParts, LendsInPlace, LaysFirstParts, LeavesPartsOut}
use Rattle.zone_slots.specs.declared.parts.Parts.{Parts}
use Rattle.zone_slots.specs.declared.zone_receipt.ZoneReceipt.{ZoneReceipt}

-- of an order below, a block has twice as many parts as each of its halves
twice : (order to : ℕ) → to < order → count_of_parts order to ≡ count_of_parts (order - 1) to + count_of_parts (order - 1) to
twice order to below =
    let more : order - to ≡ (order - 1 - to) + 1 = omega (arith, below) in
    omega (arith, ap (λ n. 2 ^ n) more, pow-add 2 (order - 1 - to) 1)

-- the parts have the frames of the block
all_frames : (order to : ℕ) → to ≤ order → count_of_parts order to * 2 ^ to ≡ 2 ^ order
all_frames order to few =
    let sum : (order - to) + to ≡ order = omega (arith, few) in
    sym (pow-add 2 (order - to) to) ∙ ap (λ n. 2 ^ n) sum

-- of its own order a block is the only part
only_one : (order to : ℕ) → order ≡ to → count_of_parts order to ≡ 1
only_one order to same =
    let none : order - to ≡ 0 = omega (arith, same) in
    ap (λ n. 2 ^ n) none

-- a block of their order was laid down
pub one_laid : (zs : Zones) (b : ZoneBlock) (p q : Parts) (c d : ZoneCore) → IsOutOfItsZone zs b
    → b.block.order ≡ p.order → AreMore 1 p q → d ≡ c → LaysParts zs b p q c d
one_laid zs b p q c d out same more stays =
    let one : count_of_parts b.block.order p.order ≡ 1 = only_one b.block.order p.order same in
    subst (λ e. LaysParts zs b p q c e) (sym stays) (record {
      parts = subst (λ n. AreMore n p q) (sym one) more;
      split = record {
        here = λ a x. record {
          block = (out.is_out a).is_block;
          fits = omega (arith, same);
          lent = ap (λ n. lent_by (core_at c b.zone x) +ℤ pos n) (sym one);
          kept = refl;
        };
        others = λ k x within other. refl;
        moves = omega arith;
      };
    })

-- the halves of a block
halves_in : (zs : Zones) (b first second : ZoneBlock) (c d : ZoneCore) → AreCoresOf zs c → IsOutOfItsZone zs b
    → HasSplitIn zs b first second c d → AreHalves (block_in b.block) (block_in first.block) (block_in second.block)
halves_in zs b first second c d are out split =
    (split.here (some_zone zs b.zone out.zone)
    (some_core c b.zone (subst (λ k. b.zone < k) (sym are.parts.count) out.zone))).are_halves

-- each half is smaller
pub smaller : (zs : Zones) (b first second : ZoneBlock) (c d : ZoneCore) (t : ℕ) → AreCoresOf zs c
    → IsOutOfItsZone zs b → HasSplitIn zs b first second c d → b.block.order ≡ t → first.block.order < t
smaller zs b first second c d t are out split is =
    let halves = halves_in zs b first second c d are out split in
    let order : first.block.order ≡ b.block.order - 1 = ap (λ (h : FrameBlock). h.order) halves.lower in
    omega (arith, order, halves.some, is)

pub smaller_too : (zs : Zones) (b first second : ZoneBlock) (c d : ZoneCore) (t : ℕ) → AreCoresOf zs c
    → IsOutOfItsZone zs b → HasSplitIn zs b first second c d → b.block.order ≡ t → second.block.order < t
smaller_too zs b first second c d t are out split is =
    let halves = halves_in zs b first second c d are out split in
    let order : second.block.order ≡ b.block.order - 1 = ap (λ (h : FrameBlock). h.order) halves.upper in
    omega (arith, order, halves.some, is)

pub lower_next : (zs : Zones) (b first second : ZoneBlock) (p : Parts) (c d : ZoneCore) → AreCoresOf zs c
    → IsOutOfItsZone zs b → HasSplitIn zs b first second c d → BeginsNext p b → ¬ (b.block.order ≡ p.order)
    → BeginsNext p first
lower_next zs b first second p c d are out split next larger =
    let halves = halves_in zs b first second c d are out split in
    let order : first.block.order ≡ b.block.order - 1 = ap (λ (h : FrameBlock). h.order) halves.lower in
    let frame : first.block.frame ≡ b.block.frame = ap (λ (h : FrameBlock). h.frame) halves.lower in
    record {
      zone = split.first_zone ∙ next.zone;
      frame = frame ∙ next.frame;
      order = omega (arith, order, next.order, larger);
      few = omega (
        arith,
        next.few,
        twice b.block.order p.order (omega (arith, next.order, larger)),
        ap (λ n. 2 ^ (n - p.order)) order,
      );
    }

pub upper_next : (zs : Zones) (b first second : ZoneBlock) (p q : Parts) (c d : ZoneCore) → AreCoresOf zs c
    → IsOutOfItsZone zs b → HasSplitIn zs b first second c d → BeginsNext p b → ¬ (b.block.order ≡ p.order)
    → AreMore (count_of_parts first.block.order p.order) p q → BeginsNext q second
upper_next zs b first second p q c d are out split next larger more =
    let halves = halves_in zs b first second c d are out split in
    let below : p.order < b.block.order = omega (arith, next.order, larger) in
    let lower : first.block.order ≡ b.block.order - 1 = ap (λ (h : FrameBlock). h.order) halves.lower in
    let order : second.block.order ≡ b.block.order - 1 = ap (λ (h : FrameBlock). h.order) halves.upper in
    let frame : second.block.frame ≡ b.block.frame + 2 ^ (b.block.order - 1) =
    ap (λ (h : FrameBlock). h.frame) halves.upper in
    let half : ℕ = count_of_parts (b.block.order - 1) p.order in
    let count : q.count ≡ p.count + half = more.count ∙ ap (λ n. p.count + 2 ^ (n - p.order)) lower in
    let size : half * 2 ^ p.order ≡ 2 ^ (b.block.order - 1) = all_frames (b.block.order - 1) p.order (omega (arith, below)) in
    let there : q.frame + q.count * 2 ^ q.order ≡ p.frame + (p.count + half) * 2 ^ p.order =
    ap (λ f. f + q.count * 2 ^ q.order) more.frame ∙ ap (λ o. p.frame + q.count * 2 ^ o) more.order
    ∙ ap (λ n. p.frame + n * 2 ^ p.order) count in
    let same : second.block.order - q.order ≡ b.block.order - 1 - p.order = omega (arith, order, more.order) in
    record {
      zone = split.second_zone ∙ next.zone ∙ sym more.zone;
      frame = omega (arith, there, frame, next.frame, size);
      order = omega (arith, order, more.order, below);
      few = omega (arith, next.few, count, twice b.block.order p.order below, ap (λ n. 2 ^ n) same);
    }

-- what is lent where both halves of a block are split
lent_twice : (k l m n : ℤ) (half : ℕ) → l ≡ k +ℤ pos 1 → m +ℤ pos 1 ≡ l +ℤ pos half → n +ℤ pos 1 ≡ m +ℤ pos half
    → n +ℤ pos 1 ≡ k +ℤ pos (half + half)
lent_twice k l m n half one lower upper = omega (arith, ints, one, lower, upper)

-- the moves of the split of a block, and of those of both halves
moves_twice : (most half all : ℕ) → all ≡ half + half → 0 < half
    → most + most * (half - 1) + most * (half - 1) ≤ most * (all - 1)
moves_twice most half all is some =
    let one : half ≡ (half - 1) + 1 = omega (arith, some) in
    let less : all - 1 ≡ 1 + (half - 1) + (half - 1) = omega (arith, is, one) in
    omega (arith, ap (λ n. most * n) less)

-- both halves of a block were laid down in parts
pub both_laid : (zs : Zones) (b first second : ZoneBlock) (p q r : Parts) (c d e f : ZoneCore) → AreCoresOf zs c
    → IsOutOfItsZone zs b → ((x : Core) → kept_by (core_at d b.zone x) ≡ kept_by (core_at c b.zone x))
    → HasSplitIn zs b first second c d → OthersStay zs b.zone c d
    → moves_through d ≤ moves_through c + most_in_split → p.order ≤ b.block.order → ¬ (b.block.order ≡ p.order)
    → LaysParts zs first p q d e → LaysParts zs second q r e f → LaysParts zs b p r c f
both_laid zs b first second p q r c d e f are out kept split others few at larger one two =
    let halves = halves_in zs b first second c d are out split in
    let below : p.order < b.block.order = omega (arith, at, larger) in
    let half : ℕ = count_of_parts (b.block.order - 1) p.order in
    let all : count_of_parts b.block.order p.order ≡ half + half = twice b.block.order p.order below in
    let lower : first.block.order - p.order ≡ b.block.order - 1 - p.order =
    ap (λ (h : FrameBlock). h.order - p.order) halves.lower in
    let upper : second.block.order - q.order ≡ b.block.order - 1 - p.order =
    ap (λ o. second.block.order - o) one.parts.order ∙ ap (λ (h : FrameBlock). h.order - p.order) halves.upper in
    let first-lent : (x : Core) → lent_by (core_at e b.zone x) +ℤ pos 1 ≡ lent_by (core_at d b.zone x) +ℤ pos half =
    λ x. subst (λ z. lent_by (core_at e z x) +ℤ pos 1 ≡ lent_by (core_at d z x) +ℤ pos half) split.first_zone
    ((one.split.here (some_zone zs b.zone out.zone) x).lent
    ∙ ap (λ n. lent_by (core_at d first.zone x) +ℤ pos (2 ^ n)) lower) in
    let second-lent : (x : Core) → lent_by (core_at f b.zone x) +ℤ pos 1 ≡ lent_by (core_at e b.zone x) +ℤ pos half =
    λ x. subst (λ z. lent_by (core_at f z x) +ℤ pos 1 ≡ lent_by (core_at e z x) +ℤ pos half) split.second_zone
    ((two.split.here (some_zone zs b.zone out.zone) x).lent
    ∙ ap (λ n. lent_by (core_at e second.zone x) +ℤ pos (2 ^ n)) upper) in
    let first-kept : (x : Core) → kept_by (core_at e b.zone x) ≡ kept_by (core_at d b.zone x) =
    λ x. subst (λ z. kept_by (core_at e z x) ≡ kept_by (core_at d z x)) split.first_zone
    (one.split.here (some_zone zs b.zone out.zone) x).kept in
    let second-kept : (x : Core) → kept_by (core_at f b.zone x) ≡ kept_by (core_at e b.zone x) =
    λ x. subst (λ z. kept_by (core_at f z x) ≡ kept_by (core_at e z x)) split.second_zone
    (two.split.here (some_zone zs b.zone out.zone) x).kept in
    record {
      parts = record {
        zone = two.parts.zone ∙ one.parts.zone;
        frame = two.parts.frame ∙ one.parts.frame;
        order = two.parts.order ∙ one.parts.order;
        count = omega (arith, one.parts.count, two.parts.count, ap (λ n. 2 ^ n) lower, ap (λ n. 2 ^ n) upper, all);
      };
      split = record {
        here = λ a x. record {
          block = (out.is_out a).is_block;
          fits = at;
          lent = lent_twice (lent_by (core_at c b.zone x)) (lent_by (core_at d b.zone x)) (lent_by (core_at e b.zone x))
              (lent_by (core_at f b.zone x)) half (split.here a x).lent (first-lent x) (second-lent x)
              ∙ ap (λ n. lent_by (core_at c b.zone x) +ℤ pos n) (sym all);
          kept = second-kept x ∙ first-kept x ∙ kept x;
        };
        others = λ k x within other.
            two.split.others k x within (λ is. other (is ∙ split.second_zone))
            ∙ one.split.others k x within (λ is. other (is ∙ split.first_zone))
            ∙ others k x within other;
        moves = omega (
          arith,
          few,
          one.split.moves,
          two.split.moves,
          ap (λ n. most_in_split * (2 ^ n - 1)) lower,
          ap (λ n. most_in_split * (2 ^ n - 1)) upper,
          moves_twice most_in_split half (count_of_parts b.block.order p.order) all (pow_pos (b.block.order - 1 - p.order)),
        );
      };
    }

-- before the first part of a block
pub first_next : (b : ZoneBlock) (p : Parts) → p.zone ≡ b.zone → p.frame ≡ b.block.frame → p.count ≡ 0
    → p.order ≤ b.block.order → b.block.order ≤ 9 → BeginsNext p b
first_next b p zone frame none fits few =
    let less : b.block.order - p.order ≤ 9 = omega (arith, few) in
    let small : 2 ^ (b.block.order - p.order) ≤ 2 ^ 9 = pow_mono less in
    record {
      zone = sym zone;
      frame = omega (arith, frame, ap (λ n. n * 2 ^ p.order) none);
      order = fits;
      few = omega (arith, none, small);
    }

-- what is lent where a block was given
given_one : (k l : ℤ) → l ≡ k -ℤ pos 1 → l +ℤ pos 1 ≡ k +ℤ pos 0
given_one k l given = omega (arith, ints, given)

-- what is lent where of the lower half so many parts were laid down, and the upper one was given
lent_lower : (k l m n : ℤ) (laid : ℕ) → l ≡ k +ℤ pos 1 → m +ℤ pos 1 ≡ l +ℤ pos laid → n ≡ m -ℤ pos 1
    → n +ℤ pos 1 ≡ k +ℤ pos laid
lent_lower k l m n laid one lower given = omega (arith, ints, one, lower, given)

-- what is lent where of the upper half so many parts were laid down, and all of the lower one
lent_upper : (k l m n : ℤ) (half laid : ℕ) → l ≡ k +ℤ pos 1 → m +ℤ pos 1 ≡ l +ℤ pos half → n +ℤ pos 1 ≡ m +ℤ pos laid
    → n +ℤ pos 1 ≡ k +ℤ pos (half + laid)
lent_upper k l m n half laid one lower upper = omega (arith, ints, one, lower, upper)

-- a block of their order found no slot
pub none_laid : (zs : Zones) (b : ZoneBlock) (p : Parts) (c d : ZoneCore) → GivesIn zs b.zone c d
    → LaysFirstParts zs b p p c d
none_laid zs b p c d gives = record {
  laid = 0;
  fewer = pow_pos (b.block.order - p.order);
  parts = record { zone = refl; frame = refl; order = refl; count = omega arith };
  lends = record {
    here = λ x. given_one (lent_by (core_at c b.zone x)) (lent_by (core_at d b.zone x)) (gives.here x).lent;
    others = gives.others;
  };
}

-- of the lower half not all parts were laid down, and the upper one was given
pub lower_fewer : (zs : Zones) (b first second : ZoneBlock) (p q : Parts) (c d e f : ZoneCore) → AreCoresOf zs c
    → IsOutOfItsZone zs b → HasSplitIn zs b first second c d → OthersStay zs b.zone c d → p.order ≤ b.block.order
    → ¬ (b.block.order ≡ p.order) → LaysFirstParts zs first p q d e → GivesIn zs second.zone e f
    → LaysFirstParts zs b p q c f
lower_fewer zs b first second p q c d e f are out split others at larger one gives =
    let halves = halves_in zs b first second c d are out split in
    let below : p.order < b.block.order = omega (arith, at, larger) in
    let all = twice b.block.order p.order below in
    let lower : first.block.order - p.order ≡ b.block.order - 1 - p.order =
    ap (λ (h : FrameBlock). h.order - p.order) halves.lower in
    let lends : LendsInPlace zs one.laid d e b.zone = subst (LendsInPlace zs one.laid d e) split.first_zone one.lends in
    let given : GivesIn zs b.zone e f = subst (λ z. GivesIn zs z e f) split.second_zone gives in
    record {
      laid = one.laid;
      fewer = omega (arith, one.fewer, all, ap (λ n. 2 ^ n) lower);
      parts = one.parts;
      lends = record {
        here = λ x. lent_lower (lent_by (core_at c b.zone x)) (lent_by (core_at d b.zone x)) (lent_by (core_at e b.zone x))
            (lent_by (core_at f b.zone x)) one.laid (split.here (some_zone zs b.zone out.zone) x).lent (lends.here x)
            (given.here x).lent;
        others = λ k x within other.
            given.others k x within other ∙ lends.others k x within other ∙ others k x within other;
      };
    }

-- of the upper half not all parts were laid down, and all of the lower one
pub upper_fewer : (zs : Zones) (b first second : ZoneBlock) (p q r : Parts) (c d e f : ZoneCore) → AreCoresOf zs c
    → IsOutOfItsZone zs b → HasSplitIn zs b first second c d → OthersStay zs b.zone c d → p.order ≤ b.block.order
    → ¬ (b.block.order ≡ p.order) → LaysParts zs first p q d e → LaysFirstParts zs second q r e f
    → LaysFirstParts zs b p r c f
upper_fewer zs b first second p q r c d e f are out split others at larger one two =
    let halves = halves_in zs b first second c d are out split in
    let below : p.order < b.block.order = omega (arith, at, larger) in
    let half : ℕ = count_of_parts (b.block.order - 1) p.order in
    let all : count_of_parts b.block.order p.order ≡ half + half = twice b.block.order p.order below in
    let lower : first.block.order - p.order ≡ b.block.order - 1 - p.order =
    ap (λ (h : FrameBlock). h.order - p.order) halves.lower in
    let upper : second.block.order - q.order ≡ b.block.order - 1 - p.order =
    ap (λ o. second.block.order - o) one.parts.order ∙ ap (λ (h : FrameBlock). h.order - p.order) halves.upper in
    let first-lent : (x : Core) → lent_by (core_at e b.zone x) +ℤ pos 1 ≡ lent_by (core_at d b.zone x) +ℤ pos half =
    λ x. subst (λ z. lent_by (core_at e z x) +ℤ pos 1 ≡ lent_by (core_at d z x) +ℤ pos half) split.first_zone
    ((one.split.here (some_zone zs b.zone out.zone) x).lent
    ∙ ap (λ n. lent_by (core_at d first.zone x) +ℤ pos (2 ^ n)) lower) in
    let lends : LendsInPlace zs two.laid e f b.zone = subst (LendsInPlace zs two.laid e f) split.second_zone two.lends in
    record {
      laid = half + two.laid;
      fewer = omega (arith, two.fewer, all, ap (λ n. 2 ^ n) upper);
      parts = record {
        zone = two.parts.zone ∙ one.parts.zone;
        frame = two.parts.frame ∙ one.parts.frame;
        order = two.parts.order ∙ one.parts.order;
        count = omega (arith, one.parts.count, two.parts.count, ap (λ n. 2 ^ n) lower);
      };
      lends = record {
        here = λ x. lent_upper (lent_by (core_at c b.zone x)) (lent_by (core_at d b.zone x)) (lent_by (core_at e b.zone x))
            (lent_by (core_at f b.zone x)) half two.laid (split.here (some_zone zs b.zone out.zone) x).lent (first-lent x)
            (lends.here x);
        others = λ k x within other.
            lends.others k x within other
            ∙ one.split.others k x within (λ is. other (is ∙ split.first_zone))
            ∙ others k x within other;
      };
    }

-- not all parts of the block of this number were laid down
pub parts_left_out : (zs : Zones) (frame order to : ℕ) (b : ZoneBlock) (p q : Parts) (c d : ZoneCore)
    → IsOutOfItsZone zs b → first_frame_in zs b ≡ frame → b.block.order ≡ order → p.order ≡ to
    → LaysFirstParts zs b p q c d → LeavesPartsOut zs order (count_of_parts order to) frame c d
parts_left_out zs frame order to b p q c d out frame-is order-is to-is lays =
    subst (λ n. LeavesPartsOut zs n (count_of_parts n to) frame c d) order-is
    (subst (λ n. LeavesPartsOut zs b.block.order (count_of_parts b.block.order n) frame c d) to-is (record {
      zone = b.zone;
      local = b.block.frame;
      within = out.zone;
      number = sym frame-is;
      holds = record {
        is_block = λ a. (out.is_out a).is_block;
        laid = lays.laid;
        fewer = lays.fewer;
        lends = lays.lends;
      };
    }))

-- what is lent where a block was split, and one half was given
half_given : (k l m : ℤ) → l ≡ k +ℤ pos 1 → m ≡ l -ℤ pos 1 → m +ℤ pos 1 ≡ k +ℤ pos 1
half_given k l m one given = omega (arith, ints, one, given)

-- the same where both were
both_given : (k l m n : ℤ) → l ≡ k +ℤ pos 1 → m ≡ l -ℤ pos 1 → n ≡ m -ℤ pos 1 → n +ℤ pos 1 ≡ k +ℤ pos 0
both_given k l m n one lower upper = omega (arith, ints, one, lower, upper)

-- a block was split, and one half was given
one_half : (zs : Zones) (b first second : ZoneBlock) (c d e : ZoneCore) → IsOutOfItsZone zs b
    → HasSplitIn zs b first second c d → OthersStay zs b.zone c d → GivesIn zs b.zone d e → LendsInPlace zs 1 c e b.zone
one_half zs b first second c d e out split others gives = record {
  here = λ x. half_given (lent_by (core_at c b.zone x)) (lent_by (core_at d b.zone x)) (lent_by (core_at e b.zone x))
      (split.here (some_zone zs b.zone out.zone) x).lent (gives.here x).lent;
  others = λ k x within other. gives.others k x within other ∙ others k x within other;
}

-- a block was split, and both halves were given
no_half : (zs : Zones) (b first second : ZoneBlock) (c d e f : ZoneCore) → IsOutOfItsZone zs b
    → HasSplitIn zs b first second c d → OthersStay zs b.zone c d → GivesIn zs b.zone d e → GivesIn zs b.zone e f
    → LendsInPlace zs 0 c f b.zone
no_half zs b first second c d e f out split others one two = record {
  here = λ x. both_given (lent_by (core_at c b.zone x)) (lent_by (core_at d b.zone x)) (lent_by (core_at e b.zone x))
      (lent_by (core_at f b.zone x)) (split.here (some_zone zs b.zone out.zone) x).lent (one.here x).lent (two.here x).lent;
  others = λ k x within other.
      two.others k x within other ∙ one.others k x within other ∙ others k x within other;
}

-- of the halves of the block of this number so many were laid down, and not both
halves_left_out : (zs : Zones) (frame order n : ℕ) (b : ZoneBlock) (c d : ZoneCore) → IsOutOfItsZone zs b
    → first_frame_in zs b ≡ frame → b.block.order ≡ order → n < 2 → LendsInPlace zs n c d b.zone
    → LeavesPartsOut zs order 2 frame c d
halves_left_out zs frame order n b c d out frame-is order-is few lends =
    subst (λ o. LeavesPartsOut zs o 2 frame c d) order-is (record {
      zone = b.zone;
      local = b.block.frame;
      within = out.zone;
      number = sym frame-is;
      holds = record { is_block = λ a. (out.is_out a).is_block; laid = n; fewer = few; lends = lends };
    })

-- the lower half found no slot
pub lower_left_out : (zs : Zones) (frame order : ℕ) (b first second : ZoneBlock) (upper : Option ZoneReceipt)
    (c d e f : ZoneCore) → IsOutOfItsZone zs b → first_frame_in zs b ≡ frame → b.block.order ≡ order
    → HasSplitIn zs b first second c d → OthersStay zs b.zone c d → GivesIn zs first.zone d e
    → IfSome upper (λ _. f ≡ e) → IfNone upper (GivesIn zs second.zone e f) → LeavesPartsOut zs order 2 frame c f
lower_left_out zs frame order b first second (Some r) c d e f out frame-is order-is split others gives rests gives-too =
    subst (λ g. LeavesPartsOut zs order 2 frame c g) (sym rests)
    (halves_left_out zs frame order 1 b c e out frame-is order-is (omega arith)
    (one_half zs b first second c d e out split others (subst (λ z. GivesIn zs z d e) split.first_zone gives)))
lower_left_out zs frame order b first second None c d e f out frame-is order-is split others gives rests gives-too =
    halves_left_out zs frame order 0 b c f out frame-is order-is (omega arith)
    (no_half zs b first second c d e f out split others (subst (λ z. GivesIn zs z d e) split.first_zone gives)
    (subst (λ z. GivesIn zs z e f) split.second_zone gives-too))

-- the upper half alone found no slot
pub upper_left_out : (zs : Zones) (frame order : ℕ) (b first second : ZoneBlock) (c d e f : ZoneCore)
    → IsOutOfItsZone zs b → first_frame_in zs b ≡ frame → b.block.order ≡ order → HasSplitIn zs b first second c d
    → OthersStay zs b.zone c d → e ≡ d → GivesIn zs second.zone e f → LeavesPartsOut zs order 2 frame c f
upper_left_out zs frame order b first second c d e f out frame-is order-is split others rests gives =
    halves_left_out zs frame order 1 b c f out frame-is order-is (omega arith)
    (one_half zs b first second c d f out split others
    (subst (λ g. GivesIn zs b.zone g f) rests (subst (λ z. GivesIn zs z e f) split.second_zone gives)))
