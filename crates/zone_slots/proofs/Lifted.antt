-- What the zones' own calls leave, as calls by numbers say it.
use Rattle.std.proofs.Common.{◌≡◌, ℕ, ℤ, pos, ◌+◌, ◌-◌, ◌^◌, ◌+ℤ◌, ◌-ℤ◌, ◌<◌, ◌≤◌, Result, Ok, Err, IfOk, inl, inr, refl, sym, ◌∙◌, ap, subst, arith}
use Rattle.std.proofs.lemmas.Bool.{cases_eq, true≢false}
use Rattle.std.proofs.Math.IntN.{+ℤ-neg_ℤ_cancel}
use Rattle.std.proofs.Math.Nat.{one-le-pow}
use Rattle.std.specs.Prelude.{true, Option, Some, None, IfSome, IfNone, IfErr}
use Rattle.std.specs.Option.{is_some}
use Rattle.core_frames.specs.declared.shared.allocator.Allocator.{Allocator}
use Rattle.core_frames.specs.declared.shared.allocator.Core.{Core}
use Rattle.core_frames.specs.Bounds.{most_in_give, most_in_split}
use Rattle.core_frames.specs.Cores.{memory_of, kept_by, lent_by}
use Rattle.core_frames.specs.Uses.{HasTaken, HasSplit}
use Rattle.frame_words.specs.declared.fault.TakeFault.{TakeFault}
use Rattle.frame_words.specs.declared.fault.TakeFault.TheVariants.{BadOrder, NoBlock, Contended}
use Rattle.frame_model.specs.Block.{block, IsBlock}
use Rattle.frame_model.specs.declared.block.FrameBlock.{FrameBlock}
use Rattle.frame_table.specs.Seats.{block_in}
use Rattle.core_frames.specs.Splits.{AreHalves}
use Rattle.frame_core.specs.Mover.{LiesInside}
use Rattle.low_frames.specs.Outcomes.{HasNoBootFrame}
use Rattle.frame_zones.proofs.Rounds.{some_zone, some_core}
use Rattle.frame_zones.specs.Splits.{HasSplitIn, SplitsIn}
use Rattle.frame_zones.specs.Uses.{OthersStay, KeepsAll, GivesIn, HasTakenIn, TakesAmong, moves_through}
use Rattle.frame_zones.specs.Zones.{zone_count, zone_at, core_at, first_frame_of, first_frame_in, InEach, AreCoresOf, IsOutOfItsZone}
use Rattle.frame_zones.specs.declared.zones.Zones.{Zones}
use Rattle.frame_zones.specs.declared.zones.ZoneCore.{ZoneCore}
use Rattle.frame_zones.specs.declared.block.GivenBlock.{GivenBlock}
use Rattle.frame_zones.specs.declared.block.ZoneBlock.{ZoneBlock}
use Rattle.zone_slots.specs.Blocks.{HasTakenBlock, HasSplitBlock}
use Rattle.zone_slots.specs.Layouts.{most_numbers}
use Rattle.frame_table.specs.declared.block.Block.{Block}
use Rattle.frame_zones.specs.Frames.{IsFrameIn}
use Rattle.zone_slots.specs.Memories.{number_for, block_given, block_laid, HaveNumbers, IsOutOfZone}
use Rattle.zone_slots.specs.Uses.{MovesForTake, TakesInZone, GivesInZone, SplitsInZone, GivesByNumber, SplitsByNumber, one_more}
use Rattle.zone_slots.specs.Uses.{EachLendsSame, FindsNoSlot, IsReceiptOf, HasTakenFor, IsRefusedBlock, IsRefusedTake}
use Rattle.zone_slots.specs.declared.zone_receipt.ZoneReceipt.{ZoneReceipt}

-- a block was taken in its zone
pub taken_in : (zs : Zones) (n : ℕ) (b : ZoneBlock) (c d : ZoneCore) → InEach zs KeepsAll c d → MovesForTake zs c d
    → HasTakenIn zs n b c d → TakesInZone zs n c d b.zone b.block.frame
taken_in zs n b c d kept moves taken = record {
  here = λ a x.
      let one : HasTaken (zone_at zs b.zone a) n b.block (core_at c b.zone x) (core_at d b.zone x) = taken.here a x in
      record {
        is_block = subst (λ k. IsBlock (memory_of (zone_at zs b.zone a)) (block b.block.frame k)) one.order one.is_out.is_block;
        no_boot_frame = subst (λ k. HasNoBootFrame (memory_of (zone_at zs b.zone a)) (block b.block.frame k)) one.order one.no_boot_frame;
        inside = subst (λ k. LiesInside (memory_of (zone_at zs b.zone a)) (block b.block.frame k)) one.order one.inside;
        lent = one.lent;
      };
  others = taken.others;
  kept = kept;
  moves = moves;
}

-- the order of a block that was taken
pub taken_order : (zs : Zones) (n : ℕ) (b : ZoneBlock) (c d : ZoneCore) → AreCoresOf zs c → HasTakenIn zs n b c d
    → b.block.order ≡ n
taken_order zs n b c d are taken =
    (taken.here (some_zone zs b.zone taken.is_out.zone)
    (some_core c b.zone (subst (λ k. b.zone < k) (sym are.parts.count) taken.is_out.zone))).order

pub taken_for : (zs : Zones) (n : ℕ) (b : ZoneBlock) (r : ZoneReceipt) (c d : ZoneCore) → AreCoresOf zs c
    → InEach zs KeepsAll c d → MovesForTake zs c d → HasTakenIn zs n b c d → IsReceiptOf b r → HasTakenFor zs n c d r
taken_for zs n b r c d are kept moves taken is = record {
  zone = subst (λ k. k < zone_count zs) (sym is.zone) taken.is_out.zone;
  order = is.order ∙ taken_order zs n b c d are taken;
  taken = subst (λ k. TakesInZone zs n c d k r.receipt.frame) (sym is.zone)
      (subst (λ k. TakesInZone zs n c d b.zone k) (sym is.frame) (taken_in zs n b c d kept moves taken));
}

pub taken_block : (zs : Zones) (n : ℕ) (b : ZoneBlock) (c d : ZoneCore) → AreCoresOf zs c
    → InEach zs KeepsAll c d → MovesForTake zs c d → HasTakenIn zs n b c d → HasTakenBlock zs n c d b
taken_block zs n b c d are kept moves taken = record {
  is_out = taken.is_out;
  order = taken_order zs n b c d are taken;
  taken = taken_in zs n b c d kept moves taken;
}

-- a block that is out was given in its zone
pub given_in : (zs : Zones) (b : ZoneBlock) (c d : ZoneCore) → IsOutOfItsZone zs b
    → moves_through d ≤ moves_through c + most_in_give → GivesIn zs b.zone c d
    → GivesInZone zs b.block.order c d b.zone b.block.frame
given_in zs b c d out moves gives = record {
  here = λ a x. record { block = (out.is_out a).is_block; lent = (gives.here x).lent; kept = (gives.here x).kept };
  others = gives.others;
  moves = moves;
}

-- the same of a block as it was fetched in its zone
pub given_there : (zs : Zones) (z local order : ℕ) (b : Block) (c d : ZoneCore) → z < zone_count zs
    → IsOutOfZone zs z b → b.frame ≡ local → b.order ≡ order → moves_through d ≤ moves_through c + most_in_give
    → GivesIn zs z c d → GivesInZone zs order c d z local
given_there zs z local order b c d within out frame-is order-is moves gives =
    subst (λ k. GivesInZone zs k c d z local) order-is
    (subst (λ f. GivesInZone zs b.order c d z f) frame-is
    (given_in zs (record { zone = z; block = b }) c d (record { zone = within; is_out = out }) moves gives))

-- the same by the number of its frame
pub given_by_number : {U : Type 0} {E : Type 0} (zs : Zones) (frame order z local : ℕ) (answer : Result U E)
    (c d : ZoneCore) → IsFrameIn zs frame z local → IfOk answer (λ _. GivesInZone zs order c d z local)
    → IfOk answer (λ _. GivesByNumber zs order frame c d)
given_by_number zs frame order z local (Ok u) c d is gives =
    record { zone = z; local = local; within = is.zone; number = sym is.sum; holds = gives }
given_by_number zs frame order z local (Err e) c d is gives = tt

-- the block that was given there is the very one of this number
pub very_by_number : {E : Type 0} (zs : Zones) (frame order z local : ℕ) (answer : Result GivenBlock E)
    → IsFrameIn zs frame z local → IfOk answer (λ g. (g.zone ≡ z) × (g.frame ≡ local) × (g.order ≡ order))
    → IfOk answer (λ g. block_given zs g ≡ block frame order)
very_by_number zs frame order z local (Ok g) is same =
    ap (λ n. block n g.order) (ap (λ k. first_frame_of zs k + g.frame) same.0
    ∙ ap (λ f. first_frame_of zs z + f) same.1 ∙ is.sum)
    ∙ ap (λ o. block frame o) same.2
very_by_number zs frame order z local (Err e) is same = tt

-- a block was split in its zone
pub halved_in : (zs : Zones) (b first second : ZoneBlock) (c d : ZoneCore)
    → ((x : Core) → kept_by (core_at d b.zone x) ≡ kept_by (core_at c b.zone x))
    → moves_through d ≤ moves_through c + most_in_split → HasSplitIn zs b first second c d
    → OthersStay zs b.zone c d → SplitsInZone zs b.block.order c d b.zone b.block.frame
halved_in zs b first second c d kept moves split others = record {
  here = λ a x.
      let one : HasSplit (zone_at zs b.zone a) b.block first.block second.block (core_at c b.zone x) (core_at d b.zone x) =
      split.here a x in
      record {
        halves = record {
          some = one.are_halves.some;
          lower = subst (IsBlock (memory_of (zone_at zs b.zone a))) one.are_halves.lower one.first_out.is_block;
          upper = subst (IsBlock (memory_of (zone_at zs b.zone a))) one.are_halves.upper one.second_out.is_block;
        };
        lent = one.lent;
        kept = kept x;
      };
  others = others;
  moves = moves;
}

pub split_among : (zs : Zones) (frame order : ℕ) (b first second : ZoneBlock) (c d : ZoneCore) → IsOutOfItsZone zs b
    → first_frame_in zs b ≡ frame → b.block.order ≡ order
    → ((x : Core) → kept_by (core_at d b.zone x) ≡ kept_by (core_at c b.zone x))
    → moves_through d ≤ moves_through c + most_in_split → HasSplitIn zs b first second c d
    → OthersStay zs b.zone c d → SplitsByNumber zs order frame c d
split_among zs frame order b first second c d out frame-is order-is kept moves split others = record {
  zone = b.zone;
  local = b.block.frame;
  within = out.zone;
  number = sym frame-is;
  holds = subst (λ k. SplitsInZone zs k c d b.zone b.block.frame) order-is
      (halved_in zs b first second c d kept moves split others);
}

-- the receipt of a block of this zone is of the very one
half_laid : (zs : Zones) (z x n : ℕ) (half : ZoneBlock) (r : ZoneReceipt) → IsReceiptOf half r → half.zone ≡ z
    → block_in half.block ≡ block x n → block_laid zs r ≡ block (first_frame_of zs z + x) n
half_laid zs z x n half r is zone same =
    ap (λ k. block k r.receipt.order) (ap (λ y. first_frame_of zs y + r.receipt.frame) (is.zone ∙ zone)
    ∙ ap (λ f. first_frame_of zs z + f) (is.frame ∙ ap (λ (h : FrameBlock). h.frame) same))
    ∙ ap (λ o. block (first_frame_of zs z + x) o) (is.order ∙ ap (λ (h : FrameBlock). h.order) same)

-- the halves of a block were laid down for these receipts
pub halves_laid : (zs : Zones) (frame order : ℕ) (b first second : ZoneBlock) (c d : ZoneCore) (lower upper : ZoneReceipt)
    → AreCoresOf zs c → IsOutOfItsZone zs b → first_frame_in zs b ≡ frame → b.block.order ≡ order
    → HasSplitIn zs b first second c d → IsReceiptOf first lower → IsReceiptOf second upper
    → (block_laid zs lower ≡ block frame (order - 1))
    × (block_laid zs upper ≡ block (frame + 2 ^ (order - 1)) (order - 1))
halves_laid zs frame order b first second c d lower upper are out frame-is order-is split one two =
    let halves : AreHalves (block_in b.block) (block_in first.block) (block_in second.block) =
    (split.here (some_zone zs b.zone out.zone)
    (some_core c b.zone (subst (λ k. b.zone < k) (sym are.parts.count) out.zone))).are_halves in
    let less : b.block.order - 1 ≡ order - 1 = ap (λ o. o - 1) order-is in
    let behind : first_frame_of zs b.zone + (b.block.frame + 2 ^ (b.block.order - 1)) ≡ frame + 2 ^ (order - 1) =
    omega (arith, frame-is, ap (λ o. 2 ^ o) less) in (
      half_laid zs b.zone b.block.frame (b.block.order - 1) first lower one split.first_zone halves.lower
          ∙ ap (λ x. block x (b.block.order - 1)) frame-is ∙ ap (λ o. block frame o) less,
      half_laid zs b.zone (b.block.frame + 2 ^ (b.block.order - 1)) (b.block.order - 1) second upper two
          split.second_zone halves.upper
          ∙ ap (λ x. block x (b.block.order - 1)) behind ∙ ap (λ o. block (frame + 2 ^ (order - 1)) o) less,
    )

pub split_block : (zs : Zones) (b first second : ZoneBlock) (c d : ZoneCore) → AreCoresOf zs c → IsOutOfItsZone zs b
    → ((x : Core) → kept_by (core_at d b.zone x) ≡ kept_by (core_at c b.zone x))
    → moves_through d ≤ moves_through c + most_in_split → HasSplitIn zs b first second c d
    → OthersStay zs b.zone c d → HasSplitBlock zs b first second c d
split_block zs b first second c d are out kept moves split others = record {
  first_out = split.first_out;
  second_out = split.second_out;
  zones = (split.first_zone, split.second_zone);
  are_halves = (split.here (some_zone zs b.zone out.zone)
      (some_core c b.zone (subst (λ k. b.zone < k) (sym are.parts.count) out.zone))).are_halves;
  split = halved_in zs b first second c d kept moves split others;
}

-- one more and then one less is as many
back_again : (n m k : ℤ) → m ≡ n +ℤ pos 1 → k ≡ m -ℤ pos 1 → k ≡ n
back_again n m k up down = down ∙ ap (λ i. i -ℤ pos 1) up ∙ +ℤ-neg_ℤ_cancel n (pos 1)

-- what was taken and given again is lent no more
pub lent_again : (zs : Zones) (n : ℕ) (b : ZoneBlock) (c d e : ZoneCore) → HasTakenIn zs n b c d
    → GivesIn zs b.zone d e → EachLendsSame zs c e
lent_again zs n b c d e taken gives z a x within =
    elim (cases_eq z b.zone) as (λ _. lent_by (core_at e z x) ≡ lent_by (core_at c z x)) [
      | inl same ↦ subst (λ k. lent_by (core_at e k x) ≡ lent_by (core_at c k x)) (sym same)
          (back_again (lent_by (core_at c b.zone x)) (lent_by (core_at d b.zone x)) (lent_by (core_at e b.zone x))
          (taken.here a x).lent (gives.here x).lent)
      | inr other ↦ ap lent_by (gives.others z x within other) ∙ taken.others z x within other
    ]

-- a give into a zone leaves what the core keeps in each
pub give_keeps : (zs : Zones) (z : ℕ) (c d : ZoneCore) → GivesIn zs z c d → InEach zs KeepsAll c d
give_keeps zs z c d gives k a x within =
    elim (cases_eq k z) as (λ _. kept_by (core_at d k x) ≡ kept_by (core_at c k x)) [
      | inl same ↦ subst (λ i. kept_by (core_at d i x) ≡ kept_by (core_at c i x)) (sym same) (gives.here x).kept
      | inr other ↦ ap kept_by (gives.others k x within other)
    ]

-- what the core keeps in each zone is as before, where it is so in one and no other turned
pub kept_all : (zs : Zones) (k : ℕ) (c d : ZoneCore) → ((x : Core) → kept_by (core_at d k x) ≡ kept_by (core_at c k x))
    → OthersStay zs k c d → InEach zs KeepsAll c d
kept_all zs k c d here others z a x within =
    elim (cases_eq z k) as (λ _. kept_by (core_at d z x) ≡ kept_by (core_at c z x)) [
      | inl same ↦ subst (λ i. kept_by (core_at d i x) ≡ kept_by (core_at c i x)) (sym same) (here x)
      | inr other ↦ ap kept_by (others z x within other)
    ]

-- a split in a zone too
pub split_keeps : (zs : Zones) (b : ZoneBlock) (answer : Result (ZoneBlock × ZoneBlock) ZoneBlock) (c d : ZoneCore)
    → SplitsIn zs b answer c d → InEach zs KeepsAll c d
split_keeps zs b answer c d splits = kept_all zs b.zone c d splits.kept splits.others

-- and a block that is laid down or given back
pub laid_keeps : (zs : Zones) (z : ℕ) (answer : Option ZoneReceipt) (c d : ZoneCore) → IfSome answer (λ _. d ≡ c)
    → IfNone answer (GivesIn zs z c d) → InEach zs KeepsAll c d
laid_keeps zs z (Some r) c d same gives = λ i a x within. ap (λ (e : ZoneCore). kept_by (core_at e i x)) same
laid_keeps zs z None c d same gives = give_keeps zs z c d gives

-- kept before and behind
pub kept_twice : (zs : Zones) (c d e : ZoneCore) → InEach zs KeepsAll c d → InEach zs KeepsAll d e
    → InEach zs KeepsAll c e
kept_twice zs c d e one two z a x within = two z a x within ∙ one z a x within

-- a block that was taken found no slot
pub found_no_slot : (zs : Zones) (n : ℕ) (b : ZoneBlock) (c d e : ZoneCore) (count later : ℕ) → AreCoresOf zs c
    → InEach zs KeepsAll c d → MovesForTake zs c d → HasTakenIn zs n b c d
    → moves_through e ≤ moves_through d + most_in_give → GivesIn zs b.zone d e → later ≡ one_more count
    → FindsNoSlot zs n c e count later
found_no_slot zs n b c d e count later are kept moves taken more gives counted = record {
  order = subst (λ k. k ≤ 9) (taken_order zs n b c d are taken)
      (taken.is_out.is_out (some_zone zs b.zone taken.is_out.zone)).is_block.order;
  counted = counted;
  lent = lent_again zs n b c d e taken gives;
  kept = kept_twice zs c d e kept (give_keeps zs b.zone d e gives);
  moves = omega (arith, moves, more);
}

-- the number of a block that was taken is one of all numbers
pub number_fits : (zs : Zones) (n : ℕ) (c d : ZoneCore) (r : ZoneReceipt) → HaveNumbers zs → AreCoresOf zs c
    → HasTakenFor zs n c d r → number_for zs r < most_numbers
number_fits zs n c d r numbered are taken =
    let a : Allocator = some_zone zs r.zone taken.zone in
    let x : Core = some_core c r.zone (subst (λ k. r.zone < k) (sym are.parts.count) taken.zone) in
    omega (arith, numbered r.zone a taken.zone, (taken.taken.here a x).is_block.inside, one-le-pow n 2 (omega arith))

-- what a take of all zones answers
pub taken_ok : (zs : Zones) (n : ℕ) (answer : Result ZoneBlock TakeFault) (c d : ZoneCore) → AreCoresOf zs c
    → MovesForTake zs c d → TakesAmong zs n answer c d → IfOk answer (HasTakenBlock zs n c d)
taken_ok zs n (Ok b) c d are moves takes = taken_block zs n b c d are takes.kept moves takes.ok
taken_ok zs n (Err e) c d are moves takes = tt

-- what a split of all zones answers
pub split_ok : (zs : Zones) (b : ZoneBlock) (answer : Result (ZoneBlock × ZoneBlock) ZoneBlock) (c d : ZoneCore)
    → AreCoresOf zs c → IsOutOfItsZone zs b → moves_through d ≤ moves_through c + most_in_split
    → SplitsIn zs b answer c d → IfOk answer (λ r. HasSplitBlock zs b r.0 r.1 c d)
split_ok zs b (Ok r) c d are out moves splits =
    split_block zs b r.0 r.1 c d are out splits.kept moves splits.ok splits.others
split_ok zs b (Err e) c d are out moves splits = tt

-- why it was refused
pub refused_block : (zs : Zones) (n : ℕ) (answer : Result ZoneBlock TakeFault) (c d : ZoneCore)
    → MovesForTake zs c d → TakesAmong zs n answer c d → IfErr answer (IsRefusedBlock zs n c d)
refused_block zs n (Ok b) c d moves takes = tt
refused_block zs n (Err e) c d moves takes = (takes.err.0, takes.err.1, takes.kept, moves)

-- why a take of all zones was refused, where nothing is counted
pub refused_take : (zs : Zones) (n : ℕ) (c d : ZoneCore) (count : ℕ) (fault : TakeFault) → IsRefusedBlock zs n c d fault
    → IsRefusedTake zs n c d count count fault
refused_take zs n c d count BadOrder why = (why.0.0, why.0.1, refl)
refused_take zs n c d count NoBlock why = (
  record {
    in_each = λ z a x within. record {
      looked = why.0.0 z a x within;
      unlost = why.0.1 z a x within;
      lent = why.1 z a x within;
      kept = why.2 z a x within;
    };
    moves = why.3;
  },
  refl,
)
refused_take zs n c d count Contended why = inl (
  record { looked = why.0.0; lost = why.0.1; lent = why.1; kept = why.2; moves = why.3 },
  refl,
)

-- where the block was laid down, the core is as it was
pub rested : (answer : Option ZoneReceipt) (c d : ZoneCore) → true ≡ is_some answer → IfSome answer (λ _. d ≡ c) → d ≡ c
rested (Some r) c d is same = same
rested None c d is same = absurd (true≢false is)
