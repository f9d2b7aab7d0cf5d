-- What the zones' own takes of just one block leave, as calls by numbers say it.
use Rattle.std.proofs.Common.{◌≡◌, ℕ, zero, suc, ◌+◌, ◌<◌, ◌≤◌, List, [], ◌∷◌, length, slice_index_or, Result, Ok, Err, IfOk, IfErr, inl, refl, sym, ◌∙◌, ap, subst, arith}
use Rattle.std.proofs.Math.Nat.{one-le-pow}
use Rattle.std.specs.List.{sum_by}
use Rattle.std.proofs.lemmas.List.Sums.{sum_by-cons}
use Rattle.core_frames.specs.Bounds.{most_in_give}
use Rattle.core_frames.specs.Cores.{lent_by}
use Rattle.core_frames.specs.declared.shared.allocator.Allocator.{Allocator}
use Rattle.frame_model.specs.Block.{block}
use Rattle.frame_words.specs.declared.fault.TakeFault.{TakeFault}
use Rattle.frame_words.specs.declared.fault.TakeFault.TheVariants.{BadOrder, NoBlock, Contended}
use Rattle.frame_zones.proofs.Rounds.{some_zone, some_core}
use Rattle.frame_zones.specs.Frames.{IsFrameIn}
use Rattle.frame_zones.specs.Places.{HasTakenPlace, TakesPlaceAmong, MovesForPlace, most_at_place_in}
use Rattle.frame_zones.specs.Uses.{KeepsAll, GivesIn, HasTakenIn, moves_through, most_moves_in}
use Rattle.frame_zones.specs.Zones.{zone_at, first_frame_of, InEach, AreCoresOf}
use Rattle.frame_zones.specs.declared.block.ZoneBlock.{ZoneBlock}
use Rattle.frame_zones.specs.declared.zones.ZoneCore.{ZoneCore}
use Rattle.frame_zones.specs.declared.zones.Zones.{Zones}
use Rattle.zone_slots.specs.Memories.{block_laid}
use Rattle.zone_slots.specs.Places.{TakesPlaceByNumber, HasTakenBlockAt, FindsNoSlotAt}
use Rattle.zone_slots.specs.Places.{IsRefusedBlockAt, IsRefusedTakeAt}
use Rattle.zone_slots.specs.Uses.{IsReceiptOf, MovesForTake, one_more}
use Rattle.zone_slots.specs.declared.zone_receipt.ZoneReceipt.{ZoneReceipt}
use Rattle.zone_slots.proofs.Lifted.{taken_in, taken_order, taken_block, found_no_slot}

-- a take of just one block is a take
pub place_taken : (zs : Zones) (x n : ℕ) (b : ZoneBlock) (c d : ZoneCore) → HasTakenPlace zs x n b c d
    → HasTakenIn zs n b c d
place_taken zs x n b c d taken = record {
  is_out = taken.is_out;
  here = taken.here;
  others = λ k y within other. ap lent_by (taken.others k y within other);
}

-- the zone of a block that was taken has its first frame
pub placed_there : (zs : Zones) (x n : ℕ) (b : ZoneBlock) (c d : ZoneCore) → AreCoresOf zs c
    → HasTakenPlace zs x n b c d → IsFrameIn zs x b.zone b.block.frame
placed_there zs x n b c d are taken = record {
  zone = taken.is_out.zone;
  sum = taken.begins;
  inside = λ a. omega (
    arith,
    (taken.here a (some_core c b.zone (subst (λ k. b.zone < k) (sym are.parts.count) taken.is_out.zone))).inside,
    one-le-pow b.block.order 2 (omega arith),
  );
}

-- a zone's part of a sum over all
part_of_sum : (f : Allocator → ℕ) (zones : List Allocator) (z : ℕ) (a : Allocator) → z < length zones
    → f (slice_index_or zones z a) ≤ sum_by f zones
part_of_sum f [] z a within = absurd (omega (arith, within))
part_of_sum f (b ∷ zones) zero a within = omega (arith, sum_by-cons f b zones)
part_of_sum f (b ∷ zones) (suc z) a within =
    omega (arith, sum_by-cons f b zones, part_of_sum f zones z a (omega (arith, within)))

-- a take of just one block makes no more moves than one of any
place_is_take : (a : Allocator) → most_at_place_in a ≤ most_moves_in a
place_is_take a = omega arith

-- where a zone has the frame
pub place_moves : (zs : Zones) (x z local : ℕ) (c d : ZoneCore) → IsFrameIn zs x z local → MovesForPlace zs x c d
    → MovesForTake zs c d
place_moves zs x z local c d is most =
    let a : Allocator = some_zone zs z is.zone in
    omega (
      arith,
      most z local a is,
      place_is_take (zone_at zs z a),
      part_of_sum most_moves_in zs.zones.items z a is.zone,
    )

-- and where a block was taken there
pub placed_moves : (zs : Zones) (x n : ℕ) (b : ZoneBlock) (c d : ZoneCore) → AreCoresOf zs c
    → HasTakenPlace zs x n b c d → MovesForPlace zs x c d → MovesForTake zs c d
placed_moves zs x n b c d are taken most =
    place_moves zs x b.zone b.block.frame c d (placed_there zs x n b c d are taken) most

-- just this block was taken, by its number
pub placed_by_number : (zs : Zones) (x n : ℕ) (b : ZoneBlock) (c d : ZoneCore) → AreCoresOf zs c
    → InEach zs KeepsAll c d → MovesForPlace zs x c d → HasTakenPlace zs x n b c d → TakesPlaceByNumber zs n x c d
placed_by_number zs x n b c d are kept moves taken = record {
  taken = record {
    zone = b.zone;
    local = b.block.frame;
    within = taken.is_out.zone;
    number = sym taken.begins;
    holds = taken_in zs n b c d kept (placed_moves zs x n b c d are taken moves) (place_taken zs x n b c d taken);
  };
  others = taken.others;
  moves = moves;
}

-- and its receipt is of just this one
pub placed_laid : (zs : Zones) (x n : ℕ) (b : ZoneBlock) (r : ZoneReceipt) (c d : ZoneCore) → AreCoresOf zs c
    → HasTakenPlace zs x n b c d → IsReceiptOf b r → block_laid zs r ≡ block x n
placed_laid zs x n b r c d are taken is =
    ap (λ k. block k r.receipt.order) (ap (λ z. first_frame_of zs z + r.receipt.frame) is.zone
    ∙ ap (λ f. first_frame_of zs b.zone + f) is.frame ∙ taken.begins)
    ∙ ap (λ o. block x o) (is.order ∙ taken_order zs n b c d are (place_taken zs x n b c d taken))

-- the caller keeps its right
pub placed_block : (zs : Zones) (x n : ℕ) (answer : Result ZoneBlock TakeFault) (c d : ZoneCore) → AreCoresOf zs c
    → MovesForPlace zs x c d → TakesPlaceAmong zs x n answer c d → IfOk answer (HasTakenBlockAt zs n x c d)
placed_block zs x n (Ok b) c d are moves takes = record {
  takes = taken_block zs n b c d are takes.kept (placed_moves zs x n b c d are takes.ok moves)
      (place_taken zs x n b c d takes.ok);
  begins = takes.ok.begins;
  others = takes.ok.others;
  moves = moves;
}
placed_block zs x n (Err e) c d are moves takes = tt

-- why it was refused
pub refused_block_at : (zs : Zones) (x n : ℕ) (answer : Result ZoneBlock TakeFault) (c d : ZoneCore)
    → MovesForPlace zs x c d → TakesPlaceAmong zs x n answer c d → IfErr answer (IsRefusedBlockAt zs n x c d)
refused_block_at zs x n (Ok b) c d moves takes = tt
refused_block_at zs x n (Err e) c d moves takes = (takes.err.0, takes.err.1, takes.kept, moves)

-- and where nothing is counted
pub refused_place : (zs : Zones) (x n : ℕ) (c d : ZoneCore) (count : ℕ) (fault : TakeFault)
    → IsRefusedBlockAt zs n x c d fault → IsRefusedTakeAt zs n x c d count count fault
refused_place zs x n c d count BadOrder why = (why, refl)
refused_place zs x n c d count NoBlock why = (why, refl)
refused_place zs x n c d count Contended why = inl (why, refl)

-- the block that was taken found no slot, and was given back
pub place_without_slot : (zs : Zones) (x n : ℕ) (b : ZoneBlock) (c d e : ZoneCore) (count later : ℕ) → AreCoresOf zs c
    → InEach zs KeepsAll c d → MovesForPlace zs x c d → HasTakenPlace zs x n b c d
    → moves_through e ≤ moves_through d + most_in_give → GivesIn zs b.zone d e → later ≡ one_more count
    → FindsNoSlotAt zs n x c e count later
place_without_slot zs x n b c d e count later are kept moves taken more gives counted = record {
  no_slot = found_no_slot zs n b c d e count later are kept (placed_moves zs x n b c d are taken moves)
      (place_taken zs x n b c d taken) more gives counted;
  zone = b.zone;
  local = b.block.frame;
  is_there = placed_there zs x n b c d are taken;
  others = λ k y within other. gives.others k y within other ∙ taken.others k y within other;
  most = λ a. omega (arith, moves b.zone b.block.frame a (placed_there zs x n b c d are taken), more);
}
