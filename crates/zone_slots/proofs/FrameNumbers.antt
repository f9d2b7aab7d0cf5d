-- Single frames that are taken and given by number.
use Rattle.std.proofs.Common.{◌≡◌, ℕ, ℤ, pos, ◌+◌, ◌<◌, ◌≤◌, List, [], ◌∷◌, ◌++◌, drop, length, inr, sym, ◌∙◌, ap, ap₂, subst, arith, ◌-ℤ◌, Option, Some, None, IfSome, IfNone, Result, Ok, Err, IfOk, IfErr}
use Rattle.std.proofs.Math.IntN.{+ℤ-neg_ℤ_cancel}
use Rattle.std.proofs.lemmas.Int.{ints}
use Rattle.std.specs.Arc.{arc_value}
use Rattle.atomic_table.specs.Seated.{TableId}
use Rattle.atomic_table.specs.Table.{Me}
use Rattle.core_frames.specs.Bounds.{most_in_give}
use Rattle.core_frames.specs.Cores.{kept_by, lent_by}
use Rattle.core_frames.specs.declared.shared.allocator.Core.{Core}
use Rattle.frame_model.specs.Block.{block}
use Rattle.frame_table.specs.declared.rule.Watch.{Watch}
use Rattle.frame_words.specs.declared.fault.TakeFault.{TakeFault}
use Rattle.frame_words.specs.declared.fault.TakeFault.TheVariants.{Contended}
use Rattle.frame_zones.specs.Uses.{GivesIn, moves_through}
use Rattle.frame_zones.specs.Zones.{zone_count, core_at, first_frame_of, first_frame_in, IsOutOfItsZone}
use Rattle.frame_zones.specs.declared.block.ZoneBlock.{ZoneBlock}
use Rattle.frame_zones.specs.declared.zones.Zones.{Zones}
use Rattle.frame_zones.specs.declared.zones.ZoneCore.{ZoneCore}
use Rattle.zone_slots.specs.Calls.{zones_of, SharesOne, CountsNone, RemembersLast}
use Rattle.zone_slots.specs.FrameCalls.{resting_in, next_batch, lent_out_in, LendsOneLess, IsSingleFor, TakesSingle, TakesLastFrame, RestsLast}
use Rattle.zone_slots.specs.FrameNumbers.{LeavesLast, LaysDown, GoesBack, TakesNumber, RefusesNumber, GivesNumber}
use Rattle.zone_slots.specs.Looks.{HasBlockOf}
use Rattle.zone_slots.specs.Memories.{block_laid}
use Rattle.zone_slots.specs.Resting.{most_resting, flush_frames, one_in, singles_in, lent_besides}
use Rattle.zone_slots.specs.Rights.{IsRightIn}
use Rattle.zone_slots.specs.Uses.{GivesInZone, GivesByNumber, IsReceiptOf, one_more}
use Rattle.zone_slots.specs.declared.core_state.CoreState.{CoreState}
use Rattle.zone_slots.specs.declared.single_frame.SingleFrame.{SingleFrame}
use Rattle.zone_slots.specs.declared.zone_receipt.ZoneReceipt.{ZoneReceipt}
use Rattle.zone_slots.proofs.Lifted.{given_in}
use Rattle.zone_slots.proofs.Rested.{gives_one, then_keeps}

-- the memory has the frame to which there is a right
has_frame : (zs : Zones) (frame : ℕ) (id : TableId) (me : Me (Unit {0}) Watch) → IsRightIn zs frame 0 id me
    → HasBlockOf zs 0 frame
has_frame zs frame id me right = record {
  zone = right.zone;
  local = right.local;
  within = right.within;
  number = right.number;
  holds = λ a. right.holds.is_block a;
}

-- a single frame was laid down: its receipt is of the very one of this number
pub single_laid : (zs : Zones) (b : ZoneBlock) (frame : ℕ) (answer : Option ZoneReceipt) → first_frame_in zs b ≡ frame
    → b.block.order ≡ 0 → IfSome answer (IsReceiptOf b) → IfSome answer (λ r. block_laid zs r ≡ block frame 0)
single_laid zs b frame (Some r) number single is =
    ap (λ k. block k r.receipt.order) (ap (λ y. first_frame_of zs y + r.receipt.frame) is.zone
    ∙ ap (λ f. first_frame_of zs b.zone + f) is.frame ∙ number)
    ∙ ap (λ o. block frame o) (is.order ∙ single)
single_laid zs b frame None number single is = tt

-- or it went back
pub single_back : (zs : Zones) (b : ZoneBlock) (frame : ℕ) (answer : Option ZoneReceipt) (c d : ZoneCore)
    → IsOutOfItsZone zs b → first_frame_in zs b ≡ frame → b.block.order ≡ 0
    → moves_through d ≤ moves_through c + most_in_give → IfNone answer (GivesIn zs b.zone c d)
    → IfNone answer (GivesByNumber zs 0 frame c d)
single_back zs b frame (Some r) c d out number single moves gives = tt
single_back zs b frame None c d out number single moves gives = record {
  zone = b.zone;
  local = b.block.frame;
  within = out.zone;
  number = sym number;
  holds = subst (λ n. GivesInZone zs n c d b.zone b.block.frame) single (given_in zs b c d out moves gives);
}

-- a frame was given, whatever rests
pub given_besides : (zs : Zones) (c d : ZoneCore) (frames : List SingleFrame) (n : ℕ) → GivesByNumber zs 0 n c d
    → (z : ℕ) (x : Core) → z < zone_count zs
    → lent_besides zs d frames z x ≡ lent_besides zs c frames z x -ℤ pos (one_in zs z n)
given_besides zs c d frames n given z x within =
    ap (λ l. l -ℤ pos (singles_in zs frames z)) (gives_one zs n c d given z x within)
    ∙ turned (lent_by (core_at c z x)) (singles_in zs frames z) (one_in zs z n)
  where
    turned : (l : ℤ) (a b : ℕ) → (l -ℤ pos b) -ℤ pos a ≡ (l -ℤ pos a) -ℤ pos b
    turned l a b = omega (arith, ints)

-- as many are lent out, where nothing was taken or given and the same frames rest
as_many : (s t : CoreState) → SharesOne s t → t.core ≡ s.core → resting_in t ≡ resting_in s → (z : ℕ) (x : Core)
    → lent_out_in t z x ≡ lent_out_in s z x
as_many s t same core rest z x =
    let zones : zones_of t ≡ zones_of s = λ i. (arc_value (same i)).zones in
    ap₂ (λ (zs : Zones) (fs : List SingleFrame). lent_besides zs t.core fs z x) zones rest
    ∙ ap (λ (c : ZoneCore). lent_besides (zones_of s) c (resting_in s) z x) core

-- the number of the frame that was taken
number_in : Result SingleFrame TakeFault → ℕ
number_in (Ok f) = f.frame
number_in (Err e) = 0

-- the frame that was taken had come to rest last, and the same ones rest after that
left_last : (f : SingleFrame) (s m t : CoreState) → TakesLastFrame (Ok f) s m → resting_in t ≡ resting_in m
    → LeavesLast f.frame s t
unfolding number_in
left_last f s m t hit rest = record {
  single = hit.frame;
  number = sym (ap number_in hit.is_it);
  last = hit.last ∙ ap (λ (fs : List SingleFrame). fs ++ hit.frame ∷ []) (sym rest);
}

-- the right is there with each core of the memory
pub single_still : (s m : CoreState) (f : SingleFrame) → SharesOne s m → IsSingleFor s f → IsSingleFor m f
single_still s m f same single =
    let zones : zones_of m ≡ zones_of s = λ i. (arc_value (same i)).zones in
    subst (λ (zs : Zones). IsRightIn zs f.frame 0 f.seat.table_id f.seat.me) (sym zones) single

-- a single frame was taken, and laid down
pub taken_number : (answer : Result ℕ TakeFault) (f : SingleFrame) (s m t : CoreState) → SharesOne m t → TakesSingle s m f
    → (0 < length (resting_in s) → TakesLastFrame (Ok f) s m)
    → (resting_in s ≡ [] → length (resting_in m) < next_batch s)
    → IfOk answer (λ n. n ≡ f.frame) → IfOk answer (λ _. LaysDown f.frame m t) → IfOk answer (λ n. TakesNumber n s t)
taken_number (Ok n) f s m t behind taken hits few is lays =
    let takes : TakesNumber f.frame s t = record {
      is_frame = has_frame (zones_of s) f.frame f.seat.table_id f.seat.me taken.is_single;
      laid = lays.laid;
      lent = record {
        lent = λ z x within. as_many m t behind lays.core lays.rest z x ∙ taken.lent.lent z x within;
        kept = λ z a x within. ap (λ (c : ZoneCore). kept_by (core_at c z x)) lays.core ∙ taken.lent.kept z a x within;
      };
      rested = λ some. let hit = hits some in (left_last f s m t hit lays.rest, lays.core ∙ hit.core);
      few = λ none. subst (λ (fs : List SingleFrame). length fs < next_batch s) (sym lays.rest) (few none);
    } in
    subst (λ k. TakesNumber k s t) (sym is) takes
taken_number (Err e) f s m t behind taken hits few is lays = tt

-- or it found no slot
pub refused_number : (answer : Result ℕ TakeFault) (f : SingleFrame) (s m t : CoreState) → SharesOne s m
    → TakesSingle s m f → CountsNone s m → (0 < length (resting_in s) → TakesLastFrame (Ok f) s m)
    → (resting_in s ≡ [] → length (resting_in m) < next_batch s) → IfErr answer (λ fault. fault ≡ Contended)
    → IfErr answer (λ _. GoesBack f.frame m t) → IfErr answer (RefusesNumber s t)
refused_number (Ok n) f s m t same taken counted hits few is back = tt
refused_number (Err e) f s m t same taken counted hits few is back =
    let zones : zones_of m ≡ zones_of s = λ i. (arc_value (same i)).zones in
    inr (
      is,
      record {
        counted = back.counted ∙ ap (λ count. one_more count) counted;
        lent = record {
          lent = λ z x within.
              back.lent.lent z x (subst (λ (zs : Zones). z < zone_count zs) (sym zones) within)
              ∙ ap₂ (λ l (zs : Zones). l -ℤ pos (one_in zs z f.frame)) (taken.lent.lent z x within) zones
              ∙ +ℤ-neg_ℤ_cancel (lent_out_in s z x) (pos (one_in (zones_of s) z f.frame));
          kept = then_keeps s m t same taken.lent.kept back.lent.kept;
        };
        rested = λ some. (f.frame, left_last f s m t (hits some) back.rest);
        few = λ none. subst (λ (fs : List SingleFrame). length fs < next_batch s) (sym back.rest) (few none);
      },
    )

-- the single frame of this number was given, and rests
pub given_number : (frame : ℕ) (f : SingleFrame) (s t : CoreState) → f.frame ≡ frame → IsSingleFor s f
    → LendsOneLess f.frame s t → (length (resting_in s) < most_resting → RestsLast f s t)
    → (length (resting_in s) ≡ most_resting → resting_in t ≡ drop flush_frames (resting_in s) ++ f ∷ [])
    → GivesNumber frame s t
given_number frame f s t number single lent rests full = record {
  is_frame = subst (λ n. HasBlockOf (zones_of s) 0 n) number (has_frame (zones_of s) f.frame f.seat.table_id f.seat.me single);
  lent = subst (λ n. LendsOneLess n s t) number lent;
  single = f;
  number = number;
  rests = rests;
  full = full;
}

-- nothing was counted, before and behind
pub counted_still : (answer : Result ℕ TakeFault) (s m t : CoreState) → CountsNone s m
    → IfOk answer (λ _. CountsNone m t) → IfOk answer (λ _. CountsNone s t)
counted_still (Ok n) s m t before behind = behind ∙ before
counted_still (Err e) s m t before behind = tt

-- and nothing was laid down
pub last_still : (answer : Result ℕ TakeFault) (s m t : CoreState) → RemembersLast s m
    → IfErr answer (λ _. RemembersLast m t) → IfErr answer (λ _. RemembersLast s t)
last_still (Ok n) s m t before behind = tt
last_still (Err e) s m t before behind = behind ∙ before
