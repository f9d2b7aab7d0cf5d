-- Single frames that were taken or given, and why none was.
use Rattle.std.proofs.Common.{◌≡◌, ◌∙◌, ℕ, ◌<◌, [], ◌∷◌, ◌++◌, drop, length, length-drop, inl, inr, refl, sym, ap, arith}
use Rattle.std.proofs.lemmas.List.{length_push}
use Rattle.frame_words.specs.declared.fault.TakeFault.TheVariants.{BadOrder, NoBlock, Contended}
use Rattle.zone_slots.specs.Calls.{zones_of}
use Rattle.zone_slots.specs.FrameCalls.{resting_in, RefusesSingle, LendsOneLess, RestsLast}
use Rattle.zone_slots.specs.Resting.{most_resting, flush_frames}
use Rattle.zone_slots.specs.declared.core_state.CoreState.{CoreState}
use Rattle.zone_slots.specs.declared.single_frame.SingleFrame.{SingleFrame}
use Rattle.llfree_c.specs.Frames.{GivesFrame, RefusesFrameAs}
use Rattle.llfree_c.specs.Status.{no_block, bad_order, contended}
use Rattle.llfree_c.specs.declared.block_handle.BlockHandle.{BlockHandle}
use Rattle.llfree_c.proofs.CarriedBlocks.{found_nothing}

-- none was found
pub none_found : (h : BlockHandle) (s t : CoreState) → RefusesSingle s t NoBlock → RefusesFrameAs h no_block s t
none_found h s t refused = (
  refused.none_then ∙ sym refused.none,
  inr (inl (
    refl,
    refused.none,
    record {
      core = refused.core;
      batch = refused.batch;
      in_each = found_nothing (zones_of s) 0 refused.core t.core refused.why;
      lent = refused.lent;
      kept = refused.kept;
    },
  )),
)

-- an exchange was lost
pub one_lost : (h : BlockHandle) (s t : CoreState) → RefusesSingle s t Contended → RefusesFrameAs h contended s t
one_lost h s t refused = (
  refused.none_then ∙ sym refused.none,
  inr (inr (
    refl,
    refused.none,
    record {
      core = refused.core;
      batch = refused.batch;
      lost = record {
        looked = refused.why.0.0;
        lost = refused.why.0.1;
        lent = refused.why.1;
        kept = refused.why.2;
        moves = refused.why.3;
      };
      lent = refused.lent;
      kept = refused.kept;
    },
  )),
)

-- there are single frames
pub has_order : (h : BlockHandle) (s t : CoreState) → RefusesSingle s t BadOrder → RefusesFrameAs h bad_order s t
has_order h s t refused = absurd (omega (arith, refused.why.0.0))

-- a single frame was given: it rests, or 8 of those that rested went back before
pub frame_given : (n : ℕ) (f : SingleFrame) (s t : CoreState) → LendsOneLess n s t
    → (length (resting_in s) < most_resting → RestsLast f s t)
    → (length (resting_in s) ≡ most_resting → resting_in t ≡ drop flush_frames (resting_in s) ++ f ∷ []) → GivesFrame n s t
frame_given n f s t lent rests full = record {
  lent = lent;
  rests = λ room.
      let last = rests room in
      record { one = omega (arith, ap length last.last, length_push (resting_in s) f); core = last.core };
  full = λ all. omega (
    arith,
    all,
    ap length (full all),
    length_push (drop flush_frames (resting_in s)) f,
    length-drop flush_frames (resting_in s),
  );
}
