-- Blocks of zones, as C carries them.
use Rattle.std.proofs.Common.{◌≡◌, ◌∙◌, ℕ, [], ◌∷◌, None, refl, ap, sym, subst}
use Rattle.std.specs.Arc.{arc_value}
use Rattle.atomic_table.specs.Seated.{TableId}
use Rattle.atomic_table.specs.Table.{Me}
use Rattle.frame_model.specs.Block.{block}
use Rattle.frame_model.specs.View.{holder}
use Rattle.frame_table.specs.Rule.{watch}
use Rattle.frame_table.specs.declared.rule.Watch.{Watch}
use Rattle.frame_zones.specs.Zones.{first_frame_in, IsOutOfItsZone}
use Rattle.frame_zones.specs.declared.block.ZoneBlock.{ZoneBlock}
use Rattle.frame_zones.specs.declared.zones.Zones.{Zones}
use Rattle.zone_slots.specs.FrameCalls.{IsSingleFor}
use Rattle.zone_slots.specs.Rights.{IsRightIn}
use Rattle.zone_slots.specs.declared.single_frame.SingleFrame.{SingleFrame}
use Rattle.frame_words.specs.declared.fault.TakeFault.TheVariants.{NoBlock}
use Rattle.frame_zones.specs.declared.zones.ZoneCore.{ZoneCore}
use Rattle.zone_slots.specs.Calls.{zones_of}
use Rattle.zone_slots.specs.Uses.{FindsNothingAnywhere, IsRefusedBlock}
use Rattle.zone_slots.specs.declared.core_state.CoreState.{CoreState}
use Rattle.llfree_c.specs.Blocks.{Carries, IsOutOfOne}
use Rattle.llfree_c.specs.Rights.{first_frame, local_in, IsRightTo}
use Rattle.llfree_c.specs.declared.block_handle.BlockHandle.{BlockHandle}

-- the seat of a block that is out is the right to it
pub right_of : (zs : Zones) (b : ZoneBlock) → IsOutOfItsZone zs b
    → IsRightIn zs (first_frame_in zs b) b.block.order b.block.seat.table_id (b.block.seat.me.0, [])
right_of zs b out = record {
  zone = b.zone;
  local = b.block.frame;
  within = out.zone;
  number = refl;
  holds = record {
    owns = ap (λ (x : Watch). (x, [])) (ap (λ (m : Me (Unit {0}) Watch). m.0) b.block.owns);
    table = λ a. (out.is_out a).table;
    about = λ a. (out.is_out a).about;
    is_block = λ a. (out.is_out a).is_block;
  };
}

-- a block that is out is out as the struct carries it
pub carried_out : (s : CoreState) (b : ZoneBlock) (h : BlockHandle) → IsOutOfItsZone (zones_of s) b
    → Carries h (first_frame_in (zones_of s) b) b.block.order b.block.seat → IsOutOfOne s h
carried_out s b h out is =
    let zs : Zones = zones_of s in
    let me : Me (Unit {0}) Watch = (b.block.seat.me.0, []) in
    let right = right_of zs b out in record {
      eye = b.block.seat.me.0;
      views = is.views;
      right = subst (λ (k : ℕ). IsRightIn zs k h.order h.right.badge.table_id me) (sym is.frame)
          (subst (λ (k : ℕ). IsRightIn zs (first_frame_in zs b) k h.right.badge.table_id me) (sym is.order)
          (subst (λ (t : TableId). IsRightIn zs (first_frame_in zs b) b.block.order t me) (sym is.table) right));
    }

-- cores of one memory have the same blocks out
pub out_still : (s t : CoreState) (h : BlockHandle) → t.shared ≡ s.shared → IsOutOfOne t h → IsOutOfOne s h
out_still s t h same out = record {
  eye = out.eye;
  views = out.views;
  right = subst (λ zs. IsRightIn zs h.frame h.order h.right.badge.table_id (out.eye, []))
      (λ i. (arc_value (same i)).zones) out.right;
}

-- what a take that found no block leaves in each zone
pub found_nothing : (zs : Zones) (order : ℕ) (c d : ZoneCore) → IsRefusedBlock zs order c d NoBlock
    → FindsNothingAnywhere zs order c d
found_nothing zs order c d refused = record {
  in_each = λ z a x less. record {
    looked = refused.0.0 z a x less;
    unlost = refused.0.1 z a x less;
    lent = refused.1 z a x less;
    kept = refused.2 z a x less;
  };
  moves = refused.3;
}

-- the seat of a single frame is the right to one
pub single_right : (me : Me (Unit {0}) Watch) (local : ℕ) → me ≡ (watch (holder me.0.view.about (block local 0)) [] None, [])
    → IsRightTo 0 (me.0 ∷ [])
single_right me local is =
    let at : local_in (me.0 ∷ []) ≡ local = ap (λ (m : Me (Unit {0}) Watch). first_frame m.0.view.own) is in
    ap (λ (e : Watch). e ∷ [])
    (ap (λ (m : Me (Unit {0}) Watch). m.0) is ∙ ap (λ k. watch (holder me.0.view.about (block k 0)) [] None) (sym at))

-- a single frame is out as the struct carries it
pub single_out : (s : CoreState) (f : SingleFrame) (h : BlockHandle) → IsSingleFor s f → Carries h f.frame 0 f.seat
    → IsOutOfOne s h
single_out s f h single is =
    let zs : Zones = zones_of s in
    let me : Me (Unit {0}) Watch = (f.seat.me.0, []) in
    let bare : f.seat.me ≡ me = ap (λ e. (f.seat.me.0, e)) is.bare in record {
      eye = f.seat.me.0;
      views = is.views;
      right = subst (λ (k : ℕ). IsRightIn zs k h.order h.right.badge.table_id me) (sym is.frame)
          (subst (λ (k : ℕ). IsRightIn zs f.frame k h.right.badge.table_id me) (sym is.order)
          (subst (λ (t : TableId). IsRightIn zs f.frame 0 t me) (sym is.table)
          (subst (λ (m : Me (Unit {0}) Watch). IsRightIn zs f.frame 0 f.seat.table_id m) bare single)));
    }
