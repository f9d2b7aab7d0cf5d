use Rattle.std.proofs.Common.{rules, ◌≡◌, Some, ap, subst}
use Rattle.frame_model.specs.Block.{block}
use Rattle.zone_slots.specs.Memories.{block_laid}
use Rattle.zone_slots.specs.Places.{TakesPlaceByNumber, IsRefusedTakeAt}
use Rattle.zone_slots.specs.declared.memory.Memory.{Memory}
use Rattle.zone_slots.proofs.core_state.CoreState.take_at.Goals as goal

pub returns-in_err-receipt-clause-refused : goal.returns-in_err-receipt-clause-refused
returns-in_err-receipt-clause-refused c =
    let why = subst
    (λ (m : Memory). IsRefusedTakeAt m.zones c.args.order c.args.frame c.args.self.now.core c.take_this_at_slot.new.core
    c.args.self.now.slotless c.take_this_at_slot.new.slotless c.in_err-receipt.field-0.0)
    c.deref.ensures c.in_err-receipt.ensures.refused in
    search (rules, why)

pub returns-clause-taken : goal.returns-clause-taken
returns-clause-taken c =
    let placed = subst
    (λ (m : Memory). TakesPlaceByNumber m.zones c.args.order c.args.frame c.args.self.now.core
    c.take_this_at_slot.new.core)
    c.deref.ensures c.in_ok-receipt.ensures.taken in
    let laid = subst (λ (m : Memory). block_laid m.zones c.in_ok-receipt.receipt ≡ block c.args.frame c.args.order)
    c.deref.ensures c.in_ok-receipt.ensures.laid in
    record {
      takes = record { taken = placed.taken; laid = ap Some laid };
      others = placed.others;
      moves = placed.moves;
    }
