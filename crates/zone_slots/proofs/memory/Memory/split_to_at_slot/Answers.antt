use Rattle.std.proofs.Common.{refl, ◌∙◌, ap, arith}
use Rattle.zone_slots.specs.declared.parts.Parts.{Parts}
use Rattle.zone_slots.proofs.Parted.{first_next, parts_left_out}
use Rattle.zone_slots.proofs.memory.Memory.split_to_at_slot.Goals as goal

pub lay_parts-requires-clause-next : goal.lay_parts-requires-clause-next
lay_parts-requires-clause-next c =
    let order = ap (λ (p : Parts). p.order) c.none-parts.ensures in
    first_next c.in-Some.held c.none-parts.result (ap (λ (p : Parts). p.zone) c.none-parts.ensures)
    (ap (λ (p : Parts). p.frame) c.none-parts.ensures ∙ c.frame.ensures)
    (ap (λ (p : Parts). p.count) c.none-parts.ensures)
    (omega (arith, order, c.if-to-order.false, c.in-Some.ensures.order))
    (omega (arith, c.if-order-gt-HUGE_ORDER.false, c.in-Some.ensures.order))

pub returns-then-not-lay_parts-clause-refused : goal.returns-then-not-lay_parts-clause-refused
returns-then-not-lay_parts-clause-refused c = (
  record { few = omega (arith, c.if-order-gt-HUGE_ORDER.false); fits = omega (arith, c.if-to-order.false) },
  refl,
  parts_left_out c.args.self.now.zones c.args.frame c.args.order c.args.to c.in-Some.held c.none-parts.result
      c.lay_parts.new.parts c.args.core.now c.lay_parts.new.core c.in-Some.ensures.out c.in-Some.ensures.frame
      c.in-Some.ensures.order (ap (λ (p : Parts). p.order) c.none-parts.ensures) (c.if-not-lay_parts.ensures.fewer refl),
)
