use Rattle.std.proofs.Common.{◌≡◌, refl, arith}
use Rattle.zone_slots.proofs.Lifted.{give_keeps, kept_twice, split_keeps}
use Rattle.zone_slots.proofs.Parted.{one_laid, none_laid, smaller, smaller_too, lower_next, upper_next, both_laid, lower_fewer, upper_fewer}
use Rattle.zone_slots.proofs.memory.Memory.+lay_parts.Goals as goal

pub returns-then-order-parts-clause-laid : goal.returns-then-order-parts-clause-laid
returns-then-order-parts-clause-laid t c _ =
    one_laid c.args.self.now.zones c.args.held c.args.parts.now c.add.new.self c.args.core.now c.lay_down.new.core
    c.requires.out (omega (arith, c.order.ensures, c.if-order-parts.true)) c.add.ensures c.in-Some.ensures.rests

pub lay_parts-requires : goal.lay_parts-requires
lay_parts-requires t c =
    let larger : ¬ (c.args.held.block.order ≡ c.args.parts.now.order) =
    λ same. absurd (omega (arith, same, c.order.ensures, c.if-order-parts.false)) in
    let next = lower_next c.args.self.now.zones c.args.held c.in-Ok.lower c.in-Ok.upper c.args.parts.now c.args.core.now
    c.split.new.core c.requires.core c.requires.out c.in-Ok.ensures.splits.ok c.requires.next larger in (
      smaller c.args.self.now.zones c.args.held c.in-Ok.lower c.in-Ok.upper c.args.core.now c.split.new.core t c.requires.core c.requires.out c.in-Ok.ensures.splits.ok c.decreases,
      (c.split.ensures.core.are_cores, (c.in-Ok.ensures.splits.ok.first_out, next)),
    )

pub lay_parts-requires-2 : goal.lay_parts-requires-2
lay_parts-requires-2 t c =
    let larger : ¬ (c.args.held.block.order ≡ c.args.parts.now.order) =
    λ same. absurd (omega (arith, same, c.order.ensures, c.if-order-parts.false)) in
    let one = c.if-not-lay_parts.ensures.laid refl in
    let next = upper_next c.args.self.now.zones c.args.held c.in-Ok.lower c.in-Ok.upper c.args.parts.now
    c.lay_parts.new.parts c.args.core.now c.split.new.core c.requires.core c.requires.out c.in-Ok.ensures.splits.ok
    c.requires.next larger one.parts in (
      smaller_too c.args.self.now.zones c.args.held c.in-Ok.lower c.in-Ok.upper c.args.core.now c.split.new.core t c.requires.core c.requires.out c.in-Ok.ensures.splits.ok c.decreases,
      (c.lay_parts.ensures.core, (c.in-Ok.ensures.splits.ok.second_out, next)),
    )

pub returns-clause-laid : goal.returns-clause-laid
returns-clause-laid t c is =
    let larger : ¬ (c.args.held.block.order ≡ c.args.parts.now.order) =
    λ same. absurd (omega (arith, same, c.order.ensures, c.if-order-parts.false)) in
    both_laid c.args.self.now.zones c.args.held c.in-Ok.lower c.in-Ok.upper c.args.parts.now c.lay_parts.new.parts
    c.lay_parts-2.new.parts c.args.core.now c.split.new.core c.lay_parts.new.core c.lay_parts-2.new.core c.requires.core
    c.requires.out c.in-Ok.ensures.splits.kept c.in-Ok.ensures.splits.ok c.in-Ok.ensures.splits.others
    c.split.ensures.all_moves
    c.requires.next.order larger (c.if-not-lay_parts.ensures.laid refl) (c.lay_parts-2.ensures.laid is)

pub returns-in_default-clause-fewer : goal.returns-in_default-clause-fewer
returns-in_default-clause-fewer t c _ =
    none_laid c.args.self.now.zones c.args.held c.args.parts.now c.args.core.now c.lay_down.new.core c.in_default.ensures.given

pub returns-then-not-lay_parts-clause-fewer : goal.returns-then-not-lay_parts-clause-fewer
returns-then-not-lay_parts-clause-fewer t c _ =
    let larger : ¬ (c.args.held.block.order ≡ c.args.parts.now.order) =
    λ same. absurd (omega (arith, same, c.order.ensures, c.if-order-parts.false)) in
    lower_fewer c.args.self.now.zones c.args.held c.in-Ok.lower c.in-Ok.upper c.args.parts.now c.lay_parts.new.parts
    c.args.core.now c.split.new.core c.lay_parts.new.core c.give.new.core c.requires.core c.requires.out
    c.in-Ok.ensures.splits.ok c.in-Ok.ensures.splits.others c.requires.next.order larger
    (c.if-not-lay_parts.ensures.fewer refl) c.give.ensures.gives

pub returns-clause-fewer : goal.returns-clause-fewer
returns-clause-fewer t c is =
    let larger : ¬ (c.args.held.block.order ≡ c.args.parts.now.order) =
    λ same. absurd (omega (arith, same, c.order.ensures, c.if-order-parts.false)) in
    upper_fewer c.args.self.now.zones c.args.held c.in-Ok.lower c.in-Ok.upper c.args.parts.now c.lay_parts.new.parts
    c.lay_parts-2.new.parts c.args.core.now c.split.new.core c.lay_parts.new.core c.lay_parts-2.new.core c.requires.core
    c.requires.out c.in-Ok.ensures.splits.ok c.in-Ok.ensures.splits.others c.requires.next.order larger
    (c.if-not-lay_parts.ensures.laid refl) (c.lay_parts-2.ensures.fewer is)

pub returns-then-not-lay_parts-clause-kept : goal.returns-then-not-lay_parts-clause-kept
returns-then-not-lay_parts-clause-kept t c =
    let zs = c.args.self.now.zones in
    let lower = c.lay_parts.new.core in
    kept_twice zs c.args.core.now lower c.give.new.core
    (kept_twice zs c.args.core.now c.split.new.core lower
    (split_keeps zs c.args.held c.split.result c.args.core.now c.split.new.core c.split.ensures.splits) c.lay_parts.ensures.kept)
    (give_keeps zs c.in-Ok.upper.zone lower c.give.new.core c.give.ensures.gives)

pub returns-clause-kept : goal.returns-clause-kept
returns-clause-kept t c =
    let zs = c.args.self.now.zones in
    let lower = c.lay_parts.new.core in
    kept_twice zs c.args.core.now lower c.lay_parts-2.new.core
    (kept_twice zs c.args.core.now c.split.new.core lower
    (split_keeps zs c.args.held c.split.result c.args.core.now c.split.new.core c.split.ensures.splits) c.lay_parts.ensures.kept)
    c.lay_parts-2.ensures.kept
