use Rattle.std.proofs.Common.{◌≡◌, Option, IfSome, IfNone, refl, sym, ◌∙◌, subst, arith}
use Rattle.frame_zones.specs.declared.zones.ZoneCore.{ZoneCore}
use Rattle.frame_zones.specs.Uses.{GivesIn}
use Rattle.zone_slots.specs.Parts.{LeavesPartsOut}
use Rattle.zone_slots.specs.Uses.{IsReceiptOf, SplitsByNumber}
use Rattle.zone_slots.specs.declared.zone_receipt.ZoneReceipt.{ZoneReceipt}
use Rattle.zone_slots.proofs.Lifted.{halves_laid, kept_twice, laid_keeps, split_among, split_keeps}
use Rattle.zone_slots.proofs.Parted.{lower_left_out, upper_left_out}
use Rattle.zone_slots.proofs.memory.Memory.split_at_slot.Goals.{in_default-2-via-in-Some+in_default, in_default-2-via-in_default}
use Rattle.zone_slots.proofs.memory.Memory.split_at_slot.Goals as goal

pub returns-in-Some-Some-clause-split : goal.returns-in-Some-Some-clause-split
returns-in-Some-Some-clause-split c =
    let lower : c.lay_down-lower_rests.new.core ≡ c.split.new.core =
    subst (λ (r : Option ZoneReceipt). IfSome r (λ _. c.lay_down-lower_rests.new.core ≡ c.split.new.core))
    c.in-Some-Some.is-0 c.lay_down-lower_rests.ensures.rests in
    let upper : c.lay_down-upper_rests.new.core ≡ c.lay_down-lower_rests.new.core =
    subst (λ (r : Option ZoneReceipt). IfSome r (λ _. c.lay_down-upper_rests.new.core ≡ c.lay_down-lower_rests.new.core))
    c.in-Some-Some.is-1 c.lay_down-upper_rests.ensures.rests in
    subst (λ (d : ZoneCore). SplitsByNumber c.args.self.now.zones c.args.order c.args.frame c.args.core.now d)
    (sym (upper ∙ lower))
    (split_among c.args.self.now.zones c.args.frame c.args.order c.in-Some.held c.in-Ok.lower c.in-Ok.upper
    c.args.core.now c.split.new.core c.in-Some.ensures.out c.in-Some.ensures.frame c.in-Some.ensures.order
    c.in-Ok.ensures.splits.kept c.split.ensures.all_moves c.in-Ok.ensures.splits.ok c.in-Ok.ensures.splits.others)

pub returns-in-Some-Some-clause-lower : goal.returns-in-Some-Some-clause-lower
returns-in-Some-Some-clause-lower c =
    (halves_laid c.args.self.now.zones c.args.frame c.args.order c.in-Some.held c.in-Ok.lower c.in-Ok.upper
    c.args.core.now c.split.new.core c.in-Some-Some.lower c.in-Some-Some.upper c.requires.core c.in-Some.ensures.out
    c.in-Some.ensures.frame c.in-Some.ensures.order c.in-Ok.ensures.splits.ok
    (subst (λ (r : Option ZoneReceipt). IfSome r (IsReceiptOf c.in-Ok.lower)) c.in-Some-Some.is-0
    c.lay_down-lower_rests.ensures.same)
    (subst (λ (r : Option ZoneReceipt). IfSome r (IsReceiptOf c.in-Ok.upper)) c.in-Some-Some.is-1
    c.lay_down-upper_rests.ensures.same)).0

pub returns-in-Some-Some-clause-upper : goal.returns-in-Some-Some-clause-upper
returns-in-Some-Some-clause-upper c =
    (halves_laid c.args.self.now.zones c.args.frame c.args.order c.in-Some.held c.in-Ok.lower c.in-Ok.upper
    c.args.core.now c.split.new.core c.in-Some-Some.lower c.in-Some-Some.upper c.requires.core c.in-Some.ensures.out
    c.in-Some.ensures.frame c.in-Some.ensures.order c.in-Ok.ensures.splits.ok
    (subst (λ (r : Option ZoneReceipt). IfSome r (IsReceiptOf c.in-Ok.lower)) c.in-Some-Some.is-0
    c.lay_down-lower_rests.ensures.same)
    (subst (λ (r : Option ZoneReceipt). IfSome r (IsReceiptOf c.in-Ok.upper)) c.in-Some-Some.is-1
    c.lay_down-upper_rests.ensures.same)).1

pub returns-in_default-2-clause-refused : goal.returns-in_default-2-clause-refused
returns-in_default-2-clause-refused c =
    let zs = c.args.self.now.zones in
    let split = c.in-Ok.ensures.splits in
    let left : LeavesPartsOut zs c.args.order 2 c.args.frame c.args.core.now c.lay_down-upper_rests.new.core =
    elim c.in_default-2.branch [
      | in_default-2-via-in-Some+in_default w ↦
          upper_left_out zs c.args.frame c.args.order c.in-Some.held c.in-Ok.lower c.in-Ok.upper c.args.core.now
          c.split.new.core c.lay_down-lower_rests.new.core c.lay_down-upper_rests.new.core c.in-Some.ensures.out
          c.in-Some.ensures.frame c.in-Some.ensures.order split.ok split.others
          (subst (λ (r : Option ZoneReceipt). IfSome r (λ _. c.lay_down-lower_rests.new.core ≡ c.split.new.core))
          w.in_default-2.is-0 c.lay_down-lower_rests.ensures.rests)
          (subst (λ (r : Option ZoneReceipt). IfNone r
          (GivesIn zs c.in-Ok.upper.zone c.lay_down-lower_rests.new.core c.lay_down-upper_rests.new.core))
          w.in_default-2.is-1 c.lay_down-upper_rests.ensures.given)
      | in_default-2-via-in_default w ↦
          lower_left_out zs c.args.frame c.args.order c.in-Some.held c.in-Ok.lower c.in-Ok.upper
          c.lay_down-upper_rests.result c.args.core.now c.split.new.core c.lay_down-lower_rests.new.core
          c.lay_down-upper_rests.new.core c.in-Some.ensures.out c.in-Some.ensures.frame c.in-Some.ensures.order split.ok
          split.others
          (subst (λ (r : Option ZoneReceipt). IfNone r
          (GivesIn zs c.in-Ok.lower.zone c.split.new.core c.lay_down-lower_rests.new.core))
          w.in_default-2.is-0 c.lay_down-lower_rests.ensures.given)
          c.lay_down-upper_rests.ensures.rests c.lay_down-upper_rests.ensures.given
    ] in
    (omega (arith, c.if-order-eq0.false), refl, left)

pub returns-in_default-2-clause-kept : goal.returns-in_default-2-clause-kept
returns-in_default-2-clause-kept c =
    let zs = c.args.self.now.zones in
    let lower = c.lay_down-lower_rests in
    let upper = c.lay_down-upper_rests in
    kept_twice zs c.args.core.now lower.new.core upper.new.core
    (kept_twice zs c.args.core.now c.split.new.core lower.new.core
    (split_keeps zs c.in-Some.held c.split.result c.args.core.now c.split.new.core c.split.ensures.splits)
    (laid_keeps zs c.in-Ok.lower.zone lower.result c.split.new.core lower.new.core lower.ensures.rests lower.ensures.given))
    (laid_keeps zs c.in-Ok.upper.zone upper.result lower.new.core upper.new.core upper.ensures.rests upper.ensures.given)
