use Rattle.std.proofs.Common.{sym, ◌∙◌, ◌≡◌, ap, Some, None}
use Rattle.std.proofs.lemmas.List.Elements.{All-weaker}
use Rattle.held_blocks.specs.LabelledBlocks.{BeginsAt, IsTheBlock}
use Rattle.held_blocks.specs.Slots.{held}
use Rattle.held_blocks.proofs.Outcomes.{none_when}
use Rattle.held_blocks.proofs.Slots.{below_from_some, read_slot}
use Rattle.held_blocks.proofs.StoreLemmas.{first_exact, none_exact}
use Rattle.held_blocks.proofs.block_store.BlockStore.exact_slot.Goals as goal

pub returns-in_err-slot-clause-none : goal.returns-in_err-slot-clause-none
returns-in_err-slot-clause-none c =
    let entries = held c.args.self.now.slots.items in
    let weaker =
    All-weaker (λ e. ¬ BeginsAt c.args.frame e) (λ e. ¬ IsTheBlock c.args.frame c.args.order e)
    (λ e none is. none is.0) entries c.in_err-slot.ensures.none in
    none_when c.from_residual.result _ weaker

pub returns-in_err-entry-clause-none : goal.returns-in_err-entry-clause-none
returns-in_err-entry-clause-none c =
    let slots = c.args.self.now.slots.items in
    let slot = c.in_ok-slot.slot in
    let found = c.in_ok-slot.ensures.found in
    let stands = found.stands in
    let within = below_from_some slots slot found.entry stands in
    let read = read_slot slots slot c.index.result.now within c.index.ensures in
    let empty : None ≡ c.index.result.now = c.in_err-entry.ensures.value in absurd (cc)

pub returns-then-order-clause-found : goal.returns-then-order-clause-found
returns-then-order-clause-found c =
    let slots = c.args.self.now.slots.items in
    let slot = c.in_ok-slot.slot in
    let entry = c.in_ok-entry.entry.now in
    let found = c.in_ok-slot.ensures.found in
    let stands = found.stands in
    let within = below_from_some slots slot found.entry stands in
    let read = read_slot slots slot c.index.result.now within c.index.ensures in
    let full : Some entry ≡ c.index.result.now = c.in_ok-entry.ensures.value in
    let same : found.entry ≡ entry = cc in
    let here = ap (λ x. x.block.frame) (sym same) ∙ found.holds in
    first_exact c.args.self.now.finds c.args.frame c.args.order slot entry (read ∙ sym full)
    (here, sym c.order.ensures ∙ c.if-order.true)

pub returns-else-order-clause-none : goal.returns-else-order-clause-none
returns-else-order-clause-none c =
    let slots = c.args.self.now.slots.items in
    let slot = c.in_ok-slot.slot in
    let entry = c.in_ok-entry.entry.now in
    let found = c.in_ok-slot.ensures.found in
    let stands = found.stands in
    let within = below_from_some slots slot found.entry stands in
    let read = read_slot slots slot c.index.result.now within c.index.ensures in
    let full : Some entry ≡ c.index.result.now = c.in_ok-entry.ensures.value in
    let same : found.entry ≡ entry = cc in
    none_exact c.args.self.now.finds c.args.frame c.args.order slot found.entry stands found.holds
    (λ is. c.if-order.false (c.order.ensures ∙ ap (λ x. x.block.order) (sym same) ∙ is))
