use Rattle.std.proofs.Common.{arith, sym, ◌∙◌, ◌≡◌, ◌<◌, length, ap, Some, None}
use Rattle.held_blocks.proofs.Outcomes.{none_when}
use Rattle.held_blocks.proofs.Slots.{below_from_some, read_slot}
use Rattle.held_blocks.proofs.StoreLemmas.{none_paged, none_at}
use Rattle.held_blocks.proofs.block_store.BlockStore.frame_slot.Goals as goal

pub returns-in_err-slot-clause-none : goal.returns-in_err-slot-clause-none
returns-in_err-slot-clause-none c =
    none_when c.from_residual.result _ (none_paged c.args.self.now.finds c.args.frame c.in_err-slot.ensures.none)

pub returns-then-slot-len-clause-none : goal.returns-then-slot-len-clause-none
returns-then-slot-len-clause-none c =
    let slots = c.args.self.now.slots in
    let slot = c.in_ok-slot.slot in
    none_at c.args.self.now.finds c.args.frame slot c.in_ok-slot.ensures.slot
    (λ e stands same.
    let within = below_from_some slots.items slot e stands in
    absurd (omega (arith, c.if-slot-len.true, c.len.ensures, slots.ok)))

pub returns-in_err-entry-clause-none : goal.returns-in_err-entry-clause-none
returns-in_err-entry-clause-none c =
    let slots = c.args.self.now.slots in
    let slot = c.in_ok-slot.slot in
    let within : slot < length slots.items = omega (arith, c.if-slot-len.false, c.len.ensures, slots.ok) in
    let read = read_slot slots.items slot c.index.result.now within c.index.ensures in
    let empty : None ≡ c.index.result.now = c.in_err-entry.ensures.value in
    none_when c.from_residual-in_err-entry.result _
    (none_at c.args.self.now.finds c.args.frame slot c.in_ok-slot.ensures.slot (λ e stands same. absurd (cc)))

pub returns-then-frame-clause-found : goal.returns-then-frame-clause-found
returns-then-frame-clause-found c =
    let slots = c.args.self.now.slots in
    let slot = c.in_ok-slot.slot in
    let within : slot < length slots.items = omega (arith, c.if-slot-len.false, c.len.ensures, slots.ok) in
    let read = read_slot slots.items slot c.index.result.now within c.index.ensures in
    let full : Some c.in_ok-entry.entry.now ≡ c.index.result.now = c.in_ok-entry.ensures.value in
    record {
      entry = c.in_ok-entry.entry.now;
      stands = read ∙ sym full;
      holds = sym c.frame.ensures ∙ c.if-frame.true;
    }

pub returns-else-frame-clause-none : goal.returns-else-frame-clause-none
returns-else-frame-clause-none c =
    let slots = c.args.self.now.slots in
    let slot = c.in_ok-slot.slot in
    let entry = c.in_ok-entry.entry.now in
    let within : slot < length slots.items = omega (arith, c.if-slot-len.false, c.len.ensures, slots.ok) in
    let read = read_slot slots.items slot c.index.result.now within c.index.ensures in
    let full : Some entry ≡ c.index.result.now = c.in_ok-entry.ensures.value in
    none_at c.args.self.now.finds c.args.frame slot c.in_ok-slot.ensures.slot
    (λ e stands same.
    let one : entry ≡ e = cc in
    c.if-frame.false (c.frame.ensures ∙ ap (λ x. x.block.frame) one ∙ same))
