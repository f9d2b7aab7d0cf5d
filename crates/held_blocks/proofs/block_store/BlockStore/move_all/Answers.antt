use Rattle.std.proofs.Common.{arith, ap, sym, ◌∙◌, ◌+◌, ◌<◌, ◌≡◌, ◌++◌, ◌∷◌, [], None, length}
use Rattle.std.proofs.Common.{take, drop, get_or}
use Rattle.std.proofs.lemmas.List.{drop-set-lt}
use Rattle.held_blocks.specs.Label.{packed}
use Rattle.held_blocks.specs.Slots.{held, StandsAt}
use Rattle.held_blocks.specs.LabelledBlocks.{BeginsAt}
use Rattle.held_blocks.proofs.Slots.{read_rest, rest_more, rest_some, rest_none, moved_some}
use Rattle.held_blocks.proofs.Slots.{moved_none, none_held, take_some, read_slot, none_from}
use Rattle.held_blocks.proofs.block_store.BlockStore.move_all.Goals as goal
use Rattle.held_blocks.proofs.block_store.BlockStore.move_all.Goals.{then-is_some, else-is_some}

pub put_last-requires-clause-room : goal.put_last-requires-clause-room
put_last-requires-clause-room c =
    let r = c.loop-slot.invariant.room in
    (omega (arith, r.0), (omega (arith, r.1.0), omega (arith, r.1.1)))

pub put_last-requires-clause-knows : goal.put_last-requires-clause-knows
put_last-requires-clause-knows c =
    let inv = c.loop-slot.invariant in
    let e = c.take_slot.result in
    let i = c.loop-slot.slot in
    let old = c.args.slots.items in
    let stands : StandsAt old i e = sym (read_rest c.loop-slot.slots.items old i inv.rest) ∙ c.take_slot.ensures.entry in
    inv.known (packed e.label) (c.requires.can.knows i e stands)

pub put_last-requires-clause-page : goal.put_last-requires-clause-page
put_last-requires-clause-page c =
    let inv = c.loop-slot.invariant in
    let e = c.take_slot.result in
    let i = c.loop-slot.slot in
    let old = c.args.slots.items in
    let stands : StandsAt old i e = sym (read_rest c.loop-slot.slots.items old i inv.rest) ∙ c.take_slot.ensures.entry in
    omega (arith, inv.numbers e.block.frame, c.requires.can.pages i e stands)

pub put_last-requires-clause-apart : goal.put_last-requires-clause-apart
put_last-requires-clause-apart c =
    let inv = c.loop-slot.invariant in
    let e = c.take_slot.result in
    let i = c.loop-slot.slot in
    let old = c.args.slots.items in
    let stands : StandsAt old i e = sym (read_rest c.loop-slot.slots.items old i inv.rest) ∙ c.take_slot.ensures.entry in
    rw inv.moved (none_held (BeginsAt e.block.frame) (take i old) (λ j f h same.
    let r = take_some old i j f h in
    let before = r.0 in
    let one = c.requires.can.apart j i f e r.1 stands same in absurd (omega arith)))

pub loop-slot-preserved : goal.loop-slot-preserved
loop-slot-preserved c =
    let inv = c.loop-slot.invariant in
    let old = c.args.slots.items in
    let slots = c.loop-slot.slots.items in
    let i = c.loop-slot.slot in
    let b : i < length old = omega (arith, c.loop-slot-test.true, c.len-slot-end.ensures, c.args.slots.ok) in
    let inside : i < length slots = omega (arith, b, inv.same, c.args.slots.ok, c.loop-slot.slots.ok) in
    elim c.if-is_some.branch [
      | then-is_some w ↦
          let t = w.take_slot.ensures in
          let e = w.take_slot.result in
          let p = w.put_last.ensures in
          let stands : StandsAt old i e = sym (read_rest slots old i inv.rest) ∙ t.entry in
          let less : length (held (drop i old)) ≡ length (held (drop (i + 1) old)) + 1 =
          ap length (rest_some old i e stands) ∙ omega arith in
          let room = rw less at inv.room in
          record {
            moved = rw w.self-is (p.entries ∙ ap (λ l. l ++ e ∷ []) inv.moved ∙ sym (moved_some old i e stands));
            rest = rw (w.slots-is, t.slots) (drop-set-lt (i + 1) slots i _ (omega arith) ∙ rest_more slots old i inv.rest);
            same = rw w.slots-is (t.len ∙ inv.same);
            room = rw w.self-is (p.room.room (length (held (drop (i + 1) old)) + 1) room);
            known = rw w.self-is (λ q h. p.room.known q (inv.known q h));
            numbers = rw w.self-is (λ f. p.room.pages.numbers f ∙ inv.numbers f);
            spare = rw w.self-is (p.room.pages.spare inv.spare);
          }
      | else-is_some w ↦
          let none : get_or old i None ≡ None =
          sym (read_rest slots old i inv.rest) ∙ read_slot slots i c.index.result.now inside c.index.ensures
          ∙ none_from c.index.result.now (sym w.if-is_some.ensures) in
          let less = rest_none old i b none in
          let room = rw less at inv.room in
          record {
            moved = rw w.self-is (inv.moved ∙ sym (moved_none old i b none));
            rest = rw w.slots-is (rest_more slots old i inv.rest);
            same = rw w.slots-is inv.same;
            room = rw w.self-is room;
            known = rw w.self-is inv.known;
            numbers = rw w.self-is inv.numbers;
            spare = rw w.self-is inv.spare;
          }
    ]
