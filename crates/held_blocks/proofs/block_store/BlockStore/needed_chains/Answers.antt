use Rattle.std.proofs.Common.{arith, ap, sym, ◌∙◌, ◌+◌, ◌<◌, ◌≡◌, inl, inr, get_or, length}
use Rattle.std.proofs.lemmas.Bool.{cases_eq, both_ways}
use Rattle.std.proofs.lemmas.List.{get_or_default}
use Rattle.std.specs.Option.{is_some}
use Rattle.held_blocks.specs.Label.{packed}
use Rattle.held_blocks.specs.LabelChains.{is_live}
use Rattle.held_blocks.proofs.ChainLists.{blank_same, dead_at}
use Rattle.held_blocks.proofs.Slots.{length-held}
use Rattle.held_blocks.proofs.block_store.BlockStore.needed_chains.Goals as goal
use Rattle.held_blocks.proofs.block_store.BlockStore.needed_chains.Goals.{then-is_some+in_ok-know}
use Rattle.held_blocks.proofs.block_store.BlockStore.needed_chains.Goals.{else-is_some}

pub overflow_add-self : goal.overflow_add-self
overflow_add-self c =
    let store = c.args.self.now in
    let slots = store.slots in
    omega (arith, store.finds.count, length-held slots.items, slots.ok, slots.small)

pub loop-slot-preserved : goal.loop-slot-preserved
loop-slot-preserved c =
    let store = c.args.self.now in
    let slots = store.slots in
    let keys = store.chains.keys.items in
    let i = c.loop-slot.slot in
    let inv = c.loop-slot.invariant in
    let within : i < length slots.items = omega (arith, c.loop-slot-test.true, c.len-slot-end.ensures, slots.ok) in
    let inside : i < length keys = omega (arith, within, store.finds.chained.key_len) in
    elim c.if-is_some.branch [
      | then-is_some+in_ok-know w ↦
          let k = w.know.ensures in
          let read = w.index-then-is_some in
          let knows = w.in_ok-know.ensures.knows in
          record {
            blank = rw w.chains-is (blank_same k.same inv.blank);
            room = rw w.chains-is (k.same.room (store.live + 1) inv.room);
            knows = rw w.chains-is (k.same.known c.args.key inv.knows);
            labels =
                rw w.chains-is (λ j e below stands.
                elim (cases_eq j i) [
                  | inl same ↦
                      let here : read.result.now ≡ get_or keys i 0 = read.ensures ∙ get_or_default keys i read.result.now 0 inside in
                      let is : read.result.now ≡ packed e.label =
                      here ∙ ap (λ n. get_or keys n 0) (sym same) ∙ (store.finds.each j e stands).key in
                      rw is at knows
                  | inr other ↦ k.same.known (packed e.label) (inv.labels j e (omega arith) stands)
                ]);
          }
      | else-is_some w ↦
          let dead = dead_at slots.items i c.index.result.now within c.index.ensures (sym w.if-is_some.ensures) in
          record {
            blank = rw w.chains-is inv.blank;
            room = rw w.chains-is inv.room;
            knows = rw w.chains-is inv.knows;
            labels =
                rw w.chains-is (λ j e below stands.
                elim (cases_eq j i) [
                  | inl same ↦ absurd (both_ways (is_live slots.items j) (ap (is_live slots.items) same ∙ dead) (ap is_some stands))
                  | inr other ↦ inv.labels j e (omega arith) stands
                ]);
          }
    ]
