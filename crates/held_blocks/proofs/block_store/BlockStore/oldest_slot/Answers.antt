use Rattle.std.proofs.Common.{refl}
use Rattle.held_blocks.specs.LabelChains.{Chained}
use Rattle.held_blocks.proofs.Outcomes.{if_none, if_some}
use Rattle.held_blocks.proofs.StoreLemmas.{fits_same, keeps_slots, none_under, first_under}
use Rattle.held_blocks.proofs.block_store.BlockStore.oldest_slot.Goals as goal

pub invariant_of-self : goal.invariant_of-self
invariant_of-self c =
    let old = c.args.self.now in
    let e = c.first_live.ensures in
    let chained : Chained c.first_live.new.self old.slots.items = rw c.as_slice.ensures.value at e.chained in
    record { finds = fits_same old.finds refl chained e.kept.keys keeps_slots }

pub returns-clause-none : goal.returns-clause-none
returns-clause-none c =
    let none = rw (c.as_slice.ensures.value, c.key_of.ensures.key) at c.first_live.ensures.none in
    if_none c.first_live.result _ _ (none_under c.args.self.now.finds c.args.label.now) none

pub returns-clause-found : goal.returns-clause-found
returns-clause-found c =
    let found = rw (c.as_slice.ensures.value, c.key_of.ensures.key) at c.first_live.ensures.found in
    if_some c.first_live.result _ _ (λ i h. first_under c.args.self.now.finds c.args.label.now i c.key_of.ensures.lawful h) found

pub returns-clause-kept : goal.returns-clause-kept
returns-clause-kept c q r =
    let e = c.first_live.ensures in
    record {
      room = (r.room.0, e.kept.room 1 r.room.1);
      knows = e.kept.known q r.knows;
      spare = r.spare;
    }
