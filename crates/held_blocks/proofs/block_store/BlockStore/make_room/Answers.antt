use Rattle.std.proofs.Common.{arith, refl}
use Rattle.held_blocks.proofs.ChainLists.{chained_same}
use Rattle.held_blocks.proofs.Outcomes.{on_ok_and}
use Rattle.held_blocks.proofs.StoreLemmas.{fits_same, keeps_slots}
use Rattle.held_blocks.proofs.block_store.BlockStore.make_room.Goals as goal

pub invariant_of-self : goal.invariant_of-self
invariant_of-self c =
    let f = c.args.self.now.finds in
    record { finds = fits_same f c.reserve.ensures.items f.chained refl keeps_slots }

pub invariant_of-self-2 : goal.invariant_of-self-2
invariant_of-self-2 c =
    let old = c.args.self.now in
    let f = old.finds in
    let m = c.make_ready in
    let chained = chained_same old.chains m.new.self old.slots.items f.chained m.ensures.same in
    record { finds = fits_same f c.reserve.ensures.items chained m.ensures.same.keys keeps_slots }

pub returns-clause-ready : goal.returns-clause-ready
returns-clause-ready c =
    let m = c.make_ready in
    let slots = c.in_ok-reserve.ensures.ok in
    on_ok_and m.result _ _ _
    (λ room knows. record { room = (slots, room); knows = knows; spare = c.requires }) m.ensures.room m.ensures.knows

pub returns-clause-kept : goal.returns-clause-kept
returns-clause-kept c q r =
    let e = c.reserve.ensures in
    let m = c.make_ready.ensures in
    record {
      room = (omega (arith, r.room.0, e.len, e.capacity), m.same.room 1 r.room.1);
      knows = m.same.known q r.knows;
      spare = r.spare;
    }
