use Rattle.std.proofs.Common.{arith, ◌<◌, length}
use Rattle.held_blocks.specs.LabelChains.{no_place}
use Rattle.held_blocks.proofs.ChainLists.{chained_push}
use Rattle.held_blocks.proofs.label_chains.LabelChains.put_last.Goals as goal

pub returns-clause-chained : goal.returns-clause-chained
returns-clause-chained g c x =
    let chains = c.args.self.now in
    let slots = c.args.slots.now in
    let e = c.end_at-last.ensures.ends in
    let keys = rw e.keys at c.push_reserved.ensures.items in
    let next = rw (c.lead_on.ensures.items, e.next, c.end_at-last.ensures.was) at c.push_reserved-2.ensures.items in
    let r = c.requires.chained in
    let room = c.requires.room.0 in
    let small : length slots < no_place = omega (arith, r.key_len, room, chains.keys.ok, chains.keys.small) in
    chained_push chains _ slots x c.args.key r small keys next e.first e.last e.other
