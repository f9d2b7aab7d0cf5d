use Rattle.std.proofs.Common.{◌≡◌, ◌∙◌, ◌<◌, length, get_or, arith}
use Rattle.std.proofs.lemmas.List.{get_or_default}
use Rattle.held_blocks.proofs.ChainSteps.{walk_more}
use Rattle.held_blocks.proofs.ChainLists.{dead_at}
use Rattle.held_blocks.proofs.label_chains.LabelChains.walk.Goals as goal

pub loop-at-preserved : goal.loop-at-preserved
loop-at-preserved g c =
    let at = c.loop-at.at in
    let slots = c.args.slots.now in
    let next = c.args.self.now.next.items in
    let within : at < length slots = c.loop-at-test.true in
    let r = c.requires.chained in
    let inside : at < length next = omega arith in
    let read : c.index-at.result.now ≡ get_or next at 0 = c.index-at.ensures ∙ get_or_default next at c.index-at.result.now 0 inside in
    let dead = dead_at slots at c.index-slots-at.result within c.index-slots-at.is c.if-is_none.ensures in
    rw read (walk_more r.serves c.args.key at c.loop-at.invariant within dead)

pub loop-at-smaller : goal.loop-at-smaller
loop-at-smaller g c =
    let at = c.loop-at.at in
    let next = c.args.self.now.next.items in
    let within : at < length c.args.slots.now = c.loop-at-test.true in
    let r = c.requires.chained in
    let inside : at < length next = omega arith in
    let read : c.index-at.result.now ≡ get_or next at 0 = c.index-at.ensures ∙ get_or_default next at c.index-at.result.now 0 inside in
    let on = r.serves.onward at within in
    omega arith
