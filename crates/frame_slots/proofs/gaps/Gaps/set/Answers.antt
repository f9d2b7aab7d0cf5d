use Rattle.std.proofs.Common.{◌/◌, ◌∙◌, arith}
use Rattle.std.proofs.lemmas.Grind.{get_or_default_zero}
use Rattle.frame_slots.proofs.GapBits.{set_here, set_keeps}
use Rattle.frame_slots.proofs.gaps.Gaps.set.Goals as goal

pub returns-clause-added : goal.returns-clause-added
returns-clause-added c = set_here c.args.self.now.words.items c.args.place c.index_mut.result.now c.requires

pub returns-clause-keeps : goal.returns-clause-keeps
returns-clause-keeps c x gap =
    let bits = c.args.self.now.words.items in
    let n = c.index_mut.result.now in
    let is = c.index_mut.ensures.value ∙ get_or_default_zero bits (c.args.place / 32) n (omega (arith, c.requires)) in
    set_keeps bits c.args.place x n c.requires is gap
