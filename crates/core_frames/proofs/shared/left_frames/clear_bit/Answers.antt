use Rattle.std.proofs.Common.{◌/◌, ◌∙◌, arith}
use Rattle.std.proofs.lemmas.Grind.{get_or_default_zero}
use Rattle.core_frames.proofs.LeftLemmas.{clear_here, clear_else}
use Rattle.core_frames.proofs.shared.left_frames.clear_bit.Goals as goal

pub returns-clause-cleared : goal.returns-clause-cleared
returns-clause-cleared c = clear_here c.args.bits.now.items c.args.frame c.index_mut.result.now c.requires

pub returns-clause-others : goal.returns-clause-others
returns-clause-others c x apart =
    let bits = c.args.bits.now.items in
    let n = c.index_mut.result.now in
    let is = c.index_mut.ensures.value ∙ get_or_default_zero bits (c.args.frame / 64) n (omega (arith, c.requires)) in
    clear_else bits c.args.frame x n c.requires is apart
