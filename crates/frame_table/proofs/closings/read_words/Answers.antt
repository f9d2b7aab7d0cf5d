use Rattle.std.proofs.Common.{arith, ◌∙◌}
use Rattle.std.specs.Slots.{slots_items}
use Rattle.frame_table.proofs.Gathering.{taken_more}
use Rattle.frame_table.proofs.closings.read_words.Goals as goal

pub loop-i-preserved : goal.loop-i-preserved
loop-i-preserved c = record {
  items = c.push_reserved.ensures.items ∙ taken_more (slots_items c.args.closed.words) c.loop-i.words.items c.loop-i.i c.word.result
      c.loop-i.invariant.items c.word.ensures;
  count = omega arith;
  room = omega arith;
}
