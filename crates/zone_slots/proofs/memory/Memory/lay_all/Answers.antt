use Rattle.std.proofs.Common.{rules, ◌≡◌, ℕ, ◌+◌, ◌-◌, List, length, Some, ◌∙◌, ap, arith}
use Rattle.std.proofs.lemmas.List.Elements.{All-pop}
use Rattle.std.proofs.lemmas.List.{length_push}
use Rattle.frame_table.specs.declared.block.Block.{Block}
use Rattle.zone_slots.specs.Resting.{IsSingleOfZone}
use Rattle.zone_slots.proofs.Batches.{one_came}
use Rattle.zone_slots.proofs.memory.Memory.lay_all.Goals as goal

pub loop-block-preserved : goal.loop-block-preserved
loop-block-preserved c =
    let zs = c.args.self.now.zones in
    let inv = c.loop-block.invariant in
    let before : List Block = c.loop-block.blocks.items in
    let after : List Block = c.pop.new.self.items in
    let all : ℕ = length c.args.blocks.now.items in
    let b = c.in-Some.block in
    let one : length before ≡ length after + 1 = ap length c.in-Some.ensures.items ∙ length_push after b in
    let out = All-pop (IsSingleOfZone zs c.args.zone) before after (Some b) c.in-Some.ensures.items inv.out in
    record {
      came = one_came zs c.args.zone (all - length before) (all - length after) b c.single_of-frame.result c.args.rest.now.items
          c.loop-block.rest.items c.push_reserved.new.self.items c.requires.zone out.1 c.single_of-frame.ensures.single
          c.single_of-frame.ensures.frame c.push_reserved.ensures.items (omega (arith, one, inv.fewer)) inv.came;
      out = out.0;
      fewer = omega (arith, one, inv.fewer);
      room = search (rules, inv.room);
      same = search (rules, inv.same);
      same_blocks = search (rules, inv.same_blocks);
    }
