use Rattle.std.proofs.Common.{subst, ◌∙◌}
use Rattle.frame_words.specs.declared.fault.TakeFault.{TakeFault}
use Rattle.core_frames.specs.Uses.{IsRefusedFor}
use Rattle.frame_slots.proofs.replay.take_into.Goals as goal

pub returns-in-Err-NoBlock-clause-lends : goal.returns-in-Err-NoBlock-clause-lends
returns-in-Err-NoBlock-clause-lends c =
    let same = c.in-Err-NoBlock.ensures.takes.err.1 in
    let refused = subst (λ (f : TakeFault). IsRefusedFor c.args.allocator.now c.args.order c.loop-i.core c.take.new.core f)
    c.in-Err-NoBlock.field-0-is c.in-Err-NoBlock.ensures.takes.err.0 in (
      record {
        lent = same ∙ c.loop-i.invariant.lends.lent;
        kept = c.take.ensures.takes.kept ∙ c.loop-i.invariant.lends.kept;
      },
      (c.loop-i.core, record { looked = refused.0; unlost = refused.1; lent = same; kept = c.take.ensures.takes.kept }),
    )
