use Rattle.std.proofs.Common.{inl, inr, refl, subst}
use Rattle.zone_slots.specs.Calls.{zones_of}
use Rattle.zone_slots.specs.Uses.{IsRefusedBlock}
use Rattle.llfree_c.proofs.CarriedBlocks.{found_nothing}
use Rattle.llfree_c.proofs.block_steps.take_block.Goals as goal

pub returns-in-Err-NoBlock-clause-refused : goal.returns-in-Err-NoBlock-clause-refused
returns-in-Err-NoBlock-clause-refused c =
    let old = c.args.state.now in
    let new = c.take_block.new.self in
    λ _. inr (inr (inl (
      refl,
      record {
        in_each = found_nothing (zones_of old) c.args.order old.core new.core
            (subst (λ fault. IsRefusedBlock (zones_of old) c.args.order old.core new.core fault) c.in-Err-NoBlock.field-0-is
            c.in-Err-NoBlock.ensures.refused);
      },
    )))
