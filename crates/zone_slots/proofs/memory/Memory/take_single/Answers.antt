use Rattle.zone_slots.proofs.memory.Memory.take_single.Goals as goal

pub returns-clause-taken : goal.returns-clause-taken
returns-clause-taken c =
    let taken = c.in_ok-held.ensures.taken in
    record {
      is_single = c.single_of.ensures.single;
      taken = record {
        zone = c.in_ok-held.held.zone;
        local = c.in_ok-held.held.block.frame;
        within = taken.is_out.zone;
        number = c.single_of.ensures.frame;
        holds = taken.taken;
      };
    }
