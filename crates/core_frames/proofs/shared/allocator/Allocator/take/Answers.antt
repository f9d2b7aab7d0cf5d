use Rattle.core_frames.proofs.shared.allocator.Allocator.take.Goals as goal

pub returns-in-Ok-clause-takes : goal.returns-in-Ok-clause-takes
returns-in-Ok-clause-takes c =
    let found = c.in-Ok.ensures.finds in
    let same = c.with_order.ensures in
    record {
      kept = found.kept;
      same_gives = found.same_gives;
      ok = found.ok.taken c.with_order.result same.0 same.1 same.2;
      err = tt;
    }
