use Rattle.std.proofs.Common.{◌≡◌, length, vec_len, arith, ap}
use Rattle.std.proofs.lemmas.List.{length-map}
use Rattle.core_frames.specs.Desks.{core_of}
use Rattle.llfree_trace.proofs.NewDesks.{empty_lists, new_desks}
use Rattle.llfree_trace.proofs.run_desks.open_desks.Goals as goal

pub desks_over-requires : goal.desks_over-requires
desks_over-requires c k d lt = (c.requires k d lt).kept

pub returns-clause-desks : goal.returns-clause-desks
returns-clause-desks c =
    new_desks c.args.allocator.now c.in_ok-desks.desks.items c.args.cores.items c.in_ok-desks.ensures.cores c.requires
    c.in_ok-desks.ensures.empty

pub returns-clause-lists : goal.returns-clause-lists
returns-clause-lists c =
    let count : length c.in_ok-desks.desks.items ≡ vec_len c.args.cores =
    omega (arith, ap length c.in_ok-desks.ensures.cores, length-map c.in_ok-desks.desks.items core_of, c.args.cores.ok) in
    rw count at (empty_lists c.in_ok-desks.desks.items c.in_ok-desks.ensures.empty)
