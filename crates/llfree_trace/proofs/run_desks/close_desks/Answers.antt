use Rattle.llfree_trace.proofs.NewDesks.{all_cores}
use Rattle.llfree_trace.proofs.run_desks.close_desks.Goals as goal

pub close-requires : goal.close-requires
close-requires c = all_cores c.args.allocator c.args.desks.items c.in_ok-cores.cores.items c.in_ok-cores.ensures.cores c.requires
