use Rattle.std.proofs.Common.{sym, subst}
use Rattle.std.specs.List.{All}
use Rattle.std.proofs.lemmas.List.Elements.{All-push}
use Rattle.core_frames.specs.Cores.{IsOutOf}
use Rattle.frame_tests.proofs.tests.stops.with_one_more.Goals as goal

pub returns : goal.returns
returns c =
    let P = IsOutOf c.args.allocator.now in
    subst (All P) (sym c.in-Ok.ensures.items) (All-push P c.args.blocks.items c.args.block c.requires.blocks c.requires.block)
