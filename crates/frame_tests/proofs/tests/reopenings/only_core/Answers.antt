use Rattle.std.proofs.lemmas.List.Elements.{All-pop}
use Rattle.core_frames.specs.Cores.{IsCoreOf}
use Rattle.frame_tests.proofs.tests.reopenings.only_core.Goals as goal

pub returns : goal.returns
returns c =
    (All-pop (IsCoreOf c.args.allocator.now) _ _ c.pop.result c.pop.ensures.items c.requires).1
