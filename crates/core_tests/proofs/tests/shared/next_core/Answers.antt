use Rattle.std.proofs.lemmas.List.Elements.{All-pop}
use Rattle.core_frames.specs.Cores.{IsCoreOf}
use Rattle.core_tests.proofs.tests.shared.next_core.Goals as goal

pub returns-clause-core : goal.returns-clause-core
returns-clause-core c =
    (All-pop (IsCoreOf c.args.allocator.now) _ _ c.pop.result c.pop.ensures.items c.requires).1

pub returns-clause-left : goal.returns-clause-left
returns-clause-left c =
    (All-pop (IsCoreOf c.args.allocator.now) _ _ c.pop.result c.pop.ensures.items c.requires).0
