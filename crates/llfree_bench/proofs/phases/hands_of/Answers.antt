use Rattle.std.proofs.Common.{length, sym, subst, rules}
use Rattle.std.specs.List.{All}
use Rattle.std.proofs.lemmas.List.Elements.{All-push}
use Rattle.std.proofs.lemmas.Iterator.Adapters.{YieldsList-from_vec}
use Rattle.std.proofs.lemmas.Iterator.Consumers.{YieldsList-turn}
use Rattle.core_frames.specs.Cores.{IsCoreOf}
use Rattle.llfree_bench.specs.Hands.{IsHandOf}
use Rattle.llfree_bench.proofs.phases.hands_of.Goals as goal

pub loop-core-preserved : goal.loop-core-preserved
loop-core-preserved c =
    let memory = c.args.memory.now in
    let t = YieldsList-turn (YieldsList-from_vec {s = c.into_iter-core-iterator.result} c.args.cores.items (search rules) (search rules)) c.loop-core.yielded
    c.loop-core.core-iterator c.loop-core.yielded_by c.next.result c.next.new.self c.in-Some.core c.in-Some.is c.next.ensures.steps in
    let is : IsCoreOf memory c.in-Some.core = subst (IsCoreOf memory) (sym t.1)
    (c.requires (length c.loop-core.yielded) c.in-Some.core t.0) in
    subst (All (IsHandOf memory)) (sym c.in_ok-push.ensures.items)
    (All-push (IsHandOf memory) c.loop-core.hands.items _ c.loop-core.invariant
    (record { core = is; blocks = λ k d h. search rules }))
