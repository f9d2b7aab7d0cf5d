use Rattle.std.proofs.Common.{length, sym, subst, rules}
use Rattle.std.specs.List.{All}
use Rattle.std.proofs.lemmas.List.Elements.{All-push}
use Rattle.std.proofs.lemmas.Iterator.Adapters.{YieldsList-from_vec}
use Rattle.std.proofs.lemmas.Iterator.Consumers.{YieldsList-turn}
use Rattle.core_frames.specs.Cores.{IsCoreOf}
use Rattle.llfree_bench.specs.Hands.{IsHandOf}
use Rattle.llfree_bench.proofs.phases.cores_of.Goals as goal

pub loop-hand-preserved : goal.loop-hand-preserved
loop-hand-preserved c =
    let memory = c.args.memory.now in
    let t = YieldsList-turn (YieldsList-from_vec {s = c.into_iter-hand-iterator.result} c.args.hands.items (search rules) (search rules)) c.loop-hand.yielded
    c.loop-hand.hand-iterator c.loop-hand.yielded_by c.next.result c.next.new.self c.in-Some.hand c.in-Some.is c.next.ensures.steps in
    let is : IsHandOf memory c.in-Some.hand = subst (IsHandOf memory) (sym t.1)
    (c.requires (length c.loop-hand.yielded) c.in-Some.hand t.0) in
    subst (All (IsCoreOf memory)) (sym c.in_ok-push.ensures.items)
    (All-push (IsCoreOf memory) c.loop-hand.cores.items c.in-Some.hand.core c.loop-hand.invariant is.core)
