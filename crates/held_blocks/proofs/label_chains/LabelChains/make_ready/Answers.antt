use Rattle.std.proofs.Common.{arith, ◌∙◌}
use Rattle.held_blocks.proofs.Outcomes.{on_ok}
use Rattle.held_blocks.proofs.label_chains.LabelChains.make_ready.Goals as goal

pub returns-clause-room : goal.returns-clause-room
returns-clause-room c =
    let keys = c.in_ok-reserve.ensures.ok in
    let next = c.in_ok-reserve-2.ensures.ok in
    on_ok c.know.result _ _ (λ known. c.know.ensures.same.room c.args.more (keys, next)) c.know.ensures.knows

pub returns-clause-same : goal.returns-clause-same
returns-clause-same c =
    let a = c.reserve.ensures in
    let b = c.reserve-2.ensures in
    let k = c.know.ensures.same in
    record {
      keys = k.keys ∙ a.items;
      next = k.next ∙ b.items;
      first = k.first;
      last = k.last;
      room = λ n h. k.room n (omega (arith, h.0, a.len, a.capacity), omega (arith, h.1, b.len, b.capacity));
      known = k.known;
    }
