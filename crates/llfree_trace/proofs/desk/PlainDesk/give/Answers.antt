use Rattle.llfree_trace.proofs.Desks.{agrees_less, is_out}
use Rattle.llfree_trace.proofs.desk.PlainDesk.give.Goals as goal

pub give_back-requires-clause-out : goal.give_back-requires-clause-out
give_back-requires-clause-out c =
    is_out c.self.inside.allocator c.self.inside.list.entries c.in-Some.held _ c.remove_oldest.new.self.entries c.self.invariant
    c.in-Some.ensures.taken

pub invariant_of-self : goal.invariant_of-self
invariant_of-self c =
    agrees_less c.self.inside.allocator _ c.self.inside.list.entries c.remove_oldest.new.self.entries c.in-Some.held _
    c.self.invariant c.in-Some.ensures.taken c.give_back.ensures.out c.give_back.ensures.kept
