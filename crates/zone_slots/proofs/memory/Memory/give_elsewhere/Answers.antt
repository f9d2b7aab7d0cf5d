use Rattle.std.proofs.Common.{subst}
use Rattle.frame_zones.specs.Frames.{IsFrameIn}
use Rattle.zone_slots.proofs.Lifted.{given_by_number, very_by_number}
use Rattle.zone_slots.proofs.memory.Memory.give_elsewhere.Goals as goal

pub returns-clause-given : goal.returns-clause-given
returns-clause-given c =
    given_by_number c.args.self.now.zones c.args.frame c.args.order c.in-Some.zone c.in-Some.local c.give_in.result _ _
    (subst (λ x. IsFrameIn c.args.self.now.zones x c.in-Some.zone c.in-Some.local) c.from.ensures
    c.in-Some.ensures.found)
    c.give_in.ensures.given

pub returns-clause-very : goal.returns-clause-very
returns-clause-very c =
    very_by_number c.args.self.now.zones c.args.frame c.args.order c.in-Some.zone c.in-Some.local c.give_in.result
    (subst (λ x. IsFrameIn c.args.self.now.zones x c.in-Some.zone c.in-Some.local) c.from.ensures
    c.in-Some.ensures.found)
    c.give_in.ensures.very
