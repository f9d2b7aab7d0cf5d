use Rattle.std.proofs.Common.{refl}
use Rattle.zone_slots.specs.Calls.{zones_of}
use Rattle.zone_slots.specs.FrameCalls.{resting_in}
use Rattle.zone_slots.proofs.Rested.{came_to_rest, pushed_all}
use Rattle.zone_slots.proofs.Rights.{right_from}
use Rattle.zone_slots.proofs.core_state.CoreState.lay.Goals as goal

pub invariant_of-self-clause-rests : goal.invariant_of-self-clause-rests
invariant_of-self-clause-rests c =
    let f = c.args.frame in
    pushed_all (zones_of c.args.self.now) (resting_in c.args.self.now) c.push.new.self.list.items f c.push.ensures c.args.self.now.rests
    (right_from (zones_of c.args.self.now) f.frame 0 f.seat.table_id f.seat.me c.requires.single)

pub returns-clause-lent : goal.returns-clause-lent
returns-clause-lent c = record {
  lent = λ z x within. came_to_rest (zones_of c.args.self.now) c.args.self.now.core (resting_in c.args.self.now)
      c.push.new.self.list.items c.args.frame c.push.ensures z x;
  kept = λ z a x within. refl;
}
