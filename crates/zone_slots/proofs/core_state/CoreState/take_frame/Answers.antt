use Rattle.std.proofs.Common.{refl}
use Rattle.zone_slots.specs.Calls.{zones_of}
use Rattle.zone_slots.specs.FrameCalls.{resting_in}
use Rattle.zone_slots.proofs.Batches.{refused_from}
use Rattle.zone_slots.proofs.Rested.{left_all, popped_all, left_rest}
use Rattle.zone_slots.proofs.Rights.{right_in}
use Rattle.zone_slots.proofs.core_state.CoreState.take_frame.Goals as goal

pub invariant_of-self : goal.invariant_of-self
invariant_of-self c = record {
  is_core = c.args.self.now.is_core;
  rests = left_all (zones_of c.args.self.now) (resting_in c.args.self.now) c.pop.new.self.list.items c.pop.result c.pop.ensures.some
      c.pop.ensures.none c.args.self.now.rests;
  known = c.args.self.now.known;
}

pub returns-in_default-clause-refused : goal.returns-in_default-clause-refused
returns-in_default-clause-refused c =
    refused_from c.take_anew.result c.args.self.now _ c.take_anew.new.self refl refl c.pop.ensures.next c.in_default.ensures.none.0
    c.take_anew.ensures.refused

pub returns-clause-taken : goal.returns-clause-taken
returns-clause-taken c =
    let s = c.args.self.now in
    let f = c.in-Some.frame in record {
      is_single = right_in (zones_of s) f.frame 0 f.seat.table_id f.seat.me
          (popped_all (zones_of s) (resting_in s) c.pop.new.self.list.items f c.in-Some.ensures.some s.rests).1;
      lent = record {
        lent = λ z x within.
            left_rest (zones_of s) s.core (resting_in s) c.pop.new.self.list.items f c.in-Some.ensures.some z x;
        kept = λ z a x within. refl;
      };
    }
