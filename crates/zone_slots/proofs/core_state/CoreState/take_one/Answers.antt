use Rattle.std.proofs.Common.{IfOk, IfErr, refl, subst}
use Rattle.zone_slots.specs.Calls.{zones_of}
use Rattle.zone_slots.specs.FrameCalls.{resting_in}
use Rattle.zone_slots.specs.Resting.{HasTakenSingle}
use Rattle.zone_slots.specs.Uses.{IsRefusedBlock}
use Rattle.zone_slots.specs.declared.memory.Memory.{Memory}
use Rattle.zone_slots.proofs.Rested.{left_all, popped_all, left_rest, taken_single, refused_single}
use Rattle.zone_slots.proofs.Rights.{right_in}
use Rattle.zone_slots.proofs.core_state.CoreState.take_one.Goals as goal

pub invariant_of-self : goal.invariant_of-self
invariant_of-self c = record {
  is_core = c.args.self.now.is_core;
  rests = left_all (zones_of c.args.self.now) (resting_in c.args.self.now) c.pop.new.self.list.items c.pop.result c.pop.ensures.some
      c.pop.ensures.none c.args.self.now.rests;
  known = c.args.self.now.known;
}

pub returns-in-Some-clause-taken : goal.returns-in-Some-clause-taken
returns-in-Some-clause-taken c =
    let s = c.args.self.now in
    let f = c.in-Some.frame in record {
      is_single = right_in (zones_of s) f.frame 0 f.seat.table_id f.seat.me
          (popped_all (zones_of s) (resting_in s) c.pop.new.self.list.items f c.in-Some.ensures.some s.rests).1;
      lent = record {
        lent = λ z x within.
            left_rest (zones_of s) s.core (resting_in s) c.pop.new.self.list.items f c.in-Some.ensures.some z x;
        kept = λ z a x within. refl;
      };
    }

pub returns-in-None-clause-taken : goal.returns-in-None-clause-taken
returns-in-None-clause-taken c =
    taken_single c.take_single.result c.args.self.now _ c.in-None.ensures.none.0 c.in-None.ensures.none.1 refl
    (subst (λ (m : Memory). IfOk c.take_single.result (HasTakenSingle m.zones c.args.self.now.core c.take_single.new.core))
    c.deref.ensures c.take_single.ensures.taken)

pub returns-in-None-clause-refused : goal.returns-in-None-clause-refused
returns-in-None-clause-refused c =
    refused_single c.take_single.result c.args.self.now _ c.in-None.ensures.none.0 c.in-None.ensures.none.1
    (subst (λ (m : Memory). IfErr c.take_single.result (IsRefusedBlock m.zones 0 c.args.self.now.core c.take_single.new.core))
    c.deref.ensures c.take_single.ensures.refused)
