use Rattle.std.proofs.Common.{◌∙◌, length, length-drop, ◌-ℤ◌, pos, arith, ap, sym, subst}
use Rattle.core_frames.specs.Cores.{lent_by}
use Rattle.frame_zones.specs.Zones.{core_at}
use Rattle.zone_slots.specs.Calls.{zones_of}
use Rattle.zone_slots.specs.Resting.{AreSingles, LendAsManyBesides}
use Rattle.zone_slots.specs.FrameCalls.{resting_in}
use Rattle.zone_slots.specs.declared.memory.Memory.{Memory}
use Rattle.zone_slots.proofs.Rested.{newer, turned_all, turned_count}
use Rattle.zone_slots.proofs.core_state.CoreState.flush.Goals as goal

pub give_together-requires-clause-rest : goal.give_together-requires-clause-rest
give_together-requires-clause-rest c =
    subst (λ (m : Memory). AreSingles m.zones c.turn.new.self.list.items) (sym c.deref.ensures)
    (turned_all (zones_of c.args.self.now) 8 (resting_in c.args.self.now) c.turn.new.self.list.items c.turn.ensures.turned
    c.args.self.now.rests)

pub give_together-requires-clause-enough : goal.give_together-requires-clause-enough
give_together-requires-clause-enough c = omega (arith, c.turn.ensures.len, c.requires)

pub returns-clause-lent : goal.returns-clause-lent
returns-clause-lent c =
    let s = c.args.self.now in
    let gives : LendAsManyBesides (zones_of s) s.core c.turn.new.self.list.items c.give_together.new.core c.give_together.new.rest.list.items =
    subst (λ (m : Memory). LendAsManyBesides m.zones s.core c.turn.new.self.list.items c.give_together.new.core c.give_together.new.rest.list.items)
    c.deref.ensures c.give_together.ensures.gives in
    record {
      lent = λ z x within. gives.lent z x within
          ∙ ap (λ n. lent_by (core_at s.core z x) -ℤ pos n)
          (turned_count (zones_of s) 8 z (resting_in s) c.turn.new.self.list.items c.turn.ensures.turned);
      kept = gives.kept;
    }

pub returns-clause-rest : goal.returns-clause-rest
returns-clause-rest c =
    newer 8 (resting_in c.args.self.now) c.turn.new.self.list.items c.give_together.new.rest.list.items (omega (arith, c.requires))
    c.turn.ensures.turned c.give_together.ensures.first

pub returns-clause-less : goal.returns-clause-less
returns-clause-less c =
    omega (arith, ap length (returns-clause-rest c), length-drop 8 (resting_in c.args.self.now), c.requires)
