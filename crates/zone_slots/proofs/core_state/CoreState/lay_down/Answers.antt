use Rattle.std.proofs.Common.{◌≡◌, Some, refl, sym, ap, subst}
use Rattle.frame_model.specs.Block.{block}
use Rattle.zone_slots.specs.Calls.{zones_of}
use Rattle.zone_slots.specs.FrameCalls.{resting_in}
use Rattle.zone_slots.specs.Memories.{block_laid}
use Rattle.zone_slots.specs.Resting.{IsSingleIn}
use Rattle.zone_slots.specs.Uses.{GivesByNumber}
use Rattle.zone_slots.specs.declared.memory.Memory.{Memory}
use Rattle.zone_slots.proofs.FrameNumbers.{given_besides}
use Rattle.zone_slots.proofs.Rested.{gives_keep_all}
use Rattle.zone_slots.proofs.Rights.{right_from}
use Rattle.zone_slots.proofs.core_state.CoreState.lay_down.Goals as goal

pub lay_single_down-requires-clause-single : goal.lay_single_down-requires-clause-single
lay_single_down-requires-clause-single c =
    let f = c.args.frame in
    subst (λ (m : Memory). IsSingleIn m.zones f) (sym c.deref.ensures)
    (right_from (zones_of c.args.self.now) f.frame 0 f.seat.table_id f.seat.me c.requires)

pub returns-in_default-clause-back : goal.returns-in_default-clause-back
returns-in_default-clause-back c =
    let s = c.args.self.now in
    let given : GivesByNumber (zones_of s) 0 c.args.frame.frame s.core c.lay_single_down.new.core =
    subst (λ (m : Memory). GivesByNumber m.zones 0 c.args.frame.frame s.core c.lay_single_down.new.core) c.deref.ensures
    c.in_default.ensures.given in
    record {
      counted = refl;
      lent = record {
        lent = given_besides (zones_of s) s.core c.lay_single_down.new.core (resting_in s) c.args.frame.frame given;
        kept = gives_keep_all (zones_of s) c.args.frame.frame s.core c.lay_single_down.new.core given;
      };
      rest = refl;
    }

pub returns-clause-laid : goal.returns-clause-laid
returns-clause-laid c = record {
  laid = ap Some
      (subst (λ (m : Memory). block_laid m.zones c.in-Some.receipt ≡ block c.args.frame.frame 0) c.deref.ensures
      c.in-Some.ensures.very);
  core = c.in-Some.ensures.rests;
  rest = refl;
}
