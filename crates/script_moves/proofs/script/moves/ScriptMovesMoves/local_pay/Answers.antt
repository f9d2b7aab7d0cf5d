use Rattle.std.proofs.Common.{refl, true}
use Rattle.frame_model.specs.Steps.{local_pay}
use Rattle.script_moves.specs.Plays.{TriesIt}
use Rattle.plain_moves.specs.PlainState.{Loses}
use Rattle.plain_moves.specs.declared.plain.PlainMoves.{PlainMoves}
use Rattle.script_moves.proofs.Scripts.{loss_steps, lost_by, own_try, played, shown_on, try_steps, won_by}
use Rattle.script_moves.proofs.script.moves.ScriptMovesMoves.local_pay.Goals as goal

pub returns-then-loses-clause-tries : goal.returns-then-loses-clause-tries
returns-then-loses-clause-tries c =
    lost_by c.args.self.now.stage c.loses.new.self (local_pay c.args.core c.args.seen c.args.n) _
    c.args.seen (c.loses.ensures.lost c.if-loses.true) refl

pub returns-clause-tries : goal.returns-clause-tries
returns-clause-tries c =
    won_by c.args.self.now.stage c.loses.new.self _ c.find.new.self c.local_pay-made.new.self (local_pay c.args.core c.args.seen c.args.n) _
    (c.loses.ensures.ready c.if-loses.false)
    (record { plain = refl; cues = refl; begun = refl; missed = refl; read = refl }) c.find.ensures.found refl (λ v. refl)
    c.args.seen c.local_pay-made.result (c.loses.ensures.stands c.if-loses.false) c.if-loses.false c.loses.ensures.obeys
    c.local_pay-made.ensures

pub returns-then-loses-clause-plays : goal.returns-then-loses-clause-plays
returns-then-loses-clause-plays c = c.loses.ensures.plays c.if-loses.true

pub returns-clause-plays : goal.returns-clause-plays
returns-clause-plays c =
    played true _ c.args.self.now.stage c.loses.new.self c.find.new.self c.local_pay-made.new.self (c.loses.ensures.met c.if-loses.false)
    (own_try c.args.self.now.stage c.loses.new.self c.local_pay-made.new.self (local_pay c.args.core c.args.seen c.args.n) c.args.seen c.local_pay-made.result
    (c.loses.ensures.ready c.if-loses.false) (c.loses.ensures.stands c.if-loses.false) c.local_pay-made.ensures)
    c.find.ensures.found.plain c.find.ensures.silent

pub invariant_of-self-3 : goal.invariant_of-self-3
invariant_of-self-3 c =
    let own : PlainMoves → PlainMoves → Type 0 = TriesIt (local_pay c.args.core c.args.seen c.args.n) c.args.seen c.local_pay-made.result in
    record {
      shows = shown_on true own c.args.self.now.stage _ c.args.self.now.shows
          (played true own c.args.self.now.stage c.loses.new.self c.find.new.self c.local_pay-made.new.self (c.loses.ensures.met c.if-loses.false)
          (own_try c.args.self.now.stage c.loses.new.self c.local_pay-made.new.self (local_pay c.args.core c.args.seen c.args.n) c.args.seen c.local_pay-made.result
          (c.loses.ensures.ready c.if-loses.false) (c.loses.ensures.stands c.if-loses.false) c.local_pay-made.ensures)
          c.find.ensures.found.plain c.find.ensures.silent)
          (try_steps (local_pay c.args.core c.args.seen c.args.n) c.args.seen (λ v. refl) c.local_pay-made.result);
    }

pub invariant_of-self : goal.invariant_of-self
invariant_of-self c =
    record { shows = shown_on true Loses c.args.self.now.stage _ c.args.self.now.shows (c.loses.ensures.plays c.if-loses.true) loss_steps }
