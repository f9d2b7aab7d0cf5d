use Rattle.std.proofs.Common.{refl, true}
use Rattle.frame_model.specs.Steps.{claim_singles}
use Rattle.script_moves.specs.Plays.{TriesIt}
use Rattle.plain_moves.specs.PlainState.{Loses}
use Rattle.plain_moves.specs.declared.plain.PlainMoves.{PlainMoves}
use Rattle.script_moves.proofs.Scripts.{loss_steps, lost_by, own_try, played, shown_on, try_steps, won_by}
use Rattle.script_moves.proofs.script.moves.ScriptMovesMoves.claim_singles.Goals as goal

pub returns-then-loses-clause-tries : goal.returns-then-loses-clause-tries
returns-then-loses-clause-tries c =
    lost_by c.args.self.now.stage c.loses.new.self (claim_singles c.args.word c.args.seen c.args.mask) _
    c.args.seen (c.loses.ensures.lost c.if-loses.true) refl

pub returns-clause-tries : goal.returns-clause-tries
returns-clause-tries c =
    won_by c.args.self.now.stage c.loses.new.self _ c.find.new.self c.claim_singles-made.new.self (claim_singles c.args.word c.args.seen c.args.mask) _
    (c.loses.ensures.ready c.if-loses.false)
    (record { plain = refl; cues = refl; begun = refl; missed = refl; read = refl }) c.find.ensures.found refl (λ v. refl)
    c.args.seen c.claim_singles-made.result (c.loses.ensures.stands c.if-loses.false) c.if-loses.false c.loses.ensures.obeys
    c.claim_singles-made.ensures

pub returns-then-loses-clause-plays : goal.returns-then-loses-clause-plays
returns-then-loses-clause-plays c = c.loses.ensures.plays c.if-loses.true

pub returns-clause-plays : goal.returns-clause-plays
returns-clause-plays c =
    played true _ c.args.self.now.stage c.loses.new.self c.find.new.self c.claim_singles-made.new.self (c.loses.ensures.met c.if-loses.false)
    (own_try c.args.self.now.stage c.loses.new.self c.claim_singles-made.new.self (claim_singles c.args.word c.args.seen c.args.mask) c.args.seen c.claim_singles-made.result
    (c.loses.ensures.ready c.if-loses.false) (c.loses.ensures.stands c.if-loses.false) c.claim_singles-made.ensures)
    c.find.ensures.found.plain c.find.ensures.silent

pub invariant_of-self-3 : goal.invariant_of-self-3
invariant_of-self-3 c =
    let own : PlainMoves → PlainMoves → Type 0 = TriesIt (claim_singles c.args.word c.args.seen c.args.mask) c.args.seen c.claim_singles-made.result in
    record {
      shows = shown_on true own c.args.self.now.stage _ c.args.self.now.shows
          (played true own c.args.self.now.stage c.loses.new.self c.find.new.self c.claim_singles-made.new.self (c.loses.ensures.met c.if-loses.false)
          (own_try c.args.self.now.stage c.loses.new.self c.claim_singles-made.new.self (claim_singles c.args.word c.args.seen c.args.mask) c.args.seen c.claim_singles-made.result
          (c.loses.ensures.ready c.if-loses.false) (c.loses.ensures.stands c.if-loses.false) c.claim_singles-made.ensures)
          c.find.ensures.found.plain c.find.ensures.silent)
          (try_steps (claim_singles c.args.word c.args.seen c.args.mask) c.args.seen (λ v. refl) c.claim_singles-made.result);
    }

pub invariant_of-self : goal.invariant_of-self
invariant_of-self c =
    record { shows = shown_on true Loses c.args.self.now.stage _ c.args.self.now.shows (c.loses.ensures.plays c.if-loses.true) loss_steps }
