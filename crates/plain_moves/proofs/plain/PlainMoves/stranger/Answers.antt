use Rattle.std.proofs.Common.{subst}
use Rattle.plain_moves.specs.declared.plain.PlainMoves.{PlainMoves}
use Rattle.plain_moves.specs.Allowed.{Stand, Allows}
use Rattle.plain_moves.specs.PlainState.{IsTurned}
use Rattle.plain_moves.proofs.PlainOthers.{stand_is, turned_twice}
use Rattle.plain_moves.proofs.plain.PlainMoves.stranger.Goals as goal

pub returns-clause-allowed : goal.returns-clause-allowed
returns-clause-allowed c = λ yes.
    let t = c.turn.ensures.turned in
    let came = t.came in
    let is = stand_is came.0 c.turn.new.self c.args.self.now t.key.0 t.key.1 t.words t.outs.0 came.1.1 in
    (came.0, (came.1.0, subst (λ (s : Stand). Allows s c.args.act) is (c.act-made.ensures.allowed yes)))

pub returns-clause-made : goal.returns-clause-made
returns-clause-made c = λ yes. record {
  came = c.turn.new.self;
  went = c.act-made.new.self;
  turns = c.turn.ensures.turned;
  acts = c.act-made.ensures.made yes;
  turns_back = c.turn-2.ensures.turned;
}

pub returns-clause-same : goal.returns-clause-same
returns-clause-same c = λ no.
    turned_twice c.args.who c.args.self.now c.turn.new.self c.turn-2.new.self c.turn.ensures.turned
    (subst (λ (m : PlainMoves). IsTurned c.args.who m c.turn-2.new.self) (c.act-made.ensures.same no) c.turn-2.ensures.turned)
