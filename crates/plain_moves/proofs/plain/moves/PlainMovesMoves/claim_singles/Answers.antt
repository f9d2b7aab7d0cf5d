use Rattle.std.proofs.Common.{refl, sym, arith}
use Rattle.frame_model.specs.Words.{bits_place}
use Rattle.frame_model.specs.Steps.{claim_singles}
use Rattle.plain_moves.specs.PlainState.{key_by, words_by, view_by}
use Rattle.plain_moves.proofs.PlainOwn.{few_own}
use Rattle.plain_moves.proofs.PlainSteps.{got, steps, tries, viewed}
use Rattle.plain_moves.proofs.plain.moves.PlainMovesMoves.claim_singles.Goals as goal

pub push_singles-requires-clause-room : goal.push_singles-requires-clause-room
push_singles-requires-clause-room c =
    let m = c.args.self.now in
    omega (arith, few_own (key_by m) (words_by m) m.outs.items (view_by m) m.agrees c.requires.share, m.room)

pub invariant_of-self-clause-agrees : goal.invariant_of-self-clause-agrees
invariant_of-self-clause-agrees c =
    let m = c.args.self.now in
    steps m (claim_singles c.args.word c.args.seen c.args.mask) c.requires.share c.requires.may (got (words_by m) (bits_place
    (key_by m) c.args.word) c.args.seen c.requires.seen) refl
    (viewed m (sym c.with_less-self-2.ensures) (sym c.with_less-self.ensures) refl (sym c.push_singles.ensures.items) refl
    (sym c.saturating_add-self.ensures))
    (c.number_of.ensures.number m.sealed)

pub returns : goal.returns
returns c =
    let m = c.args.self.now in
    tries m (claim_singles c.args.word c.args.seen c.args.mask) c.requires.share c.requires.may (got (words_by m) (bits_place
    (key_by m) c.args.word) c.args.seen c.requires.seen) refl
    (viewed m (sym c.with_less-self-2.ensures) (sym c.with_less-self.ensures) refl (sym c.push_singles.ensures.items) refl
    (sym c.saturating_add-self.ensures))
    (c.number_of.ensures.number m.sealed) refl refl
