use Rattle.std.proofs.Common.{◌∷◌, refl, ap, sym, ◌∙◌, arith}
use Rattle.frame_model.specs.declared.block.FrameBlock.{FrameBlock}
use Rattle.frame_model.specs.Words.{entry_place}
use Rattle.frame_model.specs.Steps.{take_huge}
use Rattle.plain_moves.specs.PlainState.{key_by, words_by, view_by}
use Rattle.plain_moves.proofs.PlainOwn.{few_own}
use Rattle.plain_moves.proofs.PlainSteps.{got, steps, tries, viewed}
use Rattle.plain_moves.proofs.plain.moves.PlainMovesMoves.take_huge.Goals as goal

pub push_front_reserved-requires : goal.push_front_reserved-requires
push_front_reserved-requires c =
    let m = c.args.self.now in
    omega (arith, few_own (key_by m) (words_by m) m.outs.items (view_by m) m.agrees c.requires.share, m.room, m.own.ok)

pub invariant_of-self-clause-agrees : goal.invariant_of-self-clause-agrees
invariant_of-self-clause-agrees c =
    let m = c.args.self.now in
    steps m (take_huge c.args.child c.args.seen) c.requires.share c.requires.may (got (words_by m)
    (entry_place c.args.child) c.args.seen c.requires.seen)
    (c.taken_whole.ensures)
    (viewed m (sym c.with_less-self.ensures) refl refl
    (ap (λ (x : FrameBlock). x ∷ m.own.items) (sym c.huge_block.ensures) ∙ sym c.push_front_reserved.ensures.items) refl
    (sym c.saturating_add-self.ensures))
    (c.number_of.ensures.number m.sealed)

pub returns : goal.returns
returns c =
    let m = c.args.self.now in
    tries m (take_huge c.args.child c.args.seen) c.requires.share c.requires.may (got (words_by m)
    (entry_place c.args.child) c.args.seen c.requires.seen)
    (c.taken_whole.ensures)
    (viewed m (sym c.with_less-self.ensures) refl refl
    (ap (λ (x : FrameBlock). x ∷ m.own.items) (sym c.huge_block.ensures) ∙ sym c.push_front_reserved.ensures.items) refl
    (sym c.saturating_add-self.ensures))
    (c.number_of.ensures.number m.sealed) refl refl
