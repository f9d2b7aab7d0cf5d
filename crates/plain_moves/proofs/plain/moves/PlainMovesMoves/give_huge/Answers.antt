use Rattle.std.proofs.Common.{◌*◌, ◌/◌, length, refl, ap, sym, ◌∙◌, arith}
use Rattle.frame_model.specs.declared.block.FrameBlock.{FrameBlock}
use Rattle.frame_model.specs.Block.{block}
use Rattle.frame_model.specs.Without.{without}
use Rattle.frame_model.specs.Steps.{give_huge, turned}
use Rattle.plain_moves.specs.PlainState.{key_by, words_by, view_by}
use Rattle.plain_moves.proofs.PlainOwn.{few_own, low_own}
use Rattle.plain_moves.proofs.PlainSteps.{makes, paid_few, steps, viewed}
use Rattle.plain_moves.proofs.plain.moves.PlainMovesMoves.give_huge.Goals as goal

pub with_more-self-requires : goal.with_more-self-requires
with_more-self-requires c =
    let m = c.args.self.now in
    omega (
      arith,
      paid_few (key_by m) (words_by m) m.outs.items (view_by m) (c.args.child / 8) m.agrees (omega (
        arith,
        c.requires.may.inside,
      )),
    )

pub leave-requires-clause-list : goal.leave-requires-clause-list
leave-requires-clause-list c =
    let m = c.args.self.now in
    low_own (key_by m) (words_by m) m.outs.items (view_by m) m.geometry.few_children m.agrees

pub leave-requires-clause-room : goal.leave-requires-clause-room
leave-requires-clause-room c =
    let m = c.args.self.now in
    let few = few_own (key_by m) (words_by m) m.outs.items (view_by m) m.agrees c.requires.share in
    let now = few_own (key_by m) _ m.outs.items _
    (steps m (give_huge c.args.child (without (block (512 * c.args.child) 9))) c.requires.share c.requires.may tt refl refl refl)
    c.requires.share in
    omega (arith, few, now, ap (λ (x : FrameBlock). length (without x m.own.items)) c.huge_block.ensures, m.room)

pub invariant_of-self-clause-agrees : goal.invariant_of-self-clause-agrees
invariant_of-self-clause-agrees c =
    let m = c.args.self.now in
    let is = c.plain_word-found.ensures.value m.sealed in
    steps m (give_huge c.args.child (without (block (512 * c.args.child) 9))) c.requires.share c.requires.may tt
    (ap (turned (give_huge c.args.child (without (block (512 * c.args.child) 9)))) is
    ∙ c.given_whole.ensures _ (without (block (512 * c.args.child) 9)))
    (viewed m (sym c.with_more-self.ensures) refl refl
    (ap (λ (x : FrameBlock). without x m.own.items) (sym c.huge_block.ensures) ∙ sym c.leave.ensures.items) refl
    (sym c.saturating_add-self.ensures))
    (c.number_of.ensures.number m.sealed)

pub returns : goal.returns
returns c =
    let m = c.args.self.now in
    let is = c.plain_word-found.ensures.value m.sealed in
    makes m (give_huge c.args.child (without (block (512 * c.args.child) 9))) c.requires.share c.requires.may tt
    (ap (turned (give_huge c.args.child (without (block (512 * c.args.child) 9)))) is
    ∙ c.given_whole.ensures _ (without (block (512 * c.args.child) 9)))
    (viewed m (sym c.with_more-self.ensures) refl refl
    (ap (λ (x : FrameBlock). without x m.own.items) (sym c.huge_block.ensures) ∙ sym c.leave.ensures.items) refl
    (sym c.saturating_add-self.ensures))
    (c.number_of.ensures.number m.sealed) refl
