use Rattle.std.proofs.Common.{List, ◌+◌, ◌*◌, ◌∷◌, length, refl, ap, sym, ◌∙◌, arith}
use Rattle.frame_model.specs.declared.block.FrameBlock.{FrameBlock}
use Rattle.frame_model.specs.Block.{block}
use Rattle.frame_model.specs.Without.{without}
use Rattle.frame_model.specs.Steps.{drop_flag, turned}
use Rattle.plain_moves.specs.PlainState.{key_by, words_by, view_by}
use Rattle.plain_moves.proofs.PlainOwn.{few_own, low_own}
use Rattle.plain_moves.proofs.PlainSteps.{makes, steps, viewed}
use Rattle.plain_moves.proofs.plain.moves.PlainMovesMoves.drop_flag.Goals as goal

pub leave-requires-clause-list : goal.leave-requires-clause-list
leave-requires-clause-list c =
    let m = c.args.self.now in
    low_own (key_by m) (words_by m) m.outs.items (view_by m) m.geometry.few_children m.agrees

pub leave-requires-clause-room : goal.leave-requires-clause-room
leave-requires-clause-room c =
    let m = c.args.self.now in
    let few = few_own (key_by m) (words_by m) m.outs.items (view_by m) m.agrees c.requires.share in
    let now = few_own (key_by m) _ m.outs.items _
    (steps m (drop_flag c.args.child (without (block (512 * c.args.child) 9))) c.requires.share c.requires.may tt refl refl refl)
    c.requires.share in
    omega (arith, few, now, ap (λ (x : FrameBlock). length (without x m.own.items)) c.huge_block.ensures, m.room)

pub push_front_reserved-requires : goal.push_front_reserved-requires
push_front_reserved-requires c =
    let m = c.args.self.now in
    let now = few_own (key_by m) _ m.outs.items _
    (steps m (drop_flag c.args.child (without (block (512 * c.args.child) 9))) c.requires.share c.requires.may tt refl refl refl)
    c.requires.share in
    omega (
      arith,
      now,
      ap (λ (x : FrameBlock). length (without x m.own.items)) c.huge_block.ensures,
      ap (λ (l : List FrameBlock). length l) c.leave.ensures.items,
      c.leave.ensures.room,
      c.leave.new.list.ok,
      m.room,
    )

pub push_front_reserved-requires-2 : goal.push_front_reserved-requires-2
push_front_reserved-requires-2 c =
    let m = c.args.self.now in
    let now = few_own (key_by m) _ m.outs.items _
    (steps m (drop_flag c.args.child (without (block (512 * c.args.child) 9))) c.requires.share c.requires.may tt refl refl refl)
    c.requires.share in
    omega (
      arith,
      now,
      ap (λ (x : FrameBlock). length (without x m.own.items)) c.huge_block.ensures,
      ap (λ (l : List FrameBlock). length l) c.leave.ensures.items,
      c.leave.ensures.room,
      c.leave.new.list.ok,
      m.room,
      c.push_front_reserved.ensures.len,
      c.push_front_reserved.ensures.capacity,
    )

pub invariant_of-self-clause-agrees : goal.invariant_of-self-clause-agrees
invariant_of-self-clause-agrees c =
    let m = c.args.self.now in
    let k = c.args.child in
    let is = c.plain_word-found.ensures.value m.sealed in
    steps m (drop_flag c.args.child (without (block (512 * c.args.child) 9))) c.requires.share c.requires.may tt
    (ap (turned (drop_flag c.args.child (without (block (512 * c.args.child) 9)))) is
    ∙ c.dropped.ensures _ (without (block (512 * c.args.child) 9)))
    (viewed m refl refl refl
    (sym (c.push_front_reserved-2.ensures.items
    ∙ ap (λ (l : List FrameBlock). block (512 * k) 8 ∷ l)
    (c.push_front_reserved.ensures.items
    ∙ ap (λ (l : List FrameBlock). block (512 * k + 256) 8 ∷ l)
    (c.leave.ensures.items ∙ ap (λ (x : FrameBlock). without x m.own.items) c.huge_block.ensures)))) (sym c.clear.ensures.items)
    (sym c.saturating_add-self.ensures))
    (c.number_of.ensures.number m.sealed)

pub returns : goal.returns
returns c =
    let m = c.args.self.now in
    let k = c.args.child in
    let is = c.plain_word-found.ensures.value m.sealed in
    makes m (drop_flag c.args.child (without (block (512 * c.args.child) 9))) c.requires.share c.requires.may tt
    (ap (turned (drop_flag c.args.child (without (block (512 * c.args.child) 9)))) is
    ∙ c.dropped.ensures _ (without (block (512 * c.args.child) 9)))
    (viewed m refl refl refl
    (sym (c.push_front_reserved-2.ensures.items
    ∙ ap (λ (l : List FrameBlock). block (512 * k) 8 ∷ l)
    (c.push_front_reserved.ensures.items
    ∙ ap (λ (l : List FrameBlock). block (512 * k + 256) 8 ∷ l)
    (c.leave.ensures.items ∙ ap (λ (x : FrameBlock). without x m.own.items) c.huge_block.ensures)))) (sym c.clear.ensures.items)
    (sym c.saturating_add-self.ensures))
    (c.number_of.ensures.number m.sealed) refl
