use Rattle.std.proofs.Common.{◌≡◌, ◌⊎◌, inl, inr, ◌+◌, ◌-◌, ◌^◌, ◌<◌, List, ◌++◌, true, length, ap, sym, ◌∙◌, append-nil, arith}
use Rattle.std.proofs.lemmas.List.{length-append}
use Rattle.frame_model.specs.declared.block.FrameBlock.{FrameBlock}
use Rattle.frame_model.specs.Block.{block}
use Rattle.frame_model.specs.Without.{is_inside, remains}
use Rattle.plain_moves.proofs.PlainBlocks.{remains_apart, remains_inside, remains_halves, halved}
use Rattle.plain_moves.proofs.plain.blocks.+push_remains.Goals as goal
use Rattle.plain_moves.proofs.plain.blocks.+push_remains.Goals.{then-order-eq0-via-then-order-eq0, then-order-eq0-via-else-order-eq0+then-lies_inside}

pub push_back_reserved-requires : goal.push_back_reserved-requires
push_back_reserved-requires t c =
    let e = remains_apart c.args.b c.args.order c.args.frame (sym c.are_apart.ensures ∙ c.if-are_apart.true) in
    let n = ap (λ (l : List FrameBlock). length l) e in
    omega (arith, n, c.requires.room)

pub returns-then-are_apart-clause-items : goal.returns-then-are_apart-clause-items
returns-then-are_apart-clause-items t c =
    c.push_back_reserved.ensures.items
    ∙ ap (λ (l : List FrameBlock). c.args.list.now.items ++ l)
    (sym (remains_apart c.args.b c.args.order c.args.frame (sym c.are_apart.ensures ∙ c.if-are_apart.true)))

pub returns-then-order-eq0-clause-items : goal.returns-then-order-eq0-clause-items
returns-then-order-eq0-clause-items t c =
    let no = sym c.are_apart.ensures ∙ c.if-are_apart.false in
    let why : (c.args.order ≡ 0) ⊎ (is_inside c.args.b (block c.args.frame c.args.order) ≡ true) =
    elim c.then-order-eq0.branch [
      | then-order-eq0-via-then-order-eq0 w ↦ inl w.if-order-eq0.true
      | then-order-eq0-via-else-order-eq0+then-lies_inside w ↦ inr (sym w.lies_inside.ensures ∙ w.if-lies_inside.true)
    ] in
    sym (ap (λ (l : List FrameBlock). c.args.list.now.items ++ l)
    (remains_inside c.args.b c.args.order c.args.frame no why) ∙ append-nil c.args.list.now.items)

pub push_remains-requires-2 : goal.push_remains-requires-2
push_remains-requires-2 t c =
    let o = c.args.order in
    let no = sym c.are_apart.ensures ∙ c.if-are_apart.false in
    let out = sym c.lies_inside.ensures ∙ c.if-lies_inside.false in
    let some : 0 < o = omega (arith, c.if-order-eq0.false) in
    let h = halved o c.args.frame some c.requires.whole.1 in
    let both = ap (λ (l : List FrameBlock). length l) (remains_halves c.args.b o c.args.frame no some out) in
    let parts = length-append (remains c.args.b (o - 1) c.args.frame) (remains c.args.b (o - 1) (c.args.frame + 2 ^ (o - 1))) in
    let now = ap (λ (l : List FrameBlock). length l) c.push_remains.ensures.items in
    let sum = length-append c.args.list.now.items (remains c.args.b (o - 1) c.args.frame) in
    rw h.0 (
      omega (arith, c.decreases, some),
      (
        c.requires.block,
        (
          (omega (arith, c.requires.whole.0), h.1),
          omega (arith, both, parts, now, sum, c.requires.room, c.push_remains.ensures.room),
        ),
      ),
    )
