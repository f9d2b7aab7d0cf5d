use Rattle.std.proofs.Common.{◌+◌, ◌<◌, ◌∷◌, [], ◌++◌, length, drop, ◌∙◌, cond, arith}
use Rattle.std.specs.Prelude.{not, ◌&&◌}
use Rattle.frame_model.specs.Without.{is_same, less_one}
use Rattle.plain_moves.proofs.PlainBlocks.{one_less, once_more, turned_once, once_done, some_left}
use Rattle.plain_moves.proofs.plain.blocks.leave_once.Goals as goal
use Rattle.plain_moves.proofs.plain.blocks.leave_once.Goals.{in-Some, in_default}

pub loop-i-preserved : goal.loop-i-preserved
loop-i-preserved c =
    let all = c.args.list.now.items in
    let i = c.loop-i._i in
    let done = c.loop-i.invariant.items.0 in
    let inside : i < length all = omega (arith, c.loop-i-test.true, c.len-i-end.ensures, c.args.list.now.ok) in
    let some : 0 < length c.loop-i.list.items = some_left all c.loop-i.list.items done i inside c.loop-i.invariant.items.1.0 in
    elim c.match-pop_front.branch [
      | in-Some w ↦
          (let x = w.in-Some.whole in
          let one = one_less all c.loop-i.list.items c.pop_front.new.self.items done i x inside
          c.loop-i.invariant.items.1.0 w.in-Some.ensures.items in
          let keeps = not c.loop-i.has_left && is_same c.args.b x in
          let before = c.loop-i.invariant.items.1.1 in
          let after = once_more c.args.b x (drop (i + 1) all) done (less_one c.args.b all) c.loop-i.has_left (rw one.0 at before) in
          let left = w.push_other-has_left.ensures.left in
          rw (w.list-is, w.has_left-is) (record {
            items = (
              cond keeps done (done ++ x ∷ []),
              (
                w.push_other-has_left.ensures.items ∙ turned_once keeps (drop (i + 1) all) done c.pop_front.new.self.items x one.1,
                rw left after,
              ),
            );
            room = w.push_other-has_left.ensures.room ∙ c.pop_front.ensures.capacity ∙ c.loop-i.invariant.room;
          }))
      | in_default w ↦ (let no = w.in_default.ensures.variant.1 (omega (arith, some, c.loop-i.list.ok)) in cc)
    ]

pub returns-clause-items : goal.returns-clause-items
returns-clause-items c =
    once_done c.args.b c.args.list.now.items c.loop-i.list.items c.loop-i.invariant.items.0 c.loop-i._i c.loop-i.has_left
    (omega (arith, c.loop-i-test.false, c.len-i-end.ensures, c.args.list.now.ok)) c.loop-i.invariant.items.1.0 c.loop-i.invariant.items.1.1
