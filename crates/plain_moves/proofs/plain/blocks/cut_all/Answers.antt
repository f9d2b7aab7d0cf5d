use Rattle.std.proofs.Common.{◌+◌, ◌<◌, ◌++◌, List, length, drop, take, flat_map, ap, sym, ◌∙◌, append_assoc, arith}
use Rattle.frame_model.specs.declared.block.FrameBlock.{FrameBlock}
use Rattle.frame_model.specs.Without.{remainder}
use Rattle.plain_moves.specs.Plain.{IsLow}
use Rattle.plain_moves.proofs.PlainBlocks.{one_less, cut_more, cut_room, cut_done, some_left, All-at_drop}
use Rattle.plain_moves.proofs.plain.blocks.cut_all.Goals as goal
use Rattle.plain_moves.proofs.plain.blocks.cut_all.Goals.{in-Some, in_default}

pub push_remainder-requires-clause-room : goal.push_remainder-requires-clause-room
push_remainder-requires-clause-room c =
    let all = c.args.list.now.items in
    let i = c.loop-i._i in
    let f = remainder c.args.b in
    let inside : i < length all = omega (arith, c.loop-i-test.true, c.len-i-end.ensures, c.args.list.now.ok) in
    let one = one_less all c.loop-i.list.items c.pop_front.new.self.items
    (flat_map f (take i all)) i c.in-Some.whole inside c.loop-i.invariant.items c.in-Some.ensures.items in
    cut_room f c.in-Some.whole all c.pop_front.new.self.items i _ inside one.1 one.2
    (omega (arith, c.requires.room, c.loop-i.invariant.room, c.pop_front.ensures.capacity))

pub push_remainder-requires-clause-whole : goal.push_remainder-requires-clause-whole
push_remainder-requires-clause-whole c =
    let all = c.args.list.now.items in
    let i = c.loop-i._i in
    let f = remainder c.args.b in
    let inside : i < length all = omega (arith, c.loop-i-test.true, c.len-i-end.ensures, c.args.list.now.ok) in
    let one = one_less all c.loop-i.list.items c.pop_front.new.self.items
    (flat_map f (take i all)) i c.in-Some.whole inside c.loop-i.invariant.items c.in-Some.ensures.items in
    All-at_drop IsLow all i c.in-Some.whole (drop (i + 1) all) c.requires.list one.0

pub loop-i-preserved : goal.loop-i-preserved
loop-i-preserved c =
    let all = c.args.list.now.items in
    let i = c.loop-i._i in
    let f = remainder c.args.b in
    let done = flat_map f (take i all) in
    let inside : i < length all = omega (arith, c.loop-i-test.true, c.len-i-end.ensures, c.args.list.now.ok) in
    let some : 0 < length c.loop-i.list.items = some_left all c.loop-i.list.items done i inside c.loop-i.invariant.items in
    elim c.match-pop_front.branch [
      | in-Some w ↦
          (let x = w.in-Some.whole in
          let one = one_less all c.loop-i.list.items c.pop_front.new.self.items done i x inside
          c.loop-i.invariant.items w.in-Some.ensures.items in
          rw w.list-is (record {
            items = w.push_remainder.ensures.items ∙ ap (λ (l : List FrameBlock). l ++ f x) one.1
                ∙ append_assoc (drop (i + 1) all) done (f x)
                ∙ ap (λ (l : List FrameBlock). drop (i + 1) all ++ l)
                (sym (cut_more f x all c.pop_front.new.self.items (drop (i + 1) all) i inside one.0));
            room = w.push_remainder.ensures.room ∙ c.pop_front.ensures.capacity ∙ c.loop-i.invariant.room;
          }))
      | in_default w ↦ (let no = w.in_default.ensures.variant.1 (omega (arith, some, c.loop-i.list.ok)) in cc)
    ]

pub returns-clause-items : goal.returns-clause-items
returns-clause-items c =
    cut_done (remainder c.args.b) c.args.list.now.items c.loop-i.list.items c.loop-i._i
    (omega (arith, c.loop-i-test.false, c.len-i-end.ensures, c.args.list.now.ok)) c.loop-i.invariant.items
