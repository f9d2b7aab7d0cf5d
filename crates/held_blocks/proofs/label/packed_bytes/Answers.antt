use Rattle.std.proofs.Common.{arith, ◌-◌}
use Rattle.held_blocks.proofs.LabelLemmas.{key_fits, key_more, label_short}
use Rattle.held_blocks.proofs.label.packed_bytes.Goals as goal

pub overflow_mul-key : goal.overflow_mul-key
overflow_mul-key c =
    let short = label_short c.args.bytes.now c.requires in
    let f = key_fits c.args.bytes.now c.loop-left.left c.loop-left-test.true short (λ k. omega (arith, c.type_inv.bytes k)) in
    omega (arith, f, c.loop-left.invariant.0)

pub overflow_add-key : goal.overflow_add-key
overflow_add-key c =
    let short = label_short c.args.bytes.now c.requires in
    let f = key_fits c.args.bytes.now c.loop-left.left c.loop-left-test.true short (λ k. omega (arith, c.type_inv.bytes k)) in
    let b = c.type_inv.bytes (c.loop-left.left - 1) in
    omega (arith, f, c.loop-left.invariant.0, c.from.ensures, b)

pub loop-left-preserved : goal.loop-left-preserved
loop-left-preserved c =
    let i = c.loop-left.invariant in
    (key_more c.args.bytes.now c.loop-left.left c.loop-left.key c.from.result c.loop-left-test.true i.1 i.0 c.from.ensures, omega arith)
