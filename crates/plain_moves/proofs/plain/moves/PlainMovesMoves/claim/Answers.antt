use Rattle.std.proofs.Common.{◌≡◌, ◌≤◌, ◌+◌, ◌*◌, ◌/◌, ◌%◌, ◌^◌, ◌∷◌, bit_or, refl, ap, sym, ◌∙◌, arith}
use Rattle.frame_model.specs.declared.block.FrameBlock.{FrameBlock}
use Rattle.frame_model.specs.Block.{block}
use Rattle.frame_model.specs.Words.{bits_place}
use Rattle.frame_model.specs.Steps.{claim}
use Rattle.frame_model.specs.Steps.Amounts.{less}
use Rattle.plain_moves.specs.PlainState.{key_by, words_by, view_by}
use Rattle.plain_moves.proofs.PlainOwn.{few_own}
use Rattle.plain_moves.proofs.PlainSteps.{got, of_run, steps, tries, viewed}
use Rattle.plain_moves.proofs.plain.moves.PlainMovesMoves.claim.Goals as goal

pub run_of-bit-requires : goal.run_of-bit-requires
run_of-bit-requires c =
    let m = c.args.self.now in
    let from = c.requires.0 in
    let order = c.requires.1.0 in
    let e = c.requires.1.1.0 in
    let may = c.requires.1.1.1.may in
    (from, (order, (e, may.is_run.fits)))

pub overflow_shl-order : goal.overflow_shl-order
overflow_shl-order c =
    let m = c.args.self.now in
    let from = c.requires.0 in
    let order = c.requires.1.0 in
    let e = c.requires.1.1.0 in
    let may = c.requires.1.1.1.may in
    let rr = c.run_of-bit.ensures from order e in
    omega (arith, rr.1, may.is_run.small)

pub overflow_shl-order-2 : goal.overflow_shl-order-2
overflow_shl-order-2 c =
    let m = c.args.self.now in
    let from = c.requires.0 in
    let order = c.requires.1.0 in
    let e = c.requires.1.1.0 in
    let may = c.requires.1.1.1.may in
    let rr = c.run_of-bit.ensures from order e in
    omega (arith, rr.1, may.is_run.small)

pub push_front_reserved-requires : goal.push_front_reserved-requires
push_front_reserved-requires c =
    let m = c.args.self.now in
    omega (arith, few_own (key_by m) (words_by m) m.outs.items (view_by m) m.agrees c.requires.1.1.1.share, m.room, m.own.ok)

pub invariant_of-self-clause-agrees : goal.invariant_of-self-clause-agrees
invariant_of-self-clause-agrees c =
    let m = c.args.self.now in
    let from = c.requires.0 in
    let order = c.requires.1.0 in
    let e = c.requires.1.1.0 in
    let may = c.requires.1.1.1.may in
    let rr = c.run_of-bit.ensures from order e in
    let bound : 2 ^ c.run_of-bit.result.1 ≤ 64 = omega (arith, ap (λ o. 2 ^ o) rr.1, may.is_run.fits) in
    let cut : 1 * 2 ^ c.run_of-bit.result.1 % 4294967296 ≡ 2 ^ c.run_of-bit.result.1 = omega (arith, bound) in
    let size : 1 * 2 ^ c.run_of-bit.result.1 % 4294967296 ≡ 2 ^ order = cut ∙ ap (λ o. 2 ^ o) rr.1 in
    let b : block (64 * c.args.word + c.run_of-bit.result.0) c.run_of-bit.result.1 ≡ block (64 * c.args.word + from) order =
    λ i. block (64 * c.args.word + rr.0 i) (rr.1 i) in
    steps m (claim c.args.word c.args.seen from order) c.requires.1.1.1.share may (got (words_by m) (bits_place
    (key_by m) c.args.word) c.args.seen c.requires.1.1.1.seen)
    (ap (bit_or c.args.seen) (sym e))
    (viewed m (sym (c.with_less-self-2.ensures ∙ ap (λ n. less (c.args.word / 64) n m.paid) size))
    (sym (c.with_less-self.ensures ∙ ap (λ n. less (c.args.word / 8) n m.charged) size)) refl
    (sym (c.push_front_reserved.ensures.items ∙ ap (λ (x : FrameBlock). x ∷ m.own.items) b)) refl
    (sym c.saturating_add-self.ensures))
    (c.number_of.ensures.number m.sealed)

pub returns : goal.returns
returns c =
    let m = c.args.self.now in
    let from = c.requires.0 in
    let order = c.requires.1.0 in
    let e = c.requires.1.1.0 in
    let may = c.requires.1.1.1.may in
    let rr = c.run_of-bit.ensures from order e in
    let bound : 2 ^ c.run_of-bit.result.1 ≤ 64 = omega (arith, ap (λ o. 2 ^ o) rr.1, may.is_run.fits) in
    let cut : 1 * 2 ^ c.run_of-bit.result.1 % 4294967296 ≡ 2 ^ c.run_of-bit.result.1 = omega (arith, bound) in
    let size : 1 * 2 ^ c.run_of-bit.result.1 % 4294967296 ≡ 2 ^ order = cut ∙ ap (λ o. 2 ^ o) rr.1 in
    let b : block (64 * c.args.word + c.run_of-bit.result.0) c.run_of-bit.result.1 ≡ block (64 * c.args.word + from) order =
    λ i. block (64 * c.args.word + rr.0 i) (rr.1 i) in
    of_run c.args.mask c.run_of-bit.result.0 c.run_of-bit.result.1 from order _ c.run_of-bit.ensures e
    (tries m (claim c.args.word c.args.seen from order) c.requires.1.1.1.share may (got (words_by m) (bits_place
    (key_by m) c.args.word) c.args.seen c.requires.1.1.1.seen)
    (ap (bit_or c.args.seen) (sym e))
    (viewed m (sym (c.with_less-self-2.ensures ∙ ap (λ n. less (c.args.word / 64) n m.paid) size))
    (sym (c.with_less-self.ensures ∙ ap (λ n. less (c.args.word / 8) n m.charged) size)) refl
    (sym (c.push_front_reserved.ensures.items ∙ ap (λ (x : FrameBlock). x ∷ m.own.items) b)) refl
    (sym c.saturating_add-self.ensures))
    (c.number_of.ensures.number m.sealed) refl refl)
