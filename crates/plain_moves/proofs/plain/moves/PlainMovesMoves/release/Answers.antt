use Rattle.std.proofs.Common.{◌≡◌, ◌≤◌, ◌+◌, ◌*◌, ◌/◌, ◌%◌, ◌^◌, length, bit_and, refl, ap, sym, ◌∙◌, arith}
use Rattle.std.specs.Int.{bit_not, w64}
use Rattle.frame_model.specs.declared.block.FrameBlock.{FrameBlock}
use Rattle.frame_model.specs.Block.{block}
use Rattle.frame_model.specs.Without.{without}
use Rattle.frame_model.specs.Steps.{release, turned}
use Rattle.frame_model.specs.Steps.Amounts.{more}
use Rattle.plain_moves.specs.PlainState.{key_by, words_by, view_by}
use Rattle.plain_moves.proofs.PlainOwn.{few_own, low_own}
use Rattle.plain_moves.proofs.PlainSteps.{charged_bound, makes, of_run, paid_few, steps, viewed}
use Rattle.plain_moves.proofs.plain.moves.PlainMovesMoves.release.Goals as goal

pub run_of-bit-requires : goal.run_of-bit-requires
run_of-bit-requires c =
    let m = c.args.self.now in
    let from = c.requires.0 in
    let order = c.requires.1.0 in
    let e = c.requires.1.1.0 in
    let may = c.requires.1.1.1.may in
    (from, (order, (e, may.is_run.fits)))

pub overflow_shl-order : goal.overflow_shl-order
overflow_shl-order c =
    let m = c.args.self.now in
    let from = c.requires.0 in
    let order = c.requires.1.0 in
    let e = c.requires.1.1.0 in
    let may = c.requires.1.1.1.may in
    let rr = c.run_of-bit.ensures from order e in
    omega (arith, rr.1, may.is_run.small)

pub overflow_shl-order-2 : goal.overflow_shl-order-2
overflow_shl-order-2 c =
    let m = c.args.self.now in
    let from = c.requires.0 in
    let order = c.requires.1.0 in
    let e = c.requires.1.1.0 in
    let may = c.requires.1.1.1.may in
    let rr = c.run_of-bit.ensures from order e in
    omega (arith, rr.1, may.is_run.small)

pub with_more-self-requires : goal.with_more-self-requires
with_more-self-requires c =
    let m = c.args.self.now in
    let from = c.requires.0 in
    let order = c.requires.1.0 in
    let e = c.requires.1.1.0 in
    let may = c.requires.1.1.1.may in
    let rr = c.run_of-bit.ensures from order e in
    let bound : 2 ^ c.run_of-bit.result.1 ≤ 64 = omega (arith, ap (λ o. 2 ^ o) rr.1, may.is_run.fits) in
    let cut : 1 * 2 ^ c.run_of-bit.result.1 % 4294967296 ≡ 2 ^ c.run_of-bit.result.1 = omega (arith, bound) in
    omega (
      arith,
      charged_bound (key_by m) (words_by m) m.outs.items (view_by m) (c.args.word / 8) m.agrees (omega (
        arith,
        may.is_run.inside,
      )),
      cut,
      bound,
    )

pub with_more-self-requires-2 : goal.with_more-self-requires-2
with_more-self-requires-2 c =
    let m = c.args.self.now in
    let from = c.requires.0 in
    let order = c.requires.1.0 in
    let e = c.requires.1.1.0 in
    let may = c.requires.1.1.1.may in
    let rr = c.run_of-bit.ensures from order e in
    let bound : 2 ^ c.run_of-bit.result.1 ≤ 64 = omega (arith, ap (λ o. 2 ^ o) rr.1, may.is_run.fits) in
    let cut : 1 * 2 ^ c.run_of-bit.result.1 % 4294967296 ≡ 2 ^ c.run_of-bit.result.1 = omega (arith, bound) in
    omega (
      arith,
      paid_few (key_by m) (words_by m) m.outs.items (view_by m) (c.args.word / 64) m.agrees (omega (
        arith,
        may.is_run.inside,
      )),
      cut,
      bound,
    )

pub leave-requires-clause-list : goal.leave-requires-clause-list
leave-requires-clause-list c =
    let m = c.args.self.now in
    low_own (key_by m) (words_by m) m.outs.items (view_by m) m.geometry.few_children m.agrees

pub leave-requires-clause-room : goal.leave-requires-clause-room
leave-requires-clause-room c =
    let m = c.args.self.now in
    let from = c.requires.0 in
    let order = c.requires.1.0 in
    let e = c.requires.1.1.0 in
    let may = c.requires.1.1.1.may in
    let rr = c.run_of-bit.ensures from order e in
    let b : block (64 * c.args.word + c.run_of-bit.result.0) c.run_of-bit.result.1 ≡ block (64 * c.args.word + from) order =
    λ i. block (64 * c.args.word + rr.0 i) (rr.1 i) in
    let few = few_own (key_by m) (words_by m) m.outs.items (view_by m) m.agrees c.requires.1.1.1.share in
    let now = few_own (key_by m) _ m.outs.items _
    (steps m (release c.args.word from order (without (block
    (64 * c.args.word + from) order))) c.requires.1.1.1.share may tt refl refl refl) c.requires.1.1.1.share in
    omega (arith, few, now, ap (λ (x : FrameBlock). length (without x m.own.items)) b, m.room)

pub invariant_of-self-clause-agrees : goal.invariant_of-self-clause-agrees
invariant_of-self-clause-agrees c =
    let m = c.args.self.now in
    let from = c.requires.0 in
    let order = c.requires.1.0 in
    let e = c.requires.1.1.0 in
    let may = c.requires.1.1.1.may in
    let rr = c.run_of-bit.ensures from order e in
    let bound : 2 ^ c.run_of-bit.result.1 ≤ 64 = omega (arith, ap (λ o. 2 ^ o) rr.1, may.is_run.fits) in
    let cut : 1 * 2 ^ c.run_of-bit.result.1 % 4294967296 ≡ 2 ^ c.run_of-bit.result.1 = omega (arith, bound) in
    let size : 1 * 2 ^ c.run_of-bit.result.1 % 4294967296 ≡ 2 ^ order = cut ∙ ap (λ o. 2 ^ o) rr.1 in
    let b : block (64 * c.args.word + c.run_of-bit.result.0) c.run_of-bit.result.1 ≡ block (64 * c.args.word + from) order =
    λ i. block (64 * c.args.word + rr.0 i) (rr.1 i) in
    let is = c.plain_word-found.ensures.value m.sealed in
    steps m (release c.args.word from order (without (block (64 * c.args.word + from) order))) c.requires.1.1.1.share may tt
    (ap (turned (release c.args.word from order (without (block (64 * c.args.word + from) order)))) is
    ∙ ap (λ k. bit_and c.plain_word-found.result (bit_not w64 k)) (sym e))
    (viewed m (sym (c.with_more-self-2.ensures ∙ ap (λ n. more (c.args.word / 64) n m.paid) size))
    (sym (c.with_more-self.ensures ∙ ap (λ n. more (c.args.word / 8) n m.charged) size)) refl
    (sym (c.leave.ensures.items ∙ ap (λ (x : FrameBlock). without x m.own.items) b)) refl
    (sym c.saturating_add-self.ensures))
    (c.number_of.ensures.number m.sealed)

pub returns : goal.returns
returns c =
    let m = c.args.self.now in
    let from = c.requires.0 in
    let order = c.requires.1.0 in
    let e = c.requires.1.1.0 in
    let may = c.requires.1.1.1.may in
    let rr = c.run_of-bit.ensures from order e in
    let bound : 2 ^ c.run_of-bit.result.1 ≤ 64 = omega (arith, ap (λ o. 2 ^ o) rr.1, may.is_run.fits) in
    let cut : 1 * 2 ^ c.run_of-bit.result.1 % 4294967296 ≡ 2 ^ c.run_of-bit.result.1 = omega (arith, bound) in
    let size : 1 * 2 ^ c.run_of-bit.result.1 % 4294967296 ≡ 2 ^ order = cut ∙ ap (λ o. 2 ^ o) rr.1 in
    let b : block (64 * c.args.word + c.run_of-bit.result.0) c.run_of-bit.result.1 ≡ block (64 * c.args.word + from) order =
    λ i. block (64 * c.args.word + rr.0 i) (rr.1 i) in
    let is = c.plain_word-found.ensures.value m.sealed in
    of_run c.args.mask c.run_of-bit.result.0 c.run_of-bit.result.1 from order _ c.run_of-bit.ensures e
    (makes m (release c.args.word from order (without (block (64 * c.args.word + from) order))) c.requires.1.1.1.share may tt
    (ap (turned (release c.args.word from order (without (block (64 * c.args.word + from) order)))) is
    ∙ ap (λ k. bit_and c.plain_word-found.result (bit_not w64 k)) (sym e))
    (viewed m (sym (c.with_more-self-2.ensures ∙ ap (λ n. more (c.args.word / 64) n m.paid) size))
    (sym (c.with_more-self.ensures ∙ ap (λ n. more (c.args.word / 8) n m.charged) size)) refl
    (sym (c.leave.ensures.items ∙ ap (λ (x : FrameBlock). without x m.own.items) b)) refl
    (sym c.saturating_add-self.ensures))
    (c.number_of.ensures.number m.sealed) refl)
