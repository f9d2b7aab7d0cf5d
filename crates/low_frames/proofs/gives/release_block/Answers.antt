use Rattle.std.proofs.Common.{◌%◌, arith, rules}
use Rattle.low_frames.proofs.Counts.{at_most, make_counts}
use Rattle.low_frames.proofs.Sure.{loses_none_make}
use Rattle.low_frames.proofs.GiveAlone.{block_given, words_given}
use Rattle.low_frames.proofs.GiveLemmas.{few_words, aligned_in_word, some_words, words_in_flight}
use Rattle.low_frames.proofs.GiveLemmas.{can_release_block, block_released, words_released}
use Rattle.low_frames.proofs.gives.release_block.Goals as goal

pub mask-requires-clause-aligned : goal.mask-requires-clause-aligned
mask-requires-clause-aligned g c = (aligned_in_word c.args.frame c.args.order c.if-order-le-WORD_ORDER.true c.requires.is_block.aligned).0

pub release-requires : goal.release-requires
release-requires g c =
    let m = g.M.Moves.at c.args.m.now in
    let may = can_release_block m.key m.view c.args.frame c.args.order c.if-order-le-WORD_ORDER.true c.requires.is_block c.requires.own
    c.requires.charged c.requires.paid in
    (c.args.frame % 64, (c.args.order, (c.mask.ensures.value, record { share = c.requires.share; may = may })))

pub release_words-requires : goal.release_words-requires
release_words-requires g c =
    let m = g.M.Moves.at c.args.m.now in
    record {
      child = search rules;
      inside = search rules;
      some = some_words c.args.order c.frames_of.result (omega (arith, c.if-order-le-WORD_ORDER.false)) c.requires.order
          c.frames_of.ensures.value;
      share = c.requires.share;
      own = words_in_flight m.key m.view c.args.frame c.args.order c.child_of.result c.frames_of.result
          (omega (arith, c.if-order-le-WORD_ORDER.false)) c.requires.order c.requires.is_block c.requires.own c.child_of.ensures
          c.frames_of.ensures.value;
      charged = search rules;
      paid = search rules;
    }

pub returns-then-order-le-WORD_ORDER : goal.returns-then-order-le-WORD_ORDER
returns-then-order-le-WORD_ORDER g c =
    let M = g.M.Moves in
    let ticks = g.met.M.Moves.ticks in
    let m = M.at c.args.m.now in
    let made = c.release.ensures (c.args.frame % 64) c.args.order c.mask.ensures.value in
    let still = g.met.M.Moves.stays_alone c.args.m.now in
    record {
      keeps = made.keeps;
      counts = at_most ticks (make_counts ticks made) (omega arith);
      loses_none = loses_none_make made;
      view = block_released M.tick m.key m.view (M.at c.release.new.self).view c.args.frame c.args.order c.requires.is_block
          c.requires.own made.view;
      alone = λ h.
          block_given m.key m.view m.is_alone c.args.frame c.args.order m.recalled (M.at c.release.new.self).words
          c.if-order-le-WORD_ORDER.true
          c.requires.is_block c.requires.own (made.fits (still h)) (made.recalled (still h));
    }

pub returns-else-order-le-WORD_ORDER : goal.returns-else-order-le-WORD_ORDER
returns-else-order-le-WORD_ORDER g c =
    let M = g.M.Moves in
    let m = M.at c.args.m.now in
    let n = M.at c.release_words.new.m in
    let made = c.release_words.ensures in
    record {
      keeps = made.keeps;
      counts = at_most g.met.M.Moves.ticks made.counts
          (few_words c.args.order c.frames_of.result c.requires.order c.frames_of.ensures.value);
      loses_none = made.loses_none;
      view = words_released m.view n.view c.child_of.result c.args.frame c.args.order c.frames_of.result
          (omega (arith, c.if-order-le-WORD_ORDER.false)) c.requires.order c.child_of.ensures c.frames_of.ensures.value made.view;
      alone = λ h.
          words_given m.key c.args.frame c.args.order c.child_of.result c.frames_of.result m.recalled n.words
          (omega (arith, c.if-order-le-WORD_ORDER.false)) c.requires.order c.requires.is_block c.child_of.ensures c.frames_of.ensures.value
          (made.recalled h);
    }
