use Rattle.std.proofs.Common.{◌≡◌, ◌+◌, ◌-◌, ◌^◌, ap, ◌∙◌, arith}
use Rattle.frame_model.specs.Block.{block}
use Rattle.low_frames.proofs.TakeLemmas.{then_counts, others_both}
use Rattle.core_frames.specs.Bounds.{most_to_bring_in, most_in_split}
use Rattle.core_frames.specs.Search.{HasLentOne}
use Rattle.low_frames.proofs.AloneLemmas.{of_recalled, to_known}
use Rattle.core_frames.specs.Splits.{AreHalves, LosesFlag, SameWords}
use Rattle.core_frames.proofs.SplitLemmas.{split_up}
use Rattle.core_frames.proofs.SplitAlone.{halved_words, still_same}
use Rattle.core_frames.proofs.splits.split_by.Goals as goal

pub returns-clause-splits : goal.returns-clause-splits
returns-clause-splits g c =
    let M = g.M.Moves in
    let ticks = g.met.M.Moves.ticks in
    let block_of = g.M.Held.HeldBlock.block_of in
    let b = block_of c.args.held in
    let m = M.at c.args.m.now in
    let u = M.at c.bring_in.new.m in
    let w = M.at c.hand_out_halves.new.m in
    let came = c.bring_in.ensures in
    let out = c.hand_out_halves.ensures in
    let lent : HasLentOne m.view w.view = split_up m.view u.view w.view c.requires.idle.own came.view out.brings.view in
    let frame : c.frame-frame.result ≡ b.frame = c.frame-frame.ensures in
    let order : c.order-order.result - 1 ≡ b.order - 1 = ap (λ n. n - 1) c.order-order.ensures in
    let are : AreHalves b (block_of c.hand_out_halves.result.0) (block_of c.hand_out_halves.result.1) = record {
      some = omega (arith, c.order-order.ensures, c.if-order-eq0.false);
      lower = out.lower ∙ ap (λ f. block f (c.order-order.result - 1)) frame ∙ ap (block b.frame) order;
      upper = out.upper ∙ ap (λ f. block (f + 2 ^ (c.order-order.result - 1)) (c.order-order.result - 1)) frame
          ∙ ap (λ o. block (b.frame + 2 ^ o) o) order;
    } in
    record {
      keeps = others_both came.keeps out.brings.keeps;
      counts = then_counts M.tick M.is_exact ticks most_to_bring_in 2 most_in_split (omega arith) came.counts out.brings.counts;
      ok = record {
        are_halves = are;
        first_out = out.first_out;
        second_out = out.second_out;
        view = lent;
        alone = λ a knows.
            let later = came.keeps.stays_alone a in
            halved_words m.key w.key b (block_of c.hand_out_halves.result.0) (block_of c.hand_out_halves.result.1) m.view w.view m.is_alone
            w.is_alone m.words u.recalled w.words (out.brings.keeps.same_key ∙ came.keeps.same_key)
            (g.met.M.Moves.outs_are_blocks c.args.m.now c.args.held c.requires.held) are c.requires.idle lent a
            (out.brings.keeps.stays_alone later) (g.met.M.Moves.fits c.args.m.now)
            (g.met.M.Moves.fits c.hand_out_halves.new.m)
            (of_recalled (LosesFlag m.key b) m.words m.recalled u.recalled (g.met.M.Moves.recalls c.args.m.now) (came.alone a))
            (to_known SameWords u.recalled w.words w.recalled knows.0 knows.1 (g.met.M.Moves.recalls c.hand_out_halves.new.m)
            (still_same u.recalled w.recalled (out.recalled later)));
      };
      err = tt;
    }
