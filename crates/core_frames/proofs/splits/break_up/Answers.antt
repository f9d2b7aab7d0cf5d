use Rattle.std.proofs.Common.{◌+◌, ◌*◌, ap, refl, ◌∙◌, arith}
use Rattle.frame_model.specs.declared.view.View.{View}
use Rattle.frame_model.specs.Steps.{fill_word}
use Rattle.frame_core.specs.Moves.{drop_whole}
use Rattle.low_frames.proofs.AloneLemmas.{also_recalled}
use Rattle.low_frames.proofs.TakeLemmas.{keeps_both, make_then}
use Rattle.core_frames.specs.Bounds.{most_to_break_up}
use Rattle.core_frames.proofs.SplitAlone.{filled_same, dropped_same}
use Rattle.core_frames.proofs.SplitLemmas.{huge_own, can_fill, filled_more, filled_one, can_drop, dropped}
use Rattle.core_frames.proofs.splits.break_up.Goals as goal

pub fill_word-requires : goal.fill_word-requires
fill_word-requires g c =
    let M = g.M.Moves in
    let was = c.loop-i.invariant.brings in
    record {
      share = omega (arith, ap (λ (x : View). x.share) was.view, c.requires.share);
      may = can_fill (M.at c.loop-i.m).key (M.at c.args.m.now).key
          (M.at c.loop-i.m).view c.args.child c.loop-i.i (8 * c.args.child + c.loop-i.i)
          was.keeps.same_key c.requires.child (omega arith) refl (ap (λ (x : View). x.own) was.view ∙ c.requires.own);
    }

pub loop-i-preserved : goal.loop-i-preserved
loop-i-preserved g c =
    let M = g.M.Moves in
    let was = c.loop-i.invariant.brings in
    let now = c.fill_word.ensures in
    let m = M.at c.args.m.now in
    let u = M.at c.loop-i.m in
    let w = M.at c.fill_word.new.self in
    let word = 8 * c.args.child + c.loop-i.i in
    record {
      brings = record {
        keeps = keeps_both was.keeps now.keeps;
        counts = make_then M.tick M.is_exact g.met.M.Moves.ticks c.loop-i.i (c.loop-i.i + 1) (omega arith) was.counts now;
        view = filled_one M.tick m.view u.view w.view word was.view now.view;
        alone = λ a.
            let calm = g.met.M.Moves.stays_alone c.loop-i.m (was.keeps.stays_alone a) in
            filled_same u.key m.key u.view u.is_alone c.args.child word m.recalled u.recalled w.recalled was.keeps.same_key c.requires.child
            (omega arith) (huge_own u.view c.args.child (ap (λ (x : View). x.own) was.view ∙ c.requires.own))
            (now.fits calm)
            (also_recalled u.key (fill_word word) u.recalled w.words w.recalled (g.met.M.Moves.recalls c.fill_word.new.self)
            (now.recalled calm)) (was.alone a);
      };
      filled = filled_more M.tick u.view w.view (8 * c.args.child) c.loop-i.i word now.view refl c.loop-i.invariant.filled;
    }

pub drop_flag-requires : goal.drop_flag-requires
drop_flag-requires g c =
    let M = g.M.Moves in
    let was = c.loop-i.invariant.brings in
    record {
      share = omega (arith, ap (λ (x : View). x.share) was.view, c.requires.share);
      may = can_drop (M.at c.loop-i.m).key (M.at c.args.m.now).key (M.at c.loop-i.m).view c.args.child was.keeps.same_key c.requires.child
          (ap (λ (x : View). x.own) was.view ∙ c.requires.own)
          (λ n l h. c.loop-i.invariant.filled n l (omega (arith, h, c.loop-i-test.false)));
    }

pub returns : goal.returns
returns g c =
    let M = g.M.Moves in
    let was = c.loop-i.invariant.brings in
    let now = c.drop_flag.ensures in
    let m = M.at c.args.m.now in
    let u = M.at c.loop-i.m in
    let w = M.at c.drop_flag.new.self in
    record {
      keeps = keeps_both was.keeps now.keeps;
      counts = make_then M.tick M.is_exact g.met.M.Moves.ticks c.loop-i.i most_to_break_up (omega arith) was.counts now;
      view = dropped M.tick m.key m.view u.view w.view c.args.child c.requires.child c.requires.own was.view now.view;
      alone = λ a.
          let calm = g.met.M.Moves.stays_alone c.loop-i.m (was.keeps.stays_alone a) in
          dropped_same u.key m.key u.view u.is_alone c.args.child m.recalled u.recalled w.recalled was.keeps.same_key c.requires.child
          (huge_own u.view c.args.child (ap (λ (x : View). x.own) was.view ∙ c.requires.own))
          (λ n l h. c.loop-i.invariant.filled n l (omega (arith, h, c.loop-i-test.false))) (now.fits calm)
          (also_recalled u.key (drop_whole c.args.child) u.recalled w.words w.recalled (g.met.M.Moves.recalls c.drop_flag.new.self)
          (now.recalled calm)) (was.alone a);
    }
