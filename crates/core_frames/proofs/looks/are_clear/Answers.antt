use Rattle.std.proofs.Common.{◌+◌, ap, subst, ◌∙◌, arith}
use Rattle.frame_model.specs.declared.key.Key.{Key}
use Rattle.frame_model.specs.Words.{bits_place}
use Rattle.low_frames.proofs.AloneLemmas.{IsSeen}
use Rattle.low_frames.proofs.PlaceLemmas.{clear_more}
use Rattle.low_frames.proofs.TakeLemmas.{keeps_both}
use Rattle.core_frames.proofs.LookLemmas.{loaded_one, loaded_both, loaded_within, loaded_idle, word_not_clear, entries_of_load, entries_both, not_read_clear, read_clear_more}
use Rattle.core_frames.proofs.looks.are_clear.Goals as goal

pub load-requires : goal.load-requires
load-requires g c =
    let M = g.M.Moves in
    let was = c.loop-i.invariant in
    record {
      inside = omega (arith, ap (λ (k : Key). k.children) was.keeps.same_key, c.requires.inside, c.loop-i-test.true);
      share = (loaded_idle M.tick c.loop-i.i (M.at c.args.m.now).view (M.at c.loop-i.m).view was.view c.requires.idle).share;
    }

pub returns-then-load-ne0 : goal.returns-then-load-ne0
returns-then-load-ne0 g c =
    let M = g.M.Moves in
    let m = M.at c.args.m.now in
    let l = M.at c.loop-i.m in
    let n = M.at c.load.new.self in
    let was = c.loop-i.invariant in
    let load = c.load.ensures in
    let still = g.met.M.Moves.stays_alone c.loop-i.m in
    record {
      keeps = keeps_both was.keeps load.keeps;
      missed = load.missed ∙ was.missed;
      view = loaded_within M.tick (c.loop-i.i + 1) c.args.count m.view n.view (omega (arith, c.loop-i-test.true))
          (loaded_both M.tick c.loop-i.i 1 m.view l.view n.view was.view (loaded_one M.tick l.view n.view load.view));
      entries = entries_both m.key m.read l.read n.read was.entries
          (entries_of_load l.key m.key (c.args.first + c.loop-i.i) l.read n.read was.keeps.same_key load.reads);
      seen = not_read_clear m.key l.key c.args.first c.loop-i.i c.args.count c.load.result n.read was.keeps.same_key
          (omega (arith, c.if-load-ne0.true)) load.layout c.loop-i-test.true load.here;
      alone = λ h.
          word_not_clear m.key c.args.first c.args.count c.loop-i.i c.load.result m.words l.words n.words
          (omega (arith, c.if-load-ne0.true)) c.loop-i-test.true (was.clear h)
          (subst (λ (k : Key). IsSeen (bits_place k (c.args.first + c.loop-i.i)) c.load.result l.words n.words) was.keeps.same_key
          (load.words (still (was.keeps.stays_alone h))));
    }

pub loop-i-preserved : goal.loop-i-preserved
loop-i-preserved g c =
    let M = g.M.Moves in
    let m = M.at c.args.m.now in
    let l = M.at c.loop-i.m in
    let n = M.at c.load.new.self in
    let was = c.loop-i.invariant in
    let load = c.load.ensures in
    let still = g.met.M.Moves.stays_alone c.loop-i.m in
    record {
      keeps = keeps_both was.keeps load.keeps;
      missed = load.missed ∙ was.missed;
      view = loaded_both M.tick c.loop-i.i 1 m.view l.view n.view was.view (loaded_one M.tick l.view n.view load.view);
      entries = entries_both m.key m.read l.read n.read was.entries
          (entries_of_load l.key m.key (c.args.first + c.loop-i.i) l.read n.read was.keeps.same_key load.reads);
      seen = read_clear_more m.key l.key c.args.first c.loop-i.i c.load.result l.read n.read was.keeps.same_key c.if-load-ne0.false
          load.here load.reads was.seen;
      clear = λ h.
          clear_more l.key m.key c.args.first c.loop-i.i c.load.result m.words l.words n.words was.keeps.same_key
          c.if-load-ne0.false (was.clear h) (load.words (still (was.keeps.stays_alone h)));
    }
