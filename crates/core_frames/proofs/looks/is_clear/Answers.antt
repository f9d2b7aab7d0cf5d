use Rattle.std.proofs.Common.{◌/◌, refl}
use Rattle.low_frames.proofs.GiveLemmas.{aligned_in_word}
use Rattle.core_frames.proofs.LookLemmas.{loaded_one, clear_told, entries_of_load, run_read}
use Rattle.core_frames.proofs.looks.is_clear.Goals as goal

pub mask-requires-clause-aligned : goal.mask-requires-clause-aligned
mask-requires-clause-aligned g c = (aligned_in_word c.args.frame c.args.order c.requires.order c.requires.aligned).0

pub returns : goal.returns
returns g c =
    let M = g.M.Moves in
    let m = M.at c.args.m.now in
    let n = M.at c.load.new.self in
    let load = c.load.ensures in
    record {
      keeps = load.keeps;
      missed = load.missed;
      view = loaded_one M.tick m.view n.view load.view;
      entries = entries_of_load m.key m.key (c.args.frame / 64) m.read n.read refl load.reads;
      seen = run_read m.key c.args.frame c.args.order c.load.result c.mask.result n.read c.requires.order c.requires.aligned
          load.layout c.mask.ensures.value c.mask.ensures.bits load.here;
      alone = λ h.
          clear_told m.key c.args.frame c.args.order c.load.result c.mask.result m.words n.words c.requires.order c.requires.aligned
          load.layout c.mask.ensures.value c.mask.ensures.bits (load.words (g.met.M.Moves.stays_alone c.args.m.now h));
    }
