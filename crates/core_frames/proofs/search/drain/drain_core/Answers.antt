use Rattle.std.proofs.Common.{◌<◌, refl, sym, subst, ◌∙◌, arith}
use Rattle.frame_model.specs.declared.key.Key.{Key}
use Rattle.frame_model.specs.Words.{local_place}
use Rattle.low_frames.specs.Alone.{Turns}
use Rattle.low_frames.proofs.Sure.{sure_both, sure_load}
use Rattle.low_frames.proofs.TakeLemmas.{counts_none, load_then, then_counts, keeps_both}
use Rattle.core_frames.specs.Alone.{IsDrainedOf}
use Rattle.core_frames.specs.Bounds.{most_to_install, most_to_drain}
use Rattle.core_frames.proofs.Carried.{loaded, idle_still, before_twice}
use Rattle.core_frames.proofs.AloneSearch.{is_nothing, nothing_there, loaded_then, seen_leaves}
use Rattle.core_frames.proofs.search.drain.drain_core.Goals as goal

pub end_reservation-requires : goal.end_reservation-requires
end_reservation-requires g c =
    let M = g.M.Moves in
    let v = (M.at c.args.m.now).view in
    let u = (M.at c.load-seen.new.self).view in
    record {
      core = subst (λ (k : Key). c.args.core < k.cores) (sym c.load-seen.ensures.keeps.same_key) c.requires.core;
      idle = idle_still v u c.requires.idle (loaded M.tick v u c.load-seen.ensures.view);
    }

pub returns-then-is_none-clause-brings : goal.returns-then-is_none-clause-brings
returns-then-is_none-clause-brings g c =
    let M = g.M.Moves in
    let ticks = g.met.M.Moves.ticks in
    let m = M.at c.args.m.now in
    let u = M.at c.load-seen.new.self in
    record {
      keeps = c.load-seen.ensures.keeps;
      counts = load_then M.tick M.is_exact ticks 0 most_to_drain (omega arith) (counts_none M.tick M.is_exact ticks m) c.load-seen.ensures;
      sure = sure_load (g.met.M.Moves.stays_alone c.args.m.now) c.load-seen.ensures;
      view = loaded M.tick m.view u.view c.load-seen.ensures.view;
      alone = λ alone.
          nothing_there m.key m.key c.args.core c.load-seen.result m.words u.words refl
          (sym c.local_of.ensures ∙ is_nothing c.local_of.result c.is_none.result c.is_none.ensures c.if-is_none.true)
          (c.load-seen.ensures.words (g.met.M.Moves.stays_alone c.args.m.now alone));
    }

pub returns-clause-brings : goal.returns-clause-brings
returns-clause-brings g c =
    let M = g.M.Moves in
    let ticks = g.met.M.Moves.ticks in
    let m = M.at c.args.m.now in
    let u = M.at c.load-seen.new.self in
    let w = M.at c.end_reservation.new.m in
    let load = c.load-seen.ensures in
    let ends = c.end_reservation.ensures in
    let still = g.met.M.Moves.stays_alone c.args.m.now in
    record {
      keeps = keeps_both load.keeps ends.keeps;
      counts = then_counts M.tick M.is_exact ticks 1 most_to_install most_to_drain (omega arith)
          (load_then M.tick M.is_exact ticks 0 1 (omega arith) (counts_none M.tick M.is_exact ticks m) load) ends.counts;
      sure = sure_both (sure_load still load) ends.sure;
      view = before_twice m.view u.view w.view (loaded M.tick m.view u.view load.view) ends.view;
      alone = λ alone.
          loaded_then (IsDrainedOf m.key c.args.core) (local_place m.key c.args.core) c.load-seen.result m.words u.words w.words
          (load.words (still alone))
          (subst (λ k. Turns (IsDrainedOf k c.args.core) u.words w.words) load.keeps.same_key (ends.alone (load.keeps.stays_alone alone)));
    }

pub returns-then-is_none-clause-nothing : goal.returns-then-is_none-clause-nothing
returns-then-is_none-clause-nothing g c e alone =
    seen_leaves (local_place (g.M.Moves.at c.args.m.now).key c.args.core) c.load-seen.result (g.M.Moves.at c.args.m.now).words
    (g.M.Moves.at c.load-seen.new.self).words (c.load-seen.ensures.words (g.met.M.Moves.stays_alone c.args.m.now alone))
