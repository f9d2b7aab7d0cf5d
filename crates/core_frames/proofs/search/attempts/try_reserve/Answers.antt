use Rattle.std.proofs.Common.{◌≡◌, ◌⊎◌, inl, inr, ◌+◌, ◌*◌, ◌<◌, refl, ap, sym, subst, ◌∙◌, arith, rules}
use Rattle.frame_words.specs.Words.{flag_in}
use Rattle.low_frames.specs.Bounds.{attempt}
use Rattle.low_frames.specs.Takes.{IsAsBefore}
use Rattle.low_frames.proofs.TakeLemmas.{still_as_before, load_then, try_then, wider, keeps_both, apart_as}
use Rattle.core_frames.proofs.Carried.{unset, idle_still, can_reserve, reserved}
use Rattle.frame_model.specs.Words.{tree_place}
use Rattle.frame_model.specs.Steps.{reserve}
use Rattle.low_frames.proofs.AloneLemmas.{IsSeen, seen_first}
use Rattle.low_frames.proofs.Sure.{sure_where, sure_both, sure_load, sure_made}
use Rattle.core_frames.proofs.AloneSearch.{none_lost, lost_first, reserved_first, passed_first}
use Rattle.core_frames.specs.Alone.{IsPassedBy}
use Rattle.core_frames.proofs.SureSteps.{read_here}
use Rattle.core_frames.proofs.SearchSteps.{made_one, made_none, made_both}
use Rattle.core_frames.proofs.search.attempts.try_reserve.Goals as goal
use Rattle.core_frames.proofs.search.attempts.try_reserve.Goals.{then-tree_reserved-via-then-tree_reserved}
use Rattle.core_frames.proofs.search.attempts.try_reserve.Goals.{then-tree_reserved-via-else-tree_reserved+then-free-least}
use Rattle.core_frames.proofs.search.attempts.try_reserve.Goals.{then-tree_reserved-via-else-tree_reserved+else-free-least+then-is_more}

pub reserve-requires : goal.reserve-requires
reserve-requires g c =
    let M = g.M.Moves in
    let v = (M.at c.args.m.now).view in
    let u = (M.at c.loop-i.m).view in
    let w = (M.at c.load-seen.new.self).view in
    let before : IsAsBefore v w = still_as_before v u w (M.tick u.moves) u.lost c.loop-i.invariant.view c.load-seen.ensures.view in
    let flag : flag_in c.load-seen.result ≡ 0 = unset (flag_in c.load-seen.result) c.if-tree_reserved.ensures.set.1 in
    record {
      share = (idle_still v w c.requires.idle before).share;
      seen = read_here c.load-seen.ensures;
      may = can_reserve (M.at c.load-seen.new.self).key (M.at c.args.m.now).key v w c.args.tree c.load-seen.result
          (c.load-seen.ensures.keeps.same_key ∙ c.loop-i.invariant.keeps.same_key) c.requires.tree c.requires.idle before flag;
    }

pub returns-then-reserve : goal.returns-then-reserve
returns-then-reserve g c =
    let M = g.M.Moves in
    let ticks = g.met.M.Moves.ticks in
    let was = c.loop-i.invariant in
    let m = M.at c.args.m.now in
    let u = M.at c.loop-i.m in
    let w = M.at c.load-seen.new.self in
    let x = M.at c.reserve.new.self in
    let key : w.key ≡ m.key = c.load-seen.ensures.keeps.same_key ∙ was.keeps.same_key in
    let loads = load_then M.tick M.is_exact ticks (2 * c.loop-i._i) (2 * c.loop-i._i + 1) (omega arith) was.counts c.load-seen.ensures in
    record {
      gets = record {
        keeps = keeps_both was.keeps (keeps_both c.load-seen.ensures.keeps c.reserve.ensures.keeps);
        counts = try_then M.tick M.is_exact ticks (2 * c.loop-i._i + 1) attempt (omega (arith, c.loop-i-test.true)) loads c.reserve.ensures;
        sure = sure_both (sure_where was.first (λ ws d. was.sure d.0))
            (sure_both (sure_load (g.met.M.Moves.stays_alone c.loop-i.m) c.load-seen.ensures)
            (sure_made c.if-reserve.true (g.met.M.Moves.stays_alone c.load-seen.new.self) c.reserve.ensures));
        some = record {
          enough = c.if-free-least.false;
          not_more = c.if-is_more.ensures;
          few = omega (arith, c.load-seen.ensures.layout.0, c.tree_free-free.ensures.value);
          view = reserved M.tick m.view w.view x.view
              (still_as_before m.view u.view w.view (M.tick u.view.moves) u.view.lost was.view c.load-seen.ensures.view) c.args.tree
              c.load-seen.result c.tree_free-free.result c.tree_free-free.ensures.value c.if-reserve.ensures.view;
        };
        apart = apart_as key c.reserve.ensures.apart;
        none = tt;
        alone_some = λ alone.
            let mid = was.keeps.stays_alone alone in
            let seen = seen_first c.loop-i._i (tree_place u.key c.args.tree) c.load-seen.result m.words u.words w.words (was.first alone)
            (c.load-seen.ensures.words (g.met.M.Moves.stays_alone c.loop-i.m mid)) in
            reserved_first w.key u.key m.key c.args.tree c.load-seen.result c.tree_free-free.result c.reserve.result m.words w.words x.words
            c.load-seen.ensures.keeps.same_key was.keeps.same_key c.tree_free-free.ensures.value
            (unset (flag_in c.load-seen.result) c.if-tree_reserved.ensures.set.1) seen
            (c.reserve.ensures.words (g.met.M.Moves.stays_alone c.load-seen.new.self (c.load-seen.ensures.keeps.stays_alone mid)));
        alone_none = λ alone. tt;
      };
      made = made_both ticks m w x 0 1 1 (2 * c.loop-i._i + 1) (2 * c.loop-i._i + 1) 1 attempt (omega arith) (omega (arith, c.loop-i-test.true))
          (omega (arith, c.loop-i-test.true)) loads (made_none ticks (2 * c.loop-i._i + 1) loads)
          (made_one ticks w x (ap (λ v. v.moves) c.if-reserve.ensures.view));
    }

pub returns-then-tree_reserved : goal.returns-then-tree_reserved
returns-then-tree_reserved g c =
    let M = g.M.Moves in
    let ticks = g.met.M.Moves.ticks in
    let was = c.loop-i.invariant in
    let m = M.at c.args.m.now in
    let u = M.at c.loop-i.m in
    let w = M.at c.load-seen.new.self in
    record {
      gets = record {
        keeps = keeps_both was.keeps c.load-seen.ensures.keeps;
        counts = load_then M.tick M.is_exact ticks (2 * c.loop-i._i) attempt (omega (arith, c.loop-i-test.true)) was.counts c.load-seen.ensures;
        sure = sure_both (sure_where was.first (λ ws d. was.sure d.0))
            (sure_load (g.met.M.Moves.stays_alone c.loop-i.m) c.load-seen.ensures);
        some = tt;
        apart = tt;
        none = still_as_before m.view u.view w.view (M.tick u.view.moves) u.view.lost was.view c.load-seen.ensures.view;
        alone_some = λ alone. tt;
        alone_none = λ alone.
            let mid = was.keeps.stays_alone alone in
            let seen = seen_first c.loop-i._i (tree_place u.key c.args.tree) c.load-seen.result m.words u.words w.words (was.first alone)
            (c.load-seen.ensures.words (g.met.M.Moves.stays_alone c.loop-i.m mid)) in
            let free = c.tree_free-free.result in
            let why : (0 < flag_in c.load-seen.result) ⊎ ((free < c.args.least) ⊎ (c.args.most < free)) =
            elim c.then-tree_reserved.branch [
              | then-tree_reserved-via-then-tree_reserved w ↦ inl (w.if-tree_reserved.ensures.set.0 refl)
              | then-tree_reserved-via-else-tree_reserved+then-free-least w ↦ inr (inl w.if-free-least.true)
              | then-tree_reserved-via-else-tree_reserved+else-free-least+then-is_more w ↦ inr (inr w.if-is_more.ensures)
            ] in
            passed_first u.key m.key c.args.tree c.load-seen.result c.tree_free-free.result c.args.least c.args.most m.words w.words
            was.keeps.same_key c.tree_free-free.ensures.value why seen;
      };
      made = made_both ticks m u w 0 1 1 (2 * c.loop-i._i) (2 * c.loop-i._i) 1 attempt (omega arith) (omega (arith, c.loop-i-test.true))
          (omega (arith, c.loop-i-test.true)) was.counts (made_none ticks (2 * c.loop-i._i) was.counts)
          (made_one ticks u w (ap (λ v. v.moves) c.load-seen.ensures.view));
    }

pub returns : goal.returns
returns g c =
    let M = g.M.Moves in
    let was = c.loop-i.invariant in
    let m = M.at c.args.m.now in
    let u = M.at c.loop-i.m in
    record {
      gets = record {
        keeps = was.keeps;
        counts = wider M.tick M.is_exact g.met.M.Moves.ticks (2 * c.loop-i._i) attempt (omega (arith, c.loop-i.auto._i-end)) was.counts;
        sure = sure_where was.first (λ ws d. was.sure d.0);
        some = tt;
        apart = tt;
        none = was.view;
        alone_some = λ alone. tt;
        alone_none = λ alone.
            none_lost c.loop-i._i (IsPassedBy m.key c.args.tree c.args.least c.args.most)
            m.words u.words (omega (arith, c.loop-i-test.false))
            (was.first alone);
      };
      made = λ h. omega (arith, was.made h, c.loop-i-test.false);
    }

pub loop-i-preserved : goal.loop-i-preserved
loop-i-preserved g c =
    let M = g.M.Moves in
    let ticks = g.met.M.Moves.ticks in
    let was = c.loop-i.invariant in
    let i = c.loop-i._i in
    let m = M.at c.args.m.now in
    let u = M.at c.loop-i.m in
    let w = M.at c.load-seen.new.self in
    let x = M.at c.reserve.new.self in
    let loads = load_then M.tick M.is_exact ticks (2 * i) (2 * i + 1) (omega arith) was.counts c.load-seen.ensures in
    record {
      keeps = keeps_both was.keeps (keeps_both c.load-seen.ensures.keeps c.reserve.ensures.keeps);
      view = search rules;
      counts = try_then M.tick M.is_exact ticks (2 * i + 1) (2 * (i + 1)) (omega arith) loads c.reserve.ensures;
      made = made_both ticks m w x (2 * i + 1) 1 (2 * (i + 1)) (2 * i + 1) attempt 1 attempt
          (omega arith) (omega arith) (omega (arith, c.loop-i-test.true)) loads
          (made_both ticks m u w (2 * i) 1 (2 * i + 1) (2 * i) attempt 1 attempt (omega arith)
          (omega arith) (omega (arith, c.loop-i-test.true)) was.counts was.made
          (made_one ticks u w (ap (λ v. v.moves) c.load-seen.ensures.view)))
          (made_one ticks w x (ap (λ v. v.moves) c.if-reserve.ensures.view));
      first = λ alone.
          let mid = was.keeps.stays_alone alone in
          let seen = seen_first i (tree_place u.key c.args.tree) c.load-seen.result m.words u.words w.words (was.first alone)
          (c.load-seen.ensures.words (g.met.M.Moves.stays_alone c.loop-i.m mid)) in
          lost_first w.key (reserve c.args.tree c.load-seen.result) c.load-seen.result (i + 1) m.words w.words x.words
          (subst (λ k. IsSeen (tree_place k c.args.tree) c.load-seen.result m.words w.words) (sym c.load-seen.ensures.keeps.same_key) seen)
          (c.if-reserve.ensures.words (g.met.M.Moves.stays_alone c.load-seen.new.self (c.load-seen.ensures.keeps.stays_alone mid)));
      sure = λ e. absurd (omega (arith, e));
    }
