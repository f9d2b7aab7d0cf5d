use Rattle.std.proofs.Common.{◌+◌, ◌≡◌, Some, ◌<◌, refl, ap, sym, subst, ◌∙◌, arith}
use Rattle.frame_model.specs.declared.key.Key.{Key}
use Rattle.frame_model.specs.declared.view.View.{View}
use Rattle.frame_model.specs.Key.{tree_count}
use Rattle.frame_model.specs.View.{counted}
use Rattle.low_frames.specs.Bounds.{attempt, most_in_tree}
use Rattle.low_frames.proofs.Sure.{sure_both, sure_make}
use Rattle.low_frames.proofs.TakeLemmas.{counts_none, keeps_both, make_then, then_counts, wider}
use Rattle.core_frames.specs.Bounds.{most_to_install, most_visit}
use Rattle.core_frames.specs.Search.{HasLentOne}
use Rattle.core_frames.proofs.Carried.{carried_on, put_down_idle, can_unreserve, unreserved, reserves_less, lent_and_put_down}
use Rattle.core_frames.proofs.AloneSearch.{reserved_keeps, passed_tried, reserved_tried}
use Rattle.core_frames.proofs.SearchSteps.{may_take, made_none, made_both, out_after, out_still}
use Rattle.core_frames.proofs.search.trees.take_in.Goals as goal

pub try_reserve-requires : goal.try_reserve-requires
try_reserve-requires g c = record { tree = c.requires.tree; idle = c.requires.idle }

pub take_in_tree-requires : goal.take_in_tree-requires
take_in_tree-requires g c =
    let M = g.M.Moves in
    let m = M.at c.args.m.now in
    let got = c.in-Some.ensures.gets in
    may_take m (M.at c.try_reserve.new.m) c.args.tree c.in-Some.free (Some c.args.tree) m.view.lent got.keeps.same_key c.requires.tree
    c.requires.idle got.some.view c.args.order c.requires.order (omega (arith, got.some.enough, c.requires.enough))

pub unreserve-requires : goal.unreserve-requires
unreserve-requires g c =
    let M = g.M.Moves in
    let m = M.at c.args.m.now in
    let u = M.at c.try_reserve.new.m in
    let w = M.at c.take_in_tree.new.m in
    let got = c.in-Some.ensures.gets in
    let holds = carried_on m.view u.view w.view (counted c.args.tree c.in-Some.free) (Some c.args.tree) m.view.lent got.some.view
    c.in_default-take_in_tree.ensures.none.view in
    record {
      share = omega (arith, ap (λ (x : View). x.share) holds, c.requires.idle.share);
      may = can_unreserve w.key m.key m.view w.view c.args.tree c.in-Some.free m.view.lent
          (c.in_default-take_in_tree.ensures.keeps.same_key ∙ got.keeps.same_key) c.requires.tree holds;
    }

pub install-requires : goal.install-requires
install-requires g c =
    let M = g.M.Moves in
    let m = M.at c.args.m.now in
    let u = M.at c.try_reserve.new.m in
    let w = M.at c.take_in_tree.new.m in
    let got = c.in-Some.ensures.gets in
    let k : w.key ≡ m.key = c.in-Some-take_in_tree.ensures.keeps.same_key ∙ got.keeps.same_key in
    record {
      core = subst (λ (i : Key). c.args.core < i.cores) (sym k) c.requires.core;
      tree = subst (λ (i : Key). c.args.tree < tree_count i) (sym k) c.requires.tree;
      reserves = reserves_less m.view u.view w.view c.args.tree c.args.order c.in-Some.free c.frames_of.result c.requires.idle got.some.view
          c.frames_of.ensures.value (omega (arith, got.some.enough, c.requires.enough))
          got.some.few c.in-Some-take_in_tree.ensures.some.view;
    }

pub returns-in_default : goal.returns-in_default
returns-in_default g c =
    let M = g.M.Moves in
    let ticks = g.met.M.Moves.ticks in
    let m = M.at c.args.m.now in
    let u = M.at c.try_reserve.new.m in
    let got = c.in_default.ensures.gets in
    record {
      keeps = got.keeps;
      counts = wider M.tick M.is_exact ticks attempt most_visit (omega arith) got.counts;
      sure = got.sure;
      some = tt;
      none = record {
        view = got.none;
        made = made_both ticks m m u 0 1 1 0 0 attempt most_visit (omega arith) (omega arith) (omega arith) (counts_none M.tick M.is_exact ticks m)
            (λ h. omega arith) c.in_default.ensures.made;
        alone = λ alone. passed_tried m.key c.args.order c.args.least c.args.most c.args.tree m.words u.words (got.alone_none alone);
      };
    }

pub returns-in_default-take_in_tree : goal.returns-in_default-take_in_tree
returns-in_default-take_in_tree g c =
    let M = g.M.Moves in
    let ticks = g.met.M.Moves.ticks in
    let m = M.at c.args.m.now in
    let u = M.at c.try_reserve.new.m in
    let w = M.at c.take_in_tree.new.m in
    let x = M.at c.unreserve.new.self in
    let got = c.in-Some.ensures.gets in
    let low = c.in_default-take_in_tree.ensures in
    let holds = carried_on m.view u.view w.view (counted c.args.tree c.in-Some.free)
    (Some c.args.tree) m.view.lent got.some.view low.none.view in
    let rest = make_then M.tick M.is_exact ticks most_in_tree (most_in_tree + 1) (omega arith) low.counts c.unreserve.ensures in
    record {
      keeps = keeps_both got.keeps (keeps_both low.keeps c.unreserve.ensures.keeps);
      counts = then_counts M.tick M.is_exact ticks attempt (most_in_tree + 1) most_visit (omega arith) got.counts rest;
      sure = sure_both got.sure (sure_both low.sure (sure_make (g.met.M.Moves.stays_alone c.take_in_tree.new.m) c.unreserve.ensures));
      some = tt;
      none = record {
        view = put_down_idle m.view x.view c.requires.idle
            (unreserved M.tick m.view w.view x.view c.args.tree c.in-Some.free m.view.lent holds c.unreserve.ensures.view);
        made = made_both ticks m u x 1 0 1 attempt attempt (most_in_tree + 1) most_visit (omega arith) (omega arith) (omega arith) got.counts c.in-Some.ensures.made
            (made_none ticks (most_in_tree + 1) rest);
        alone = λ alone.
            let mid = got.keeps.stays_alone alone in
            reserved_tried m.is_alone m.key u.key w.key m.view c.args.order
            c.args.least c.args.most c.args.tree c.in-Some.free m.words u.words
            w.words x.words (g.met.M.Moves.fits c.args.m.now) got.keeps.same_key (low.keeps.same_key ∙ got.keeps.same_key) c.requires.tree
            (got.alone_some alone) (low.none.alone mid)
            (c.unreserve.ensures.words (g.met.M.Moves.stays_alone c.take_in_tree.new.m (low.keeps.stays_alone mid)));
      };
    }

pub returns : goal.returns
returns g c =
    let M = g.M.Moves in
    let ticks = g.met.M.Moves.ticks in
    let m = M.at c.args.m.now in
    let u = M.at c.try_reserve.new.m in
    let w = M.at c.take_in_tree.new.m in
    let x = M.at c.install.new.m in
    let got = c.in-Some.ensures.gets in
    let low = c.in-Some-take_in_tree.ensures in
    let out = out_after (λ (v w : View). v ≡ v) c.args.order got.keeps (ap (λ v. v.kept) got.some.view)
    (λ alone. reserved_keeps m.key c.args.tree c.in-Some.free m.words u.words c.requires.tree (got.alone_some alone))
    (record { is_block = low.some.is_one.is_block; has_order = low.some.is_one.has_order }) refl low.some in
    record {
      keeps = keeps_both got.keeps (keeps_both low.keeps c.install.ensures.keeps);
      counts = then_counts M.tick M.is_exact ticks (attempt + most_in_tree) most_to_install most_visit (omega arith)
          (then_counts M.tick M.is_exact ticks attempt most_in_tree (attempt + most_in_tree) (omega arith) got.counts low.counts) c.install.ensures.counts;
      sure = sure_both got.sure (sure_both low.sure c.install.ensures.sure);
      some = out_still HasLentOne out.is_one.is_block (keeps_both got.keeps low.keeps) out c.install.ensures
          (lent_and_put_down m.view u.view w.view x.view c.args.tree c.args.order c.in-Some.free c.requires.idle got.some.view low.some.view
          c.install.ensures.view);
      none = tt;
    }
