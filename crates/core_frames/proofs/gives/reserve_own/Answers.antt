use Rattle.std.proofs.Common.{◌<◌, ap, sym, subst, arith}
use Rattle.frame_model.specs.declared.key.Key.{Key}
use Rattle.frame_model.specs.declared.view.View.{View}
use Rattle.frame_model.specs.Key.{tree_count}
use Rattle.low_frames.specs.Bounds.{attempt}
use Rattle.low_frames.specs.Takes.{IsAsBefore}
use Rattle.core_frames.specs.Bounds.{most_to_install, most_to_reserve}
use Rattle.core_frames.proofs.Carried.{put_down_after}
use Rattle.core_frames.proofs.SearchSteps.{brings_both, got_brings, passed_brings}
use Rattle.core_frames.proofs.gives.reserve_own.Goals as goal

pub try_reserve-requires : goal.try_reserve-requires
try_reserve-requires g c = record { tree = c.requires.tree; idle = c.requires.idle }

pub returns-in_default : goal.returns-in_default
returns-in_default g c = passed_brings g.met.M.Moves.ticks most_to_reserve (omega arith) c.in_default.ensures

pub install-requires : goal.install-requires
install-requires g c =
    let got = c.in-Some.ensures.gets in
    record {
      core = subst (λ (i : Key). c.args.core < i.cores) (sym got.keeps.same_key) c.requires.core;
      tree = subst (λ (i : Key). c.args.tree < tree_count i) (sym got.keeps.same_key) c.requires.tree;
      reserves = record {
        share = omega (arith, ap (λ (x : View). x.share) got.some.view, c.requires.idle.share);
        paid = ap (λ x. x.paid) got.some.view;
        reserving = ap (λ x. x.reserving) got.some.view;
        few = got.some.few;
      };
    }

pub returns : goal.returns
returns g c =
    let M = g.M.Moves in
    let ticks = g.met.M.Moves.ticks in
    let m = M.at c.args.m.now in
    let got = c.in-Some.ensures in
    brings_both ticks IsAsBefore attempt most_to_install most_to_reserve (omega arith) (got_brings ticks c.requires.tree got) c.install.ensures
    (put_down_after m.view (M.at c.try_reserve.new.m).view (M.at c.install.new.m).view c.args.tree c.in-Some.free c.requires.idle
    got.gets.some.view c.install.ensures.view)
