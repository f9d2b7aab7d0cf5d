use Rattle.std.proofs.Common.{Some, ap, arith}
use Rattle.frame_model.specs.declared.view.View.{View}
use Rattle.core_frames.specs.Bounds.{most_to_install}
use Rattle.core_frames.specs.Search.{HasReserved, HasPutDown}
use Rattle.core_frames.proofs.Carried.{can_put_in, swapped_none, swapped_some, can_unreserve, unreserved}
use Rattle.core_frames.proofs.KeptFrames.{upper_tree}
use Rattle.core_frames.proofs.SearchSteps.{begun, swap_brings, make_brings}
use Rattle.core_frames.proofs.search.trees.install.Goals as goal

pub swap_local-requires : goal.swap_local-requires
swap_local-requires g c =
    let m = g.M.Moves.at c.args.m.now in
    record {
      share = c.requires.reserves.share;
      may = can_put_in m.key m.view c.args.core c.args.tree c.args.resting c.requires.core c.requires.tree c.requires.reserves;
    }

pub unreserve-requires : goal.unreserve-requires
unreserve-requires g c =
    let M = g.M.Moves in
    let m = M.at c.args.m.now in
    let u = M.at c.swap_local.new.self in
    let found = c.in-Some.ensures.view in
    let holds = swapped_some M.tick c.args.core found.0 c.in-Some.last c.in-Some.count
    (Some (c.args.tree, c.args.resting)) m.view u.view found.1 found.2 in
    record {
      share = omega (arith, c.requires.reserves.share, ap (λ (x : View). x.share) holds);
      may = can_unreserve u.key m.key m.view u.view c.in-Some.last c.in-Some.count m.view.lent c.in-Some.ensures.keeps.same_key
          c.in-Some.ensures.is_rest.0 holds;
    }

pub returns-in_default : goal.returns-in_default
returns-in_default g c =
    let M = g.M.Moves in
    let m = M.at c.args.m.now in
    let u = M.at c.swap_local.new.self in
    let found = c.in_default.ensures.view in
    swap_brings g.met.M.Moves.ticks HasPutDown 0 most_to_install (omega arith) (g.met.M.Moves.stays_alone c.args.m.now) c.requires.core
    (begun g.met.M.Moves.ticks m) c.in_default.ensures
    (swapped_none M.tick c.args.core found.0 (Some (c.args.tree, c.args.resting)) m.view u.view found.1 found.2)

pub returns : goal.returns
returns g c =
    let M = g.M.Moves in
    let ticks = g.met.M.Moves.ticks in
    let m = M.at c.args.m.now in
    let u = M.at c.swap_local.new.self in
    let w = M.at c.unreserve.new.self in
    let found = c.in-Some.ensures.view in
    let holds = swapped_some M.tick c.args.core found.0 c.in-Some.last c.in-Some.count
    (Some (c.args.tree, c.args.resting)) m.view u.view found.1 found.2 in
    make_brings ticks HasPutDown 1 most_to_install (omega arith) (g.met.M.Moves.stays_alone c.swap_local.new.self)
    (upper_tree m.key c.in-Some.last c.in-Some.ensures.is_rest.0)
    (swap_brings ticks (HasReserved c.in-Some.last c.in-Some.count) 0 1
    (omega arith) (g.met.M.Moves.stays_alone c.args.m.now) c.requires.core
    (begun ticks m) c.in-Some.ensures holds)
    c.unreserve.ensures
    (unreserved M.tick m.view u.view w.view c.in-Some.last c.in-Some.count m.view.lent holds c.unreserve.ensures.view)
