use Rattle.std.proofs.Common.{◌+◌, ◌≡◌, ◌<◌, Some, sym, subst, ◌∙◌, arith}
use Rattle.frame_words.specs.Words.{rest_in}
use Rattle.frame_model.specs.declared.key.Key.{Key}
use Rattle.frame_model.specs.Key.{tree_count}
use Rattle.frame_model.specs.Words.{IsRest}
use Rattle.low_frames.specs.Takes.{IsAsBefore}
use Rattle.core_frames.specs.Bounds.{most_to_collect, most_to_load}
use Rattle.core_frames.proofs.Carried.{loaded, idle_still, before_twice}
use Rattle.low_frames.proofs.Sure.{sure_none, sure_both}
use Rattle.core_frames.proofs.SureSteps.{read_here, known_load}
use Rattle.core_frames.proofs.SearchSteps.{begun, load_brings, brings_both}
use Rattle.core_frames.proofs.search.own_tree.load_own.Goals as goal

pub load-seen-requires : goal.load-seen-requires
load-seen-requires g c = record { inside = c.requires.core; share = c.requires.idle.share }

pub returns-in_default : goal.returns-in_default
returns-in_default g c =
    let M = g.M.Moves in
    let m = M.at c.args.m.now in
    let u = M.at c.load-seen.new.self in
    record {
      brings = load_brings g.met.M.Moves.ticks 0 most_to_load (omega arith) (g.met.M.Moves.stays_alone c.args.m.now) (begun g.met.M.Moves.ticks m)
          c.load-seen.ensures;
      seen = read_here c.load-seen.ensures;
      known = known_load (g.met.M.Moves.stays_alone c.args.m.now) (sure_none m) c.load-seen.ensures;
      rest = c.load-seen.ensures.layout;
    }

pub returns-then-resting-n : goal.returns-then-resting-n
returns-then-resting-n g c =
    let M = g.M.Moves in
    let m = M.at c.args.m.now in
    let u = M.at c.load-seen.new.self in
    record {
      brings = load_brings g.met.M.Moves.ticks 0 most_to_load (omega arith) (g.met.M.Moves.stays_alone c.args.m.now) (begun g.met.M.Moves.ticks m)
          c.load-seen.ensures;
      seen = read_here c.load-seen.ensures;
      known = known_load (g.met.M.Moves.stays_alone c.args.m.now) (sure_none m) c.load-seen.ensures;
      rest = c.load-seen.ensures.layout;
    }

pub collect_own-requires : goal.collect_own-requires
collect_own-requires g c =
    let M = g.M.Moves in
    let m = M.at c.args.m.now in
    let u = M.at c.load-seen.new.self in
    let is : rest_in c.load-seen.result ≡ Some (c.in-Some.tree, c.in-Some.resting) = cc in
    let rest : IsRest m.key (Some (c.in-Some.tree, c.in-Some.resting)) = subst (IsRest m.key) is c.load-seen.ensures.layout in
    let before : IsAsBefore m.view u.view = loaded M.tick m.view u.view c.load-seen.ensures.view in
    record {
      core = subst (λ (k : Key). c.args.core < k.cores) (sym c.load-seen.ensures.keeps.same_key) c.requires.core;
      tree = subst (λ (k : Key). c.in-Some.tree < tree_count k) (sym c.load-seen.ensures.keeps.same_key) rest.0;
      idle = idle_still m.view u.view c.requires.idle before;
    }

pub load-requires : goal.load-requires
load-requires g c =
    let M = g.M.Moves in
    let m = M.at c.args.m.now in
    let u = M.at c.load-seen.new.self in
    let w = M.at c.collect_own.new.m in
    let before : IsAsBefore m.view u.view = loaded M.tick m.view u.view c.load-seen.ensures.view in
    record {
      inside = subst (λ (k : Key). c.args.core < k.cores)
          (sym (c.collect_own.ensures.keeps.same_key ∙ c.load-seen.ensures.keeps.same_key)) c.requires.core;
      share = (idle_still m.view w.view c.requires.idle (before_twice m.view u.view w.view before c.collect_own.ensures.view)).share;
    }

pub returns : goal.returns
returns g c =
    let M = g.M.Moves in
    let ticks = g.met.M.Moves.ticks in
    let m = M.at c.args.m.now in
    let u = M.at c.load-seen.new.self in
    let w = M.at c.collect_own.new.m in
    let x = M.at c.load.new.self in
    let k : w.key ≡ m.key = c.collect_own.ensures.keeps.same_key ∙ c.load-seen.ensures.keeps.same_key in
    let one = load_brings ticks 0 1 (omega arith) (g.met.M.Moves.stays_alone c.args.m.now) (begun ticks m) c.load-seen.ensures in
    record {
      brings = load_brings ticks (1 + most_to_collect) most_to_load (omega arith) (g.met.M.Moves.stays_alone c.collect_own.new.m)
          (brings_both ticks IsAsBefore 1 most_to_collect (1 + most_to_collect) (omega arith) one c.collect_own.ensures
          (before_twice m.view u.view w.view one.view c.collect_own.ensures.view))
          c.load.ensures;
      seen = read_here c.load.ensures;
      known = known_load (g.met.M.Moves.stays_alone c.collect_own.new.m) (sure_both one.sure c.collect_own.ensures.sure) c.load.ensures;
      rest = subst (λ i. IsRest i (rest_in c.load.result)) k c.load.ensures.layout;
    }
