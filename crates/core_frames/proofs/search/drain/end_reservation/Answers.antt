use Rattle.std.proofs.Common.{◌≡◌, ℕ, None, ◌<◌, refl, ap, sym, subst, arith}
use Rattle.frame_words.specs.Words.{rest_in}
use Rattle.std.specs.Prelude.{List, slice_index}
use Rattle.frame_model.specs.Words.{local_place}
use Rattle.frame_model.specs.Steps.{swap_local, unreserve}
use Rattle.low_frames.proofs.Sure.{sure_both, sure_make}
use Rattle.low_frames.proofs.TakeLemmas.{make_then, wider, keeps_both}
use Rattle.core_frames.specs.Bounds.{most_to_install}
use Rattle.core_frames.proofs.Carried.{put_down_idle, swapped_none, swapped_some, can_take_out, can_unreserve, unreserved}
use Rattle.core_frames.proofs.AloneSearch.{emptied, drained_then, swap_changes}
use Rattle.core_frames.proofs.SureSteps.{sure_swap}
use Rattle.core_frames.proofs.SearchSteps.{swap_counts}
use Rattle.core_frames.proofs.search.drain.end_reservation.Goals as goal

pub swap_local-requires : goal.swap_local-requires
swap_local-requires g c =
    let m = g.M.Moves.at c.args.m.now in
    record {
      share = c.requires.idle.share;
      may = can_take_out m.key m.key m.view m.view c.args.core refl c.requires.core c.requires.idle refl;
    }

pub unreserve-requires : goal.unreserve-requires
unreserve-requires g c =
    let M = g.M.Moves in
    let m = M.at c.args.m.now in
    let w = (M.at c.swap_local.new.self).view in
    let found = c.in-Some.ensures.view in
    let holds = swapped_some M.tick c.args.core found.0 c.in-Some.tree c.in-Some.count None m.view w found.1 found.2 in
    record {
      share = subst (λ s. 0 < s) (sym (ap (λ x. x.share) holds)) c.requires.idle.share;
      may = can_unreserve (M.at c.swap_local.new.self).key m.key m.view w c.in-Some.tree c.in-Some.count m.view.lent
          c.in-Some.ensures.keeps.same_key c.in-Some.ensures.is_rest.0 holds;
    }

pub returns-in_default : goal.returns-in_default
returns-in_default g c =
    let M = g.M.Moves in
    let m = M.at c.args.m.now in
    let w = M.at c.swap_local.new.self in
    let still = g.met.M.Moves.stays_alone c.args.m.now in
    let swap = c.in_default.ensures in
    record {
      keeps = swap.keeps;
      counts = wider M.tick M.is_exact g.met.M.Moves.ticks 1 most_to_install (omega arith) (swap_counts g.met.M.Moves.ticks swap);
      sure = sure_swap still swap;
      view = put_down_idle m.view w.view c.requires.idle
          (swapped_none M.tick c.args.core swap.view.0 None m.view w.view swap.view.1 swap.view.2);
      alone = λ alone.
          emptied m.key m.key c.args.core m.words w.words refl c.requires.core
          (swap_changes m.key (swap_local c.args.core None)
          (λ (ws : List ℕ). rest_in (slice_index ws (local_place m.key c.args.core)) ≡ None) m.words w.words
          (swap.words (still alone)));
    }

pub returns : goal.returns
returns g c =
    let M = g.M.Moves in
    let m = M.at c.args.m.now in
    let w = M.at c.swap_local.new.self in
    let x = M.at c.unreserve.new.self in
    let still = g.met.M.Moves.stays_alone c.args.m.now in
    let then = g.met.M.Moves.stays_alone c.swap_local.new.self in
    let swap = c.in-Some.ensures in
    let tree = c.in-Some.tree in
    let count = c.in-Some.count in
    record {
      keeps = keeps_both swap.keeps c.unreserve.ensures.keeps;
      counts = make_then M.tick M.is_exact g.met.M.Moves.ticks 1 most_to_install (omega arith) (swap_counts g.met.M.Moves.ticks swap)
          c.unreserve.ensures;
      sure = sure_both (sure_swap still swap) (sure_make then c.unreserve.ensures);
      view = put_down_idle m.view x.view c.requires.idle
          (unreserved M.tick m.view w.view x.view tree count m.view.lent
          (swapped_some M.tick c.args.core swap.view.0 tree count None m.view w.view swap.view.1 swap.view.2)
          c.unreserve.ensures.view);
      alone = λ alone.
          drained_then m.key w.key c.args.core (unreserve tree count) tree m.words w.words x.words swap.keeps.same_key swap.is_rest.0 refl
          (emptied m.key m.key c.args.core m.words w.words refl c.requires.core
          (swap_changes m.key (swap_local c.args.core None)
          (λ (ws : List ℕ). rest_in (slice_index ws (local_place m.key c.args.core)) ≡ _) m.words w.words
          (swap.words (still alone))))
          (c.unreserve.ensures.words (then (swap.keeps.stays_alone alone)));
    }
