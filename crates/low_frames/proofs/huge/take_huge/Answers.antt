use Rattle.std.proofs.Common.{◌<◌, ℕ, refl, arith, rules, ap, sym, subst}
use Rattle.frame_model.specs.declared.view.View.{View}
use Rattle.low_frames.proofs.TakeLemmas.{keeps_both}
use Rattle.low_frames.proofs.Counts.{at_most, both_counts, out_counts}
use Rattle.low_frames.proofs.Sure.{sure_both, sure_out}
use Rattle.low_frames.proofs.ViewLemmas.{can_hand_out_huge, handed_out_huge, own_covers, flight_apart, flight_not_boot, flight_inside}
use Rattle.low_frames.proofs.AloneTakes.{part_none, huge_taken_known}
use Rattle.low_frames.proofs.huge.take_huge.Goals as goal

pub hand_out-requires : goal.hand_out-requires
hand_out-requires g c =
    let M = g.M.Moves in
    can_hand_out_huge (M.at c.try_take_huge.new.m).key (M.at c.args.m.now).key c.args.child (M.at c.args.m.now).view
    (M.at c.try_take_huge.new.m).view c.if-not-try_take_huge.ensures.keeps.same_key c.requires.child c.requires.share c.requires.own
    (g.met.M.Moves.fills_own c.args.m.now c.requires.own) c.if-not-try_take_huge.ensures.view

pub returns-then-not-try_take_huge : goal.returns-then-not-try_take_huge
returns-then-not-try_take_huge g c =
    let M = g.M.Moves in
    let m = M.at c.args.m.now in
    let tried = c.if-not-try_take_huge.ensures in
    record {
      keeps = tried.keeps;
      counts = at_most g.met.M.Moves.ticks tried.counts (omega arith);
      sure = tried.sure;
      some = tt;
      none = record {
        view = tried.view;
        alone = λ alone.
            part_none m.is_alone m.key m.words m.view (g.met.M.Moves.fits c.args.m.now) alone c.args.child c.requires.child
            c.requires.charged (M.at c.try_take_huge.new.m).words (tried.alone alone);
      };
    }

pub returns : goal.returns
returns g c =
    let M = g.M.Moves in
    let ticks = g.met.M.Moves.ticks in
    let m = M.at c.args.m.now in
    let l = M.at c.try_take_huge.new.m in
    let still = g.met.M.Moves.stays_alone c.try_take_huge.new.m in
    let tried = c.if-not-try_take_huge.ensures in
    let out = c.hand_out.ensures in
    let d = g.M.Held.HeldBlock.block_of c.hand_out.result in
    let covers = own_covers m.view l.view _ d out.is_block (ap (λ (v : View). v.own) tried.view) in
    record {
      keeps = keeps_both tried.keeps out.keeps;
      counts = at_most ticks (both_counts ticks tried.counts (out_counts ticks out)) (omega arith);
      sure = sure_both tried.sure (sure_out still out);
      some = record {
        view = handed_out_huge M.tick m.key c.args.child m.view l.view (M.at c.hand_out.new.self).view c.requires.child c.requires.own
            tried.view out.view;
        is_out = search rules;
        is_one = search rules;
        apart = flight_apart d covers (tried.apart refl) (ap (λ (v : View). v.kept) tried.view);
        no_boot_frame = flight_not_boot d covers (tried.apart refl);
        inside = flight_inside d covers (tried.apart refl)
            (subst (λ (n : ℕ). 0 < n) (sym (ap (λ (v : View). v.share) tried.view)) c.requires.share);
        alone = λ alone.
            huge_taken_known m.is_alone m.key m.words m.view (g.met.M.Moves.fits c.args.m.now) alone c.args.child c.requires.child
            c.requires.charged d l.words (M.at c.hand_out.new.self).words out.is_block
            (tried.alone alone) (out.words (still (tried.keeps.stays_alone alone)));
      };
      none = tt;
    }
