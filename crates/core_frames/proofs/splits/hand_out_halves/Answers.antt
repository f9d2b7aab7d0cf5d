use Rattle.std.proofs.Common.{◌+◌, ◌^◌, ap, refl, sym, subst, ◌∙◌, arith}
use Rattle.frame_model.specs.declared.key.Key.{Key}
use Rattle.frame_model.specs.declared.view.View.{View}
use Rattle.frame_model.specs.Block.{block}
use Rattle.frame_model.specs.Seats.{CanHandOut}
use Rattle.frame_model.specs.Without.{without}
use Rattle.low_frames.proofs.Sure.{sure_both, sure_out}
use Rattle.low_frames.proofs.TakeLemmas.{keeps_both, counts_none, out_then}
use Rattle.core_frames.proofs.SplitAlone.{still_same}
use Rattle.core_frames.proofs.SplitLemmas.{can_hand_out_low, can_hand_out_high, both_out}
use Rattle.core_frames.proofs.splits.hand_out_halves.Goals as goal

pub hand_out-lower-requires : goal.hand_out-lower-requires
hand_out-lower-requires g c =
    let m = g.M.Moves.at c.args.m.now in
    can_hand_out_low m.key c.args.frame c.args.order m.view.own c.requires.two m.view c.requires.share refl

pub hand_out-upper-requires : goal.hand_out-upper-requires
hand_out-upper-requires g c =
    let M = g.M.Moves in
    let m = M.at c.args.m.now in
    let u = (M.at c.hand_out-lower.new.self).view in
    let step = c.hand_out-lower.ensures.view in
    subst (λ n. CanHandOut (M.at c.hand_out-lower.new.self).key u
    (block (c.args.frame + n) c.args.order) (without (block (c.args.frame + n) c.args.order) u.own))
    (sym c.frames_of.ensures.value)
    (subst (λ (k : Key). CanHandOut k u (block (c.args.frame + 2 ^ c.args.order) c.args.order)
    (without (block (c.args.frame + 2 ^ c.args.order) c.args.order) u.own))
    (sym c.hand_out-lower.ensures.keeps.same_key)
    (can_hand_out_high m.key c.args.frame c.args.order m.view.own c.requires.two u
    (omega (arith, ap (λ (x : View). x.share) step, c.requires.share)) (ap (λ (x : View). x.own) step)))

pub returns : goal.returns
returns g c =
    let M = g.M.Moves in
    let ticks = g.met.M.Moves.ticks in
    let m = M.at c.args.m.now in
    let u = M.at c.hand_out-lower.new.self in
    let w = M.at c.hand_out-upper.new.self in
    let low = c.hand_out-lower.ensures in
    let high = c.hand_out-upper.ensures in
    record {
      brings = record {
        keeps = keeps_both low.keeps high.keeps;
        counts = out_then M.tick M.is_exact ticks 1 2 (omega arith)
            (out_then M.tick M.is_exact ticks 0 1 (omega arith) (counts_none M.tick M.is_exact ticks m) low) high;
        sure = sure_both (sure_out (g.met.M.Moves.stays_alone c.args.m.now) low)
            (sure_out (g.met.M.Moves.stays_alone c.hand_out-lower.new.self) high);
        view = both_out M.tick m.key m.view u.view w.view c.args.frame c.args.order
            c.frames_of.result c.requires.two c.frames_of.ensures.value low.view high.view;
        alone = λ a.
            still_same m.words w.words
            (high.words (g.met.M.Moves.stays_alone c.hand_out-lower.new.self (low.keeps.stays_alone a))
            ∙ low.words (g.met.M.Moves.stays_alone c.args.m.now a));
      };
      recalled = λ a.
          high.recalled (g.met.M.Moves.stays_alone c.hand_out-lower.new.self (low.keeps.stays_alone a))
          ∙ low.recalled (g.met.M.Moves.stays_alone c.args.m.now a);
      lower = low.is_block;
      upper = high.is_block ∙ ap (λ n. block (c.args.frame + n) c.args.order) c.frames_of.ensures.value;
      first_out = high.keeps.stay_out c.hand_out-lower.result low.is_out;
      second_out = high.is_out;
    }
