use Rattle.std.proofs.Common.{◌≡◌, ◌*◌, ◌/◌, ◌<◌, ◌++◌, ap, sym, subst, ◌∙◌, arith}
use Rattle.std.specs.Prelude.{map}
use Rattle.std.specs.List.{All}
use Rattle.std.specs.Int.Count.{ones}
use Rattle.std.proofs.lemmas.List.{append-nil}
use Rattle.frame_model.specs.declared.key.Key.{Key}
use Rattle.frame_model.specs.declared.view.View.{View}
use Rattle.frame_model.specs.Block.{single_blocks}
use Rattle.low_frames.specs.Singles.{IsSingleOut}
use Rattle.low_frames.specs.SinglesAlone.{ClaimsOfWord}
use Rattle.low_frames.proofs.TakeLemmas.{keeps_both, apart_as}
use Rattle.low_frames.proofs.Counts.{both_counts}
use Rattle.low_frames.proofs.RoomLemmas.{range_alone}
use Rattle.low_frames.proofs.FlightLemmas.{charged_no_flag}
use Rattle.low_frames.proofs.SinglesLemmas.{claimed_out}
use Rattle.low_frames.proofs.SinglesAlone.{turns_both, sets_hold}
use Rattle.low_frames.proofs.singles.take_in_word.Goals as goal

pub hand_out_each-requires-clause-may : goal.hand_out_each-requires-clause-may
hand_out_each-requires-clause-may g c =
    let m = g.M.Moves.at c.args.m.now in
    let claim = c.try_claim_some-mask.ensures in
    let may = c.requires.may in
    record {
      share = subst (λ s. 0 < s) (sym (ap (λ (v : View). v.share) claim.view)) may.share;
      inside = subst (λ (k : Key). c.args.word < 8 * k.children) (sym claim.keeps.same_key) (omega (arith, may.child));
      own = ap (λ (v : View). v.own) claim.view ∙ ap (λ l. single_blocks c.args.word c.try_claim_some-mask.result ++ l) may.own
          ∙ append-nil (single_blocks c.args.word c.try_claim_some-mask.result);
      apart = apart_as (sym claim.keeps.same_key) claim.apart;
    }

pub returns-clause-takes : goal.returns-clause-takes
returns-clause-takes g c =
    let M = g.M.Moves in
    let B = g.M.Held.HeldBlock.block_of in
    let m = M.at c.args.m.now in
    let w = M.at c.try_claim_some-mask.new.m in
    let x = M.at c.hand_out_each.new.m in
    let word = c.args.word in
    let mask = c.try_claim_some-mask.result in
    let may = c.requires.may in
    let claim = c.try_claim_some-mask.ensures in
    let hand = c.hand_out_each.ensures.hands_out in
    let kept : w.view.kept ≡ m.view.kept = ap (λ (v : View). v.kept) claim.view in
    record {
      keeps = keeps_both claim.keeps hand.keeps;
      counts = both_counts g.met.M.Moves.ticks claim.counts hand.counts;
      view = claimed_out word mask m.view w.view x.view may.own claim.view hand.view;
      got = hand.got;
      items = hand.items;
      count = hand.count;
      each = subst (λ l. All (IsSingleOut B (word / 8 / 8) l x) hand.got) kept hand.each;
      alone = λ alone.
          turns_both m.words w.words x.words (claim.alone alone) (hand.alone (claim.keeps.stays_alone alone))
          (λ ws us vs d e f p q. subst (ClaimsOfWord m.key word (ones mask) c.args.n (map B hand.got) ws) (sym q.0)
          (sets_hold m.key ws us word mask c.args.n (map B hand.got)
          (range_alone m.is_alone m.key ws m.view (g.met.M.Moves.fits c.args.m.now ws d)) (omega (arith, may.child))
          (λ some. charged_no_flag m.is_alone m.key ws m.view (g.met.M.Moves.fits c.args.m.now ws d) (word / 8) may.child
          (omega (arith, some, claim.few, may.charged))) p q.1));
    }
