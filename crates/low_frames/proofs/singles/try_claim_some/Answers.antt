use Rattle.std.proofs.Common.{◌≡◌, ℕ, ◌-◌, ◌^◌, ◌<◌, List, Some, refl, ap, sym, subst, ◌∙◌, arith, rules}
use Rattle.std.specs.Prelude.{Bool, true, false, MatchBool}
use Rattle.std.specs.Int.{bit_not, w64}
use Rattle.std.specs.Int.Bits.{bit_and, bit_or}
use Rattle.std.specs.Int.Count.{ones}
use Rattle.std.proofs.lemmas.Bool.{false≢true}
use Rattle.frame_model.specs.declared.key.Key.{Key}
use Rattle.frame_model.specs.Words.{bits_place}
use Rattle.frame_model.specs.Steps.{claim_singles, after_loss}
use Rattle.frame_model.proofs.Bits.{ones_zero, some_ones}
use Rattle.frame_core.specs.Moves.{after}
use Rattle.low_frames.specs.Takes.{IsAsBefore}
use Rattle.low_frames.specs.SinglesAlone.{SetsBits}
use Rattle.low_frames.proofs.TakeLemmas.{still_as_before, keeps_both, apart_as}
use Rattle.low_frames.proofs.Counts.{at_most, both_counts, load_counts, try_counts}
use Rattle.low_frames.proofs.AloneLemmas.{IsSeen, if_known, seen_by, never_lost}
use Rattle.low_frames.proofs.BitLemmas.{clear_bits, all_set}
use Rattle.low_frames.proofs.SinglesAlone.{sets_first, sets_none}
use Rattle.low_frames.proofs.SinglesLemmas.{can_claim_singles, claimed_singles, none_claimed}
use Rattle.low_frames.proofs.singles.try_claim_some.Goals as goal

-- where fewer than are asked are clear, all of them are set then
none_left : (seen mask n : ℕ) → seen < 2 ^ 64 → (ones mask < n → mask ≡ bit_not w64 seen) → ones mask < n → bit_or seen mask ≡ 2 ^ 64 - 1
none_left seen mask n fits all few = ap (bit_or seen) (all few) ∙ all_set seen fits

if_made : (made : Bool) (A B : Type 0) → MatchBool made A B → made ≡ true → A
if_made true A B h e = h
if_made false A B h e = absurd (false≢true e)

pub claim_singles-requires : goal.claim_singles-requires
claim_singles-requires g c =
    let M = g.M.Moves in
    let v = (M.at c.args.m.now).view in
    let u = (M.at c.loop-i.m).view in
    let w = (M.at c.load-seen.new.self).view in
    let was = c.loop-i.invariant in
    let load = c.load-seen.ensures in
    let may = c.requires in
    let seen = c.load-seen.result in
    let mask = c.lowest-mask.result in
    let before : IsAsBefore v w = still_as_before v u w (M.tick u.moves) u.lost was.view load.view in
    let can = can_claim_singles (M.at c.load-seen.new.self).key (M.at c.args.m.now).key v w c.args.word seen mask c.args.n
    (load.keeps.same_key ∙ was.keeps.same_key) before (omega (arith, may.child)) (omega (arith, c.if-mask-eq0.false))
    c.lowest-mask.type_inv (clear_bits seen mask c.load-seen.type_inv c.lowest-mask.ensures.among) c.lowest-mask.ensures.few may.charged may.paid in
    record { share = search rules; seen = search rules; may = can }

pub returns-then-mask-eq0 : goal.returns-then-mask-eq0
returns-then-mask-eq0 g c =
    let M = g.M.Moves in
    let m = M.at c.args.m.now in
    let u = M.at c.loop-i.m in
    let w = M.at c.load-seen.new.self in
    let still = g.met.M.Moves.stays_alone c.loop-i.m in
    let ticks = g.met.M.Moves.ticks in
    let was = c.loop-i.invariant in
    let load = c.load-seen.ensures in
    let seen = c.load-seen.result in
    let before : IsAsBefore m.view w.view = still_as_before m.view u.view w.view (M.tick u.view.moves) u.view.lost was.view load.view in
    let none = c.if-mask-eq0.true in
    let all : ones 0 < c.args.n → 0 ≡ bit_not w64 seen = λ few. sym none ∙ c.lowest-mask.ensures.all (omega (arith, few, ap ones none)) in
    record {
      keeps = keeps_both was.keeps load.keeps;
      counts = at_most ticks (both_counts ticks was.counts (load_counts ticks load)) (omega (arith, c.loop-i-test.true));
      few = omega (arith, ones_zero);
      view = none_claimed m.key c.args.word m.view w.view (omega (arith, c.requires.child)) before;
      apart = apart_as was.keeps.same_key load.apart;
      alone = λ alone.
          sets_none u.key m.key c.args.word seen 0 c.args.n was.keeps.same_key
          (subst (λ k. bit_and seen k ≡ 0) none (clear_bits seen c.lowest-mask.result c.load-seen.type_inv c.lowest-mask.ensures.among))
          (none_left seen 0 c.args.n c.load-seen.type_inv all) m.words w.words refl (seen_by _ still was.keeps load was.first alone);
    }

pub returns-then-claim_singles : goal.returns-then-claim_singles
returns-then-claim_singles g c =
    let M = g.M.Moves in
    let m = M.at c.args.m.now in
    let u = M.at c.loop-i.m in
    let w = M.at c.load-seen.new.self in
    let x = M.at c.claim_singles.new.self in
    let still = g.met.M.Moves.stays_alone in
    let ticks = g.met.M.Moves.ticks in
    let was = c.loop-i.invariant in
    let load = c.load-seen.ensures in
    let tried = c.claim_singles.ensures in
    let seen = c.load-seen.result in
    let mask = c.lowest-mask.result in
    let some = some_ones mask (omega (arith, c.if-mask-eq0.false)) in
    let before : IsAsBefore m.view w.view = still_as_before m.view u.view w.view (M.tick u.view.moves) u.view.lost was.view load.view in
    let key = load.keeps.same_key ∙ was.keeps.same_key in
    record {
      keeps = keeps_both was.keeps (keeps_both load.keeps tried.keeps);
      counts = at_most ticks (both_counts ticks was.counts (both_counts ticks (load_counts ticks load) (try_counts ticks tried)))
          (omega (arith, c.loop-i-test.true));
      few = c.lowest-mask.ensures.few;
      view = claimed_singles M.tick c.args.word seen mask m.view w.view x.view some before
          (if_made c.claim_singles.result (x.view ≡ after M.tick (claim_singles c.args.word seen mask) w.view) (x.view ≡ after_loss M.tick w.view)
          tried.view c.if-claim_singles.true);
      apart = apart_as key tried.apart;
      alone = λ alone.
          let now = load.keeps.stays_alone (was.keeps.stays_alone alone) in
          sets_first w.key m.key c.args.word seen mask c.args.n key
          (clear_bits seen mask c.load-seen.type_inv c.lowest-mask.ensures.among)
          (none_left seen mask c.args.n c.load-seen.type_inv c.lowest-mask.ensures.all) c.claim_singles.result m.words w.words x.words
          (subst (λ (k : Key). IsSeen (bits_place k c.args.word) seen m.words w.words) (sym load.keeps.same_key)
          (seen_by _ (still c.loop-i.m) was.keeps load was.first alone))
          (tried.words (still c.load-seen.new.self now));
    }

pub loop-i-preserved : goal.loop-i-preserved
loop-i-preserved g c =
    let M = g.M.Moves in
    let still = g.met.M.Moves.stays_alone in
    let ticks = g.met.M.Moves.ticks in
    let was = c.loop-i.invariant in
    let load = c.load-seen.ensures in
    let tried = c.claim_singles.ensures in
    record {
      keeps = keeps_both was.keeps (keeps_both load.keeps tried.keeps);
      view = search rules;
      counts = at_most ticks (both_counts ticks was.counts (both_counts ticks (load_counts ticks load) (try_counts ticks tried)))
          (omega arith);
      apart = λ some. apart_as (load.keeps.same_key ∙ was.keeps.same_key) tried.apart;
      first = λ alone.
          let seen = seen_by _ (still c.loop-i.m) was.keeps load was.first alone in
          never_lost _ _ c.if-claim_singles.false (still c.load-seen.new.self (load.keeps.stays_alone (was.keeps.stays_alone alone))) tried
          (subst (λ (k : Key). IsSeen (bits_place k c.args.word) c.load-seen.result (M.at c.args.m.now).words
          (M.at c.load-seen.new.self).words) (sym load.keeps.same_key) seen);
    }

pub returns : goal.returns
returns g c =
    let M = g.M.Moves in
    let m = M.at c.args.m.now in
    let u = M.at c.loop-i.m in
    let ticks = g.met.M.Moves.ticks in
    let was = c.loop-i.invariant in
    record {
      keeps = was.keeps;
      counts = at_most ticks was.counts (omega (arith, c.loop-i.auto._i-end));
      few = omega (arith, ones_zero);
      view = none_claimed m.key c.args.word m.view u.view (omega (arith, c.requires.child)) was.view;
      apart = was.apart (omega (arith, c.loop-i-test.false, c.loop-i.auto._i-end));
      alone = λ alone.
          if_known m.words (λ ws. (c.loop-i._i ≡ 0) × (u.words ≡ Some ws))
          (λ ws. (us : List ℕ) × ((u.words ≡ Some us) × SetsBits m.key c.args.word 0 c.args.n ws us))
          (was.first alone) (λ ws d e. absurd (omega (arith, e.0, c.loop-i-test.false, c.loop-i.auto._i-end)));
    }
