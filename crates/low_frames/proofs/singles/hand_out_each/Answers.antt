use Rattle.std.proofs.Common.{◌≡◌, ℕ, ◌+◌, ◌-◌, ◌*◌, ◌/◌, ◌<◌, [], ◌∷◌, refl, ap, sym, subst, ◌∙◌, arith}
use Rattle.std.specs.Prelude.{map}
use Rattle.std.specs.Int.{bit_at, w64, trailing_zeros}
use Rattle.std.specs.Int.Bits.{bit_and}
use Rattle.std.specs.Int.Count.{ones}
use Rattle.std.proofs.lemmas.Nat.{and_le_r}
use Rattle.std.proofs.lemmas.Nat.Bits.{bit_at_and, bit_at-lt}
use Rattle.std.proofs.lemmas.List.Elements.{All-cons, All-nil}
use Rattle.frame_model.specs.declared.key.Key.{Key}
use Rattle.frame_model.specs.declared.view.View.{View}
use Rattle.frame_model.specs.Block.{block}
use Rattle.frame_model.specs.Seats.{CanHandOut}
use Rattle.frame_model.specs.Without.{without}
use Rattle.frame_model.proofs.Bits.{ones_zero, some_ones}
use Rattle.frame_model.proofs.Blocks.{AreAt}
use Rattle.frame_model.proofs.Chosen.{singles_at}
use Rattle.low_frames.specs.Singles.{IsSingleOut, TakesSingles}
use Rattle.low_frames.proofs.BitLemmas.{IsLowest, lowest_of, one_less}
use Rattle.low_frames.proofs.Counts.{at_most, out_counts}
use Rattle.low_frames.proofs.SinglesAlone.{AreBut, none_but, one_more, all_but, turns_same, turns_into}
use Rattle.low_frames.proofs.SinglesLemmas.{HasHandedOutBut, out_none, out_more, all_out, can_hand_out_single, single_leaves, next_at, none_at, single_out, none_singles, both_singles}
use Rattle.low_frames.proofs.singles.hand_out_each.Goals as goal

pub loop-rest-init : goal.loop-rest-init
loop-rest-init g c =
    let B = g.M.Held.HeldBlock.block_of in
    let M = g.M.Moves in
    let m = M.at c.args.m.now in
    let mask = c.args.mask in
    let none : ones mask - ones mask ≡ 0 = omega arith in
    record {
      takes = subst (λ n. TakesSingles B M.is_exact (c.args.word / 8 / 8) n (HasHandedOutBut n)
          (λ bs ws us. (us ≡ ws) × AreBut c.args.word mask mask bs) n c.args.out.now.items c.args.out.now.items m m) (sym none)
          (none_singles g.met.M.Moves.ticks m c.args.out.now.items (out_none m.view)
          (λ ws. (refl, none_but c.args.word mask)));
      own = subst (AreAt m.key c.args.word mask) (sym c.requires.may.own) (singles_at m.key c.args.word mask c.requires.may.inside);
      fits = c.ranges.mask.fits;
      among = λ i. omega arith;
      few = omega arith;
      len = omega arith;
      cap = refl;
    }

pub hand_out-requires : goal.hand_out-requires
hand_out-requires g c =
    let m = g.M.Moves.at c.args.m.now in
    let u = g.M.Moves.at c.loop-rest.m in
    let was = c.loop-rest.invariant in
    let may = c.requires.may in
    let rest = c.loop-rest.rest in
    let low = lowest_of rest (omega (arith, c.loop-rest-test.true)) was.fits in
    let b = block (64 * c.args.word + (trailing_zeros w64 c.loop-rest.rest)) 0 in
    subst (λ (k : Key). CanHandOut k u.view b (without b u.view.own)) (sym was.takes.keeps.same_key)
    (can_hand_out_single m.key u.view c.args.word rest (trailing_zeros w64 c.loop-rest.rest)
    (subst (λ s. 0 < s) (sym (ap (λ (v : View). v.share) was.takes.view)) may.share) may.inside was.own low)

pub loop-rest-preserved : goal.loop-rest-preserved
loop-rest-preserved g c =
    let M = g.M.Moves in
    let B = g.M.Held.HeldBlock.block_of in
    let ticks = g.met.M.Moves.ticks in
    let m = M.at c.args.m.now in
    let u = M.at c.loop-rest.m in
    let w = M.at c.hand_out.new.self in
    let held = c.hand_out.result in
    let was = c.loop-rest.invariant in
    let may = c.requires.may in
    let out = c.hand_out.ensures in
    let pushed = c.push_reserved.ensures in
    let word = c.args.word in
    let tree : ℕ = word / 8 / 8 in
    let mask = c.args.mask in
    let rest = c.loop-rest.rest in
    let i = trailing_zeros w64 c.loop-rest.rest in
    let some : 0 < rest = omega (arith, c.loop-rest-test.true) in
    let fits = was.fits in
    let low : IsLowest rest i = lowest_of rest some fits in
    let next : ℕ = bit_and rest (rest - 1) in
    let less : ones next + 1 ≡ ones rest = one_less rest some fits in
    let n : ℕ = ones mask - ones rest in
    let more : n + 1 ≡ ones mask - ones next = omega (arith, less, was.few) in
    let kept : u.view.kept ≡ m.view.kept = ap (λ (v : View). v.kept) was.takes.view in
    let has : bit_at mask i ≡ 1 = omega (arith, was.among i, low.is_set, bit_at-lt mask i) in
    let single : IsSingleOut B tree m.view.kept w held =
    single_out B m w word mask i held may low.inside has (out.keeps.same_key ∙ was.takes.keeps.same_key) out.is_block out.is_out in
    let P = IsSingleOut B tree u.view.kept w in
    let b = block (64 * word + i) 0 in
    let step : TakesSingles B M.is_exact tree 1 (λ v x. x ≡ w.view) (λ bs ws us. (us ≡ ws) × (bs ≡ b ∷ [])) 1
    c.loop-rest.out.items c.push_reserved.new.self.items u w = record {
      keeps = out.keeps;
      counts = out_counts ticks out;
      view = refl;
      got = held ∷ [];
      items = pushed.items;
      count = refl;
      each = All-cons P held [] (subst (λ l. IsSingleOut B tree l w held) (sym kept) single) (All-nil P);
      alone = λ alone.
          turns_same (λ ws us. (us ≡ ws) × ((B held ∷ []) ≡ b ∷ [])) u.words w.words (out.words (g.met.M.Moves.stays_alone c.loop-rest.m alone))
          (λ ws. (refl, ap (λ d. d ∷ []) out.is_block));
    } in
    let left = single_leaves m.key u.view.own word rest i may.inside was.own low in
    let all : TakesSingles B M.is_exact tree (n + 1) (HasHandedOutBut (n + 1)) (λ bs ws us. (us ≡ ws) × AreBut word next mask bs) (n + 1)
    c.args.out.now.items c.push_reserved.new.self.items m w =
    both_singles ticks was.takes step kept (out_more M.tick n b m.view u.view w.view was.takes.view out.view) (omega arith)
    (λ alone es bs ws us vs e p q. (q.0 ∙ p.0, one_more m.key word rest i may.inside low mask es bs p.1 q.1)) in
    record {
      takes = subst (λ k. TakesSingles B M.is_exact tree k (HasHandedOutBut k) (λ bs ws us. (us ≡ ws) × AreBut word next mask bs) k
          c.args.out.now.items c.push_reserved.new.self.items m w) more all;
      own = subst (AreAt m.key word next) (sym (ap (λ (v : View). v.own) out.view))
          (next_at m.key u.view.own word rest i may.inside was.own low (without b u.view.own) left);
      fits = omega (arith, and_le_r rest (rest - 1), fits);
      among = λ j. omega (arith, bit_at_and rest (rest - 1) j, was.among j);
      few = omega (arith, less, was.few);
      len = omega (arith, pushed.len, was.len, less);
      cap = pushed.capacity ∙ was.cap;
    }

pub loop-rest-smaller : goal.loop-rest-smaller
loop-rest-smaller g c = omega (arith, and_le_r c.loop-rest.rest (c.loop-rest.rest - 1), c.loop-rest-test.true)

pub returns-clause-hands_out : goal.returns-clause-hands_out
returns-clause-hands_out g c =
    let M = g.M.Moves in
    let B = g.M.Held.HeldBlock.block_of in
    let m = M.at c.args.m.now in
    let u = M.at c.loop-rest.m in
    let was = c.loop-rest.invariant in
    let rest = c.loop-rest.rest in
    let n = ones c.args.mask in
    let none : rest ≡ 0 = omega (arith, c.loop-rest-test.false) in
    let end : n - ones rest ≡ n = omega (arith, ap ones none, ones_zero) in
    record {
      keeps = was.takes.keeps;
      counts = at_most g.met.M.Moves.ticks was.takes.counts (omega arith);
      view = all_out n m.view u.view (subst (λ k. HasHandedOutBut k m.view u.view) end was.takes.view)
          (none_at m.key u.view.own c.args.word (subst (λ r. AreAt m.key c.args.word r u.view.own) none was.own));
      got = was.takes.got;
      items = was.takes.items;
      count = was.takes.count ∙ end;
      each = was.takes.each;
      alone = λ alone.
          turns_into m.words u.words (was.takes.alone alone)
          (λ ws us d e p. (
            p.0,
            all_but m.key c.args.word c.args.mask (map B was.takes.got) c.requires.may.inside
                (subst (λ r. AreBut c.args.word r c.args.mask (map B was.takes.got)) none p.1),
          ));
    }

pub returns-clause-len : goal.returns-clause-len
returns-clause-len g c =
    let none : c.loop-rest.rest ≡ 0 = omega (arith, c.loop-rest-test.false) in
    omega (arith, c.loop-rest.invariant.len, ap ones none, ones_zero)

pub push_reserved-requires : goal.push_reserved-requires
push_reserved-requires g c =
    omega (
      arith,
      c.loop-rest.invariant.len,
      c.loop-rest.invariant.cap,
      c.requires.room,
      some_ones c.loop-rest.rest (omega (arith, c.loop-rest-test.true)),
    )
