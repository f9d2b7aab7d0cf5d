-- Single frames that are claimed together, and go out one after the other.
use Rattle.std.proofs.Common.{◌≡◌, ⊎_elim, ℕ, ◌+◌, ◌-◌, ◌*◌, ◌/◌, ◌%◌, ◌^◌, ◌<◌, ◌≤◌, List, [], ◌++◌, Option, None, Some, refl, ap, sym, subst, ◌∙◌, arith}
use Rattle.std.specs.Int.{bit_at}
use Rattle.std.specs.Int.Bits.{bit_and}
use Rattle.std.specs.Int.Count.{ones}
use Rattle.std.proofs.lemmas.Int.{ints}
use Rattle.std.specs.Prelude.{ℤ, pos, ◌+ℤ◌, map}
use Rattle.std.specs.List.{All}
use Rattle.std.proofs.lemmas.Bool.{cases_eq}
use Rattle.std.proofs.lemmas.Bool.Decides.{nat_tests}
use Rattle.std.proofs.lemmas.Nat.Bits.{bit_at-zero}
use Rattle.std.proofs.lemmas.List.{append-nil, append_assoc, length-append, map-append}
use Rattle.std.proofs.lemmas.List.Elements.{All-nil, All-append, All-weaker}
use Rattle.frame_model.specs.declared.block.FrameBlock.{FrameBlock}
use Rattle.frame_model.specs.declared.key.Key.{Key}
use Rattle.frame_model.specs.declared.view.Amount.{Amount}
use Rattle.frame_model.specs.declared.view.View.{View}
use Rattle.frame_model.specs.Key.{frame_count}
use Rattle.frame_model.specs.Block.{block, IsBlock, covers, single_blocks}
use Rattle.frame_model.specs.View.{count_in, counted, charged_in, paid_on}
use Rattle.frame_model.specs.Holding.{holders}
use Rattle.frame_model.specs.Steps.Amounts.{more, less, Leaves}
use Rattle.frame_model.specs.Steps.Conditions.{CanClaimSingles}
use Rattle.frame_model.specs.Seats.{CanHandOut, left_by}
use Rattle.frame_model.specs.Without.{without}
use Rattle.frame_model.proofs.Bits.{ones_zero}
use Rattle.frame_model.proofs.Blocks.{in_block, AreAt}
use Rattle.frame_model.proofs.Chosen.{frame_else, singles_at}
use Rattle.frame_model.proofs.Safe.{holders_are}
use Rattle.frame_model.proofs.Without.{without_leaves, nothing_left}
use Rattle.frame_model.specs.Steps.{refund, claim_singles}
use Rattle.frame_core.specs.Moves.{after, hand_out_block}
use Rattle.frame_core.specs.Mover.{Mover, Keeps, LiesInside, Ticks}
use Rattle.low_frames.specs.Outcomes.{HasNoBootFrame}
use Rattle.low_frames.specs.Takes.{Counts, IsAsBefore, IsBlockOfTree, HasCharged}
use Rattle.low_frames.specs.Singles.{MayTakeSomeOf, MayTakeSome, MayTakeRuns, MayHandOutEach, lowered, HasClaimedSingles, HasTakenSome, HasLentSome, HasHandedOutAll, IsSingleOut, TakesSingles}
use Rattle.low_frames.specs.Alone.{Turns}
use Rattle.low_frames.proofs.BitLemmas.{IsLowest, lowest_gone, others_stay}
use Rattle.low_frames.proofs.SinglesAlone.{turns_here, turns_both, turns_into}
use Rattle.low_frames.proofs.TakeLemmas.{keeps_none, keeps_both}
use Rattle.low_frames.proofs.Counts.{at_most, both_counts, none_made}
use Rattle.low_frames.proofs.ViewLemmas.{charged_of, covered_from, flight_apart, flight_not_boot, flight_inside}

-- Frames in flight.

pub single_is_block : (key : Key) (f : ℕ) → f < frame_count key → IsBlock key (block f 0)
single_is_block key f h = record { order = omega arith; aligned = omega arith; inside = omega arith }

module _ (key : Key) (blocks : List FrameBlock) (k n i : ℕ) (inside : k < 8 * key.children) (own : AreAt key k n blocks)
    (low : IsLowest n i) where
  abbrev f : ℕ
  f = 64 * k + i

  pub single_leaves : Leaves key blocks (block (64 * k + i) 0) (without (block (64 * k + i) 0) blocks)
  single_leaves =
      without_leaves key (block f 0) blocks (single_is_block key f (omega (arith, inside, low.inside))) own.are_blocks (record {
        smalls = λ small x h.
            let c = covered_from (block f 0) x h in
            let here : x / 64 ≡ k = omega (arith, c.0, c.1, low.inside) in
            let same : x % 64 ≡ i = omega (arith, c.0, c.1, low.inside) in
            own.here x here ∙ ap (bit_at n) same ∙ low.is_set;
        wholes = λ top. absurd (omega (arith, top));
      })

  pub next_at : (rest : List FrameBlock) → Leaves key blocks (block (64 * k + i) 0) rest → AreAt key k (bit_and n (n - 1)) rest
  next_at rest l =
      let m : ℕ = bit_and n (n - 1) in
      record {
        are_blocks = l.are_blocks;
        here = λ x e. ⊎_elim
            (λ (q : x % 64 ≡ i). omega (
              arith,
              l.smalls x,
              own.here x e,
              ap (bit_at n) q,
              low.is_set,
              ap (bit_at m) q,
              lowest_gone n i low,
              in_block x (block f 0) (omega arith) (omega (arith, e, q)) (omega (arith, e, q)),
            ))
            (λ ne. omega (
              arith,
              l.smalls x,
              own.here x e,
              others_stay n i (x % 64) low ne,
              frame_else x f (λ q. ne (omega (arith, q, low.inside))),
            ))
            (cases_eq (x % 64) i);
        elsewhere = λ x ne. omega (arith, l.smalls x, own.elsewhere x ne);
        no_wholes = λ c. omega (arith, l.wholes c, own.no_wholes c);
      }

pub can_hand_out_single : (key : Key) (v : View) (k n i : ℕ) → 0 < v.share → k < 8 * key.children → AreAt key k n v.own → IsLowest n i
    → CanHandOut key v (block (64 * k + i) 0) (without (block (64 * k + i) 0) v.own)
can_hand_out_single key v k n i share inside own low = record {
  share = share;
  is_block = single_is_block key (64 * k + i) (omega (arith, inside, low.inside));
  leaves = single_leaves key v.own k n i inside own low;
  unfilled = λ top. absurd (omega (arith, top));
}

pub none_at : (key : Key) (blocks : List FrameBlock) (k : ℕ) → AreAt key k 0 blocks → blocks ≡ []
none_at key blocks k own =
    nothing_left key blocks own.are_blocks
    (λ x. ⊎_elim (λ e. own.here x e ∙ bit_at-zero (x % 64)) (λ ne. own.elsewhere x ne) (cases_eq (x / 64) k))
    own.no_wholes

-- Views.

-- so many single frames were handed out of what is in flight
abbrev pub HasHandedOutBut : ℕ → View → View → Type 0
HasHandedOutBut n v w = w ≡ record v { own = w.own; lent = v.lent +ℤ pos n; moves = w.moves; lost = w.lost }

lent_more : (z : ℤ) (j k : ℕ) → z +ℤ pos j +ℤ pos k ≡ z +ℤ pos (j + k)
lent_more z j k = omega (arith, ints)

lent_none : (z : ℤ) → z ≡ z +ℤ pos 0
lent_none z = omega (arith, ints)

-- a view with other amounts, blocks in flight and counts
with_all : View → Option Amount → Option Amount → List FrameBlock → ℤ → ℕ → ℕ → View
with_all v c p o z m l = record v { charged = c; paid = p; own = o; lent = z; moves = m; lost = l }

all_same : (v : View) (c d p q : Option Amount) (o r : List FrameBlock) (y z : ℤ) (m l : ℕ) → c ≡ d → p ≡ q → o ≡ r → y ≡ z
    → with_all v c p o y m l ≡ with_all v d q r z m l
all_same v c d p q o r y z m l e f g h = rw (e, f, g, h) refl

pub out_more : (t : ℕ → ℕ) (n : ℕ) (b : FrameBlock) (v u w : View) → HasHandedOutBut n v u → w ≡ left_by t (hand_out_block b) u
    → HasHandedOutBut (n + 1) v w
out_more t n b v u w e h =
    let F : View → List FrameBlock → ℤ → ℕ → ℕ → View = (λ y o z m l. record y { own = o; lent = z; moves = m; lost = l }) in
    let lent : u.lent +ℤ pos 1 ≡ v.lent +ℤ pos (n + 1) = ap (λ (y : View). y.lent +ℤ pos 1) e ∙ lent_more v.lent n 1 in
    h
    ∙ ap (λ (y : View). F y (without b u.own) (u.lent +ℤ pos 1) (t u.moves) u.lost) e
    ∙ ap (λ z. F v (without b u.own) z (t u.moves) u.lost) lent
    ∙ sym (ap (λ o. F v o (v.lent +ℤ pos (n + 1)) w.moves w.lost) (ap (λ (y : View). y.own) h)
    ∙ ap (λ m. F v (without b u.own) (v.lent +ℤ pos (n + 1)) m w.lost) (ap (λ (y : View). y.moves) h)
    ∙ ap (λ l. F v (without b u.own) (v.lent +ℤ pos (n + 1)) (t u.moves) l) (ap (λ (y : View). y.lost) h))

pub out_none : (v : View) → HasHandedOutBut 0 v v
out_none v = ap (λ z. record v { lent = z }) (lent_none v.lent)

pub all_out : (n : ℕ) (v w : View) → HasHandedOutBut n v w → w.own ≡ [] → HasHandedOutAll n v w
all_out n v w e none = e ∙ ap (λ o. record v { own = o; lent = v.lent +ℤ pos n; moves = w.moves; lost = w.lost }) none

-- Amounts that go down.

pub lowered_none : (p : ℕ) (a : Option Amount) → lowered p 0 a ≡ a
unfolding lowered
lowered_none p a = refl

pub lowered_some : (p n : ℕ) (a : Option Amount) → 0 < n → lowered p n a ≡ less p n a
unfolding lowered
lowered_some p n a h = grind (arith, nat_tests)

pub lowered_count : (p n : ℕ) (a : Option Amount) → count_in p (lowered p n a) ≡ count_in p a - n
unfolding lowered less counted count_in
lowered_count p n None = grind (arith, nat_tests)
lowered_count p n (Some a) = grind (arith, nat_tests)

pub lowered_both : (p j k : ℕ) (a : Option Amount) → lowered p k (lowered p j a) ≡ lowered p (j + k) a
unfolding lowered less counted
lowered_both p j k None = grind (arith, nat_tests)
lowered_both p j k (Some a) = grind (arith, nat_tests)

pub taken_none : (c : ℕ) (v : View) → HasTakenSome c 0 v v
unfolding with_all
taken_none c v =
    all_same v v.charged (lowered c 0 v.charged) v.paid (lowered (c / 8) 0 v.paid) v.own v.own v.lent (v.lent +ℤ pos 0) v.moves v.lost
    (sym (lowered_none c v.charged)) (sym (lowered_none (c / 8) v.paid)) refl (lent_none v.lent)

pub taken_both : (c j k : ℕ) (v u w : View) → HasTakenSome c j v u → HasTakenSome c k u w → HasTakenSome c (j + k) v w
unfolding with_all
taken_both c j k v u w e f =
    f
    ∙ ap (λ (y : View). with_all y (lowered c k y.charged) (lowered (c / 8) k y.paid) y.own (y.lent +ℤ pos k) w.moves w.lost) e
    ∙ all_same v _ (lowered c (j + k) v.charged) _ (lowered (c / 8) (j + k) v.paid) v.own v.own _ (v.lent +ℤ pos (j + k)) w.moves w.lost
    (lowered_both c j k v.charged) (lowered_both (c / 8) j k v.paid) refl (lent_more v.lent j k)

-- single frames were claimed, and each of them handed out
pub claimed_out : (word mask : ℕ) (v u w : View) → v.own ≡ [] → HasClaimedSingles word mask v u → HasHandedOutAll (ones mask) u w
    → HasTakenSome (word / 8) (ones mask) v w
unfolding with_all
claimed_out word mask v u w own e f =
    let n : ℕ = ones mask in
    let tree : word / 64 ≡ word / 8 / 8 = omega arith in
    f
    ∙ ap (λ (y : View). with_all y y.charged y.paid [] (y.lent +ℤ pos n) w.moves w.lost) e
    ∙ all_same v (lowered (word / 8) n v.charged) (lowered (word / 8) n v.charged) (lowered (word / 64) n v.paid)
    (lowered (word / 8 / 8) n v.paid) [] v.own (v.lent +ℤ pos n) (v.lent +ℤ pos n) w.moves w.lost
    refl (ap (λ t. lowered t n v.paid) tree) (sym own) refl

pub claimed_singles : (t : ℕ → ℕ) (word seen mask : ℕ) (v u w : View) → 0 < ones mask → IsAsBefore v u
    → w ≡ after t (claim_singles word seen mask) u → HasClaimedSingles word mask v w
unfolding with_all
claimed_singles t word seen mask v u w some e h =
    let n : ℕ = ones mask in
    let F : ℕ → ℕ → View = (λ m l. record u {
      charged = less (word / 8) n u.charged;
      paid = less (word / 64) n u.paid;
      own = single_blocks word mask ++ u.own;
      moves = m;
      lost = l;
    }) in
    let G : View → View = (λ y. with_all y (lowered (word / 8) n y.charged) (lowered (word / 64) n y.paid) (single_blocks word mask ++ y.own)
    y.lent w.moves w.lost) in
    h
    ∙ sym (ap (λ m. F m w.lost) (ap (λ (y : View). y.moves) h) ∙ ap (λ l. F (t u.moves) l) (ap (λ (y : View). y.lost) h))
    ∙ all_same u (less (word / 8) n u.charged) (lowered (word / 8) n u.charged) (less (word / 64) n u.paid) (lowered (word / 64) n u.paid)
    (single_blocks word mask ++ u.own) (single_blocks word mask ++ u.own) u.lent u.lent w.moves w.lost
    (sym (lowered_some (word / 8) n u.charged some)) (sym (lowered_some (word / 64) n u.paid some)) refl refl
    ∙ ap G e

-- none was claimed
pub none_claimed : (key : Key) (word : ℕ) (v w : View) → word < 8 * key.children → IsAsBefore v w → HasClaimedSingles word 0 v w
unfolding with_all
none_claimed key word v w inside e =
    e
    ∙ all_same v v.charged (lowered (word / 8) (ones 0) v.charged) v.paid (lowered (word / 64) (ones 0) v.paid) v.own
    (single_blocks word 0 ++ v.own) v.lent v.lent w.moves w.lost
    (sym (ap (λ n. lowered (word / 8) n v.charged) ones_zero ∙ lowered_none (word / 8) v.charged))
    (sym (ap (λ n. lowered (word / 64) n v.paid) ones_zero ∙ lowered_none (word / 64) v.paid))
    (sym (ap (λ l. l ++ v.own) (none_at key (single_blocks word 0) word (singles_at key word 0 inside)))) refl

pub can_claim_singles : (key was : Key) (v w : View) (word seen mask n : ℕ) → key ≡ was → IsAsBefore v w → word < 8 * was.children
    → 0 < mask → mask < 2 ^ 64 → bit_and seen mask ≡ 0 → ones mask ≤ n → n ≤ charged_in (word / 8) v → n ≤ paid_on (word / 8 / 8) v
    → CanClaimSingles key w word seen mask
can_claim_singles key was v w word seen mask n k b inside some fits clear few charged paid =
    let tree : word / 64 ≡ word / 8 / 8 = omega arith in
    record {
      inside = subst (λ (k : Key). word < 8 * k.children) (sym k) inside;
      some = some;
      fits = fits;
      clear = clear;
      charged = subst (λ (x : View). ones mask ≤ charged_in (word / 8) x) (sym b) (omega (arith, few, charged));
      paid = subst (λ (x : View). ones mask ≤ paid_on (word / 64) x) (sym b) (omega (arith, few, paid, ap (λ t. paid_on t v) tree));
    }

-- the view of some that were taken, and then as before
pub taken_still : (c n : ℕ) (v u w : View) → HasTakenSome c n v u → IsAsBefore u w → HasTakenSome c n v w
taken_still c n v u w e f = f ∙ ap (λ (y : View). record y { moves = w.moves; lost = w.lost }) e

charged_gone : (c n : ℕ) → lowered c n (more c n None) ≡ None
unfolding lowered more less counted
charged_gone c n = grind (arith, nat_tests)

charged_put_back : (c n k : ℕ) → k < n → less c (n - k) (lowered c k (more c n None)) ≡ None
unfolding lowered more less counted
charged_put_back c n k h = grind (arith, nat_tests)

-- nothing was taken
pub lent_none_of : (t : ℕ) (v w : View) → IsAsBefore v w → HasLentSome t 0 v w
unfolding with_all
lent_none_of t v w e =
    e
    ∙ all_same v v.charged v.charged v.paid (lowered t 0 v.paid) v.own v.own v.lent (v.lent +ℤ pos 0) w.moves w.lost refl
    (sym (lowered_none t v.paid)) refl (lent_none v.lent)

pub lent_none_at : (t : ℕ) (v : View) → HasLentSome t 0 v v
lent_none_at t v = lent_none_of t v v refl

-- all that was charged was taken
pub lent_all : (c n : ℕ) (v a b w : View) → v.charged ≡ None → IsAsBefore v a → HasCharged c n a b → HasTakenSome c n b w
    → HasLentSome (c / 8) n v w
unfolding with_all
lent_all c n v a b w none d e f =
    let G : View → Option Amount → View = (λ y x. with_all y x (lowered (c / 8) n y.paid) y.own (y.lent +ℤ pos n) w.moves w.lost) in
    f
    ∙ ap (λ (y : View). G y (lowered c n y.charged)) e
    ∙ ap (λ (y : View). G y (lowered c n (more c n y.charged))) d
    ∙ ap (λ x. G v x) (ap (λ x. lowered c n (more c n x)) none ∙ charged_gone c n ∙ sym none)

-- some of what was charged was taken, and the rest put back
pub lent_some : (t : ℕ → ℕ) (c n k : ℕ) (v a b x w : View) → v.charged ≡ None → k < n → IsAsBefore v a → HasCharged c n a b
    → HasTakenSome c k b x → w ≡ after t (refund c (n - k)) x → HasLentSome (c / 8) k v w
unfolding with_all
lent_some t c n k v a b x w none few d e f h =
    let back : w ≡ record x { charged = less c (n - k) x.charged; moves = w.moves; lost = w.lost } =
    h ∙ sym (ap (λ m. record x { charged = less c (n - k) x.charged; moves = m; lost = w.lost }) (ap (λ (y : View). y.moves) h)
    ∙ ap (λ l. record x { charged = less c (n - k) x.charged; moves = t x.moves; lost = l }) (ap (λ (y : View). y.lost) h)) in
    let G : View → Option Amount → View = (λ y z. with_all y z (lowered (c / 8) k y.paid) y.own (y.lent +ℤ pos k) w.moves w.lost) in
    back
    ∙ ap (λ (y : View). record y { charged = less c (n - k) y.charged; moves = w.moves; lost = w.lost }) f
    ∙ ap (λ (y : View). G y (less c (n - k) (lowered c k y.charged))) e
    ∙ ap (λ (y : View). G y (less c (n - k) (lowered c k (more c n y.charged)))) d
    ∙ ap (λ z. G v z) (ap (λ z. less c (n - k) (lowered c k (more c n z))) none ∙ charged_put_back c n k few ∙ sym none)

pub lent_both : (t j k : ℕ) (v u w : View) → HasLentSome t j v u → HasLentSome t k u w → HasLentSome t (j + k) v w
unfolding with_all
lent_both t j k v u w e f =
    f
    ∙ ap (λ (y : View). with_all y y.charged (lowered t k y.paid) y.own (y.lent +ℤ pos k) w.moves w.lost) e
    ∙ all_same v v.charged v.charged _ (lowered t (j + k) v.paid) v.own v.own _ (v.lent +ℤ pos (j + k)) w.moves w.lost
    refl (lowered_both t j k v.paid) refl (lent_more v.lent j k)

-- Lists of single frames that are out.

module _ {T H : Type 0} {block_of : H → FrameBlock} {tree : ℕ} where
  stays_out : {a b : Mover T H} {kept : List FrameBlock} → Keeps a b → (h : H) → IsSingleOut block_of tree kept a h
      → IsSingleOut block_of tree kept b h
  stays_out {a} {b} {kept} keeps h s = record {
    is_out = keeps.stay_out h s.is_out;
    is_one = subst (λ k. IsBlockOfTree k tree 0 (block_of h)) (sym keeps.same_key) s.is_one;
    apart = s.apart;
    no_boot_frame = subst (λ k. HasNoBootFrame k (block_of h)) (sym keeps.same_key) s.no_boot_frame;
    inside = subst (λ k. LiesInside k (block_of h)) (sym keeps.same_key) s.inside;
  }

  pub stay_out : {a b : Mover T H} {kept : List FrameBlock} → Keeps a b → (hs : List H) → All (IsSingleOut block_of tree kept a) hs
      → All (IsSingleOut block_of tree kept b) hs
  stay_out {a} {b} {kept} keeps hs all =
      All-weaker (IsSingleOut block_of tree kept a) (IsSingleOut block_of tree kept b) (stays_out keeps) hs all

  module _ {exact : ℕ → Type 0} {t : ℕ → ℕ} (ticks : Ticks t exact) where
    pub none_singles : {V : View → View → Type 0} {F : List FrameBlock → List ℕ → List ℕ → Type 0} (a : Mover T H) (items : List H)
        → V a.view a.view → ((ws : List ℕ) → F [] ws ws) → TakesSingles block_of exact tree 0 V F 0 items items a a
    none_singles {V} {F} a items same here = record {
      keeps = keeps_none a;
      counts = none_made ticks a;
      view = same;
      got = [];
      items = sym (append-nil items);
      count = refl;
      each = All-nil (IsSingleOut block_of tree a.view.kept a);
      alone = λ alone. turns_here (F []) a.words here;
    }

    pub both_singles : {U V W : View → View → Type 0} {F G J : List FrameBlock → List ℕ → List ℕ → Type 0} {a b c : Mover T H}
        {m n most j k : ℕ} {xs ys zs : List H}
        → TakesSingles block_of exact tree m V F j xs ys a b → TakesSingles block_of exact tree n W G k ys zs b c
        → b.view.kept ≡ a.view.kept → U a.view c.view → m + n ≤ most
        → (a.is_alone → (es bs : List FrameBlock) (ws us vs : List ℕ) → b.words ≡ Some us → F es ws us → G bs us vs → J (es ++ bs) ws vs)
        → TakesSingles block_of exact tree most U J (j + k) xs zs a c
    both_singles {J = J} {a = a} {b = b} {c = c} {xs = xs} f g kept view few then = record {
      keeps = keeps_both f.keeps g.keeps;
      counts = at_most ticks (both_counts ticks f.counts g.counts) few;
      view = view;
      got = f.got ++ g.got;
      items = g.items ∙ ap (λ l. l ++ g.got) f.items ∙ append_assoc xs f.got g.got;
      count = omega (arith, length-append f.got g.got, f.count, g.count);
      each = All-append (IsSingleOut block_of tree a.view.kept c) f.got g.got (stay_out g.keeps f.got f.each)
          (subst (λ l. All (IsSingleOut block_of tree l c) g.got) kept g.each);
      alone = λ alone.
          turns_both a.words b.words c.words (f.alone alone) (g.alone (f.keeps.stays_alone alone))
          (λ ws us vs d e h p q. subst (λ l. J l ws vs) (sym (map-append block_of f.got g.got))
          (then alone (map block_of f.got) (map block_of g.got) ws us vs e p q));
    }

    -- in at most so many moves, and what follows of the words
    pub at_most_so_many : {V : View → View → Type 0} {F G : List FrameBlock → List ℕ → List ℕ → Type 0} {a b : Mover T H}
        {n most k : ℕ} {xs ys : List H} → TakesSingles block_of exact tree n V F k xs ys a b → n ≤ most
        → ((bs : List FrameBlock) (ws us : List ℕ) → F bs ws us → G bs ws us) → TakesSingles block_of exact tree most V G k xs ys a b
    at_most_so_many {a = a} {b = b} f few then = record {
      keeps = f.keeps;
      counts = at_most ticks f.counts few;
      view = f.view;
      got = f.got;
      items = f.items;
      count = f.count;
      each = f.each;
      alone = λ alone. turns_into a.words b.words (f.alone alone) (λ ws us d e p. then (map block_of f.got) ws us p);
    }

    -- and nothing more was taken
    pub then_nothing : {U V : View → View → Type 0} {F J : List FrameBlock → List ℕ → List ℕ → Type 0} {R : List ℕ → List ℕ → Type 0}
        {a b c : Mover T H} {m n most k : ℕ} {xs ys : List H}
        → TakesSingles block_of exact tree m V F k xs ys a b → Keeps b c → Counts exact n b c → U a.view c.view → m + n ≤ most
        → (b.is_alone → Turns R b.words c.words)
        → (b.is_alone → (bs : List FrameBlock) (ws us vs : List ℕ) → a.words ≡ Some ws → b.words ≡ Some us → F bs ws us → R us vs
        → J bs ws vs)
        → TakesSingles block_of exact tree most U J k xs ys a c
    then_nothing {a = a} {b = b} {c = c} f keeps counts view few turns then = record {
      keeps = keeps_both f.keeps keeps;
      counts = at_most ticks (both_counts ticks f.counts counts) few;
      view = view;
      got = f.got;
      items = f.items;
      count = f.count;
      each = stay_out keeps f.got f.each;
      alone = λ alone.
          let still = f.keeps.stays_alone alone in
          turns_both a.words b.words c.words (f.alone alone) (turns still)
          (λ ws us vs d e h p q. then still (map block_of f.got) ws us vs d e p q);
    }

    -- nothing was taken before
    pub nothing_then : {U V : View → View → Type 0} {F J : List FrameBlock → List ℕ → List ℕ → Type 0} {R : List ℕ → List ℕ → Type 0}
        {a b c : Mover T H} {m n most k : ℕ} {xs ys : List H}
        → Keeps a b → Counts exact m a b → TakesSingles block_of exact tree n V F k xs ys b c → b.view.kept ≡ a.view.kept
        → U a.view c.view → m + n ≤ most → (a.is_alone → Turns R a.words b.words)
        → (a.is_alone → (bs : List FrameBlock) (ws us vs : List ℕ) → a.words ≡ Some ws → c.words ≡ Some vs → R ws us → F bs us vs
        → J bs ws vs)
        → TakesSingles block_of exact tree most U J k xs ys a c
    nothing_then {a = a} {b = b} {c = c} keeps counts g kept view few turns then = record {
      keeps = keeps_both keeps g.keeps;
      counts = at_most ticks (both_counts ticks counts g.counts) few;
      view = view;
      got = g.got;
      items = g.items;
      count = g.count;
      each = subst (λ l. All (IsSingleOut block_of tree l c) g.got) kept g.each;
      alone = λ alone.
          turns_both a.words b.words c.words (turns alone) (g.alone (keeps.stays_alone alone))
          (λ ws us vs d e h p q. then alone (map block_of g.got) ws us vs d h p q);
    }

-- A single frame in flight, which is handed out.

pub single_out : {T H : Type 0} (block_of : H → FrameBlock) (m w : Mover T H) (k mask i : ℕ) (held : H) → MayHandOutEach k mask m → i < 64
    → bit_at mask i ≡ 1 → w.key ≡ m.key → block_of held ≡ block (64 * k + i) 0 → w.is_out held
    → IsSingleOut block_of (k / 8 / 8) m.view.kept w held
single_out block_of m w k mask i held may low has key e out =
    let d : FrameBlock = block_of held in
    let f : ℕ = 64 * k + i in
    let there : f / 64 ≡ k = omega (arith, low) in
    let bit : f % 64 ≡ i = omega (arith, low) in
    let are = singles_at m.key k mask may.inside in
    let covered : (x : ℕ) → covers d x ≡ 1 → 0 < holders x m.view.own =
    λ x h.
    let c = covered_from (block f 0) x (sym (ap (λ b. covers b x) e) ∙ h) in
    let same : x ≡ f = omega (arith, c.0, c.1) in
    omega (
      arith,
      ap (λ y. holders y m.view.own) same,
      ap (holders f) may.own,
      holders_are m.key f (single_blocks k mask) are.are_blocks,
      are.here f there,
      ap (bit_at mask) bit,
      has,
    ) in
    let is : IsBlock m.key d = subst (IsBlock m.key) (sym e) (single_is_block m.key f (omega (arith, may.inside, low))) in
    record {
      is_out = out;
      is_one = record {
        is_block = subst (λ k. IsBlock k d) (sym key) is;
        has_order = ap (λ (b : FrameBlock). b.order) e;
        in_tree = ap (λ (b : FrameBlock). b.frame / 4096) e ∙ omega (arith, low);
      };
      apart = flight_apart d covered may.apart refl;
      no_boot_frame = subst (λ k. HasNoBootFrame k d) (sym key) (flight_not_boot d covered may.apart);
      inside = subst (λ k. LiesInside k d) (sym key) (flight_inside d covered may.apart may.share);
    }

-- What is still charged and paid.

pub may_go_on : {T H : Type 0} (a b : Mover T H) (c n got : ℕ) → MayTakeRuns c n a → Keeps a b → HasTakenSome c got a.view b.view
    → MayTakeRuns c (n - got) b
may_go_on a b c n got may keeps e = record {
  child = subst (λ (k : Key). c < k.children) (sym keeps.same_key) may.child;
  share = subst (λ s. 0 < s) (sym (ap (λ (v : View). v.share) e)) may.share;
  own = ap (λ (v : View). v.own) e ∙ may.own;
  charged = omega (arith, ap (λ (v : View). charged_in c v) e, lowered_count c got a.view.charged, may.charged);
  paid = omega (arith, ap (λ (v : View). paid_on (c / 8) v) e, lowered_count (c / 8) got a.view.paid, may.paid);
}

-- nothing but what is paid is in flight, and enough was charged
pub may_take_charged : {T H : Type 0} (m u w : Mover T H) (c n k : ℕ) → MayTakeSome c n m → k ≤ n → Keeps m w → IsAsBefore m.view u.view
    → HasCharged c k u.view w.view → MayTakeRuns c k w
may_take_charged m u w c n k may few keeps d e = record {
  child = subst (λ (y : Key). c < y.children) (sym keeps.same_key) may.child;
  share = subst (λ s. 0 < s) (sym (ap (λ (v : View). v.share) e ∙ ap (λ (v : View). v.share) d)) may.share;
  own = ap (λ (v : View). v.own) e ∙ ap (λ (v : View). v.own) d ∙ may.own;
  charged = omega (arith, charged_of c k u.view w.view e (ap (λ (v : View). v.charged) d ∙ may.charged));
  paid = omega (arith, ap (λ (v : View). paid_on (c / 8) v) e, ap (λ (v : View). paid_on (c / 8) v) d, may.paid);
}

pub may_go_on_in : {T H : Type 0} (a b : Mover T H) (t c n got : ℕ) → MayTakeSomeOf t n a → Keeps a b → HasLentSome t got a.view b.view
    → c < a.key.children → c / 8 ≡ t → MayTakeSome c (n - got) b
may_go_on_in a b t c n got may keeps e inside here = record {
  child = subst (λ (k : Key). c < k.children) (sym keeps.same_key) inside;
  share = subst (λ s. 0 < s) (sym (ap (λ (v : View). v.share) e)) may.share;
  charged = ap (λ (v : View). v.charged) e ∙ may.charged;
  own = ap (λ (v : View). v.own) e ∙ may.own;
  paid = subst (λ d. n - got ≤ paid_on d b.view) (sym here)
      (omega (arith, ap (λ (v : View). paid_on t v) e, lowered_count t got a.view.paid, may.paid));
}
