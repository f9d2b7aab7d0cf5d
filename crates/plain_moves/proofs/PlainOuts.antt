-- The bytes of the blocks that are out, when one is handed out or taken in.
use Rattle.std.proofs.Common.{◌≡◌, ◌≢◌, inl, inr, ⊎_elim, ℕ, zero, suc, pos, ◌+ℤ◌, ◌-ℤ◌, ◌+◌, ◌-◌, ◌<◌, ◌≤◌, List, [], ◌∷◌, ◌++◌, Option}
use Rattle.std.proofs.Common.{Some, length, get_or, set, refl, ap, sym, ◌∙◌, arith}
use Rattle.std.proofs.Math.Logic.{∥∥₁_elim, ∥∥₁_map}
use Rattle.std.proofs.Math.Nat.{ℕ_set}
use Rattle.std.proofs.lemmas.Bool.{cases_eq, cases_lt}
use Rattle.std.proofs.lemmas.Nat.{pow_pos}
use Rattle.std.proofs.lemmas.Int.{ints}
use mathlib.Core.Option.{some}
use lib.ListN.{get_elem?}
use Rattle.frame_model.specs.declared.block.FrameBlock.{FrameBlock}
use Rattle.frame_model.specs.declared.key.Key.{Key}
use Rattle.frame_model.specs.declared.view.View.{View}
use Rattle.frame_model.specs.Key.{child_of}
use Rattle.frame_model.specs.Block.{block, IsBlock, small_at, whole_at}
use Rattle.frame_model.specs.declared.view.Amount.{Amount}
use Rattle.frame_model.specs.View.{holder, spent, small_in, whole_in, LiesIn, IsViewOf}
use Rattle.frame_model.specs.Fit.{total, Fit}
use Rattle.frame_model.specs.Steps.{Rest}
use Rattle.frame_model.specs.Seats.{hand_out, hand_in, MayCut, left_by, MayJoin, joined_by}
use Rattle.std.proofs.lemmas.List.Elements.{All-set, All-push, All-tail}
use Rattle.std.proofs.lemmas.Bool.Decides.{nat_tests}
use Rattle.std.proofs.lemmas.List.Sums.{sum_by-cons}
use Rattle.frame_model.proofs.Sums.{at-le-sum}
use Rattle.frame_model.proofs.Keeps.{total_is}
use Rattle.frame_model.proofs.Blocks.{smalls_cons, wholes_cons, in_block}
use Rattle.frame_model.proofs.Steps.Every.{seat_cut_keeps, seat_join_keeps}
use Rattle.plain_moves.specs.declared.plain.party.Company.{Company}
use Rattle.plain_moves.specs.declared.plain.party.Party.{Party}
use Rattle.plain_moves.specs.Plain.{is_out_byte, out_count, HasNoShare, IsOutIn, plain_tick, plain_view, AreOf, HaveHolders, AreNotBoth, Agrees}
use Rattle.plain_moves.specs.PlainLaws.{held_block}
use Rattle.plain_moves.proofs.PlainOwn.{whole_of}

module _ {X : Type 0} where
  last_here : (xs : List X) (y : X) → get_elem? (xs ++ y ∷ []) (length xs) ≡ some y
  last_here [] y = refl
  last_here (x ∷ xs) y = last_here xs y

  before_last : (xs : List X) (y x : X) (i : ℕ) → get_elem? xs i ≡ some x → get_elem? (xs ++ y ∷ []) i ≡ some x
  before_last [] y x i e = absurd (cc)
  before_last (z ∷ zs) y x zero e = e
  before_last (z ∷ zs) y x (suc i) e = before_last zs y x i e

pub set_here : (bytes : List ℕ) (i n : ℕ) → i < length bytes → get_or (set bytes i n) i 0 ≡ n
set_here [] i n h = absurd (omega arith)
set_here (b ∷ bs) zero n h = refl
set_here (b ∷ bs) (suc i) n h = set_here bs i n (omega arith)

pub set_there : (bytes : List ℕ) (i j n : ℕ) → j ≢ i → get_or (set bytes i n) j 0 ≡ get_or bytes j 0
set_there [] i j n h = refl
set_there (b ∷ bs) zero zero n h = absurd (h refl)
set_there (b ∷ bs) zero (suc j) n h = refl
set_there (b ∷ bs) (suc i) zero n h = refl
set_there (b ∷ bs) (suc i) (suc j) n h = set_there bs i j n (λ e. h (ap suc e))

set_length : (bytes : List ℕ) (i n : ℕ) → length (set bytes i n) ≡ length bytes
set_length [] i n = refl
set_length (b ∷ bs) zero n = refl
set_length (b ∷ bs) (suc i) n = ap suc (set_length bs i n)

-- a block holds its first frame, or is the child that begins there
pub first_counts : (key : Key) (d : FrameBlock) → IsBlock key d → 1 ≤ small_at d.frame d + whole_at (child_of d.frame) d
first_counts key d b =
    ⊎_elim
    (λ low. omega (arith, in_block d.frame d low (omega arith) (omega (arith, pow_pos d.order))))
    (λ high. omega (arith, whole_of key d b high))
    (cases_lt d.order 9)

positive : (n : ℕ) → n ≢ 0 → 0 < n
positive zero h = absurd (h refl)
positive (suc n) h = omega arith

past_end : (bytes : List ℕ) (i : ℕ) → length bytes ≤ i → get_or bytes i 0 ≡ 0
past_end [] i h = refl
past_end (b ∷ bs) zero h = absurd (omega arith)
past_end (b ∷ bs) (suc i) h = past_end bs i (omega arith)

-- no block that is out begins where a block in flight does
free_in_row : {them : Company} (key : Key) (words own_bytes bytes : List ℕ) (v : View) (b : FrameBlock) (rest : Rest)
    → MayCut key (hand_out b rest) v → (a : Agrees key them words own_bytes v) → HaveHolders key bytes a.others
    → get_or bytes b.frame 0 ≡ 0
free_in_row key words own_bytes bytes v b rest may a held =
    ⊎_elim
    (λ inside. ⊎_elim (λ z. z) (λ more. absurd (begun inside (positive (get_or bytes b.frame 0) more))) (cases_eq
    (get_or bytes b.frame 0) 0))
    (λ past. past_end bytes b.frame past)
    (cases_lt b.frame (length bytes))
  where
    two_at : (f : View → ℕ) (key : Key) (v h : View) (others : List View) (i : ℕ) → get_elem? others i ≡ some h
        → f v + f h ≤ total key f (v ∷ others)
    two_at f key v h others i e = omega (arith, total_is key f (v ∷ others), sum_by-cons f v others, at-le-sum f others i h e)

    begun : b.frame < length bytes → 0 < get_or bytes b.frame 0 → ⊥
    begun inside more =
        let x : ℕ = b.frame in
        let d : FrameBlock = block x (get_or bytes x 0 - 1) in
        let out : IsOutIn bytes d = (inside, omega (arith, more)) in
        let is : IsBlock key d = held_block key a.others bytes d (All-tail (IsViewOf key) v a.others a.fit.each) held out in
        let old = held d out in
        let h : View = holder (Some key) d in
        let fit : Fit key a.shares words (v ∷ a.others) = a.fit in
        let child : child_of x < key.children = omega (arith, may.is_block.inside, pow_pos b.order) in
        let small = fit.apart x (omega (arith, may.is_block.inside, pow_pos b.order)) in
        let whole = fit.wholes (child_of x) child in
        let first : 1 ≤ small_at x d + whole_at (child_of x) d = first_counts key d is in
        let mine : 1 ≤ small_at x b + whole_at (child_of x) b = first_counts key b may.is_block in
        let ls = may.leaves.smalls x in
        let lw = may.leaves.wholes (child_of x) in
        let s = two_at (small_in x) key v h a.others old.0 old.1 in
        let w = two_at (whole_in (child_of x)) key v h a.others old.0 old.1 in
        let hs = smalls_cons x d [] in
        let hw = wholes_cons (child_of x) d [] in
        omega (arith, small, whole, first, mine, ls, lw, s, w, hs, hw)

pub byte_free : {them : Company} (key : Key) (words bytes : List ℕ) (v : View) (b : FrameBlock) (rest : Rest)
    → ∥ Agrees key them words bytes v ∥₁ → MayCut key (hand_out b rest) v → b.frame < length bytes → get_or bytes b.frame 0 ≡ 0
byte_free {them = them} key words bytes v b rest agrees may inside =
    ∥∥₁_elim agrees (ℕ_set _ _) (λ (a : Agrees key them words bytes v). free_in_row key words bytes bytes v b rest may a a.outs)

-- the views of the parties stay where they are, whatever has no share comes behind them or goes
pub one_more_holder : (key : Key) (ps : List Party) (us : List View) (h : View) → h.share ≡ 0
    → AreOf key ps us → AreOf key ps (us ++ h ∷ [])
unfolding AreOf
one_more_holder key [] us h none of = All-push HasNoShare us h of none
one_more_holder key (p ∷ ps) [] h none of = absurd of
one_more_holder key (p ∷ ps) (u ∷ us) h none of = (of.0, one_more_holder key ps us h none of.1)

pub one_spent : (key : Key) (ps : List Party) (us : List View) (i : ℕ) (h w : View) → get_elem? us i ≡ some h
    → h.share ≡ 0 → w.share ≡ 0 → AreOf key ps us → AreOf key ps (set us i w)
unfolding AreOf
one_spent key [] us i h w at none gone of = All-set HasNoShare us i w gone of
one_spent key (p ∷ ps) [] i h w at none gone of = absurd of
one_spent key (p ∷ ps) (u ∷ us) zero h w at none gone of =
    let is : u ≡ h = cc in
    absurd (omega (arith, of.0.share, ap (λ (x : View). x.share) is, none, p.some))
one_spent key (p ∷ ps) (u ∷ us) (suc i) h w at none gone of = (of.0, one_spent key ps us i h w at none gone of.1)

-- the block is handed out: a byte that was 0 names it
pub handed_out : {them : Company} (key : Key) (words bytes : List ℕ) (v : View) (b : FrameBlock) (rest : Rest)
    → ∥ Agrees key them words bytes v ∥₁ → v.about ≡ Some key → MayCut key (hand_out b rest) v
    → b.frame < length bytes → ∥ Agrees key them words (set bytes b.frame (b.order + 1)) (left_by plain_tick (hand_out b rest) v) ∥₁
handed_out {them = them} key words bytes v b rest agrees named may inside =
    ∥∥₁_map agrees (λ (a : Agrees key them words bytes v).
    let fit = seat_cut_keeps plain_tick key a.shares words (v ∷ a.others) 0 v a.fit refl (hand_out b rest) may in
    record {
      others = a.others ++ holder v.about b ∷ [];
      shares = a.shares;
      fit = fit;
      outs = place a;
      their_outs = (λ d out. let old = a.their_outs d out in
          (old.0, before_last a.others (holder v.about b) (holder (Some key) d) old.0 old.1));
      not_both = apart a;
      parties = one_more_holder key them.parties.items a.others (holder v.about b) refl a.parties;
    })
  where
    apart : (a : Agrees key them words bytes v) → AreNotBoth (set bytes b.frame (b.order + 1)) them.outs.items
    apart a x =
        ⊎_elim
        (λ e. inr (ap (λ y. get_or them.outs.items y 0) e ∙ free_in_row key words bytes them.outs.items v b rest may a a.their_outs))
        (λ ne. ⊎_elim (λ z. inl (set_there bytes b.frame x (b.order + 1) ne ∙ z)) (λ z. inr z) (a.not_both x))
        (cases_eq x b.frame)

    place : (a : Agrees key them words bytes v) (d : FrameBlock) → IsOutIn (set bytes b.frame (b.order + 1)) d
        → (i : ℕ) × (get_elem? (a.others ++ holder v.about b ∷ []) i ≡ some (holder (Some key) d))
    place a d out =
        ⊎_elim
        (λ e.
        let here = ap (λ j. get_or (set bytes b.frame (b.order + 1)) j 0) e ∙ set_here bytes b.frame (b.order + 1) inside in
        let order : b.order ≡ d.order = omega (arith, here, out.1) in
        let same : holder v.about b ≡ holder (Some key) d = λ i. holder (named i) (block (sym e i) (order i)) in
        (length a.others, last_here a.others (holder v.about b) ∙ ap some same))
        (λ ne.
        let old = a.outs d (
          omega (arith, out.0, set_length bytes b.frame (b.order + 1)),
          sym (set_there bytes b.frame d.frame (b.order + 1) ne) ∙ out.1,
        ) in
        (old.0, before_last a.others (holder v.about b) (holder (Some key) d) old.0 old.1))
        (cases_eq d.frame b.frame)

byte_some : (n : ℕ) → 0 < n → is_out_byte n ≡ 1
unfolding is_out_byte
byte_some n h = grind (arith, nat_tests)

pub byte_none : is_out_byte 0 ≡ 0
unfolding is_out_byte
byte_none = refl

-- one more block is out
pub one_out : (bytes : List ℕ) (i n : ℕ) → i < length bytes → get_or bytes i 0 ≡ 0 → 0 < n → out_count bytes + 1 ≡ out_count (set bytes i n)
unfolding out_count
one_out [] i n h z s = absurd (omega arith)
one_out (b ∷ bs) zero n h z s =
    omega (arith, sum_by-cons is_out_byte b bs, sum_by-cons is_out_byte n bs, byte_some n s, ap is_out_byte z, byte_none)
one_out (b ∷ bs) (suc i) n h z s =
    omega (arith, sum_by-cons is_out_byte b bs, sum_by-cons is_out_byte b (set bs i n), one_out bs i n (omega arith) z s)

pub one_in : (bytes : List ℕ) (i : ℕ) → i < length bytes → 0 < get_or bytes i 0 → out_count bytes ≡ out_count (set bytes i 0) + 1
unfolding out_count
one_in [] i h s = absurd (omega arith)
one_in (b ∷ bs) zero h s = omega (arith, sum_by-cons is_out_byte b bs, sum_by-cons is_out_byte 0 bs, byte_some b s, byte_none)
one_in (b ∷ bs) (suc i) h s =
    omega (arith, sum_by-cons is_out_byte b bs, sum_by-cons is_out_byte b (set bs i 0), one_in bs i (omega arith) s)

-- what was out is still out
pub still_out : (bytes : List ℕ) (b : FrameBlock) → get_or bytes b.frame 0 ≡ 0 → (d : FrameBlock) → IsOutIn bytes d
    → IsOutIn (set bytes b.frame (b.order + 1)) d
still_out bytes b free d out =
    let ne : d.frame ≢ b.frame = (λ e. omega (arith, out.1, free, ap (λ j. get_or bytes j 0) e)) in
    (omega (arith, out.0, set_length bytes b.frame (b.order + 1)), set_there bytes b.frame d.frame (b.order + 1) ne ∙ out.1)

-- the own view with other blocks out and in flight
pub viewed_out : {share lost : ℕ} (key : Key) (bytes bytes' : List ℕ) (p c : Option Amount) (r : Option ℕ) (own own' : List FrameBlock)
    (filled : List ℕ) (n n' : ℕ)
    → out_count bytes + 1 ≡ out_count bytes' → own ≡ own' → n ≡ n'
    → record (plain_view key share bytes p c r own filled n lost) { lent = pos (out_count bytes) +ℤ pos 1 }
    ≡ plain_view key share bytes' p c r own' filled n' lost
viewed_out {share = share} {lost = lost} key bytes bytes' p c r own own' filled n n' el eo en =
    λ i. record (plain_view key share bytes p c r (eo i) filled (en i) lost) { lent = pos (el i) }

-- the block is taken in: its byte names none any more
module _ {X : Type 0} where
  pub other_stays : (xs : List X) (i j : ℕ) (y x : X) → j ≢ i → get_elem? xs j ≡ some x → get_elem? (set xs i y) j ≡ some x
  other_stays [] i j y x ne e = absurd (cc)
  other_stays (z ∷ zs) zero zero y x ne e = absurd (ne refl)
  other_stays (z ∷ zs) zero (suc j) y x ne e = e
  other_stays (z ∷ zs) (suc i) zero y x ne e = e
  other_stays (z ∷ zs) (suc i) (suc j) y x ne e = other_stays zs i j y x (λ q. ne (ap suc q)) e

same_holder : (key : Key) (b d : FrameBlock) → some (holder (Some key) b) ≡ some (holder (Some key) d) → d.frame ≡ b.frame
same_holder key b d e =
    let h : holder (Some key) b ≡ holder (Some key) d = cc in
    let o : ◌≡◌ {A = List FrameBlock} (b ∷ []) (d ∷ []) = ap (λ (u : View). u.own) h in
    let s : b ≡ d = cc in
    sym (ap (λ (k : FrameBlock). k.frame) s)

pub taken_in : {them : Company} (key : Key) (words bytes : List ℕ) (v : View) (b : FrameBlock) → ∥ Agrees key them words bytes v ∥₁
    → 0 < v.share → LiesIn v (child_of b.frame) → IsOutIn bytes b
    → ∥ Agrees key them words (set bytes b.frame 0) (joined_by plain_tick hand_in v (holder (Some key) b)) ∥₁
taken_in {them = them} key words bytes v b agrees share child out =
    ∥∥₁_map agrees (λ (a : Agrees key them words bytes v).
    let at = a.outs b out in
    let may : MayJoin hand_in v (holder (Some key) b) =
    record { takes = record { share = share; out = refl; not_ground = refl; block = b; owns = refl }; one_child = child } in
    let fit = seat_join_keeps plain_tick key a.shares words (v ∷ a.others) 0 v a.fit refl (suc at.0) (holder (Some key) b)
    (λ e. omega arith) at.1 hand_in may in
    record {
      others = set a.others at.0 spent;
      shares = a.shares;
      fit = fit;
      outs = place a at.0 at.1;
      their_outs = theirs a at.0 at.1;
      not_both = apart a;
      parties = one_spent key them.parties.items a.others at.0 (holder (Some key) b) spent at.1 refl refl a.parties;
    })
  where
    apart : (a : Agrees key them words bytes v) → AreNotBoth (set bytes b.frame 0) them.outs.items
    apart a x =
        ⊎_elim
        (λ e. inl (ap (λ y. get_or (set bytes b.frame 0) y 0) e ∙ set_here bytes b.frame 0 out.0))
        (λ ne. ⊎_elim (λ z. inl (set_there bytes b.frame x 0 ne ∙ z)) (λ z. inr z) (a.not_both x))
        (cases_eq x b.frame)

    theirs : (a : Agrees key them words bytes v) (i : ℕ) → get_elem? a.others i ≡ some (holder (Some key) b)
        → HaveHolders key them.outs.items (set a.others i spent)
    theirs a i at d now =
        let old = a.their_outs d now in
        let ne : d.frame ≢ b.frame = (λ e. ⊎_elim (λ z. omega (arith, z, out.1))
        (λ z. omega (arith, ap (λ y. get_or them.outs.items y 0) e, z, now.1)) (a.not_both b.frame)) in (
          old.0,
          other_stays a.others i old.0 spent (holder (Some key) d)
              (λ e. ne (same_holder key b d (sym at ∙ ap (get_elem? a.others) (sym e) ∙ old.1))) old.1,
        )

    place : (a : Agrees key them words bytes v) (i : ℕ) → get_elem? a.others i ≡ some (holder (Some key) b) → (d : FrameBlock)
        → IsOutIn (set bytes b.frame 0) d → (j : ℕ) × (get_elem? (set a.others i spent) j ≡ some (holder (Some key) d))
    place a i at d now =
        let ne : d.frame ≢ b.frame =
        (λ e. omega (arith, now.1, ap (λ j. get_or (set bytes b.frame 0) j 0) e, set_here bytes b.frame 0 out.0)) in
        let old = a.outs d (omega (arith, now.0, set_length bytes b.frame 0), sym (set_there bytes b.frame d.frame 0 ne) ∙ now.1) in (
          old.0,
          other_stays a.others i old.0 spent (holder (Some key) d)
              (λ e. ne (same_holder key b d (sym at ∙ ap (get_elem? a.others) (sym e) ∙ old.1))) old.1,
        )

one_back : (n : ℕ) → pos (n + 1) -ℤ pos 1 ≡ pos n
one_back n = omega (arith, ints)

pub viewed_in : {share lost : ℕ} (key : Key) (bytes bytes' : List ℕ) (p c : Option Amount) (r : Option ℕ) (own own' : List FrameBlock)
    (filled : List ℕ) (n n' : ℕ)
    → out_count bytes ≡ out_count bytes' + 1 → own ≡ own' → n ≡ n'
    → record (plain_view key share bytes p c r own filled n lost) { lent = pos (out_count bytes) -ℤ pos 1 }
    ≡ plain_view key share bytes' p c r own' filled n' lost
viewed_in {share = share} {lost = lost} key bytes bytes' p c r own own' filled n n' el eo en =
    let z : pos (out_count bytes) -ℤ pos 1 ≡ pos (out_count bytes') = ap (λ k. pos k -ℤ pos 1) el ∙ one_back (out_count bytes') in
    λ i. record (plain_view key share bytes p c r (eo i) filled (en i) lost) { lent = z i }
