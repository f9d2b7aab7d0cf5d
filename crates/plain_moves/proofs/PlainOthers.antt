-- Who steps next: the own view and that of a party of the company change places.
use Rattle.std.proofs.Common.{◌≡◌, ◌≢◌, inl, inr, ⊎_elim, ℕ, ℤ, zero, suc, ◌+ℤ◌, ◌-ℤ◌, ◌+◌, ◌/◌, ◌<◌, List, [], ◌∷◌, Option, Some, length}
use Rattle.std.proofs.Common.{get_or, set, refl, ap, sym, subst, ◌∙◌, arith}
use Rattle.std.specs.List.{All}
use Rattle.std.proofs.Math.Logic.{∥∥₁_map}
use Rattle.std.proofs.lemmas.Int.{ints}
use Rattle.std.proofs.lemmas.Bool.{cases_eq}
use Rattle.std.specs.Prelude.{slice_get}
use Rattle.std.proofs.lemmas.List.Elements.{All-set}
use borrow.Author.Differences.{up, down}
use mathlib.Core.Option.{some}
use lib.ListN.{get_elem?}
use Rattle.frame_model.specs.declared.block.FrameBlock.{FrameBlock}
use Rattle.frame_model.specs.declared.key.Key.{Key}
use Rattle.frame_model.specs.declared.view.View.{View}
use Rattle.frame_model.specs.Block.{IsBlock, smalls, wholes}
use Rattle.frame_model.specs.View.{count_in, names, is_at, holder, LiesIn, HasFilled, IsAmount, IsViewOf}
use Rattle.frame_model.specs.Fit.{Fit}
use Rattle.frame_model.specs.declared.view.Amount.{Amount}
use Rattle.frame_model.proofs.Balances.{join_step}
use Rattle.frame_model.proofs.Steps.Shared.{ground_none, none_out, view_of}
use Rattle.frame_model.proofs.Steps.Seats.{ground_no}
use Rattle.plain_moves.specs.declared.plain.party.Party.{Party}
use Rattle.plain_moves.specs.declared.plain.party.Company.{Company}
use Rattle.plain_moves.specs.declared.plain.PlainMoves.{PlainMoves}
use Rattle.plain_moves.specs.PlainState.{view_by, IsParked, IsTurned, IsAlike, IsUnmoved}
use Rattle.plain_moves.specs.Allowed.{own_stand, their_stand}
use Rattle.plain_moves.specs.Plain.{plain_key, plain_view, IsOf, AreOf, HaveHolders, AreNotBoth, Agrees}
use Rattle.plain_moves.proofs.PlainOuts.{other_stays}

lent_over : (a b c : ℤ) → up (a +ℤ b -ℤ c) + up c + down a + down b ≡ up a + up b + down (a +ℤ b -ℤ c) + down c
lent_over a b c = omega (arith, ints)

-- where a view has a share, it is still one of the memory with another count of what it lent
module _ (key : Key) (p : Party) (u w : View) (was : IsOf key p u) (is : IsOf key p w) (i : IsViewOf key u) where
  own_same : w.own ≡ u.own
  own_same = is.own ∙ sym was.own

  kept_same : w.kept ≡ u.kept
  kept_same = is.kept ∙ sym was.kept

  charged_same : w.charged ≡ u.charged
  charged_same = is.charged ∙ sym was.charged

  paid_same : w.paid ≡ u.paid
  paid_same = is.paid ∙ sym was.paid

  filled_same : w.filled ≡ u.filled
  filled_same = is.filled ∙ sym was.filled

  reserving_same : w.reserving ≡ u.reserving
  reserving_same = is.reserving ∙ sym was.reserving

  has_u : 0 < u.share
  has_u = omega (arith, was.share, p.some)

  has_w : 0 < w.share
  has_w = omega (arith, is.share, p.some)

  lies : (child : ℕ) → LiesIn u child → LiesIn w child
  lies child l = record {
    charged = λ c ne. ap (count_in c) charged_same ∙ l.charged c ne;
    smalls = λ x ne. ap (smalls x) own_same ∙ l.smalls x ne;
    wholes = λ c ne. ap (wholes c) own_same ∙ l.wholes c ne;
  }

  filled_as : (word : ℕ) → HasFilled key u word → HasFilled key w word
  filled_as word h = record {
    inside = h.inside;
    share = has_w;
    own = omega (arith, h.own, ap (wholes (word / 8)) own_same);
  }

  pub again : IsViewOf key w
  again = record {
    named = inr is.named;
    own = subst (All (IsBlock key)) (sym own_same) i.own;
    kept = subst (All (IsBlock key)) (sym kept_same) i.kept;
    no_part = λ none. absurd (omega (arith, has_w, none));
    one_block = λ none g. absurd (omega (arith, has_w, none));
    one_child = λ s. ((i.one_child has_u).0, lies (i.one_child has_u).0 (i.one_child has_u).1);
    filled = λ word h. filled_as word (i.filled word (omega (arith, h, ap (names word) filled_same)));
    charged = λ c h. ap (count_in c) charged_same ∙ i.charged c h;
    paid = λ t h. ap (count_in t) paid_same ∙ i.paid t h;
    reserving = λ t h. ap (is_at t) reserving_same ∙ i.reserving t h;
    some_charged = subst IsAmount (sym charged_same) i.some_charged;
    some_paid = subst IsAmount (sym paid_same) i.some_paid;
  }

-- each party of the company has its view
party_at : (key : Key) (ps : List Party) (us : List View) (k : ℕ) (p : Party) → AreOf key ps us → get_elem? ps k ≡ some p
    → (u : View) × ((get_elem? us k ≡ some u) × IsOf key p u)
unfolding AreOf
party_at key [] us k p of at = absurd (cc)
party_at key (q ∷ ps) [] k p of at = absurd of
party_at key (q ∷ ps) (u ∷ us) zero p of at =
    let e : q ≡ p = cc in
    (u, (refl, subst (λ (r : Party). IsOf key r u) e of.0))
party_at key (q ∷ ps) (u ∷ us) (suc k) p of at = party_at key ps us k p of.1 at

-- another party with its view in that place
parties_set : (key : Key) (ps : List Party) (us : List View) (k : ℕ) (p q : Party) (u : View) → AreOf key ps us
    → get_elem? ps k ≡ some p → IsOf key q u → AreOf key (set ps k q) (set us k u)
unfolding AreOf
parties_set key [] us k p q u of at is = absurd (cc)
parties_set key (r ∷ ps) [] k p q u of at is = absurd of
parties_set key (r ∷ ps) (w ∷ us) zero p q u of at is = (is, of.1)
parties_set key (r ∷ ps) (w ∷ us) (suc k) p q u of at is = (of.0, parties_set key ps us k p q u of.1 at is)

-- holders have no share, so they stay where a party's view is changed
holders_stay : (key : Key) (bytes : List ℕ) (us : List View) (k : ℕ) (u w : View) → get_elem? us k ≡ some u → 0 < u.share
    → HaveHolders key bytes us → HaveHolders key bytes (set us k w)
holders_stay key bytes us k u w at has held b out =
    let old = held b out in
    let ne : old.0 ≢ k = (λ e.
    let same : some u ≡ some (holder (Some key) b) = sym at ∙ ap (get_elem? us) (sym e) ∙ old.1 in
    let is : u ≡ holder (Some key) b = cc in
    omega (arith, has, ap (λ (x : View). x.share) is)) in
    (old.0, other_stays us k old.0 w (holder (Some key) b) ne old.1)

module _ (key : Key) (words bytes : List ℕ) (v w : View) (them new : Company) (k : ℕ) (p q : Party)
    (at : get_elem? them.parties.items k ≡ some p) (own : IsOf key q v) (next : IsOf key p w)
    (parties : new.parties.items ≡ set them.parties.items k q) (outs : new.outs.items ≡ bytes) where
  module _ (a : Agrees key them words bytes v) (u : View) (there : get_elem? a.others k ≡ some u)
      (was : IsOf key p u) where
    abbrev parked : View
    parked = record v { lent = v.lent +ℤ u.lent -ℤ w.lent }

    parked_is : IsOf key q parked
    parked_is = record {
      named = own.named;
      share = own.share;
      not_ground = own.not_ground;
      paid = own.paid;
      charged = own.charged;
      reserving = own.reserving;
      own = own.own;
      kept = own.kept;
      filled = own.filled;
    }

    v_view : IsViewOf key v
    v_view = view_of key a.shares words (v ∷ a.others) 0 v a.fit refl

    u_view : IsViewOf key u
    u_view = view_of key a.shares words (v ∷ a.others) (suc k) u a.fit there

    fits : Fit key a.shares words (w ∷ set a.others k parked)
    fits =
        let o : w.own ≡ u.own = next.own ∙ sym was.own in
        let kp : w.kept ≡ u.kept = next.kept ∙ sym was.kept in
        join_step key a.shares words (v ∷ a.others) 0 v a.fit refl (suc k) u w parked there (record {
          wholes = λ c. omega (arith, ap (wholes c) o, ap (wholes c) kp);
          smalls = λ x. omega (arith, ap (smalls x) o, ap (smalls x) kp);
          marks = λ x. omega (
            arith,
            ap (smalls x) o,
            ap (smalls x) kp,
            ap (names (x / 64)) (next.filled ∙ sym was.filled),
          );
          charged = λ c. omega (arith, ap (count_in c) (next.charged ∙ sym was.charged));
          paid = λ t. omega (arith, ap (count_in t) (next.paid ∙ sym was.paid));
          reserves = λ t. omega (arith, ap (is_at t) (next.reserving ∙ sym was.reserving));
          shares = omega (arith, next.share, was.share);
          lents = omega (
            arith,
            lent_over v.lent u.lent w.lent,
            none_out v (has_u key q v v own own v_view),
            none_out u (has_u key p u u was was u_view),
            none_out w (omega (arith, next.share, p.some)),
            none_out parked (has_u key q v v own own v_view),
          );
          grounds = omega (
            arith,
            ground_no v own.not_ground,
            ground_no u was.not_ground,
            ground_no w next.not_ground,
            ground_no parked own.not_ground,
          );
          past_end = λ x ge h. omega (
            arith,
            ap (smalls x) (ground_none v own.not_ground),
            ap (smalls x) (ground_none u was.not_ground),
            ap (smalls x) (ground_none w next.not_ground),
            ap (smalls x) (ground_none parked own.not_ground),
          );
        })
        (again key p u w was next u_view)
        (again key q v parked own parked_is v_view)

    turned : Agrees key new words them.outs.items w
    turned =
        let has : 0 < u.share = omega (arith, was.share, p.some) in
        record {
          others = set a.others k parked;
          shares = a.shares;
          fit = fits;
          outs = holders_stay key them.outs.items a.others k u parked there has a.their_outs;
          their_outs = subst (λ (l : List ℕ). HaveHolders key l (set a.others k parked)) (sym outs)
              (holders_stay key bytes a.others k u parked there has a.outs);
          not_both = subst (λ (l : List ℕ). AreNotBoth them.outs.items l) (sym outs)
              (λ x. ⊎_elim (λ z. inr z) (λ z. inl z) (a.not_both x));
          parties = subst (λ (ps : List Party). AreOf key ps (set a.others k parked)) (sym parties)
              (parties_set key them.parties.items a.others k p q parked a.parties at parked_is);
        }

  -- the own view and the party's change places, and so do the blocks that they handed out
  pub turned_round : ∥ Agrees key them words bytes v ∥₁ → ∥ Agrees key new words them.outs.items w ∥₁
  turned_round agrees = ∥∥₁_map agrees (λ (a : Agrees key them words bytes v).
      let f = party_at key them.parties.items a.others k p a.parties at in
      turned a f.0 f.1.0 f.1.1)

-- the party has these parts
pub record HasParts (p : Party) (share : ℕ) (paid charged : Option Amount) (reserving : Option ℕ)
    (own : List FrameBlock) (filled : List ℕ) : Type 0 where
  pub share_is : share ≡ p.share
  pub paid_is : paid ≡ p.paid
  pub charged_is : charged ≡ p.charged
  pub reserving_is : reserving ≡ p.reserving
  pub own_is : own ≡ p.own.items
  pub filled_is : filled ≡ p.filled.items

viewed_as : (key : Key) (bytes : List ℕ) (p : Party) (share : ℕ) (paid charged : Option Amount) (reserving : Option ℕ)
    (own : List FrameBlock) (filled : List ℕ) (moves lost : ℕ) → HasParts p share paid charged reserving own filled
    → IsOf key p (plain_view key share bytes paid charged reserving own filled moves lost)
viewed_as key bytes p share paid charged reserving own filled moves lost h = record {
  named = refl;
  share = h.share_is;
  not_ground = refl;
  paid = h.paid_is;
  charged = h.charged_is;
  reserving = h.reserving_is;
  own = h.own_is;
  kept = refl;
  filled = h.filled_is;
}

module _ (key : Key) (words bytes bytes' : List ℕ) (them new : Company) (k : ℕ) (p q : Party)
    (s s' : ℕ) (d d' c c' : Option Amount) (r r' : Option ℕ) (o o' : List FrameBlock) (f f' : List ℕ) (n n' l l' : ℕ) where
  -- what was parked is the own view, and what was the own view is parked
  pub changed_places : get_elem? them.parties.items k ≡ some p
      → new.parties.items ≡ set them.parties.items k q → new.outs.items ≡ bytes → bytes' ≡ them.outs.items
      → HasParts q s d c r o f → HasParts p s' d' c' r' o' f'
      → ∥ Agrees key them words bytes (plain_view key s bytes d c r o f n l) ∥₁
      → ∥ Agrees key new words bytes' (plain_view key s' bytes' d' c' r' o' f' n' l') ∥₁
  changed_places at parties outs row own next agrees =
      let done = turned_round key words bytes (plain_view key s bytes d c r o f n l) (plain_view key s' bytes' d' c' r' o' f' n' l')
      them new k p q at (viewed_as key bytes q s d c r o f n l own)
      (viewed_as key bytes' p s' d' c' r' o' f' n' l' next) parties outs agrees in
      subst (λ (row : List ℕ). ∥ Agrees key new words row (plain_view key s' bytes' d' c' r' o' f' n' l') ∥₁) (sym row) done

-- What stands in a list of parties, told in three ways.

module _ {X : Type 0} where
  pub found_at : (xs : List X) (k : ℕ) (x : X) → k < length xs → x ≡ get_or xs k x → get_elem? xs k ≡ some x
  found_at [] k x h e = absurd (omega arith)
  found_at (y ∷ ys) zero x h e = ap some (sym e)
  found_at (y ∷ ys) (suc k) x h e = found_at ys k x (omega arith) e

  pub read_at : (xs : List X) (k : ℕ) (x : X) → k < length xs → x ≡ get_or xs k x → slice_get xs k ≡ Some x
  read_at [] k x h e = absurd (omega arith)
  read_at (y ∷ ys) zero x h e = ap Some (sym e)
  read_at (y ∷ ys) (suc k) x h e = read_at ys k x (omega arith) e

  pub written_at : (xs : List X) (k : ℕ) (x : X) → k < length xs → slice_get (set xs k x) k ≡ Some x
  written_at [] k x h = absurd (omega arith)
  written_at (y ∷ ys) zero x h = refl
  written_at (y ∷ ys) (suc k) x h = written_at ys k x (omega arith)

  pub reads_else : (xs : List X) (k : ℕ) (x : X) (i : ℕ) → i ≢ k → slice_get (set xs k x) i ≡ slice_get xs i
  reads_else [] k x i ne = refl
  reads_else (y ∷ ys) zero x zero ne = absurd (ne refl)
  reads_else (y ∷ ys) zero x (suc i) ne = refl
  reads_else (y ∷ ys) (suc k) x zero ne = refl
  reads_else (y ∷ ys) (suc k) x (suc i) ne = reads_else ys k x i (λ e. ne (ap suc e))

  pub all_at : (P : X → Type 0) (xs : List X) (k : ℕ) (x : X) → k < length xs → x ≡ get_or xs k x → All P xs → P x
  all_at P xs k x h e all = subst P (sym e) (all k x h)

  pub all_set : (P : X → Type 0) (xs : List X) (k : ℕ) (x : X) → P x → All P xs → All P (set xs k x)
  all_set P xs k x h all = All-set P xs k x h all

pub alike_self : (p : Party) → IsAlike p p
alike_self p = record {
  share = refl;
  own = refl;
  paid = refl;
  charged = refl;
  reserving = refl;
  filled = refl;
  moves = refl;
  lost = refl;
}

pub unmoved_self : (m : PlainMoves) → IsUnmoved m m
unmoved_self m = record {
  key = refl;
  words = refl;
  outs = refl;
  view = refl;
  their_outs = refl;
  parties = λ k p e. (p, (e, alike_self p));
}

one_of : {X : Type 0} (xs : List X) (k : ℕ) (x y : X) → slice_get xs k ≡ Some x → slice_get xs k ≡ Some y → x ≡ y
one_of xs k x y e f = let some : Some x ≡ Some y = sym e ∙ f in cc

-- the own view has what the party had, on the other side of the blocks that are out
pub stand_is : (p : Party) (now m : PlainMoves) → now.geometry ≡ m.geometry → now.sealed ≡ m.sealed → now.words ≡ m.words
    → now.outs ≡ m.them.outs → IsParked p now → own_stand now ≡ their_stand p m
stand_is p now m g s w o is = λ i. record {
  key = plain_key (g i) (s i);
  words = (w i).items;
  outs = (o i).items;
  view = plain_view (plain_key (g i) (s i)) (sym is.share i) (o i).items (sym is.paid i) (sym is.charged i) (sym is.reserving i)
      (sym is.own i).items (sym is.filled i).items (sym is.moves i) (sym is.lost i);
}

-- who changed places twice has all as before
module _ (who : ℕ) (a b c : PlainMoves) (there : IsTurned who a b) (back : IsTurned who b c) where
  first : IsParked there.went.0 c
  first = subst (λ (p : Party). IsParked p c) (one_of b.them.parties.items who _ _ back.came.1.0 there.went.1.0) back.came.1.1

  home : view_by c ≡ view_by a
  home = let p = first in let q = there.went.1.1 in λ i.
      plain_view
      (plain_key ((back.key.0 ∙ there.key.0) i) ((back.key.1 ∙ there.key.1) i))
      ((sym p.share ∙ q.share) i)
      ((back.outs.0 ∙ there.outs.1) i).items
      ((sym p.paid ∙ q.paid) i)
      ((sym p.charged ∙ q.charged) i)
      ((sym p.reserving ∙ q.reserving) i)
      ((sym p.own ∙ q.own) i).items
      ((sym p.filled ∙ q.filled) i).items
      ((sym p.moves ∙ q.moves) i)
      ((sym p.lost ∙ q.lost) i)

  alike : (k : ℕ) (p : Party) → slice_get a.them.parties.items k ≡ Some p
      → (q : Party) × ((slice_get c.them.parties.items k ≡ Some q) × IsAlike p q)
  alike k p is = ⊎_elim
      (λ (e : k ≡ who).
      let here : slice_get a.them.parties.items who ≡ Some p = subst (λ (j : ℕ). slice_get a.them.parties.items j ≡ Some p) e is in
      let was : IsParked p b = subst (λ (q : Party). IsParked q b) (one_of a.them.parties.items who _ _ there.came.1.0 here) there.came.1.1 in
      let q = back.went.0 in
      let now = back.went.1.1 in (
        q,
        (
          subst (λ (j : ℕ). slice_get c.them.parties.items j ≡ Some q) (sym e) back.went.1.0,
          record {
            share = was.share ∙ sym now.share;
            own = was.own ∙ sym now.own;
            paid = was.paid ∙ sym now.paid;
            charged = was.charged ∙ sym now.charged;
            reserving = was.reserving ∙ sym now.reserving;
            filled = was.filled ∙ sym now.filled;
            moves = was.moves ∙ sym now.moves;
            lost = was.lost ∙ sym now.lost;
          },
        ),
      ))
      (λ ne. (p, (back.others k ne ∙ there.others k ne ∙ is, alike_self p)))
      (cases_eq k who)

  pub turned_twice : IsUnmoved a c
  turned_twice = record {
    key = λ i. plain_key ((back.key.0 ∙ there.key.0) i) ((back.key.1 ∙ there.key.1) i);
    words = back.words ∙ there.words;
    outs = back.outs.0 ∙ there.outs.1;
    view = home;
    their_outs = back.outs.1 ∙ there.outs.0;
    parties = alike;
  }
