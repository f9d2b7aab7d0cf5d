-- What the members of plain moves tell of their state: the laws of the trait hold of it.
use Rattle.std.specs.Prelude.{◌≡◌, ℕ, List, [], ◌∷◌, Option, Some, Bool}
use Rattle.std.specs.List.{All}
use Rattle.std.proofs.Common.{zero, suc, refl, subst, ◌∙◌, arith}
use Rattle.std.proofs.Math.Logic.{∥∥₁_elim, ∥∥₁_map}
use Rattle.std.proofs.Math.Bridge.{le_prop}
use Rattle.std.proofs.Math.Nat.{ℕ_set}
use Rattle.std.proofs.lemmas.List.Elements.{All-head, All-tail, All-cons}
use lib.ListN.{get_elem?}
use mathlib.Core.Option.{some}
use Rattle.frame_words.specs.declared.geometry.Geometry.{Geometry}
use Rattle.frame_model.specs.declared.block.FrameBlock.{FrameBlock}
use Rattle.frame_model.specs.declared.key.Key.{Key}
use Rattle.frame_model.specs.declared.view.View.{View}
use Rattle.frame_model.specs.Key.{AreSizes}
use Rattle.frame_model.specs.Block.{IsBlock}
use Rattle.frame_model.specs.View.{holder, IsViewOf}
use Rattle.frame_model.specs.Fit.{Fit}
use Rattle.frame_core.specs.Moves.{IsAtRest}
use Rattle.frame_core.specs.Mover.{FitsOthers, Ticks}
use Rattle.frame_core.specs.Movers.{sizes_of, fills_none}
use Rattle.plain_moves.specs.declared.plain.party.Party.{Party}
use Rattle.plain_moves.specs.declared.plain.party.Company.{Company}
use Rattle.plain_moves.specs.Plain.{plain_key, plain_tick, is_plain_exact, plain_mover, IsIdleParty, HasNoShare, IsOutIn, IsOf, AreOf, HaveHolders, Agrees}

pub plain_ticks : Ticks plain_tick is_plain_exact
plain_ticks = record {
  most = λ n. omega arith;
  up = λ n h. omega arith;
  below = λ m n le h. omega arith;
  early = λ n h. omega arith;
}

All-of : {X : Type 0} (P : X → Type 0) (xs : List X) (i : ℕ) (x : X) → All P xs → get_elem? xs i ≡ some x → P x
All-of P [] i x all e = absurd (cc)
All-of P (y ∷ ys) zero x all e = let h : y ≡ x = cc in subst P h (All-head P y ys all)
All-of P (y ∷ ys) (suc i) x all e = All-of P ys i x (All-tail P y ys all) e

pub held_block : (key : Key) (us : List View) (bytes : List ℕ) (b : FrameBlock)
    → All (IsViewOf key) us → HaveHolders key bytes us → IsOutIn bytes b → IsBlock key b
held_block key us bytes b all held out =
    let at = held b out in
    All-head (IsBlock key) b [] (All-of (IsViewOf key) us at.0 (holder (Some key) b) all at.1).own

pub out_block : {them : Company} (key : Key) (words bytes : List ℕ) (v : View) (b : FrameBlock)
    → Agrees key them words bytes v → IsOutIn bytes b → IsBlock key b
out_block key words bytes v b a out =
    held_block key a.others bytes b (All-tail (IsViewOf key) v a.others a.fit.each) a.outs out

-- a block that is out is one of the key
pub plain_outs : {them : Company} (key : Key) (words bytes : List ℕ) (v : View) (b : FrameBlock)
    → ∥ Agrees key them words bytes v ∥₁ → IsOutIn bytes b → IsBlock key b
plain_outs {them} key words bytes v b agrees out = record {
  order = ∥∥₁_elim agrees le_prop (λ (a : Agrees key them words bytes v). (out_block key words bytes v b a out).order);
  aligned = ∥∥₁_elim agrees (ℕ_set _ _) (λ (a : Agrees key them words bytes v). (out_block key words bytes v b a out).aligned);
  inside = ∥∥₁_elim agrees le_prop (λ (a : Agrees key them words bytes v). (out_block key words bytes v b a out).inside);
}

-- the own view is one of the memory
own_is : {them : Company} (key : Key) (words bytes : List ℕ) (v : View)
    → ∥ Agrees key them words bytes v ∥₁ → ∥ IsViewOf key v ∥₁
own_is {them} key words bytes v agrees =
    ∥∥₁_map agrees (λ (a : Agrees key them words bytes v). All-head (IsViewOf key) v a.others a.fit.each)

-- and with no block in flight it has filled no word
pub plain_fills : {them : Company} (key : Key) (words bytes : List ℕ) (v : View)
    → ∥ Agrees key them words bytes v ∥₁ → v.own ≡ [] → v.filled ≡ []
plain_fills key words bytes v agrees own = fills_none key v (own_is key words bytes v agrees) own

-- the sizes are those of the geometry
pub plain_sizes : (geometry : Geometry) (sealed : Bool) → AreSizes (plain_key geometry sealed)
plain_sizes geometry sealed = sizes_of (plain_key geometry sealed) geometry (refl, refl, refl)

no_share_rests : (us : List View) → All HasNoShare us → All IsAtRest us
no_share_rests us all = λ k u h some. absurd (omega (arith, all k u h, some))

idle_rests : (key : Key) (p : Party) (u : View) → IsOf key p u → IsIdleParty p → IsAtRest u
idle_rests key p u of idle has = record {
  share = has;
  paid = of.paid ∙ idle.paid;
  charged = of.charged ∙ idle.charged;
  reserving = of.reserving ∙ idle.reserving;
  own = of.own ∙ idle.own;
}

-- where every party of the company is idle, no other view with a share has anything in flight
all_rest : (key : Key) (ps : List Party) (us : List View) → AreOf key ps us → All IsIdleParty ps → All IsAtRest us
unfolding AreOf
all_rest key [] us of idle = no_share_rests us of
all_rest key (p ∷ ps) [] of idle = absurd of
all_rest key (p ∷ ps) (u ∷ us) of idle =
    All-cons IsAtRest u us (idle_rests key p u of.0 (All-head IsIdleParty p ps idle))
    (all_rest key ps us of.1 (All-tail IsIdleParty p ps idle))

-- all words fit with the own view and others; where the company is idle, each with a share is
pub plain_fits : (key : Key) (them : Company) (words bytes : List ℕ) (v : View) (ws : List ℕ)
    → ∥ Agrees key them words bytes v ∥₁
    → ◌≡◌ {A = Option (List ℕ)} (Some words) (Some ws)
    → ∥ FitsOthers (plain_mover key them words bytes v) ws ∥₁
plain_fits key them words bytes v ws agrees e =
    let same : words ≡ ws = cc in
    ∥∥₁_map agrees (λ (a : Agrees key them words bytes v).
    let fit : Fit key a.shares ws (v ∷ a.others) = subst (λ (l : List ℕ). Fit key a.shares l (v ∷ a.others)) same a.fit in
    (a.shares, (a.others, (fit, (λ idle. all_rest key them.parties.items a.others a.parties idle)))))
