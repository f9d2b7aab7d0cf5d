-- A struct of one pointer that owns what it points to, or nothing, whatever the type behind it: its machine value, that
-- it may cross threads, and the walks of the three functions that make it and take it apart. Assumes `Logic`.
use Rattle.std.proofs.Common.{◌≡◌, ℕ, List, [], ◌∷◌, ◌++◌, ◌^◌, ◌<◌, arith, refl, sym, ap, subst, ◌∙◌, w64}
use seplogic.Ra.Ura.{Ura}
use mathlib.Core.List.{map}
use mir.Syntax.{Ty, ty_ptr, Body, Fn, Callee, local, value_local, seq, assign, place, field, rv_opd}
use mir.Syntax.{copy, aggregate, int, return}
use mir.Raw.{raw as bare}
use mir.Val.{Val, vint, vptr, vstruct, vcons, vnil, of_list}
use base.Logic.{SProp, emp, never, fst∗}
use base.Fml.{ftrue}
use base.Shift.{Keyless}
use prog.Model.{Model}
use prog.Wp.{WpFn, Closed}
use types.Logic.{Logic, sem}
use contract.Monad.{fact, fact_i}
use contract.Running.{Running, MachineTables, tables}
use types.Kit.{Item, Goal, Seq, Step, step, ‵, raw, ◌⊛◌, prop, ◌$◌, ◌∵◌, !, qed, by, move, keep, drop}
use types.Kit.{use0, split, regoal, fsplit, fjoin, fpick, fpack, feq_i, feq_l, rewrite}
use types.Part.{whole, sub, agg}
use types.Run.{stop, fld, of_opd, lit, no_more, and_then, returns, enter}
use types.ByLocal.{alloc_all, pass_all, free_all, look_at, get, get_in, sets}
use denote.Exit.{yes, hidden, under}
use denote.RattleType.{RattleType, Valss, owns}
use denote.Builtin.{RawPtr}
use denote.Memory.{lone}
use denote.RawPtr.{Ptr, block_ptr, null_ptr, ptr_val, in_a_block}
use denote.Signature.{Slot, Signature, types_at, plain}
use denote.Steps.{nothing, heard}
use denote.Struct.Field.{RawPtr-field}
use denote.Struct.Struct.{within, exits_of}
use denote.Struct.Owning.{Owning, shape, fields, to, row}
use denote.Param.Send.{IsSend, AllSend, owning_send, struct_send, sendable}
use denote.Triple.Clauses.{Ended, Clauses, closing}
use denote.Triple.Entry.{alive}
use denote.Triple.Spec.{Meets}
use denote.Triple.Walked.{Stays, stay_dropped, walk_of}
use Rattle.core.proofs.alloc.Calls.{Goes-blank, handle_tells}
use Rattle.std.proofs.raw_atomic.Walks.{proved_at, leaves}
use Rattle.std.specs.Prelude.{Option, Some, None}
use Rattle.std.specs.Box.Ownership.{box_owns}
use Rattle.std.specs.contracts.alloc.Global as global
use Rattle.std.proofs.alloc.Global.TheLaws as global_laws
use Rattle.std_alloc.proofs.SendSync.{quiet, lies}
use Rattle.std_heap.proofs.GlobalAllocator.TheSendSync.{the_frees}
use Rattle.std_heap.specs.contracts.GlobalAllocator.TheImpl.{ghosts}
use Rattle.llfree_c.specs.Handles.{heap, owned_if}
use Rattle.llfree_c.specs.contracts.loose.Loose as loose
use Rattle.llfree_c.proofs.Values.{both, al, loose_good, loose_in, loose_out}

-- a struct of one pointer that owns a value of R's or nothing: how it is read, and how it is made
pub record Pointer (R : RattleType) : Type 2 where
  pub struct : Owning
  pub at : struct.D → Ptr
  pub value : struct.D → Option R.Denot
  pub make : Ptr → Option R.Denot → struct.D
  pub at_made : (p : Ptr) (x : Option R.Denot) → at (make p x) ≡ p
  pub value_made : (p : Ptr) (x : Option R.Denot) → value (make p x) ≡ x

abbrev pub word : Val → Val
word v = vstruct (vcons v vnil)

abbrev Z : RattleType
Z = global.the_row

-- a function of so many parameters, with locals of these types
abbrev function : ℕ → List Ty → Body → Fn
function n τs b = record {
  lifetimes = 0;
  outlives = [];
  ty_params = [];
  givens = 0;
  params = n;
  locals = map (λ τ. local τ value_local) τs;
  body = b;
}

abbrev taking : List (Slot 0) → Slot 0 → Signature
taking ps r = record { lifetimes = 0; outlives = []; params = ps; result = r }

module _ (R : RattleType) (P : Pointer R) where
  -- the struct again, with what it owns written out
  abbrev type : Owning
  type = record {
    name = P.struct.name;
    args = [];
    types = [];
    parts = RawPtr-field ∷ [];
    D = P.struct.D;
    as_values = λ d. (P.at d, tt);
    coded = P.struct.coded;
    heap = λ d. owned_if R (P.at d) (P.value d);
    exit = λ k. hidden (under (λ d. (P.at d, tt)) (exits_of k (RawPtr ∷ [])));
    shr_at = P.struct.shr_at;
  }

  abbrev pub Raw : RattleType
  Raw = row type

  abbrev Loose : RattleType
  Loose = loose.the_row R Z ghosts

  owned_keyless : IsSend R → (p : Ptr) (o : Option R.Denot) → Keyless (owned_if R p o)
  owned_keyless s p (Some x) = (lies R s p x, the_frees.frees heap (bare (lone R.mir)) p)
  owned_keyless s p None = tt

  pub pointer_send : IsSend R → IsSend Raw
  pointer_send s =
      let all : AllSend (fields type) = (search sendable, tt) in
      owning_send type all (λ d. owned_keyless s (P.at d) (P.value d))
      (λ k. quiet (to type) (exits_of k (fields type)) ((struct_send (shape type) all).leaving k))

  module _ {M : Type 1} {𝓤 : Ura M} {𝓛 : Logic 𝓤} {K : Type 0} {Γ : List (Item 𝓤)} {G : Goal 𝓤 𝓛.H} where
    pub raw_out : K → (d : P.struct.D) (vs : List Val) → ((ws : vs ≡ word (ptr_val (P.at d)) ∷ [])
        → Seq K 𝓛 (‵ (owned_if R (P.at d) (P.value d)) ∷ Γ) G) → Seq K 𝓛 (‵ (Raw.own_val d vs) ∷ Γ) G
    raw_out t d vs k = fsplit t $ fpick t (λ vss. fsplit t $ feq_l t (λ ev. fsplit t $ feq_l t (λ ep. drop t $
        k (subst (λ (ps : List Val). vs ≡ vstruct (of_list (ps ++ [])) ∷ []) ep ev))))

    pub raw_in : K → (p : Ptr) (x : Option R.Denot)
        → Step K 𝓛 (‵ (Raw.own_val (P.make p x) (word (ptr_val p) ∷ [])) ∷ Γ) G (‵ (owned_if R p x) ∷ Γ) G
    raw_in t p x = step (λ s. let w : Val = word (ptr_val p) in let d : P.struct.D = P.make p x in
        rewrite t 0 (λ (q : Ptr). ‵ (owned_if R q x)) (sym (P.at_made p x)) refl $
        rewrite t 0 (λ (y : Option R.Denot). ‵ (owned_if R (P.at d) y)) (sym (P.value_made p x)) refl $
        nothing t $ feq_i t (List Val) (ptr_val p ∷ []) (ptr_val (P.at d) ∷ [])
        (ap (λ (q : Ptr). ptr_val q ∷ []) (sym (P.at_made p x))) $ fjoin t $
        feq_i t (List Val) (w ∷ []) (w ∷ []) refl $ fjoin t $
        fpack t (Valss (RawPtr ∷ [])) (within (shape type) (P.at d, tt) (w ∷ [])) (ptr_val p ∷ [], tt) $ fjoin t $ s)

  -- `nothing` owns nothing at null
  abbrev nothing_code : Fn
  nothing_code =
      function 0 (lone Raw.mir ∷ []) (seq (assign (place 0 []) (aggregate (int w64 0 ∷ []))) return)

  abbrev nothing_ended : Ended
  nothing_ended = record { signature = taking [] (plain (λ _. Raw)); kept = tt }

  -- `of` keeps the pointer, and what the pointer's owner had
  abbrev of_code : Fn
  of_code = function 1 (lone Raw.mir ∷ lone Loose.mir ∷ ty_ptr ∷ ty_ptr ∷ []) (seq
      (assign (place 2 []) (rv_opd (copy (place 1 (field 0 ∷ []))))) (seq
      (assign (place 3 []) (rv_opd (copy (place 2 [])))) (seq
      (assign (place 0 []) (aggregate (copy (place 3 []) ∷ []))) return)))

  abbrev of_ended : Ended
  of_ended = record { signature = taking (plain (λ _. Loose) ∷ []) (plain (λ _. Raw)); kept = (yes, tt) }

  -- `into_loose` gives what the open handle's pointer owns
  abbrev into_code : Fn
  into_code = function 2 (lone Loose.mir ∷ lone Raw.mir ∷ lone Z.mir ∷ ty_ptr ∷ ty_ptr ∷ []) (seq
      (assign (place 3 []) (rv_opd (copy (place 1 (field 0 ∷ []))))) (seq
      (assign (place 4 []) (rv_opd (copy (place 3 [])))) (seq
      (assign (place 0 []) (aggregate (copy (place 4 []) ∷ copy (place 2 []) ∷ []))) return)))

  abbrev into_ended : Ended
  into_ended = record {
    signature = taking (plain (λ _. Raw) ∷ plain (λ _. Z) ∷ []) (plain (λ _. Loose));
    kept = (yes, (yes, tt));
  }

  module _ {M : Type 1} (𝓤 : Ura M) (𝓛 : Logic 𝓤) where
    abbrev nothing_clauses : Clauses 𝓤 nothing_ended
    nothing_clauses = λ κs a. record {
      ghost = Unit {0};
      requires = λ g. emp 𝓤;
      ensures = λ g r e. fact 𝓤 (P.value r ≡ None);
    }

    abbrev of_clauses : Clauses 𝓤 of_ended
    of_clauses = λ κs a. record {
      ghost = Unit {0};
      requires = λ g. emp 𝓤;
      ensures = λ g r e. fact 𝓤 (P.value r ≡ Some a.0.value);
    }

    abbrev into_clauses : Clauses 𝓤 into_ended
    into_clauses = λ κs a. record {
      ghost = Unit {0};
      requires = λ g. fact 𝓤 ((x : R.Denot) × (P.value a.0 ≡ Some x));
      ensures = λ g r e. fact 𝓤 (P.value a.0 ≡ Some r.value);
    }

    module _ (𝓜 : Model 𝓤 𝓛.H) (𝓡 : Running 𝓤 𝓛.H 𝓜) (k : Callee) where
      open 𝓛 use {H}

      abbrev 𝓣 : MachineTables 𝓤 H 𝓜
      𝓣 = tables 𝓤 H 𝓜 𝓡 𝓡.env

      -- the function meets its contract where its body is what it runs
      abbrev Met : (En : Ended) → Clauses 𝓤 En → Fn → Type 2
      Met En c fn = Closed 𝓤 H 𝓣.C 𝓣.Λ k fn → Meets 𝓛 En.signature (𝓣.C k) (closing 𝓛 En c)

      pub nothing_meets : Met nothing_ended nothing_clauses nothing_code
      nothing_meets closed =
          let En = nothing_ended in let c = nothing_clauses in let fn : Fn = nothing_code in
          let none : Option R.Denot = None in let r : P.struct.D = P.make null_ptr none in
          let zero_fits : 0 < 2 ^ 64 = omega arith in
          let hs : Stays En.signature.params En.kept = tt in
          proved_at 𝓛 En hs c 𝓜 𝓡 tt k fn closed (λ z are.
          let Post : Val → SProp 𝓤 = (walk_of 𝓛 En hs c).post z in
          qed 𝓛 ((raw (alive 𝓛 En.signature z.0.0 z.0.1) ⊛ ‵ (owns
          (types_at En.signature.params z.0.0) z.0.3 z.0.4)) ∷ ‵ ftrue ∷ []) ∵ move ! (1 ∷ []) $ drop ! $
          split ! $ move ! (1 ∷ []) $ drop ! $
          enter ! 𝓣.C 𝓣.Λ fn [] Post $ alloc_all ! (λ l. pass_all ! refl tt $
          sets ! (agg ! (and_then ! (lit ! tt) (no_more !))) refl (tt, (record { fits = zero_fits }, tt)) $
          nothing ! $ raw_in ! null_ptr none $
          use0 𝓛 (raw (fact 𝓤 (P.value r ≡ none))) (fact_i 𝓤 (P.value r ≡ none) (emp 𝓤) (P.value_made null_ptr none)) $ nothing ! $
          returns ! (look_at ! 0 refl) $ free_all ! refl $ keep ! (3 ∷ 0 ∷ 2 ∷ 1 ∷ []) $
          by ! (leaves 𝓛 En hs c z (word (vint w64 0)) r tt tt)))

      pub of_meets : Met of_ended of_clauses of_code
      of_meets closed =
          let En = of_ended in let c = of_clauses in let fn : Fn = of_code in let LZ = global_laws.the_row_laws in
          let hs : Stays En.signature.params En.kept = (stay_dropped (plain (λ _. Loose)) En.kept.0, tt) in
          proved_at 𝓛 En hs c 𝓜 𝓡 (Goes-blank 𝓛 0 (plain (λ _. Loose)) En.kept.0 (λ κs x f. tt), tt) k fn closed (λ z are.
          let Post : Val → SProp 𝓤 = (walk_of 𝓛 En hs c).post z in let v = z.0.3.0 in
          qed 𝓛 ((raw (alive 𝓛 En.signature z.0.0 z.0.1) ⊛ ‵ (owns
          (types_at En.signature.params z.0.0) z.0.3 z.0.4)) ∷ ‵ ftrue ∷ []) ∵ move ! (1 ∷ []) $ drop ! $
          split ! $ move ! (1 ∷ []) $
          fsplit ! $ loose_out R Z LZ ghosts ! v z.0.4.0 (λ b o h e ws fits.
          let r : P.struct.D = P.make (block_ptr b o) (Some v.value) in
          regoal ! (λ (us : List Val). prop (WpFn 𝓤 H 𝓣.C 𝓣.Λ fn us Post)) (λ i. ws i ++ []) refl $
          enter ! 𝓣.C 𝓣.Λ fn (both (vptr b o) h ∷ []) Post $ alloc_all ! (λ l. pass_all ! refl (loose_good R Z LZ ghosts b o h fits, tt) $
          sets ! (of_opd ! (get_in ! (fld ! refl (stop !)) (sub ! 0 refl (whole !)))) refl (tt, tt) $
          sets ! (of_opd ! (get ! refl)) refl (tt, tt) $
          sets ! (agg ! (and_then ! (get ! refl) (no_more !))) refl (tt, (tt, tt)) $
          raw_in ! (block_ptr b o) (Some v.value) $
          use0 𝓛 (raw (fact 𝓤 (P.value r ≡ Some v.value))) (fact_i 𝓤 (P.value r ≡ Some v.value)
          (emp 𝓤) (P.value_made (block_ptr b o) (Some v.value))) $ nothing ! $ nothing ! $ fjoin ! $
          returns ! (look_at ! 0 refl) $ free_all ! refl $ keep ! (5 ∷ 0 ∷ 2 ∷ 1 ∷ []) $
          by ! (leaves 𝓛 En hs c z (word (vptr b o)) r (tt, tt) (tt, tt)))))

      pub into_meets : Met into_ended into_clauses into_code
      into_meets closed =
          let En = into_ended in let c = into_clauses in let fn : Fn = into_code in let LZ = global_laws.the_row_laws in
          let hs : Stays En.signature.params En.kept = (
            stay_dropped (plain (λ _. Raw)) En.kept.0,
            (stay_dropped (plain (λ _. Z)) En.kept.1.0, tt),
          ) in
          proved_at 𝓛 En hs c 𝓜 𝓡 (
            Goes-blank 𝓛 0 (plain (λ _. Raw)) En.kept.0 (λ κs x f. tt),
            (Goes-blank 𝓛 0 (plain (λ _. Z)) En.kept.1.0 (λ κs x f. tt), tt),
          ) k fn closed (λ z are.
          let Post : Val → SProp 𝓤 = (walk_of 𝓛 En hs c).post z in let v = z.0.3.0 in let a = z.0.3.1.0 in
          let Asked : Type 0 = (x : R.Denot) × (P.value v ≡ Some x) in
          qed 𝓛 ((raw (alive 𝓛 En.signature z.0.0 z.0.1) ⊛ ‵ (owns
          (types_at En.signature.params z.0.0) z.0.3 z.0.4)) ∷ raw (fact 𝓤 Asked) ∷ []) ∵ move ! (1 ∷ []) $
          heard ! Asked (λ asked. split ! $ move ! (1 ∷ []) $
          let x = asked.0 in
          fsplit ! $ raw_out ! v z.0.4.0 (λ ws. rewrite ! 0 (λ (y : Option R.Denot). ‵ (owned_if R (P.at v) y)) asked.1 refl $
          in_a_block ! (P.at v) (λ p. box_owns (ghosts.dealloc_token a) R p x) (fst∗ 𝓤 (never 𝓤) (sem 𝓛
          (ghosts.dealloc_token a (bare (lone R.mir)) null_ptr))) (λ b o e.
          move ! (1 ∷ []) $ fsplit ! $ handle_tells (al R Z LZ ghosts) ! a z.0.4.1.0 (λ h eh fits.
          -- [the handle; nothing; the box's memory; the tokens]
          move ! (2 ∷ 0 ∷ []) $
          let w : Val = word (vptr b o) in
          let ew : z.0.4.0 ≡ w ∷ [] = ws ∙ ap (λ (p : Ptr). vstruct (of_list (ptr_val p ∷ [])) ∷ []) e in
          regoal ! (λ (us : List Val). prop (WpFn 𝓤 H 𝓣.C 𝓣.Λ fn us Post)) (λ i. ew i ++ (eh i ++ [])) refl $
          enter ! 𝓣.C 𝓣.Λ fn (w ∷ h ∷ []) Post $ alloc_all ! (λ l. pass_all ! refl ((tt, (tt, tt)), (fits, tt)) $
          sets ! (of_opd ! (get_in ! (fld ! refl (stop !)) (sub ! 0 refl (whole !)))) refl (tt, tt) $
          sets ! (of_opd ! (get ! refl)) refl (tt, tt) $
          sets ! (agg ! (and_then ! (get ! refl) (and_then ! (get ! refl) (no_more !)))) refl (loose_good R Z LZ ghosts b o h fits) $
          loose_in R Z LZ ghosts ! b o h a x $
          use0 𝓛 (raw (fact 𝓤 (P.value v ≡ Some x))) (fact_i 𝓤 (P.value v ≡ Some x) (emp 𝓤) asked.1) $ nothing ! $
          nothing ! $ fjoin ! $ nothing ! $ fjoin ! $
          returns ! (look_at ! 0 refl) $ free_all ! refl $ keep ! (4 ∷ 0 ∷ 2 ∷ 1 ∷ []) $
          by ! (leaves 𝓛 En hs c z (both (vptr b o) h) (record { at = block_ptr b o; alloc = a; value = x }) (tt, (tt, tt)) (tt, (tt, tt)))))))))
