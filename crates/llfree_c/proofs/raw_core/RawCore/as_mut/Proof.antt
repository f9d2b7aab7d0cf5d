-- `as_mut` lends the core, and what lies behind the pointer follows it.
use Rattle.std.proofs.Common.{◌≡◌, ℕ, List, [], ◌∷◌, refl, sym, ap, ◌∙◌}
use seplogic.Ra.Ura.{Ura}
use base.Fraction.{full_share}
use mir.Raw.{raw as bare}
use mir.Syntax.{named}
use mir.Val.{Val, vptr}
use base.Logic.{ent, sep, never, fst∗}
use base.Fml.{GName, Fml, ftrue, fsep, flft}
use types.Logic.{Logic, sem}
use types.Kit.{‵, raw, ◌⊛◌, some, later, at_ret, ◌$◌, ◌∵◌, !, qed, by, move, keep, split, join, pick}
use types.Kit.{fsplit, fsplit3, fjoin, fpack, suffices, frame, done, use1, await, group, rewrite}
use types.Part.{whole, sub, look_in}
use types.Run.{stop, fld, load, of_opd, first, blocks, exec, returns, enter, addr}
use types.ByLocal.{alloc_all, pass_all, free_all, look_at, get, through, sets, env, sets_last}
use contract.Monad.{fact}
use contract.Running.{tables}
use denote.Exit.{no}
use denote.Follow.{follows, Part, lends_Part}
use denote.Memory.{part_at, mem, cell_at, part_of, lone}
use denote.RattleType.{RattleType}
use denote.RawPtr.{Ptr, block_ptr, null_ptr, ptr_val, in_a_block}
use denote.Ref.{MutRef, mut_vals, mut_Tells}
use denote.Signature.{plain, mut_ref_to}
use denote.Steps.{nothing, opens, heard}
use denote.Triple.Walked.{says, Stays, stay_dropped, walk_of, ends_at, Goes-spent_ref}
use Rattle.std.proofs.VecSteps.Shapes.{after}
use Rattle.std.proofs.raw_atomic.Walks.{proved}
use Rattle.std.specs.Box.Ownership.{box_owns}
use Rattle.std.specs.Prelude.{Option, Some, IsSome}
use Rattle.std_heap.specs.contracts.GlobalAllocator.TheImpl.{ghosts}
use Rattle.llfree_c.specs.Handles.{heap, owned_if}
use Rattle.llfree_c.specs.LentCores.{with_core}
use Rattle.zone_slots.specs.contracts.core_state.CoreState as held
use Rattle.llfree_c.specs.contracts.raw_core.RawCore.as_mut as f
use Rattle.llfree_c.proofs.Options.{some_of}
use Rattle.llfree_c.proofs.RawPointers.{word, Raw, raw_out, raw_in}
use Rattle.llfree_c.proofs.CorePointer.{pointer}
use Rattle.llfree_c.proofs.raw_core.RawCore.as_mut.Statement.{statement}
use Rattle.llfree_c.proofs.raw_core.RawCore.as_mut.Code as code

abbrev R : RattleType
R = Raw held.the_row pointer

abbrev T : RattleType
T = held.the_row

abbrev stayed : Stays f.ended.signature.params f.ended.kept
stayed = (stay_dropped (mut_ref_to (0 ∷ []) tt (plain (λ _. R))) no, tt)

-- the right to free the block
abbrev token : Ptr → Fml
token p = ghosts.dealloc_token heap (bare (lone T.mir)) p

module _ {M : Type 1} {𝓤 : Ura M} (𝓛 : Logic 𝓤) (b o b' o' : ℕ) (h : R.Denot) (at : h.at ≡ block_ptr b' o') where
  -- all that the pointer owns but the core, and where it lies
  abbrev Rest : Fml
  Rest = fsep (token (block_ptr b' o')) (cell_at full_share R.mir (word (vptr b' o') ∷ []) b o)

  back : (w : T.Denot) → ent 𝓤 (sep 𝓤 (sem 𝓛 ((mem T).own_at w b' o')) (sem 𝓛 Rest)) (sem 𝓛 ((mem R).own_at (with_core h w) b o))
  unfolding part_of
  back w =
      qed 𝓛 (‵ (part_at T full_share w b' o') ∷ ‵ Rest ∷ []) ∵ move ! (1 ∷ []) $ fsplit ! $ move ! (2 ∷ 0 ∷ []) $ fjoin ! $
      raw_in T pointer ! (block_ptr b' o') (Some w) $
      rewrite ! 0 (λ (p : Ptr). ‵ (R.own_val (record { at = p; value = Some w }) (word (vptr b' o') ∷ []))) (sym at) refl $
      move ! (1 ∷ 0 ∷ []) $ fjoin ! $
      fpack ! (List Val) (λ us. fsep (cell_at full_share R.mir us b o) (R.own_val (with_core h w) us)) (word (vptr b' o') ∷ []) $ done !

pub as_mut_spec : {M : Type 1} → statement M
as_mut_spec 𝓤 𝓛 𝓜 𝓡 wired =
    let c = f.clauses 𝓛 𝓜.mem 𝓡.returns in let W = walk_of 𝓛 f.ended stayed c in let 𝓣 = tables 𝓤 𝓛.H 𝓜 𝓡 𝓡.env in
    proved 𝓛 f.ended stayed c 𝓜 𝓡 (Goes-spent_ref 𝓛 1 (0 ∷ []) tt (plain (λ _. R)), tt)
    f.Key.name code.function (code.unfolded 𝓤 𝓛.H 𝓜 𝓡 wired)
    (λ κs. (mut_vals, tt)) (λ κs. (mut_Tells (named 0) κs.0 R, tt)) (λ κs qs bounds a _ are.
    let κ = κs.0 in let q = qs.0 in let b = a.0.ref_ptr.0 in let o = a.0.ref_ptr.1 in let γ = a.0.ghost_name in
    let h = a.0.now in let vs = mut_vals a.0 in let y : W.Ghost = ((κs, qs, bounds, a, (vs, tt)), tt) in
    let Asked : Type 0 = IsSome h.value in
    qed 𝓛 (((‵ (flft κ q) ⊛ ‵ ftrue) ⊛ ‵ ((MutRef (named 0) κ R).own_val a.0 vs) ⊛ ‵ ftrue) ∷ raw (fact 𝓤 Asked) ∷ []) ∵
    move ! (1 ∷ []) $ heard ! Asked (λ asked. let x = some_of h.value asked in
    split ! $ split ! $ move ! (2 ∷ []) $ split ! $ keep ! (0 ∷ 2 ∷ []) $
    enter ! _ _ _ _ _ $ alloc_all ! (λ l. pass_all ! refl ((tt, tt), tt) $
    fsplit3 ! $ move ! (1 ∷ 2 ∷ 3 ∷ []) $ opens ! tt R b o (λ us. move ! (1 ∷ []) $
    raw_out T pointer ! h us (λ ws. rewrite ! 0 (λ (v : Option T.Denot). ‵ (owned_if T h.at v)) x.1 refl $
    in_a_block ! h.at (λ p. box_owns (ghosts.dealloc_token heap) T p x.0) (fst∗ 𝓤 (never 𝓤) (sem 𝓛 (token null_ptr))) (λ b' o' e.
    fsplit ! $
    rewrite ! 2 (λ (vs : List Val). ‵ (cell_at full_share R.mir vs b o)) (ws ∙ ap (λ (p : Ptr). word (ptr_val p) ∷ []) e) refl $
    -- [the core; the right to free its block; the pointer's cell; the open borrow, in three entries]
    first ! $ blocks ! $
    sets ! (of_opd ! (load ! (through ! refl (fld ! refl (stop !))) (look_in ! 2 (sub ! 0 refl (whole !))))) refl (tt, tt) $
    sets ! (of_opd ! (get ! refl)) refl (tt, tt) $
    sets_last ! (addr ! (through ! refl (stop !))) refl (tt, tt) $
    exec ! 𝓣.C 𝓣.Λ (env code.Mir.locals l) (after 1 (code.function).body) (at_ret _ (W.post y)) $
    sets ! (of_opd ! (get ! refl)) refl (tt, tt) $
    move ! (1 ∷ 2 ∷ []) $ fjoin ! $ move ! (2 ∷ 3 ∷ 4 ∷ 1 ∷ 0 ∷ []) $ group ! 5 $
    use1 𝓛 (later (some (λ (γ' : GName). raw (Part 𝓛 R T (with_core h) (named 0) κ q b o b' o' γ (sem 𝓛 (Rest 𝓛 b o b' o' h e)) (back 𝓛 b o b' o' h e) x.0 γ'))))
    (lends_Part 𝓛 R T (with_core h) (named 0) κ q b o b' o' γ (sem 𝓛 (Rest 𝓛 b o b' o' h e)) (back 𝓛 b o b' o' h e) (R.coded.code h) (R.coded.code h) x.0) $ await ! tt $ pick ! (λ γ'.
    returns ! (look_at ! 0 refl) $ free_all ! refl $ keep ! (0 ∷ []) $
    let r : (MutRef (named 0) κ T).Denot = record { ref_ptr = (b', o'); ghost_name = γ'; now = x.0 } in
    by ! (qed 𝓛 (‵ ((MutRef (named 0) κ T).own_val r (vptr b' o' ∷ [])) ∷ ‵ (flft κ q) ∷ ‵ (follows R T γ γ' (with_core h)) ∷ []) ∵
    suffices ! _ (ends_at 𝓛 f.ended stayed c y (vptr b' o') r (tt, tt) (tt, tt)) $
    nothing ! $ nothing ! $ fjoin ! $ join ! $ nothing ! $ move ! (2 ∷ 0 ∷ []) $ join ! $ join ! $ frame ! $ says ! x.1 $ done !))))))))
