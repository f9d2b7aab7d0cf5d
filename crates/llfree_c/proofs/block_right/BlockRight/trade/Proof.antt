-- `trade` moves what each owns to the other.
use Rattle.atomic_table.proofs.Names.{◌≡◌, ℕ, List, [], ◌∷◌, refl, named, Fn, Val, vunit, vptr, SProp}
use Rattle.atomic_table.proofs.Names.{emp, ftrue, flft, ‵, raw, ◌⊛◌, ◌$◌, ◌∵◌, !, qed, by, move, keep}
use Rattle.atomic_table.proofs.Names.{split, split3, join, fsplit, fsplit3, fjoin, fjoin3, use0, feq_i}
use Rattle.atomic_table.proofs.Names.{unit_lit, of_opd, returns, enter, alloc_all, pass_all, free_all}
use Rattle.atomic_table.proofs.Names.{look_at, sets, tables, RattleType, owns, types_at, plain, nothing}
use Rattle.atomic_table.proofs.Names.{Stays, walk_of, fact, fact_i, mut_vals, mut_Tells, opens, closes}
use Rattle.atomic_table.proofs.Names.{stay_ref, Goes-ref}
use Rattle.atomic_table.proofs.Walks.{proved, leaves}
use Rattle.frame_table.specs.declared.rule.Watch.{Watch}
use Rattle.frame_table.specs.contracts.rule.Watch as eye
use Rattle.atomic_table.specs.declared.badge.Badge.{Badge}
use Rattle.atomic_table.specs.contracts.badge.Badge as badge
use Rattle.llfree_c.proofs.BlockRights.{Right}
use Rattle.llfree_c.specs.contracts.block_right.BlockRight.trade.{ended, clauses}
use Rattle.llfree_c.specs.contracts.block_right.BlockRight.trade.Key.{name as #self}
use Rattle.llfree_c.proofs.block_right.BlockRight.trade.Statement.{statement}
use Rattle.llfree_c.proofs.block_right.BlockRight.trade.Code as code

pub trade_spec : {M : Type 1} → statement M
trade_spec 𝓤 𝓛 𝓜 𝓡 wired =
    let H = 𝓛.H in let 𝓣 = tables 𝓤 H 𝓜 𝓡 𝓡.env in let En = ended in let c = clauses 𝓛 𝓜.mem 𝓡.returns in let fn : Fn = code.function in
    let Br : RattleType = badge.the_row eye.the_row in let mine = plain (λ _. Right) in let theirs = plain (λ _. Br) in
    let hs : Stays En.signature.params En.kept = (stay_ref (0 ∷ []) tt mine, (stay_ref (1 ∷ []) tt theirs, tt)) in
    proved 𝓛 En hs c 𝓜 𝓡 (Goes-ref 𝓛 2 0 tt mine, (Goes-ref 𝓛 2 1 tt theirs, tt)) #self fn (code.unfolded 𝓤 H 𝓜 𝓡 wired)
    (λ κs. (mut_vals, (mut_vals, tt))) (λ κs. (
      mut_Tells (named 0) κs.0 Right,
      (
        mut_Tells
            (named 1) κs.1.0 Br,
        tt,
      ),
    )) (λ κs qs bounds a gh are.
    let b : ℕ = a.0.ref_ptr.0 in let o : ℕ = a.0.ref_ptr.1 in let d : ℕ = a.1.0.ref_ptr.0 in let e : ℕ = a.1.0.ref_ptr.1 in
    let mine' : Right.Denot = record { badge = a.1.0.now } in let theirs' : Badge Watch = a.0.now.badge in
    let Told : Type 0 = (mine'.badge ≡ a.1.0.now) × (theirs' ≡ a.0.now.badge) in
    let y : (walk_of 𝓛 En hs c).Ghost = (
      (
        κs,
        qs,
        bounds,
        a,
        (
          vptr b o ∷ [],
          (vptr d e ∷ [], tt),
        ),
      ),
      gh,
    ) in let Post : Val → SProp 𝓤 = (walk_of 𝓛 En hs c).post y in
    qed 𝓛 (((‵ (flft κs.0 qs.0) ⊛ ‵ (flft κs.1.0 qs.1.0) ⊛ ‵ ftrue) ⊛ ‵ (owns
    (types_at En.signature.params κs) a y.0.4)) ∷ raw ((c κs a).requires gh) ∷ []) ∵
    split ! $ split3 ! $ move ! (3 ∷ []) $ fsplit ! $ fsplit3 ! $ move ! (3 ∷ []) $ fsplit ! $
    fsplit3 ! $ keep ! (5 ∷ 6 ∷ 7 ∷ 1 ∷ 2 ∷ 8 ∷ []) $
    enter ! 𝓣.C 𝓣.Λ fn (vptr b o ∷ vptr d e ∷ []) Post $ alloc_all ! (λ l. pass_all ! refl ((tt, tt), ((tt, tt), tt)) $
    opens ! tt Right {h = a.0.now} b o (λ ts. move ! (5 ∷ 6 ∷ 7 ∷ []) $
    opens ! tt Br {h = a.1.0.now} d e (λ us. move ! (1 ∷ []) $ fsplit ! $ move ! (7 ∷ []) $ fsplit ! $
    -- [the one's bytes, and what it owns; the other's bytes, and what it owns; ..]
    move ! (0 ∷ 3 ∷ []) $ fjoin ! $ move ! (2 ∷ 1 ∷ []) $ fjoin ! $ move ! (2 ∷ 0 ∷ 3 ∷ 4 ∷ 5 ∷ []) $ closes ! tt Br theirs' us d e $
    move ! (4 ∷ 3 ∷ 5 ∷ 6 ∷ 7 ∷ []) $ closes ! tt Right mine' ts b o $
    feq_i ! (List Val) (vptr b o ∷ []) (vptr b o ∷ []) refl $ fjoin3 ! $
    move ! (2 ∷ 3 ∷ []) $ feq_i ! (List Val) (vptr d e ∷ []) (vptr d e ∷ []) refl $ fjoin3 ! $
    nothing ! $ move ! (1 ∷ 0 ∷ []) $ fjoin ! $ move ! (1 ∷ 0 ∷ []) $ fjoin ! $
    nothing ! $ move ! (3 ∷ 0 ∷ []) $ join ! $ move ! (2 ∷ 0 ∷ []) $ join ! $
    sets ! (of_opd ! (unit_lit !)) refl (tt, tt) $
    use0 𝓛 (raw (fact 𝓤 Told)) (fact_i 𝓤 Told (emp 𝓤) (refl, refl)) $
    feq_i ! (List Val) (vunit ∷ []) (vunit ∷ []) refl $
    returns ! (look_at ! 0 refl) $ free_all ! refl $ keep ! (2 ∷ 3 ∷ 0 ∷ 1 ∷ []) $
    by ! (leaves 𝓛 En hs c y vunit tt (mine', (theirs', tt)) (tt, (tt, tt)))))))
