-- `nothing` owns nothing.
use Rattle.atomic_table.proofs.Names.{◌≡◌, [], ◌∷◌, refl, Fn, Val, vstruct, vnil, SProp, emp, ‵, raw}
use Rattle.atomic_table.proofs.Names.{◌⊛◌, ◌$◌, ◌∵◌, !, qed, by, keep, split, use0, no_more, returns}
use Rattle.atomic_table.proofs.Names.{enter, alloc_all, pass_all, free_all, look_at, sets, agg, tables}
use Rattle.atomic_table.proofs.Names.{owns, types_at, nothing, alive, Stays, walk_of, fact, fact_i}
use Rattle.atomic_table.proofs.Walks.{proved, leaves}
use Rattle.frame_table.specs.declared.rule.Watch.{Watch}
use Rattle.atomic_table.specs.declared.badge.Badge.{Badge}
use Rattle.llfree_c.proofs.BlockRights.{right_in}
use Rattle.llfree_c.specs.contracts.block_right.BlockRight.nothing.{ended, clauses}
use Rattle.llfree_c.specs.contracts.block_right.BlockRight.nothing.Key.{name as #self}
use Rattle.llfree_c.proofs.block_right.BlockRight.nothing.Statement.{statement}
use Rattle.llfree_c.proofs.block_right.BlockRight.nothing.Code as code

pub nothing_spec : {M : Type 1} → statement M
nothing_spec 𝓤 𝓛 𝓜 𝓡 wired =
    let H = 𝓛.H in let 𝓣 = tables 𝓤 H 𝓜 𝓡 𝓡.env in let En = ended in let c = clauses 𝓛 𝓜.mem 𝓡.returns in let fn : Fn = code.function in
    let hs : Stays En.signature.params En.kept = tt in
    proved 𝓛 En hs c 𝓜 𝓡 tt #self fn (code.unfolded 𝓤 H 𝓜 𝓡 wired) (λ κs. tt) (λ κs. tt) (λ κs qs bounds a gh are.
    let b : Badge Watch = record {
      marker = record {};
      table_id = record {
        words = 0;
        slots = 0;
        views_name = 0;
        atom = 0;
        block = 0;
        offset = 0;
        slot_names = [];
      };
      id = 0;
      views = [];
    } in
    let y : (walk_of 𝓛 En hs c).Ghost = ((κs, qs, bounds, a, tt), gh) in let Post : Val → SProp 𝓤 = (walk_of 𝓛 En hs c).post y in
    qed 𝓛 ((raw (alive 𝓛 En.signature κs qs) ⊛ ‵ (owns (types_at En.signature.params κs) a y.0.4)) ∷ raw ((c κs a).requires gh) ∷ []) ∵
    split ! $ keep ! (0 ∷ []) $ nothing ! $ right_in ! b $
    enter ! 𝓣.C 𝓣.Λ fn [] Post $ alloc_all ! (λ l. pass_all ! refl tt $
    sets ! (agg ! (no_more !)) refl (tt, tt) $
    use0 𝓛 (raw (fact 𝓤 (b.views ≡ []))) (fact_i 𝓤 (b.views ≡ []) (emp 𝓤) refl) $ nothing ! $
    returns ! (look_at ! 0 refl) $ free_all ! refl $ keep ! (3 ∷ 0 ∷ 2 ∷ 1 ∷ []) $
    by ! (leaves 𝓛 En hs c y (vstruct vnil) (record { badge = b }) tt tt)))
