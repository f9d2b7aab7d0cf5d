-- The machine value of a `BlockRight`, which has no bytes. Assumes `Logic`.
use Rattle.std.proofs.Common.{List, [], ◌∷◌, refl}
use seplogic.Ra.Ura.{Ura}
use mir.Val.{Val, vstruct, vnil}
use types.Logic.{Logic}
use types.Kit.{Item, Goal, Step, step, ‵, ◌$◌, fjoin, fpack, feq_i}
use denote.RattleType.{RattleType, Valss}
use denote.Steps.{nothing}
use denote.Struct.Struct.{within}
use denote.Struct.Owning.{shape}
use Rattle.frame_table.specs.declared.rule.Watch.{Watch}
use Rattle.atomic_table.specs.declared.badge.Badge.{Badge}
use Rattle.llfree_c.specs.Rights.{right_owned}
use Rattle.llfree_c.specs.contracts.block_right.BlockRight as right

abbrev pub Right : RattleType
Right = right.the_row

module _ {M : Type 1} {𝓤 : Ura M} {𝓛 : Logic 𝓤} {K : Type 0} {Γ : List (Item 𝓤)} {G : Goal 𝓤 𝓛.H} where
  pub right_in : K → (b : Badge Watch)
      → Step K 𝓛 (‵ (Right.own_val (record { badge = b }) (vstruct vnil ∷ [])) ∷ Γ) G (‵ (right_owned b) ∷ Γ) G
  right_in t b = step (λ s. let w : Val = vstruct vnil in
      nothing t $ feq_i t (List Val) (w ∷ []) (w ∷ []) refl $ fjoin t $
      fpack t (Valss []) (within (shape right.the_type) tt (w ∷ [])) tt $ fjoin t $ s)
