-- What contracts see of items of which a sole one lies in place.
use Rattle.std.specs.Prelude.{◌≡◌, ◌<◌, ◌++◌, List, [], Option, IsSome, vec_capacity, refl}
use Rattle.std.specs.Coded.{Coded, code_by, coded_list}
use Rattle.std.specs.Option.{option_to_list}
use Rattle.std.specs.declared.alloc.Global.{Global}
use Rattle.std.specs.declared.vec.Vec.{Vec}

-- the items, in order
pub record Items (T : Type 0) : Type 0 where
  pub items : List T

-- their code, by that of an item
abbrev pub items_code : {T : Type 0} → Coded T → Coded (Items T)
items_code {T} code = code_by (List T) (coded_list code) (λ r. r.items) (λ l. record { items = l }) (λ _. refl)

-- the one that lies in the row, and those of its list
abbrev pub items_in : {T : Type 0} → Option T → List T → Items T
items_in sole list = record { items = option_to_list sole ++ list }

-- where one lies in the row there is no other, and the list has room for it
abbrev pub IsSole : {T : Type 0} → Option T → Vec T Global → Type 0
IsSole sole list = IsSome sole → (list.items ≡ []) × (0 < vec_capacity list)
