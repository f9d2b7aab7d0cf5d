-- What the list of labelled blocks says.
use Rattle.std.specs.Prelude.{ℕ, ◌≡◌, List, ◌∷◌, ◌++◌, Option}
use Rattle.std.specs.List.{All}
use Rattle.held_blocks.specs.declared.labelled_block.LabelledBlock.{LabelledBlock}

-- the entries, oldest first, and the label under which there is room for one more
pub record LabelledList : Type 0 where
  pub entries : List LabelledBlock
  pub room : Option (List ℕ)

-- the entry stands under the label
abbrev pub IsUnder : List ℕ → LabelledBlock → Type 0
IsUnder label entry = entry.label ≡ label

-- the entry's block begins at the frame
abbrev pub BeginsAt : ℕ → LabelledBlock → Type 0
BeginsAt frame entry = entry.block.frame ≡ frame

-- the entry's block has exactly this first frame and this order
abbrev pub IsTheBlock : ℕ → ℕ → LabelledBlock → Type 0
IsTheBlock frame order entry = (entry.block.frame ≡ frame) × (entry.block.order ≡ order)

-- P holds for no element
abbrev pub HasNone : {T : Type 0} → (T → Type 0) → List T → Type 0
HasNone P xs = All (λ x. ¬ P x) xs

-- the first element for which P holds leaves, and the others stay in order
pub record TakesFirst {T : Type 0} (P : T → Type 0) (old : List T) (taken : T) (new : List T) :
    Type 0 where
  pub front : List T
  pub back : List T
  pub was : old ≡ front ++ taken ∷ back
  pub stays : new ≡ front ++ back
  pub holds : P taken
  pub first : HasNone P front
