-- Slots with entries, and the ways to them. No public clause cites this module.
use Rattle.std.specs.Prelude.{ℕ, ◌≡◌, ◌<◌, true, List, length, Option, Some, None, slice_index_or}
use Rattle.std.specs.List.{flat_map}
use Rattle.std.specs.Option.{option_to_list}
use Rattle.held_blocks.specs.declared.labelled_block.LabelledBlock.{LabelledBlock}
use Rattle.held_blocks.specs.declared.label_chains.LabelChains.{LabelChains}
use Rattle.held_blocks.specs.declared.slot_pages.SlotPages.{SlotPages}
use Rattle.held_blocks.specs.Label.{is_label, packed}
use Rattle.held_blocks.specs.LabelChains.{Chained, ChainsHaveRoom, IsBlank, Knows}
use Rattle.held_blocks.specs.SlotPages.{HasPage, slot_at}

-- what the slots hold, in order
abbrev pub held : {T : Type 0} → List (Option T) → List T
held slots = flat_map option_to_list slots

-- the entry stands in this slot
abbrev pub StandsAt : {T : Type 0} → List (Option T) → ℕ → T → Type 0
StandsAt slots i e = slice_index_or slots i None ≡ Some e

-- P holds for the entry of this slot
pub record HoldsAt {T : Type 0} (P : T → Type 0) (slots : List (Option T)) (i : ℕ) : Type 0 where
  pub entry : T
  pub stands : StandsAt slots i entry
  pub holds : P entry

-- the entry of this slot is the first for which P holds
pub record IsFirstAt {T : Type 0} (P : T → Type 0) (slots : List (Option T)) (i : ℕ) : Type 0 where
  pub entry : T
  pub stands : StandsAt slots i entry
  pub holds : P entry
  pub before : (j : ℕ) (f : T) → j < i → StandsAt slots j f → ¬ P f

-- the entry of a slot is found by its label and by its first frame
pub record IsFound (chains : LabelChains) (pages : SlotPages) (i : ℕ) (e : LabelledBlock) :
    Type 0 where
  pub lawful : is_label e.label ≡ true
  pub key : slice_index_or chains.keys.items i 0 ≡ packed e.label
  pub page : HasPage pages e.block.frame
  pub slot : slot_at pages e.block.frame ≡ i

-- chains and pages lead to the entry of each slot, and so many slots hold one
pub record FindsEntries (slots : List (Option LabelledBlock)) (chains : LabelChains)
    (pages : SlotPages) (live : ℕ) : Type 0 where
  pub chained : Chained chains slots
  pub each : (i : ℕ) (e : LabelledBlock) → StandsAt slots i e → IsFound chains pages i e
  pub count : live ≡ length (held slots)

-- the labels of all entries of these slots have chains
abbrev pub KnowsEachLabel : List (Option LabelledBlock) → LabelChains → Type 0
KnowsEachLabel slots chains =
    (i : ℕ) (e : LabelledBlock) → StandsAt slots i e → Knows chains (packed e.label)

-- chains through no place, with room for so many, for this key and the labels of all these entries
pub record AreChainsFor (slots : List (Option LabelledBlock)) (count key : ℕ)
    (chains : LabelChains) : Type 0 where
  pub blank : IsBlank chains
  pub room : ChainsHaveRoom chains count
  pub knows : Knows chains key
  pub labels : KnowsEachLabel slots chains

-- the entries of these slots can move to where none stands yet
pub record CanMove (slots : List (Option LabelledBlock)) (chains : LabelChains)
    (table : SlotPages) : Type 0 where
  pub knows : KnowsEachLabel slots chains
  pub pages : (i : ℕ) (e : LabelledBlock) → StandsAt slots i e → HasPage table e.block.frame
  pub apart :
      (i j : ℕ) (e f : LabelledBlock) → StandsAt slots i e → StandsAt slots j f
      → e.block.frame ≡ f.block.frame → i ≡ j
