-- What a store of entries has room for. No public clause cites this module.
use Rattle.std.specs.Prelude.{ℕ, ◌+◌, ◌≤◌, List, Option, IfSome, vec_len, vec_capacity}
use Rattle.held_blocks.specs.declared.labelled_block.LabelledBlock.{LabelledBlock}
use Rattle.held_blocks.specs.declared.block_store.BlockStore.{BlockStore}
use Rattle.held_blocks.specs.Label.{packed}
use Rattle.held_blocks.specs.LabelChains.{ChainsHaveRoom, Knows}
use Rattle.held_blocks.specs.SlotPages.{CountsEachChild, HasSpare, KeepsPages}
use Rattle.held_blocks.specs.Slots.{held}

-- the entries of a store, in order
abbrev pub entries_of : BlockStore → List LabelledBlock
entries_of store = held store.slots.items

-- so many more slots take no more memory
abbrev pub HasRoom : BlockStore → ℕ → Type 0
HasRoom store n =
    (vec_len store.slots + n ≤ vec_capacity store.slots) × ChainsHaveRoom store.chains n

-- one more entry under the label with this number takes no memory
pub record IsReadyFor (store : BlockStore) (key : ℕ) : Type 0 where
  pub room : HasRoom store 1
  pub knows : Knows store.chains key
  pub spare : HasSpare store.pages

-- one more entry under the label takes no memory
abbrev pub IsReadyUnder : BlockStore → List ℕ → Type 0
IsReadyUnder store label = IsReadyFor store (packed label)

-- the pages of a store count its entries
abbrev pub CountsEntries : BlockStore → Type 0
CountsEntries store = CountsEachChild store.pages (entries_of store)

-- a store counts its entries, and one more under a label for which there is room takes no memory
pub record IsCountedAndReady (store : BlockStore) (room : Option (List ℕ)) : Type 0 where
  pub counts : CountsEntries store
  pub ready : IfSome room (IsReadyUnder store)

-- a store stays ready for each label
abbrev pub KeepsReady : BlockStore → BlockStore → Type 0
KeepsReady old new = (key : ℕ) → IsReadyFor old key → IsReadyFor new key

-- what there was room for, there is room for but one entry less; what is known, and the pages, stay
pub record UsesRoomOfOne (old new : BlockStore) : Type 0 where
  pub room : (n : ℕ) → HasRoom old (n + 1) → HasRoom new n
  pub known : (q : ℕ) → Knows old.chains q → Knows new.chains q
  pub pages : KeepsPages old.pages new.pages
