-- What chains through the places of a list say. No public clause cites this module.
use Rattle.std.specs.Prelude.{ℕ, ◌+◌, ◌≡◌, ◌≢◌, ◌<◌, ◌≤◌, Bool, true, false, List, [], ◌∷◌, ◌++◌, length}
use Rattle.std.specs.Prelude.{Option, Some, None, is_some, IsSome, slice_index_or}
use Rattle.std.specs.Prelude.{vec_len, vec_capacity}
use Rattle.std.specs.Ordering.{nat_cmp}
use Rattle.std.specs.BTreeMap.{get}
use Rattle.held_blocks.specs.declared.label_chains.Ends.{Ends}
use Rattle.held_blocks.specs.declared.label_chains.LabelChains.{LabelChains}

-- the first n numbers are places with keys, and a chain leads through the live ones of each key
pub record Serves (nowhere n : ℕ) (key next : ℕ → ℕ) (live : ℕ → Bool) (first last : ℕ → ℕ) :
    Type 0 where
  pub starts : (i : ℕ) → i < n → live i ≡ true → first (key i) ≤ i
  pub starts_at : (k : ℕ) → first k < n → key (first k) ≡ k
  pub firsts : (k : ℕ) → n ≤ first k → first k ≡ nowhere
  pub known : (i : ℕ) → i < n → last (key i) < n
  pub most : (i : ℕ) → i < n → i ≤ last (key i)
  pub lasts : (k : ℕ) → n ≤ last k → last k ≡ nowhere
  pub ends_at : (k : ℕ) → last k < n → key (last k) ≡ k
  pub onward : (i : ℕ) → i < n → i < next i
  pub same : (i : ℕ) → i < n → next i < n → key (next i) ≡ key i
  pub skips : (i j : ℕ) → i < j → j < n → key i ≡ key j → live j ≡ true → next i ≤ j
  pub goes_on : (i : ℕ) → i < n → i ≢ last (key i) → next i < n
  pub stops : (i : ℕ) → i < n → n ≤ next i → next i ≡ nowhere

-- on the way through the chain of k to this place, no live place of k was passed
pub record Walks (nowhere n : ℕ) (key : ℕ → ℕ) (live : ℕ → Bool) (k at : ℕ) : Type 0 where
  pub here : at < n → key at ≡ k
  pub least : (j : ℕ) → j < n → key j ≡ k → live j ≡ true → at ≤ j
  pub stop : n ≤ at → at ≡ nowhere

-- the number of no place
abbrev pub no_place : ℕ
no_place = 18446744073709551615

-- the first of the ends, if there are any
abbrev pub first_of : Option Ends → ℕ
first_of None = no_place
first_of (Some e) = e.first

-- the last of the ends, if there are any
abbrev pub last_of : Option Ends → ℕ
last_of None = no_place
last_of (Some e) = e.last

-- where the chain of a key begins
abbrev pub first_at : LabelChains → ℕ → ℕ
first_at chains key = first_of (get nat_cmp chains.ends key)

-- where the chain of a key ends
abbrev pub last_at : LabelChains → ℕ → ℕ
last_at chains key = last_of (get nat_cmp chains.ends key)

-- the key has a chain, perhaps through no place
abbrev pub Knows : LabelChains → ℕ → Type 0
Knows chains key = IsSome (get nat_cmp chains.ends key)

-- so many more places take no more memory
abbrev pub ChainsHaveRoom : LabelChains → ℕ → Type 0
ChainsHaveRoom chains n =
    (vec_len chains.keys + n ≤ vec_capacity chains.keys)
    × (vec_len chains.next + n ≤ vec_capacity chains.next)

-- the same chains, perhaps with more room and more keys
pub record IsSame (old new : LabelChains) : Type 0 where
  pub keys : new.keys.items ≡ old.keys.items
  pub next : new.next.items ≡ old.next.items
  pub first : (k : ℕ) → first_at new k ≡ first_at old k
  pub last : (k : ℕ) → last_at new k ≡ last_at old k
  pub room : (n : ℕ) → ChainsHaveRoom old n → ChainsHaveRoom new n
  pub known : (k : ℕ) → Knows old k → Knows new k

-- the places have the same keys; there is as much room, and as many keys are known
pub record KeepsKeys (old new : LabelChains) : Type 0 where
  pub keys : new.keys.items ≡ old.keys.items
  pub room : (n : ℕ) → ChainsHaveRoom old n → ChainsHaveRoom new n
  pub known : (k : ℕ) → Knows old k → Knows new k

-- one more place has the key; there is room for one less, and as many keys are known
pub record AddsPlace (key : ℕ) (old new : LabelChains) : Type 0 where
  pub keys : new.keys.items ≡ old.keys.items ++ key ∷ []
  pub room : (n : ℕ) → ChainsHaveRoom old (n + 1) → ChainsHaveRoom new n
  pub known : (k : ℕ) → Knows old k → Knows new k

-- the chain of the key begins and ends there, and all else stays
pub record SetsEnds (key from to : ℕ) (old new : LabelChains) : Type 0 where
  pub keys : new.keys ≡ old.keys
  pub next : new.next ≡ old.next
  pub first : first_at new key ≡ from
  pub last : last_at new key ≡ to
  pub knows : Knows new key
  pub other : (k : ℕ) → k ≢ key → get nat_cmp new.ends k ≡ get nat_cmp old.ends k

-- the place holds something
abbrev pub is_live : {T : Type 0} → List (Option T) → ℕ → Bool
is_live slots i = is_some (slice_index_or slots i None)

-- the chains lead through these places
pub record Chained {T : Type 0} (chains : LabelChains) (slots : List (Option T)) : Type 0 where
  pub key_len : length chains.keys.items ≡ length slots
  pub next_len : length chains.next.items ≡ length slots
  pub serves :
      Serves no_place (length slots) (λ i. slice_index_or chains.keys.items i 0)
      (λ i. slice_index_or chains.next.items i 0) (is_live slots) (first_at chains) (last_at chains)

-- a chain through no place for each key
pub record IsBlank (chains : LabelChains) : Type 0 where
  pub keys : chains.keys.items ≡ []
  pub next : chains.next.items ≡ []
  pub first : (k : ℕ) → first_at chains k ≡ no_place
  pub last : (k : ℕ) → last_at chains k ≡ no_place

-- the first live place with the key
pub record IsFirstLive {T : Type 0} (keys : List ℕ) (slots : List (Option T)) (key i : ℕ) :
    Type 0 where
  pub within : i < length slots
  pub here : slice_index_or keys i 0 ≡ key
  pub live : is_live slots i ≡ true
  pub before : (j : ℕ) → j < i → slice_index_or keys j 0 ≡ key → is_live slots j ≡ false

-- no live place has the key
abbrev pub NoneLive : {T : Type 0} → List ℕ → List (Option T) → ℕ → Type 0
NoneLive keys slots key =
    (j : ℕ) → j < length slots → slice_index_or keys j 0 ≡ key → is_live slots j ≡ false

-- a walk through the chain of a key has come to this place
abbrev pub WalksOn : {T : Type 0} → LabelChains → List (Option T) → ℕ → ℕ → Type 0
WalksOn chains slots key at =
    Walks no_place (length slots) (λ i. slice_index_or chains.keys.items i 0)
    (is_live slots) key at
