-- What the readers of an image say once a part of it was written.
use Rattle.std.specs.Prelude.{◌≡◌, ◌≢◌, ℕ, ◌+◌, ◌*◌, ◌^◌, ◌<◌, List, length, Option, Bool, slice_index}
use Rattle.frame_words.specs.Runs.{child_words}
use Rattle.frame_words.specs.Words.{flag}
use Rattle.frame_model.specs.declared.key.Key.{Key}
use Rattle.frame_model.specs.Key.{tree_count}
use Rattle.frame_core.specs.Image.{SetsPastEnd}
use Rattle.frame_model.specs.Words.{free_of, huge_of, tree_free_of, reserved_of, rest_of, bit_word_of}

-- the bits of the child are as before
abbrev pub HasSameBitWords : Key → List ℕ → List ℕ → ℕ → Type 0
HasSameBitWords key old new child =
    (w : ℕ) → w < child_words
    → bit_word_of key new (child_words * child + w) ≡ bit_word_of key old (child_words * child + w)

-- the entry of the child says what it said
abbrev pub HasSameEntry : List ℕ → List ℕ → ℕ → Type 0
HasSameEntry old new child =
    (free_of new child ≡ free_of old child) × (huge_of new child ≡ huge_of old child)

-- the word of the tree says what it said
abbrev pub HasSameTree : Key → List ℕ → List ℕ → ℕ → Type 0
HasSameTree key old new tree =
    (tree_free_of key new tree ≡ tree_free_of key old tree)
    × (reserved_of key new tree ≡ reserved_of key old tree)

-- each child is as before
abbrev pub AreSameChildren : Key → List ℕ → List ℕ → Type 0
AreSameChildren key old new =
    (c : ℕ) → c < key.children → HasSameEntry old new c × HasSameBitWords key old new c

-- each tree is as before
abbrev pub AreSameTrees : Key → List ℕ → List ℕ → Type 0
AreSameTrees key old new = (t : ℕ) → t < tree_count key → HasSameTree key old new t

-- what rests with each core is as before
abbrev pub AreSameCores : Key → List ℕ → List ℕ → Type 0
AreSameCores key old new = (k : ℕ) → k < key.cores → rest_of key new k ≡ rest_of key old k

-- these are eight bit words of the child, and the bits of frames past the end are set
abbrev pub AreBits : Key → ℕ → List ℕ → Type 0
AreBits key child bits =
    (length bits ≡ child_words)
    × ((w : ℕ) → w < child_words
    → (slice_index bits w < 2 ^ 64)
    × SetsPastEnd key (child_words * child + w) (slice_index bits w))

-- the entry of the child says this, and all else is as before
pub record ReadsEntry (key : Key) (child free : ℕ) (huge : Bool) (old new : List ℕ) : Type 0 where
  pub count : free_of new child ≡ free
  pub is_huge : huge_of new child ≡ flag huge
  pub same_bits : (c : ℕ) → c < key.children → HasSameBitWords key old new c
  pub others : (c : ℕ) → c < key.children → c ≢ child → HasSameEntry old new c
  pub trees : AreSameTrees key old new
  pub cores : AreSameCores key old new

-- the bit word is this one, and all else is as before
pub record ReadsWord (key : Key) (word bits : ℕ) (old new : List ℕ) : Type 0 where
  pub here : bit_word_of key new word ≡ bits
  pub others : (w : ℕ) → w ≢ word → bit_word_of key new w ≡ bit_word_of key old w
  pub entries : (c : ℕ) → c < key.children → HasSameEntry old new c
  pub trees : AreSameTrees key old new
  pub cores : AreSameCores key old new

-- the entry and the bits of the child are these, and all else is as before
pub record ReadsChild (key : Key) (child free : ℕ) (huge : Bool) (bits old new : List ℕ) : Type 0 where
  pub count : free_of new child ≡ free
  pub is_huge : huge_of new child ≡ flag huge
  pub here : (w : ℕ) → w < child_words
      → bit_word_of key new (child_words * child + w) ≡ slice_index bits w
  pub others : (c : ℕ) → c < key.children → c ≢ child
      → HasSameEntry old new c × HasSameBitWords key old new c
  pub trees : AreSameTrees key old new
  pub cores : AreSameCores key old new

-- the word of the tree says this, and all else is as before
pub record ReadsTree (key : Key) (tree free : ℕ) (reserved : Bool) (old new : List ℕ) : Type 0 where
  pub count : tree_free_of key new tree ≡ free
  pub is_reserved : reserved_of key new tree ≡ flag reserved
  pub others : (t : ℕ) → t < tree_count key → t ≢ tree → HasSameTree key old new t
  pub children : AreSameChildren key old new
  pub cores : AreSameCores key old new

-- this rests with the core, and all else is as before
pub record ReadsCore (key : Key) (core : ℕ) (rest : Option (ℕ × ℕ)) (old new : List ℕ) : Type 0 where
  pub resting : rest_of key new core ≡ rest
  pub others : (k : ℕ) → k < key.cores → k ≢ core → rest_of key new k ≡ rest_of key old k
  pub children : AreSameChildren key old new
  pub trees : AreSameTrees key old new
