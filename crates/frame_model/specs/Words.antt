-- The words of a table in one list: where each stands, one reader and one writer for each kind.
use Rattle.std.specs.Prelude.{◌≡◌, ℕ, ◌+◌, ◌-◌, ◌*◌, ◌/◌, ◌%◌, ◌^◌, ◌<◌, ◌≤◌, List, take, drop, length, slice_index, slice_set, max, Option, Some, None, nat_eq, if◌then◌else◌}
use Rattle.std.specs.List.{sum_by, range_with_len}
use Rattle.std.specs.Int.{bit_at}
use Rattle.std.specs.Int.Count.{ones}
use Rattle.frame_words.specs.Geometry.{child_frames, word_frames, tree_frames}
use Rattle.frame_words.specs.Runs.{child_words}
use Rattle.frame_words.specs.Words.{free_in, flag_in, lane_in, lane_put, rest_in, local_word}
use Rattle.frame_model.specs.declared.key.Key.{Key}
use Rattle.frame_model.specs.Key.{tree_count, tree_of_child, children_of}

-- the word with n ones from a bit on
abbrev pub run : ℕ → ℕ → ℕ
run from n = 2 ^ (from + n) - 2 ^ from

-- Places. Word 0 is the anchor, which nothing writes. The entries begin a cache line behind it, and
-- have a line for each tree. Behind them stand the words of the trees side by side, then the local
-- words, a line each, and last the bit words.

-- how many words have entries of children: four stand in one
abbrev pub entry_word_count : Key → ℕ
entry_word_count key = (key.children + 3) / 4

-- where the words of the trees begin: behind a line of entries for each
abbrev pub first_tree : Key → ℕ
first_tree key = 8 + 8 * tree_count key

-- where the local words begin: seven words behind those of the trees are not used
abbrev pub first_local : Key → ℕ
first_local key = first_tree key + tree_count key + 7

-- where the bit words begin
abbrev pub first_bits : Key → ℕ
first_bits key = first_local key + 8 * key.cores

-- the word of the list in which the entry of a child stands, one of two in the line of its tree
unfoldable pub entry_place : ℕ → ℕ
entry_place child = 8 + 8 * tree_of_child child + child % 8 / 4

-- the word of the list that is the word of a tree
unfoldable pub tree_place : Key → ℕ → ℕ
tree_place key tree = first_tree key + tree

-- the word of the list that is the local word of a core
unfoldable pub local_place : Key → ℕ → ℕ
local_place key core = first_local key + 8 * core

-- bit word w belongs to the child w / 8
unfoldable pub bits_place : Key → ℕ → ℕ
bits_place key word = first_bits key + word

-- how many words there are
unfoldable pub word_count : Key → ℕ
word_count key = first_bits key + child_words * key.children

-- Readers.

-- the entry of a child, from its lane
unfoldable pub entry_of : List ℕ → ℕ → ℕ
entry_of words child = lane_in (slice_index words (entry_place child)) child

-- how many frames the entry of a child counts as free
unfoldable pub free_of : List ℕ → ℕ → ℕ
free_of words child = free_in (entry_of words child)

-- 1 where the child was taken as a huge frame
unfoldable pub huge_of : List ℕ → ℕ → ℕ
huge_of words child = flag_in (entry_of words child)

-- the word of a tree
unfoldable pub tree_word_of : Key → List ℕ → ℕ → ℕ
tree_word_of key words tree = slice_index words (tree_place key tree)

-- how many frames the word of a tree counts as free
unfoldable pub tree_free_of : Key → List ℕ → ℕ → ℕ
tree_free_of key words tree = free_in (tree_word_of key words tree)

-- 1 where a core has reserved the tree
unfoldable pub reserved_of : Key → List ℕ → ℕ → ℕ
reserved_of key words tree = flag_in (tree_word_of key words tree)

-- the local word of a core
unfoldable pub local_word_of : Key → List ℕ → ℕ → ℕ
local_word_of key words core = slice_index words (local_place key core)

-- the tree that a core has reserved, with the frames that rest on it, or none
unfoldable pub rest_of : Key → List ℕ → ℕ → Option (ℕ × ℕ)
rest_of key words core = rest_in (local_word_of key words core)

-- a bit word, counted over all children
unfoldable pub bit_word_of : Key → List ℕ → ℕ → ℕ
bit_word_of key words word = slice_index words (bits_place key word)

-- 1 where the frame is set: bit i of bit word w is frame 64 * w + i
unfoldable pub bit_of : Key → List ℕ → ℕ → ℕ
bit_of key words frame = bit_at (bit_word_of key words (frame / word_frames)) (frame % word_frames)

-- how many frames of a child are set, in its eight bit words
unfoldable pub set_of : Key → List ℕ → ℕ → ℕ
set_of key words child =
    sum_by ones (take child_words (drop (bits_place key (child_words * child)) words))

-- how many frames of a child are held: those that are set, or all of a huge frame
unfoldable pub held_of : Key → List ℕ → ℕ → ℕ
held_of key words child = max (set_of key words child) (child_frames * huge_of words child)

-- how many frames of a tree are held
unfoldable pub held_in_tree : Key → List ℕ → ℕ → ℕ
held_in_tree key words tree = sum_by (held_of key words) (children_of key tree)

-- the count of a reservation where it is on the tree, else 0
unfoldable pub count_on : ℕ → Option (ℕ × ℕ) → ℕ
count_on tree None = 0
count_on tree (Some rest) = if nat_eq rest.0 tree then rest.1 else 0

-- 1 where a reservation is on the tree, whatever its count
unfoldable pub is_on : ℕ → Option (ℕ × ℕ) → ℕ
is_on tree None = 0
is_on tree (Some rest) = if nat_eq rest.0 tree then 1 else 0

-- the cores of the memory
abbrev pub cores_of : Key → List ℕ
cores_of key = range_with_len 0 key.cores

-- how many frames rest on a tree in the local words of all cores
unfoldable pub resting_on : Key → List ℕ → ℕ → ℕ
resting_on key words tree = sum_by (λ core. count_on tree (rest_of key words core)) (cores_of key)

-- how many cores have a reservation on a tree
unfoldable pub cores_on : Key → List ℕ → ℕ → ℕ
cores_on key words tree = sum_by (λ core. is_on tree (rest_of key words core)) (cores_of key)

-- Writers.

-- the words with the entry of a child replaced, in its lane
unfoldable pub with_entry : List ℕ → ℕ → ℕ → List ℕ
with_entry words child entry =
    slice_set words (entry_place child)
    (lane_put (slice_index words (entry_place child)) child entry)

-- the words with the word of a tree replaced
unfoldable pub with_tree : Key → List ℕ → ℕ → ℕ → List ℕ
with_tree key words tree n = slice_set words (tree_place key tree) n

-- the words with the local word of a core replaced
unfoldable pub with_local : Key → List ℕ → ℕ → ℕ → List ℕ
with_local key words core n = slice_set words (local_place key core) n

-- the words with a bit word replaced
unfoldable pub with_bits : Key → List ℕ → ℕ → ℕ → List ℕ
with_bits key words word n = slice_set words (bits_place key word) n

-- Ranges.

-- a local word is nothing, or names a tree of the key with a count that a tree can have
abbrev pub IsRest : Key → Option (ℕ × ℕ) → Type 0
IsRest key None = Unit {0}
IsRest key (Some rest) = (rest.0 < tree_count key) × (rest.1 ≤ tree_frames)

-- each word of the list has its layout and its ranges, and unused words and lanes are 0
pub record AreInRange (key : Key) (words : List ℕ) : Type 0 where
  pub count : length words ≡ word_count key
  pub anchor : (i : ℕ) → i < 8 → slice_index words i ≡ 0
  pub entry_words : (c : ℕ) → c < 8 * tree_count key → slice_index words (entry_place c) < 2 ^ 64
  pub free : (c : ℕ) → c < key.children → free_of words c ≤ child_frames
  pub huge : (c : ℕ) → c < key.children → huge_of words c ≤ 1
  pub absent : (c : ℕ) → key.children ≤ c → c < 8 * tree_count key → entry_of words c ≡ 0
  pub behind : (t i : ℕ) → t < tree_count key → 1 < i → i < 8
      → slice_index words (entry_place (8 * t) + i) ≡ 0
  pub tree_free : (t : ℕ) → t < tree_count key → tree_free_of key words t ≤ tree_frames
  pub reserved : (t : ℕ) → t < tree_count key → reserved_of key words t ≤ 1
  pub locals : (k : ℕ) → k < key.cores
      → local_word_of key words k ≡ local_word (rest_of key words k)
  pub rests : (k : ℕ) → k < key.cores → IsRest key (rest_of key words k)
  pub bits : (w : ℕ) → w < child_words * key.children → bit_word_of key words w < 2 ^ 64
  pub between : (i : ℕ) → i < 7 → slice_index words (tree_place key (tree_count key) + i) ≡ 0
  pub beside : (k i : ℕ) → k < key.cores → 0 < i → i < 8
      → slice_index words (local_place key k + i) ≡ 0
