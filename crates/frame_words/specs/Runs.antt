-- Runs of clear bits in a word, and groups of clear words, at multiples of their length.
use Rattle.std.specs.Prelude.{◌≡◌, ℕ, ◌+◌, ◌-◌, ◌%◌, ◌^◌, ◌<◌, ◌≤◌, List, slice_index}
use Rattle.std.specs.Int.{bit_at}

-- the bits of a word
abbrev pub word_bits : ℕ
word_bits = 64

-- the order of a run that fills a word
abbrev pub word_order : ℕ
word_order = 6

-- the order of a block that fills two words
abbrev pub pair_order : ℕ
pair_order = 7

-- the order of a block that fills four words
abbrev pub four_order : ℕ
four_order = 8

-- the words of a child
abbrev pub child_words : ℕ
child_words = 8

-- so many bits of the word, from this one on, are clear
pub record IsClearFrom (word count bit : ℕ) : Type 0 where
  pub inside : bit + count ≤ word_bits
  pub clear : (i : ℕ) → bit ≤ i → i < bit + count → bit_at word i ≡ 0

-- 2 ^ order bits of the word are clear, from a multiple of that number on
pub record IsClearRun (word order bit : ℕ) : Type 0 where
  pub aligned : bit % 2 ^ order ≡ 0
  pub bits : IsClearFrom word (2 ^ order) bit

-- such a run begins at this bit, and at no lower one
pub record IsLowestClearRun (word order bit : ℕ) : Type 0 where
  pub run : IsClearRun word order bit
  pub lowest : (other : ℕ) → other < bit → ¬ IsClearRun word order other

-- such a run begins nowhere
abbrev pub HasNoClearRun : ℕ → ℕ → Type 0
HasNoClearRun word order = (bit : ℕ) → ¬ IsClearRun word order bit

-- the words that a block of an order above a word's fills
abbrev pub group_size : ℕ → ℕ
group_size order = 2 ^ (order - word_order)

-- at this word of a child begin so many words of 0, and it is a multiple of their number
pub record IsClearGroup (words : List ℕ) (order first : ℕ) : Type 0 where
  pub aligned : first % group_size order ≡ 0
  pub inside : first + group_size order ≤ child_words
  pub clear : (i : ℕ) → first ≤ i → i < first + group_size order → slice_index words i ≡ 0

-- such a group begins at this word, and at no lower one
pub record IsLowestClearGroup (words : List ℕ) (order first : ℕ) : Type 0 where
  pub group : IsClearGroup words order first
  pub lowest : (other : ℕ) → other < first → ¬ IsClearGroup words order other

-- such a group begins nowhere
abbrev pub HasNoClearGroup : List ℕ → ℕ → Type 0
HasNoClearGroup words order = (first : ℕ) → ¬ IsClearGroup words order first
