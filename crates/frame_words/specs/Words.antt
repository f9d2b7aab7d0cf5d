-- What the words of the two levels say: entries of children, tree words and local words.
use Rattle.std.specs.Prelude.{ℕ, Bool, true, false, ◌+◌, ◌-◌, ◌*◌, ◌/◌, ◌%◌, ◌^◌, Option, Some, None, nat_lt, if◌then◌else◌}

-- a flag as the number that stands in a word
abbrev pub flag : Bool → ℕ
flag false = 0
flag true = 1

-- the entry of a child, or the word of a tree: its free frames, and above them a flag
unfoldable pub entry_word : ℕ → ℕ → ℕ
entry_word free up = free + 2 ^ 15 * up

-- the free frames that an entry or a tree word tells
unfoldable pub free_in : ℕ → ℕ
free_in word = word % 2 ^ 15

-- the flag that an entry or a tree word tells
unfoldable pub flag_in : ℕ → ℕ
flag_in word = word / 2 ^ 15

-- the local word of a core: 0 for none, else its tree and that tree's resting frames
unfoldable pub local_word : Option (ℕ × ℕ) → ℕ
local_word None = 0
local_word (Some rest) = 2 ^ 63 + rest.0 * 2 ^ 32 + rest.1

-- the tree and the count that a local word tells
unfoldable pub rest_in : ℕ → Option (ℕ × ℕ)
rest_in word =
    if nat_lt word (2 ^ 63) then None else Some ((word - 2 ^ 63) / 2 ^ 32, word % 2 ^ 32)

-- the entries that share a word
abbrev pub lane_count : ℕ
lane_count = 4

-- what an entry is multiplied by where it stands in its word
unfoldable pub lane_shift : ℕ → ℕ
lane_shift child = 2 ^ (16 * (child % lane_count))

-- the entry of a child in the word that it shares
unfoldable pub lane_in : ℕ → ℕ → ℕ
lane_in word child = word / lane_shift child % 2 ^ 16

-- the word with the entry of that child replaced
unfoldable pub lane_put : ℕ → ℕ → ℕ → ℕ
lane_put word child entry = word - lane_in word child * lane_shift child + entry * lane_shift child
