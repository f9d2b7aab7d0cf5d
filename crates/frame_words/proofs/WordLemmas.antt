-- The readers of entries, tree words and local words give what the writers put.
use Rattle.std.proofs.Common.{◌≡◌, ℕ, Bool, true, false, Some, None, ◌-◌, ◌^◌, ◌<◌, ◌≤◌, refl, arith}
use Rattle.std.proofs.lemmas.Bool.Decides.{nat_tests}
use Rattle.frame_words.specs.Words.{flag, entry_word, free_in, flag_in, local_word, rest_in}

-- a flag is 0 or 1
pub flag-le : (b : Bool) → flag b ≤ 1
flag-le true = omega arith
flag-le false = omega arith

-- the free frames of an entry
pub free_in-entry_word : (free up : ℕ) → free < 2 ^ 15 → free_in (entry_word free up) ≡ free
unfolding free_in entry_word
free_in-entry_word free up fits = omega arith

-- the flag of an entry
pub flag_in-entry_word : (free up : ℕ) → free < 2 ^ 15 → flag_in (entry_word free up) ≡ up
unfolding flag_in entry_word
flag_in-entry_word free up fits = omega arith

-- an entry is made of its free frames and its flag
pub entry_word-parts : (word : ℕ) → entry_word (free_in word) (flag_in word) ≡ word
unfolding free_in flag_in entry_word
entry_word-parts word = omega arith

-- the free frames that a word tells fit their 15 bits
pub free_in-lt : (word : ℕ) → free_in word < 2 ^ 15
unfolding free_in
free_in-lt word = omega arith

-- an entry fits its lane
pub entry_word-lt : (free up : ℕ) → free < 2 ^ 15 → up ≤ 1 → entry_word free up < 2 ^ 16
unfolding entry_word
entry_word-lt free up fits one = omega arith

-- a word of 0 tells no free frames
pub free_in-zero : free_in 0 ≡ 0
unfolding free_in
free_in-zero = refl

-- a word of 0 tells no flag
pub flag_in-zero : flag_in 0 ≡ 0
unfolding flag_in
flag_in-zero = refl

-- what a core keeps as a count
pub rest_in-local_word : (tree free : ℕ) → free < 2 ^ 32
    → rest_in (local_word (Some (tree, free))) ≡ Some (tree, free)
unfolding rest_in local_word
rest_in-local_word tree free fits = grind (arith, nat_tests)

-- a core that keeps none
pub rest_in-local_none : rest_in (local_word None) ≡ None
unfolding rest_in local_word
rest_in-local_none = refl

-- a word of 0 tells no reservation
pub rest_in-zero : rest_in 0 ≡ None
unfolding rest_in
rest_in-zero = refl
