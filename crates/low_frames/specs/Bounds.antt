-- The moves that a take and a give in a tree, and their parts, make at most.
use Rattle.std.specs.Prelude.{ℕ, ◌+◌, ◌-◌, ◌*◌, ◌/◌}
use Rattle.frame_words.specs.Geometry.{tree_children}
use Rattle.frame_words.specs.Runs.{child_words}

-- how often an exchange is tried before the search goes on
abbrev pub tries : ℕ
tries = 4

-- an exchange that is tried so often, each time on what a load found
abbrev pub attempt : ℕ
attempt = 2 * tries

-- a claim of one bit word that is won: the last load is spared
abbrev pub won_attempt : ℕ
won_attempt = attempt - 1

-- a claim of a run in the bit words of a child: each of them is tried
abbrev pub most_to_claim : ℕ
most_to_claim = child_words * attempt

-- a claim of a group of bit words of a child: each of them is loaded, and each is tried
abbrev pub most_to_claim_group : ℕ
most_to_claim_group = child_words + child_words * attempt

-- a take of a child as a whole: its entry is tried, and the block goes out
abbrev pub most_in_whole : ℕ
most_in_whole = attempt + 1

-- a take in one bit word: frames are charged, a run is claimed, and the block goes out, or they are refunded
abbrev pub most_in_word : ℕ
most_in_word = attempt + most_to_claim + 1

-- a take of several bit words: the same with a group in place of a run
abbrev pub most_in_words : ℕ
most_in_words = attempt + most_to_claim_group + 1

-- a take in a child: no other makes as many as one of several bit words
abbrev pub most_in_child : ℕ
most_in_child = most_in_words

-- a take in a tree: each of its children is tried
abbrev pub most_in_tree : ℕ
most_in_tree = tree_children * most_in_child

-- the bit words of the largest block below a child, which a give releases one after the other
abbrev pub most_words : ℕ
most_words = child_words / 2

-- a give in a tree: the block comes in, its bit words are released, and its frames are refunded
abbrev pub most_to_give_back : ℕ
most_to_give_back = 1 + most_words + 1

-- a claim of k bit words at their place: each of them is loaded, and each is tried
abbrev pub most_to_claim_words : ℕ → ℕ
most_to_claim_words k = k + attempt * k

-- a take of a run at its place: frames are charged, the run is claimed, and the block goes out, or they are refunded
abbrev pub most_at_run : ℕ
most_at_run = attempt + attempt + 1

-- a take of bit words at their place: the same with these in place of a run
abbrev pub most_at_words : ℕ
most_at_words = attempt + most_to_claim_words most_words + 1

-- a take of just one block: no other makes as many as one of several bit words
abbrev pub most_at_place : ℕ
most_at_place = most_at_words

-- single frames of a bit word, k together: their bits are tried at once, and each frame goes out
abbrev pub most_in_word_singles : ℕ → ℕ
most_in_word_singles k = attempt + k

-- single frames of the bit words of a child, k together
abbrev pub most_in_words_singles : ℕ → ℕ
most_in_words_singles k = child_words * attempt + k

-- single frames of a child, k together: its entry is loaded, charged and refunded
abbrev pub most_in_child_singles : ℕ → ℕ
most_in_child_singles k = 2 + attempt + most_in_words_singles k

-- single frames of a tree, k together: each of its children is tried
abbrev pub most_in_tree_singles : ℕ → ℕ
most_in_tree_singles k = tree_children * most_in_child_singles 0 + k
