-- The moves that a take, a give and a split, and their parts, make at most.
use Rattle.std.specs.Prelude.{ℕ, ◌+◌, ◌*◌, nat_eq, if◌then◌else◌}
use Rattle.frame_words.specs.Geometry.{huge_order}
use Rattle.frame_words.specs.Runs.{child_words, group_size}
use Rattle.frame_model.specs.declared.key.Key.{Key}
use Rattle.frame_model.specs.Key.{tree_count}
use Rattle.low_frames.specs.Bounds.{attempt, most_in_tree, most_at_place, most_in_tree_singles, most_to_give_back}

-- a tree becomes the core's: the local word is swapped, and the tree that it had is unreserved
abbrev pub most_to_install : ℕ
most_to_install = 2

-- a core's reservation ends: its local word is loaded, and what an installation makes
abbrev pub most_to_drain : ℕ
most_to_drain = 1 + most_to_install

-- paid frames go back: into the own reservation is tried, else they go into the word of the tree
abbrev pub most_to_refund : ℕ
most_to_refund = attempt + 1

-- the free frames of a tree are collected: they are paid, and refunded
abbrev pub most_to_collect : ℕ
most_to_collect = attempt + most_to_refund

-- the own local word is loaded, once more where frames were collected for it
abbrev pub most_to_load : ℕ
most_to_load = 1 + most_to_collect + 1

-- frames are paid from the own reservation
abbrev pub most_to_pay : ℕ
most_to_pay = most_to_load + attempt

-- the own tree is searched: frames are paid, a block is taken, or they are refunded
abbrev pub most_in_own_tree : ℕ
most_in_own_tree = most_to_pay + most_in_tree + most_to_refund

-- a tree is visited: it is reserved, a block is taken, and it is installed, or unreserved
abbrev pub most_visit : ℕ
most_visit = attempt + most_in_tree + most_to_install

-- a pass visits each tree
abbrev pub most_in_pass : Key → ℕ
most_in_pass key = most_visit * tree_count key

-- the trees that are partly free, all, and all again after the drain
abbrev pub passes : ℕ
passes = 3

-- the other trees: the passes, and the drain of each core before the last of them
abbrev pub most_elsewhere : Key → ℕ
most_elsewhere key = passes * most_in_pass key + most_to_drain * key.cores

-- a take: the own tree, the passes, and the drain of each core before the last of them
abbrev pub most_moves : Key → ℕ
most_moves key = most_in_own_tree + passes * most_in_pass key + most_to_drain * key.cores

-- frames are paid for just one block: from the own reservation, from the word of its tree, and once more
-- from there after the drain of each core
abbrev pub most_to_pay_at : Key → ℕ
most_to_pay_at key = attempt + attempt + most_to_drain * key.cores + attempt

-- a take of just one block: frames are paid, the block is taken, or they are refunded
abbrev pub most_to_take_at : Key → ℕ
most_to_take_at key = most_to_pay_at key + most_at_place + most_to_refund

-- a tree is reserved, and installed
abbrev pub most_to_reserve : ℕ
most_to_reserve = attempt + most_to_install

-- a give: in its tree, the refund, and the tree becomes the core's
abbrev pub most_in_give : ℕ
most_in_give = most_to_give_back + most_to_refund + most_to_reserve

-- a huge frame becomes bits: each bit word is filled, and the flag is dropped
abbrev pub most_to_break_up : ℕ
most_to_break_up = child_words + 1

-- a block with halves comes in, and is broken up if it is a huge frame
abbrev pub most_to_bring_in : ℕ
most_to_bring_in = 1 + most_to_break_up

-- a split: the block comes in, and its two halves go out
abbrev pub most_in_split : ℕ
most_in_split = most_to_bring_in + 2

-- a join: two halves come in, and their block goes out
abbrev pub most_in_join : ℕ
most_in_join = 2 + 1

-- two blocks are told apart: both are kept, one load is made, and both are recalled
abbrev pub to_tell_apart : ℕ
to_tell_apart = 2 + 1 + 2

-- a look at a block of the order: the entry of its child is loaded, and the bit words that it has part in,
-- unless it is the child
abbrev pub most_to_look : ℕ → ℕ
most_to_look order = if nat_eq order huge_order then 1 else 1 + group_size order

-- k single frames of the own tree: they are paid, taken, and the rest is refunded
abbrev pub most_in_fill : ℕ → ℕ
most_in_fill k = attempt + most_in_tree_singles k + most_to_refund
