-- The sizes of memory, and the limits of a geometry.
use Rattle.std.specs.Prelude.{ℕ, ◌+◌, ◌-◌, ◌*◌, ◌/◌, ◌<◌, ◌≤◌, min}

-- the frames of a child
abbrev pub child_frames : ℕ
child_frames = 512

-- the frames that have their bits in one word
abbrev pub word_frames : ℕ
word_frames = 64

-- the order of a block that is a child, the highest that there is
abbrev pub huge_order : ℕ
huge_order = 9

-- the children of a tree, of which the last tree may have fewer
abbrev pub tree_children : ℕ
tree_children = 8

-- the frames of a whole tree
abbrev pub tree_frames : ℕ
tree_frames = 4096

-- the words that have the bits of a whole tree
abbrev pub tree_words : ℕ
tree_words = 64

-- the most children that memory may have
abbrev pub most_children : ℕ
most_children = 4096

-- the most trees that memory may have
abbrev pub most_trees : ℕ
most_trees = 512

-- the most cores that may use memory
abbrev pub most_cores : ℕ
most_cores = 1024

-- the most cores of the program, and of an image's text
abbrev pub most_text_cores : ℕ
most_text_cores = 64

-- from 1 to 4,096 children and from 1 to 64 cores
abbrev pub IsWithinLimits : ℕ → ℕ → Type 0
IsWithinLimits children cores =
    (1 ≤ children) × (children ≤ most_children) × (1 ≤ cores) × (cores ≤ most_text_cores)

-- from 1 to 4,096 children and from 1 to 1,024 cores
abbrev pub IsForMachine : ℕ → ℕ → Type 0
IsForMachine children cores =
    (1 ≤ children) × (children ≤ most_children) × (1 ≤ cores) × (cores ≤ most_cores)

-- memory of so many frames ends in the last of so many children
abbrev pub EndsInLastChild : ℕ → ℕ → Type 0
EndsInLastChild children frames =
    (child_frames * (children - 1) < frames) × (frames ≤ child_frames * children)

-- the trees that so many children fill, the last of them perhaps in part
abbrev pub trees_for : ℕ → ℕ
trees_for children = (children + 7) / tree_children

-- the frames of a tree: those of its children, as far as there are so many
abbrev pub tree_size : ℕ → ℕ → ℕ
tree_size children tree = child_frames * min tree_children (children - tree_children * tree)
