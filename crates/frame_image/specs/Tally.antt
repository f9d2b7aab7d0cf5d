-- What a report says: the numbers of each tree, and those of all memory.
use Rattle.std.specs.Prelude.{ℕ, zero, suc, ◌+◌, ◌-◌, List, [], ◌∷◌, ◌++◌, map, get_or, codes, decimal}
use Rattle.std.specs.List.{range_with_len, flat_map}
use Rattle.csv.specs.Writing.{default_writer, row_text}
use Rattle.frame_model.specs.declared.key.Key.{Key}
use Rattle.frame_model.specs.Key.{tree_count}
use Rattle.frame_model.specs.Report.{held_within, clear_within, held_frames_of, free_frames_of}
use Rattle.frame_model.specs.Report.{clear_blocks_of, held_frames, free_frames, clear_blocks}

-- a report: the numbers of each tree, and those of all memory
pub record Tally : Type 0 where
  pub trees : List (List ℕ)
  pub all : List ℕ

-- the numbers of n frames from one on: 0 is how many are held, 1 how many are free, and 2 and so
-- on how many aligned blocks of order 0 and so on have no held frame
unfoldable pub number_at : Key → List ℕ → ℕ → ℕ → ℕ → ℕ
number_at key words from n zero = held_within key words from n
number_at key words from n (suc zero) = n - held_within key words from n
number_at key words from n (suc (suc order)) = clear_within key words order from n

-- all twelve of them, up to the blocks of order 9
unfoldable pub numbers_of : Key → List ℕ → ℕ → ℕ → List ℕ
numbers_of key words from n = map (number_at key words from n) (range_with_len 0 12)

-- the same of a tree: its held frames, its free frames, its clear blocks of each order
unfoldable pub tree_number : Key → List ℕ → ℕ → ℕ → ℕ
tree_number key words tree zero = held_frames_of key words tree
tree_number key words tree (suc zero) = free_frames_of key words tree
tree_number key words tree (suc (suc order)) = clear_blocks_of key words order tree

-- and of all memory
unfoldable pub memory_number : Key → List ℕ → ℕ → ℕ
memory_number key words zero = held_frames key words
memory_number key words (suc zero) = free_frames key words
memory_number key words (suc (suc order)) = clear_blocks key words order

-- the twelve numbers of a tree
unfoldable pub tree_numbers : Key → List ℕ → ℕ → List ℕ
tree_numbers key words tree = map (tree_number key words tree) (range_with_len 0 12)

-- the report of an image
unfoldable pub tally_of : Key → List ℕ → Tally
tally_of key words = record {
  trees = map (tree_numbers key words) (range_with_len 0 (tree_count key));
  all = map (memory_number key words) (range_with_len 0 12);
}

-- the numbers of a tree in a report
abbrev pub tree_in : Tally → ℕ → List ℕ
tree_in tally tree = get_or tally.trees tree []

-- a record of a report
unfoldable pub number_row : List ℕ → List ℕ → List ℕ → List (List ℕ)
number_row word place numbers = word ∷ place ∷ map decimal numbers

-- the records of trees, the first of which has this number
unfoldable pub number_rows : ℕ → List (List ℕ) → List (List (List ℕ))
number_rows tree [] = []
number_rows tree (numbers ∷ others) =
    number_row (codes "tree") (decimal tree) numbers ∷ number_rows (tree + 1) others

-- the text of a report
unfoldable pub table_of : Tally → List ℕ
table_of tally =
    flat_map (row_text default_writer) (number_rows 0 tally.trees)
    ++ row_text default_writer (number_row (codes "all") [] tally.all)
