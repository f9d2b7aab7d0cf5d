-- What a report counts of worked words, and what rebuilding makes of them.
use Rattle.std.specs.Prelude.{◌≡◌, ℕ, ◌*◌, List, [], ◌∷◌, ◌++◌, map, replicate, true}
use Rattle.std.specs.List.{range_with_len}
use Rattle.frame_model.specs.declared.key.Key.{Key}
use Rattle.frame_model.specs.Rebuilt.{rebuilt_free, rebuilt_in_tree, rebuilt_bits}
use Rattle.frame_model.specs.Report.{held_frames, free_frames, clear_blocks, held_frames_of, free_frames_of, clear_blocks_of}
use Rattle.frame_model.specs.WorkedRuns.{one_child, words_of_one}

-- the held frames, the free frames, and the clear blocks of each order, the lowest first
abbrev pub report_of : Key → List ℕ → List ℕ
report_of key words =
    held_frames key words ∷ free_frames key words ∷ map (clear_blocks key words) (range_with_len 0 10)

-- the same of one tree
abbrev pub report_of_tree : Key → List ℕ → ℕ → List ℕ
report_of_tree key words tree = held_frames_of key words tree ∷ free_frames_of key words tree
    ∷ map (λ order. clear_blocks_of key words order tree) (range_with_len 0 10)

-- frame 0 alone is held
abbrev pub OneIsHeld : Type 0
OneIsHeld = report_of one_child (words_of_one 511 511 0 1 0 0 0 0 0 0 0)
    ≡ 1 ∷ 511 ∷ 511 ∷ 255 ∷ 127 ∷ 63 ∷ 31 ∷ 15 ∷ 7 ∷ 3 ∷ 1 ∷ 0 ∷ []

-- a bit word with every other bit set
abbrev pub odd : ℕ
odd = 0x5555_5555_5555_5555

-- every other frame is held
abbrev pub EveryOtherIsHeld : Type 0
EveryOtherIsHeld = report_of one_child (words_of_one 256 256 0 odd odd odd odd odd odd odd odd)
    ≡ 256 ∷ 256 ∷ 256 ∷ 0 ∷ 0 ∷ 0 ∷ 0 ∷ 0 ∷ 0 ∷ 0 ∷ 0 ∷ 0 ∷ []

-- a memory of two trees, of which the second has one child
abbrev pub nine_children : Key
nine_children = record { children = 9; cores = 1; frames = 4608; ranges = []; sealed = true }

-- four entries of children of which all frames are free
abbrev pub four_free : ℕ
four_free = 512 * 0x0001_0001_0001_0001

-- frame 4096, the first of the second tree, is held
abbrev pub first_of_second_held : List ℕ
first_of_second_held = replicate 8 0 ++ four_free ∷ four_free ∷ replicate 6 0 ++ 511 ∷ replicate 7 0
    ++ 4096 ∷ 511 ∷ replicate 79 0 ++ 1 ∷ replicate 7 0

-- the first tree has 4,096 free frames and eight huge ones, the second 511 and none
abbrev pub TreesDiffer : Type 0
TreesDiffer = (report_of_tree nine_children first_of_second_held 0
    ≡ 0 ∷ 4096 ∷ 4096 ∷ 2048 ∷ 1024 ∷ 512 ∷ 256 ∷ 128 ∷ 64 ∷ 32 ∷ 16 ∷ 8 ∷ [])
    × (report_of_tree nine_children first_of_second_held 1
    ≡ 1 ∷ 511 ∷ 511 ∷ 255 ∷ 127 ∷ 63 ∷ 31 ∷ 15 ∷ 7 ∷ 3 ∷ 1 ∷ 0 ∷ [])

-- the free frames of a child of one, those of its tree, and its first bit word, rebuilt
abbrev pub rebuilt_of : List ℕ → List ℕ
rebuilt_of words = rebuilt_free one_child words 0 ∷ rebuilt_in_tree one_child words 0
    ∷ rebuilt_bits one_child words 0 ∷ []

-- three frames are set, and the entry, which says 0, is not looked at
abbrev pub RebuiltFromBits : Type 0
RebuiltFromBits = rebuilt_of (words_of_one 0 0 0 7 0 0 0 0 0 0 0) ≡ 509 ∷ 509 ∷ 7 ∷ []

-- of a huge frame a bit beside the flag is cleared
abbrev pub RebuiltFromTheFlag : Type 0
RebuiltFromTheFlag = rebuilt_of (words_of_one 32768 0 0 1 0 0 0 0 0 0 0) ≡ 0 ∷ 0 ∷ 0 ∷ []
