-- Images as text: which records spell an image, and which records an image is written as.
use Rattle.std.specs.Prelude.{ℕ, ◌≡◌, ◌<◌, ◌+◌, ◌-◌, ◌*◌, ◌/◌, ◌%◌, ◌==◌, ◌&&◌, ◌||◌, not, Bool, true, List, [], ◌∷◌, ◌++◌}
use Rattle.std.specs.Prelude.{length, map, slice_index, codes, decimal, min, nat_eq, nat_lt, nat_le}
use Rattle.std.specs.Prelude.{Option, Some, None, option_map, option_and_then, if◌then◌else◌, Result, Ok, Err}
use Rattle.std.specs.List.{flat_map, list_all, range_with_len}
use Rattle.std.specs.Int.{bit_at}
use Rattle.std.specs.Str.{bytes_eq}
use Rattle.csv.specs.Writing.{default_writer, row_text}
use Rattle.frame_words.specs.Geometry.{most_text_cores}
use Rattle.frame_words.specs.Words.{flag, entry_word, local_word}
use Rattle.frame_words.specs.declared.fault.Fault.{Fault}
use Rattle.frame_words.specs.declared.fault.Fault.TheVariants as fault
use Rattle.frame_model.specs.declared.key.Key.{Key}
use Rattle.frame_model.specs.Key.{tree_count, size_of, frame_count}
use Rattle.frame_model.specs.Words.{bit_word_of, free_of, huge_of, tree_free_of, reserved_of, rest_of}
use Rattle.frame_model.specs.Words.{with_tree, with_local}
use Rattle.frame_core.specs.Image.{Contents, key_in, with_child, blank_words}
use Rattle.frame_text.specs.Numbers.{is_number, decimal_value, number_below}
use Rattle.frame_text.specs.Records.{after_record, records_of}
use Rattle.frame_text.specs.BitWords.{words_in, hex_text}

-- an image as plain data: the key of its memory, and its words
pub record Drawn : Type 0 where
  pub key : Key
  pub words : List ℕ

-- the same of an image as a value
abbrev pub drawn : Contents → Drawn
drawn image = record { key = key_in image; words = image.words }

-- Reading.

-- a field spells exactly this number, perhaps with leading zeros
unfoldable pub spells : ℕ → List ℕ → Bool
spells n field = is_number field && nat_eq (decimal_value field) n

-- the first two fields of a part: what kind it is, and its number
unfoldable pub is_named : List ℕ → ℕ → List ℕ → List ℕ → Bool
is_named name n word number = bytes_eq word name && spells n number

-- a flag is 0 or 1
unfoldable pub flag_said : List ℕ → Option Bool
flag_said field = option_map (λ n. nat_eq n 1) (number_below 2 field)

-- how many frames of a child exist, of all but the last all of them
abbrev pub frames_in : Key → ℕ → ℕ
frames_in key child = min 512 (key.frames - 512 * child)

-- from this frame of a child on all are set
unfoldable pub all_set_from : ℕ → List ℕ → Bool
all_set_from first bits =
    list_all (λ i. nat_eq (bit_at (slice_index bits (i / 64)) (i % 64)) 1)
    (range_with_len first (512 - first))

-- the frames of a child that do not exist are set, and a child with such frames is not huge
unfoldable pub keeps_end : ℕ → Bool → List ℕ → Bool
keeps_end frames huge bits = nat_le 512 frames || (not huge && all_set_from frames bits)

-- what is said of a child with so many frames: how many are free, whether it is huge, its bits
unfoldable pub child_said : ℕ → List ℕ → List ℕ → List ℕ → Option (ℕ × Bool × List ℕ)
child_said frames free huge bits =
    option_and_then (λ n. option_and_then (λ up. option_and_then (λ words.
    if keeps_end frames up words then Some (n, up, words) else None)
    (words_in bits)) (flag_said huge)) (number_below 513 free)

-- what is said of a tree of this size: how many frames are free, and whether it is reserved
unfoldable pub tree_said : ℕ → List ℕ → List ℕ → Option (ℕ × Bool)
tree_said size free reserved =
    option_and_then (λ n. option_map (λ up. (n, up)) (flag_said reserved))
    (number_below (size + 1) free)

-- a reservation: a tree, and how many of its frames rest
unfoldable pub reservation_said : Key → List ℕ → List ℕ → Option (ℕ × ℕ)
reservation_said key tree free =
    option_and_then (λ t. option_map (λ n. (t, n)) (number_below (size_of key t + 1) free))
    (number_below (tree_count key) tree)

-- what is said of a core: a reservation, or none where both fields are empty
unfoldable pub rest_said : Key → List ℕ → List ℕ → Option (Option (ℕ × ℕ))
rest_said key tree free =
    if (length tree == 0) && (length free == 0) then Some None
    else option_map (λ rest. Some rest) (reservation_said key tree free)

-- the words with what a record says of a child
unfoldable pub child_with : Key → ℕ → List ℕ → List ℕ → List ℕ → List ℕ → List ℕ → List ℕ
    → Option (List ℕ)
child_with key child words word number free huge bits =
    if is_named (codes "child") child word number
    then option_map (λ said. with_child key words child (entry_word said.0 (flag said.1)) said.2)
    (child_said (frames_in key child) free huge bits)
    else None

-- the words with what a record says of a tree
unfoldable pub tree_with : Key → ℕ → List ℕ → List ℕ → List ℕ → List ℕ → List ℕ → List ℕ
    → Option (List ℕ)
tree_with key tree words word number free reserved nothing =
    if is_named (codes "tree") tree word number && (length nothing == 0)
    then option_map (λ said. with_tree key words tree (entry_word said.0 (flag said.1)))
    (tree_said (size_of key tree) free reserved)
    else None

-- the words with what a record says of a core
unfoldable pub core_with : Key → ℕ → List ℕ → List ℕ → List ℕ → List ℕ → List ℕ → List ℕ
    → Option (List ℕ)
core_with key core words word number tree free nothing =
    if is_named (codes "core") core word number && (length nothing == 0)
    then option_map (λ rest. with_local key words core (local_word rest)) (rest_said key tree free)
    else None

-- the parts of an image are its children, then its trees, then its cores
unfoldable pub fields_with : Key → ℕ → List ℕ → List ℕ → List ℕ → List ℕ → List ℕ → List ℕ
    → Option (List ℕ)
fields_with key part words a b c d e =
    if nat_lt part key.children then child_with key part words a b c d e
    else if nat_lt (part - key.children) (tree_count key)
    then tree_with key (part - key.children) words a b c d e
    else if nat_lt (part - key.children - tree_count key) key.cores
    then core_with key (part - key.children - tree_count key) words a b c d e
    else None

-- how many parts an image has
abbrev pub part_count : Key → ℕ
part_count key = key.children + tree_count key + key.cores

-- the words with what a record of five fields says as this part of an image
unfoldable pub part_with : Key → ℕ → List ℕ → List (List ℕ) → Option (List ℕ)
part_with key part words (a ∷ b ∷ c ∷ d ∷ e ∷ []) = fields_with key part words a b c d e
part_with key part words _ = None

-- what records say from a part on; part 0 is record 2
unfoldable pub parts_from : Key → ℕ → List ℕ → List (List (List ℕ)) → Result (List ℕ) ℕ
parts_from key part words [] = if nat_eq part (part_count key) then Ok words else Err (part + 2)
parts_from key part words (row ∷ rows) =
    after_record (part + 2) (λ next. parts_from key (part + 1) next rows)
    (part_with key part words row)

-- the key of these sizes, where they lie within the limits
unfoldable pub key_with : ℕ → ℕ → ℕ → Option Key
key_with children cores frames =
    if nat_lt 0 children && nat_le children 4096 && nat_lt 0 cores && nat_le cores 64
    && nat_lt (512 * (children - 1)) frames && nat_le frames (512 * children)
    then Some (record {
      children = children;
      cores = cores;
      frames = frames;
      ranges = [];
      sealed = true;
    })
    else None

-- the frames of a memory: version 1 has whole children, version 2 says how many
unfoldable pub frames_said : List ℕ → ℕ → List ℕ → Option ℕ
frames_said version children frames =
    if bytes_eq version (codes "1")
    then (if length frames == 0 then Some (512 * children) else None)
    else if bytes_eq version (codes "2") then number_below 2_097_153 frames else None

-- the sizes of a memory
unfoldable pub sizes_said : List ℕ → List ℕ → List ℕ → List ℕ → Option Key
sizes_said version children cores frames =
    option_and_then (λ n. option_and_then (λ k. option_and_then (λ x. key_with n k x)
    (frames_said version n frames)) (number_below 65 cores)) (number_below 4097 children)

-- the sizes that five fields say
unfoldable pub named_sizes : List ℕ → List ℕ → List ℕ → List ℕ → List ℕ → Option Key
named_sizes word version children cores frames =
    if bytes_eq word (codes "llfree") then sizes_said version children cores frames else None

-- what the first record says
unfoldable pub header_said : List (List ℕ) → Option Key
header_said (a ∷ b ∷ c ∷ d ∷ e ∷ []) = named_sizes a b c d e
header_said _ = None

-- words and the key of their memory, or the number of a refused record
abbrev pub with_key : Key → Result (List ℕ) ℕ → Result Drawn ℕ
with_key key (Ok words) = Ok (record { key = key; words = words })
with_key key (Err number) = Err number

-- what the records behind the first say
unfoldable pub image_behind : Option Key → List (List (List ℕ)) → Result Drawn ℕ
image_behind None rows = Err 1
image_behind (Some key) rows =
    with_key key (parts_from key 0 (blank_words key) rows)

-- what records say as an image
unfoldable pub image_in : List (List (List ℕ)) → Result Drawn ℕ
image_in [] = Err 1
image_in (row ∷ rows) = image_behind (header_said row) rows

-- what a text says as an image, by the records that `csv` reads from it: the image, or the number
-- of the lowest refused or missing record
unfoldable pub image_of : List ℕ → Result Drawn ℕ
image_of text = image_in (records_of text)

-- why an image was not read: memory ran out, or this is the number of the lowest refused record
abbrev pub Explains : Fault → Result Drawn ℕ → Type 0
Explains fault.NoMemory read = Unit {0}
Explains (fault.BadImage line) read = read ≡ Err line
Explains _ read = ⊥

-- why parts were not read
abbrev pub ExplainsParts : Fault → Result (List ℕ) ℕ → Type 0
ExplainsParts fault.NoMemory read = Unit {0}
ExplainsParts (fault.BadImage line) read = read ≡ Err line
ExplainsParts _ read = ⊥

-- the faults of reading an image from a reader
abbrev pub IsReadingFault : Fault → Type 0
IsReadingFault fault.NoMemory = Unit {0}
IsReadingFault (fault.BadImage line) = Unit {0}
IsReadingFault fault.ReadFailed = Unit {0}
IsReadingFault _ = ⊥

-- Writing.

-- why an image has no text: it has too many cores, or memory ran out
abbrev pub HasNoText : Key → Fault → Type 0
HasNoText key fault.BadGeometry = most_text_cores < key.cores
HasNoText key fault.NoMemory = Unit {0}
HasNoText key _ = ⊥

-- the first record; version 2 where the memory ends inside a child
unfoldable pub header_row : Key → List (List ℕ)
header_row key =
    if nat_eq key.frames (frame_count key)
    then codes "llfree" ∷ codes "1" ∷ decimal key.children ∷ decimal key.cores ∷ [] ∷ []
    else codes "llfree" ∷ codes "2" ∷ decimal key.children ∷ decimal key.cores
    ∷ decimal key.frames ∷ []

-- the bit words of a child
unfoldable pub child_bits : Key → List ℕ → ℕ → List ℕ
child_bits key words child = map (bit_word_of key words) (range_with_len (8 * child) 8)

-- the record of a child
unfoldable pub child_row : Key → List ℕ → ℕ → List (List ℕ)
child_row key words child =
    codes "child" ∷ decimal child ∷ decimal (free_of words child) ∷ decimal (huge_of words child)
    ∷ hex_text (child_bits key words child) ∷ []

-- the record of a tree
unfoldable pub tree_row : Key → List ℕ → ℕ → List (List ℕ)
tree_row key words tree =
    codes "tree" ∷ decimal tree ∷ decimal (tree_free_of key words tree)
    ∷ decimal (reserved_of key words tree) ∷ [] ∷ []

-- the record of a core with this reservation
unfoldable pub rest_row : ℕ → Option (ℕ × ℕ) → List (List ℕ)
rest_row core None = codes "core" ∷ decimal core ∷ [] ∷ [] ∷ [] ∷ []
rest_row core (Some rest) = codes "core" ∷ decimal core ∷ decimal rest.0 ∷ decimal rest.1 ∷ [] ∷ []

-- the record of a core
unfoldable pub core_row : Key → List ℕ → ℕ → List (List ℕ)
core_row key words core = rest_row core (rest_of key words core)

-- the records of these children
abbrev pub child_rows : Key → List ℕ → List ℕ → List (List (List ℕ))
child_rows key words children = map (child_row key words) children

-- the records of these trees
abbrev pub tree_rows : Key → List ℕ → List ℕ → List (List (List ℕ))
tree_rows key words trees = map (tree_row key words) trees

-- the records of these cores
abbrev pub core_rows : Key → List ℕ → List ℕ → List (List (List ℕ))
core_rows key words cores = map (core_row key words) cores

-- the records of all parts of an image
abbrev pub part_rows : Key → List ℕ → List (List (List ℕ))
part_rows key words =
    child_rows key words (range_with_len 0 key.children)
    ++ (tree_rows key words (range_with_len 0 (tree_count key))
    ++ core_rows key words (range_with_len 0 key.cores))

-- the records of an image
unfoldable pub rows_of : Drawn → List (List (List ℕ))
rows_of image = header_row image.key ∷ part_rows image.key image.words

-- the text of records, as `csv` writes it
abbrev pub text_of : List (List (List ℕ)) → List ℕ
text_of rows = flat_map (row_text default_writer) rows

-- the text of an image
unfoldable pub picture_of : Drawn → List ℕ
picture_of image = text_of (rows_of image)
