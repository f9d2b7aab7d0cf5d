-- The text of an image is read back as the image.
use Rattle.std.proofs.Common.{◌≡◌, ◌∙◌, ⊎_elim, ℕ, zero, suc, ◌+◌, ◌-◌, ◌*◌, ◌<◌, ◌≤◌, List, [], ◌∷◌}
use Rattle.std.proofs.Common.{◌++◌, map, Bool, true, false, Option, Some, None, Result, Ok, refl}
use Rattle.std.proofs.Common.{ap, sym, subst, arith}
use Rattle.std.specs.Prelude.{nat_eq, nat_lt, nat_le, codes, decimal}
use Rattle.std.specs.List.{range_with_len}
use Rattle.std.proofs.lemmas.Bool.{cases_eq}
use Rattle.std.proofs.lemmas.Bool.Decides.{nat_tests}
use Rattle.std.proofs.lemmas.List.{map-append}
use Rattle.csv.specs.Reading.{default_config, records, strip_bom}
use Rattle.csv.specs.Writing.{read_back}
use Rattle.frame_words.specs.Geometry.{most_text_cores}
use Rattle.frame_words.specs.declared.geometry.Geometry.{Geometry}
use Rattle.frame_model.specs.declared.key.Key.{Key}
use Rattle.frame_model.specs.Key.{key_of, tree_count, frame_count, AreSizes}
use Rattle.frame_model.specs.Words.{rest_of}
use Rattle.frame_core.specs.Image.{Contents, IsImage, key_in, blank_words}
use Rattle.frame_core.proofs.Blank.{blank_image}
use Rattle.frame_core.specs.Movers.{sizes_of}
use Rattle.frame_text.specs.Records.{records_of}
use Rattle.frame_text.specs.ImageText.{drawn, part_count, parts_from, key_with, frames_said}
use Rattle.frame_text.specs.ImageText.{sizes_said, named_sizes, header_said, header_row}
use Rattle.frame_text.specs.ImageText.{image_behind, image_in, image_of, child_row, tree_row}
use Rattle.frame_text.specs.ImageText.{core_row, rest_row, child_rows, tree_rows, core_rows}
use Rattle.frame_text.specs.ImageText.{rows_of, part_rows, text_of, picture_of}
use Rattle.frame_text.proofs.NumberLemmas.{number_below-decimal}
use Rattle.frame_text.proofs.PartLemmas.{parts_more, parts_all}
use Rattle.frame_core.proofs.SameWords.{same_words}
use Rattle.frame_text.proofs.RoundTrip.{child_part, tree_part, core_part}
use Rattle.frame_text.proofs.RoundTripSteps.{ReadSo, child_step, tree_step, core_step}
use Rattle.frame_text.proofs.ReadBack.{records_of_rows}

-- Parts.

-- from some part on these records lead to another part, where the words say the same so far
pub record LeadsTo (key : Key) (ws : List ℕ) (start : Result (List ℕ) ℕ) (part child tree core : ℕ) (rows : List (List (List ℕ))) : Type 0
  where
    pub words : List ℕ
    pub so : ReadSo key ws words child tree core
    pub says : start ≡ parts_from key part words rows

module _ (key : Key) (ws : List ℕ) (image : IsImage key ws) (sizes : AreSizes key) where
  children_read : (n c : ℕ) (words : List ℕ) (rows : List (List (List ℕ))) → c + n ≡ key.children
      → ReadSo key ws words c 0 0
      → LeadsTo key ws (parts_from key c words (child_rows key ws (range_with_len c n) ++ rows)) key.children key.children 0 0 rows
  children_read zero c words rows e so =
      let all : c ≡ key.children = omega arith in
      record {
        words = words;
        so = subst (λ d. ReadSo key ws words d 0 0) all so;
        says = ap (λ p. parts_from key p words rows) all;
      }
  children_read (suc n) c words rows e so =
      let h : c < key.children = omega arith in
      let more = children_read n (c + 1) _ rows (omega arith) (child_step key ws image words c h so) in
      record {
        words = more.words;
        so = more.so;
        says = parts_more key c words (child_row key ws c) _ _ (child_part key ws image sizes c h words) ∙ more.says;
      }

  trees_read : (n t part : ℕ) (words : List ℕ) (rows : List (List (List ℕ))) → t + n ≡ tree_count key
      → part ≡ key.children + t → ReadSo key ws words key.children t 0
      → LeadsTo key ws (parts_from key part words (tree_rows key ws (range_with_len t n) ++ rows)) (key.children + tree_count key)
      key.children (tree_count key) 0 rows
  trees_read zero t part words rows e at so =
      let all : t ≡ tree_count key = omega arith in
      record {
        words = words;
        so = subst (λ d. ReadSo key ws words key.children d 0) all so;
        says = ap (λ p. parts_from key p words rows) (omega (arith, all));
      }
  trees_read (suc n) t part words rows e at so =
      let h : t < tree_count key = omega arith in
      let more = trees_read n (t + 1) (part + 1) _ rows (omega arith) (omega arith) (tree_step key ws image words t h so) in
      record {
        words = more.words;
        so = more.so;
        says = parts_more key part words (tree_row key ws t) _ _ (tree_part key ws image sizes t h words part at) ∙ more.says;
      }

  cores_read : (n k part : ℕ) (words : List ℕ) → k + n ≡ key.cores
      → part ≡ key.children + tree_count key + k → ReadSo key ws words key.children (tree_count key) k
      → LeadsTo key ws (parts_from key part words (core_rows key ws (range_with_len k n))) (part_count key) key.children (tree_count key)
      key.cores []
  cores_read zero k part words e at so =
      let all : k ≡ key.cores = omega arith in
      record {
        words = words;
        so = subst (λ d. ReadSo key ws words key.children (tree_count key) d) all so;
        says = ap (λ p. parts_from key p words []) (omega (arith, all));
      }
  cores_read (suc n) k part words e at so =
      let h : k < key.cores = omega arith in
      let more = cores_read n (k + 1) (part + 1) _ (omega arith) (omega arith) (core_step key ws image words k h so) in
      record {
        words = more.words;
        so = more.so;
        says = parts_more key part words (core_row key ws k) _ _ (core_part key ws image sizes k h words part at) ∙ more.says;
      }

  -- before any part
  blank_read : ReadSo key ws (blank_words key) 0 0 0
  blank_read = record {
    image = blank_image key;
    same = record {
      free = λ c h. absurd (omega arith);
      huge = λ c h. absurd (omega arith);
      bits = λ w h. absurd (omega arith);
      trees = λ t h. absurd (omega arith);
      reserved = λ t h. absurd (omega arith);
      rests = λ k h. absurd (omega arith);
    };
  }

  -- the records of all parts say the words
  pub parts_read : parts_from key 0 (blank_words key) (part_rows key ws) ≡ Ok ws
  parts_read =
      let cores : List (List (List ℕ)) = core_rows key ws (range_with_len 0 key.cores) in
      let trees : List (List (List ℕ)) = tree_rows key ws (range_with_len 0 (tree_count key)) in
      let a = children_read key.children 0 (blank_words key) (trees ++ cores) (omega arith) blank_read in
      let b = trees_read (tree_count key) 0 key.children a.words cores (omega arith) (omega arith) a.so in
      let c = cores_read key.cores 0 (key.children + tree_count key) b.words (omega arith) (omega arith) b.so in
      a.says ∙ b.says ∙ c.says ∙ parts_all key (part_count key) c.words refl
      ∙ ap (λ (l : List ℕ). Ok l) (same_words key ws c.words image.in_range c.so.image.in_range c.so.same)

-- The first record.

module _ (g : Geometry) (few : g.cores ≤ most_text_cores) where
  key_told : key_with g.children g.cores g.frames ≡ Some (key_of g)
  unfolding key_with
  key_told =
      let a : nat_lt 0 g.children ≡ true = grind (arith, nat_tests) in
      let b : nat_le g.children 4096 ≡ true = grind (arith, nat_tests) in
      let c : nat_lt 0 g.cores ≡ true = grind (arith, nat_tests) in
      let d : nat_le g.cores 64 ≡ true = grind (arith, nat_tests, few) in
      let e : nat_lt (512 * (g.children - 1)) g.frames ≡ true = grind (arith, nat_tests) in
      let f : nat_le g.frames (512 * g.children) ≡ true = grind (arith, nat_tests) in
      rw (a, b, c, d, e, f) refl

  sizes_told : (version frames : List ℕ) → frames_said version g.children frames ≡ Some g.frames
      → sizes_said version (decimal g.children) (decimal g.cores) frames ≡ Some (key_of g)
  unfolding sizes_said
  sizes_told version frames e =
      rw (
        number_below-decimal 4097 g.children (omega arith) (omega arith),
        number_below-decimal 65 g.cores (omega (arith, few)) (omega (arith, few)),
        e,
      ) key_told

  whole_told : g.frames ≡ 512 * g.children → frames_said (codes "1") g.children [] ≡ Some g.frames
  unfolding frames_said
  whole_told e = ap (λ n. Some n) (sym e)

  cut_told : frames_said (codes "2") g.children (decimal g.frames) ≡ Some g.frames
  unfolding frames_said
  cut_told = number_below-decimal 2097153 g.frames (omega arith) (omega arith)

  -- the first record says the sizes
  pub header_told : header_said (header_row (key_of g)) ≡ Some (key_of g)
  unfolding header_row header_said named_sizes
  header_told =
      ⊎_elim
      (λ (e : g.frames ≡ 512 * g.children).
      let t : nat_eq g.frames (512 * g.children) ≡ true = grind (arith, nat_tests) in
      rw t (sizes_told (codes "1") [] (whole_told e)))
      (λ ne.
      let t : nat_eq g.frames (512 * g.children) ≡ false = grind (arith, nat_tests) in
      rw t (sizes_told (codes "2") (decimal g.frames) cut_told))
      (cases_eq g.frames (512 * g.children))

-- The text.

-- a text that begins so has no byte order mark
strip_named : (fields : List (List ℕ)) (rows : List (List (List ℕ)))
    → strip_bom (text_of ((codes "llfree" ∷ fields) ∷ rows)) ≡ text_of ((codes "llfree" ∷ fields) ∷ rows)
unfolding strip_bom
strip_named fields rows = refl

strip_header : (key : Key) (rows : List (List (List ℕ)))
    → strip_bom (text_of (header_row key ∷ rows)) ≡ text_of (header_row key ∷ rows)
unfolding header_row
strip_header key rows = by_end (nat_eq key.frames (frame_count key)) refl
  where
    by_end : (b : Bool) → nat_eq key.frames (frame_count key) ≡ b
        → strip_bom (text_of (header_row key ∷ rows)) ≡ text_of (header_row key ∷ rows)
    by_end true t = rw t (strip_named (codes "1" ∷ decimal key.children ∷ decimal key.cores ∷ [] ∷ []) rows)
    by_end false t = rw t (strip_named (codes "2" ∷ decimal key.children ∷ decimal key.cores ∷ decimal key.frames ∷ []) rows)

same_rows : (f : ℕ → List (List ℕ)) (ns : List ℕ) → ((n : ℕ) → read_back (f n) ≡ f n) → map read_back (map f ns) ≡ map f ns
same_rows f [] same = refl
same_rows f (n ∷ ns) same = rw (same n, same_rows f ns same) refl

both_back : (xs ys : List (List (List ℕ))) → map read_back xs ≡ xs → map read_back ys ≡ ys
    → map read_back (xs ++ ys) ≡ xs ++ ys
both_back xs ys x y = map-append read_back xs ys ∙ ap (λ t. t ++ map read_back ys) x ∙ ap (λ t. xs ++ t) y

first_back : (row : List (List ℕ)) (rows : List (List (List ℕ))) → read_back row ≡ row → map read_back rows ≡ rows
    → map read_back (row ∷ rows) ≡ row ∷ rows
first_back row rows x y = ap (λ r. r ∷ map read_back rows) x ∙ ap (λ t. row ∷ t) y

header_back : (key : Key) → read_back (header_row key) ≡ header_row key
unfolding header_row
header_back key = by_end (nat_eq key.frames (frame_count key)) refl
  where
    by_end : (b : Bool) → nat_eq key.frames (frame_count key) ≡ b → read_back (header_row key) ≡ header_row key
    by_end true t = rw t refl
    by_end false t = rw t refl

module _ (key : Key) (ws : List ℕ) where
  child_back : (c : ℕ) → read_back (child_row key ws c) ≡ child_row key ws c
  unfolding child_row
  child_back c = refl

  tree_back : (t : ℕ) → read_back (tree_row key ws t) ≡ tree_row key ws t
  unfolding tree_row
  tree_back t = refl

  rest_back : (k : ℕ) (rest : Option (ℕ × ℕ)) → read_back (rest_row k rest) ≡ rest_row k rest
  unfolding rest_row
  rest_back k None = refl
  rest_back k (Some rest) = refl

  core_back : (k : ℕ) → read_back (core_row key ws k) ≡ core_row key ws k
  unfolding core_row
  core_back k = rest_back k (rest_of key ws k)

  rows_back : map read_back (rows_of (record { key = key; words = ws })) ≡ rows_of (record { key = key; words = ws })
  unfolding rows_of
  rows_back =
      first_back (header_row key) _ (header_back key)
      (both_back (child_rows key ws (range_with_len 0 key.children)) _
      (same_rows (child_row key ws) (range_with_len 0 key.children) child_back)
      (both_back (tree_rows key ws (range_with_len 0 (tree_count key))) _
      (same_rows (tree_row key ws) (range_with_len 0 (tree_count key)) tree_back)
      (same_rows (core_row key ws) (range_with_len 0 key.cores) core_back)))

  strip_rows : strip_bom (text_of (rows_of (record { key = key; words = ws }))) ≡ text_of (rows_of (record { key = key; words = ws }))
  unfolding rows_of
  strip_rows = strip_header key (part_rows key ws)

  -- the records of the text of an image are the records of the image
  pub records_back : records_of (picture_of (record { key = key; words = ws })) ≡ rows_of (record { key = key; words = ws })
  unfolding picture_of
  records_back =
      ap (records default_config) strip_rows
      ∙ records_of_rows (rows_of (record { key = key; words = ws }))
      ∙ rows_back

-- what is written of an image is read back as the image
pub image_in-rows_of : (image : Contents) → image.geometry.cores ≤ most_text_cores → IsImage (key_in image) image.words
    → image_in (rows_of (drawn image)) ≡ Ok (drawn image)
unfolding rows_of image_in image_behind
image_in-rows_of image few is =
    rw (header_told image.geometry few, parts_read (key_in image) image.words is (sizes_of (key_in image) image.geometry (refl, refl, refl))) refl

pub image_of-picture_of : (image : Contents) → image.geometry.cores ≤ most_text_cores → IsImage (key_in image) image.words
    → image_of (picture_of (drawn image)) ≡ Ok (drawn image)
unfolding image_of
image_of-picture_of image few is =
    ap image_in (records_back (key_in image) image.words) ∙ image_in-rows_of image few is
