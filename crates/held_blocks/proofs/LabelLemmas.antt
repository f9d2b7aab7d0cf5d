-- Labels are short ASCII text, and different ones have different numbers.
use Rattle.std.proofs.Common.{ℕ, suc, ◌+◌, ◌-◌, ◌*◌, ◌^◌, ◌≡◌, ◌<◌, ◌≤◌, true, ◌&&◌, List, []}
use Rattle.std.proofs.Common.{◌∷◌, length, drop, get_or, nat_lt, nat_le, ap, ◌∙◌, refl, arith}
use Rattle.std.specs.List.{list_all, AllByRecursion}
use Rattle.std.specs.Str.{IsUtf8}
use Rattle.std.proofs.Math.Nat.{pow-le-pow_right, pow-succ'}
use Rattle.std.proofs.lemmas.Grind.{common_steps}
use Rattle.std.proofs.lemmas.Bool.{and_parts}
use Rattle.std.proofs.lemmas.List.{drop_more, length-drop, get_or-drop}
use Rattle.std.proofs.lemmas.List.Elements.{All-from_recursion}
use Rattle.std.proofs.lemmas.Str.{IsUtf8-from_ascii}
use Rattle.std.proofs.lemmas.Str.Ascii.{IsAscii-from_all}
use Rattle.held_blocks.specs.Label.{is_label, is_label_byte, packed}

-- bytes, none of them 0
abbrev pub IsWord : List ℕ → Type 0
IsWord [] = Unit {0}
IsWord (x ∷ xs) = (0 < x) × (x < 128) × IsWord xs

label_byte_small : (b : ℕ) → is_label_byte b ≡ true → b < 128
unfolding is_label_byte
label_byte_small b e = grind (arith, common_steps)

label_byte_some : (b : ℕ) → is_label_byte b ≡ true → 0 < b
unfolding is_label_byte
label_byte_some b e = grind (arith, common_steps)

bytes_word : (bs : List ℕ) → list_all is_label_byte bs ≡ true → IsWord bs
bytes_word [] e = tt
bytes_word (b ∷ bs) e =
    let both = and_parts (is_label_byte b) (list_all is_label_byte bs) e in
    (label_byte_some b both.0, label_byte_small b both.0, bytes_word bs both.1)

word_ascii : (bs : List ℕ) → IsWord bs → AllByRecursion (λ b. b < 128) bs
word_ascii [] w = tt
word_ascii (b ∷ bs) w = (w.1, word_ascii bs w.2)

pub label_word : (bs : List ℕ) → is_label bs ≡ true → IsWord bs
unfolding is_label
label_word bs e = bytes_word bs (and_parts (nat_lt 0 (length bs) && nat_le (length bs) 16) (list_all is_label_byte bs) e).1

-- a label has at most sixteen bytes
pub label_short : (bs : List ℕ) → is_label bs ≡ true → length bs ≤ 16
unfolding is_label
label_short bs e =
    let whole = and_parts (nat_lt 0 (length bs) && nat_le (length bs) 16) (list_all is_label_byte bs) e in
    let size = and_parts (nat_lt 0 (length bs)) (nat_le (length bs) 16) whole.0 in grind (arith, common_steps)

pub label_text : (bs : List ℕ) → is_label bs ≡ true → IsUtf8 bs
label_text bs e = IsUtf8-from_ascii bs (IsAscii-from_all bs (All-from_recursion _ _ (word_ascii bs (label_word bs e))))

packed_apart : (xs ys : List ℕ) → IsWord xs → IsWord ys → packed xs ≡ packed ys → xs ≡ ys
packed_apart [] [] v w e = refl
packed_apart [] (y ∷ ys) v w e = let p = w.0 in absurd (omega arith)
packed_apart (x ∷ xs) [] v w e = let p = v.0 in absurd (omega arith)
packed_apart (x ∷ xs) (y ∷ ys) v w e =
    let p = v.1 in
    let q = w.1 in
    let same : x ≡ y = omega arith in
    let rest : packed xs ≡ packed ys = omega arith in
    let tails = packed_apart xs ys v.2 w.2 rest in cc

-- two labels with one number are equal
pub same_label : (xs ys : List ℕ) → is_label xs ≡ true → is_label ys ≡ true
    → packed xs ≡ packed ys → xs ≡ ys
same_label xs ys v w e = packed_apart xs ys (label_word xs v) (label_word ys w) e

packed_small : (xs : List ℕ) → ((k : ℕ) → get_or xs k 0 < 256) → packed xs < 256 ^ length xs
packed_small [] h = omega arith
packed_small (x ∷ xs) h =
    let p = packed_small xs (λ k. h (suc k)) in
    let b : x < 256 = h 0 in
    let e : 256 ^ suc (length xs) ≡ 256 * 256 ^ length xs = pow-succ' 256 (length xs) in
    rw e (omega arith)

packed_fits : (xs : List ℕ) → length xs ≤ 15 → ((k : ℕ) → get_or xs k 0 < 256)
    → packed xs < 256 ^ 15
packed_fits xs short h =
    let p = packed_small xs h in
    let m : 256 ^ length xs ≤ 256 ^ 15 = pow-le-pow_right (omega arith) short in omega arith

-- the number of the bytes from a place on leaves room for one more byte
pub key_fits : (xs : List ℕ) (left : ℕ) → 0 < left → length xs ≤ 16
    → ((k : ℕ) → get_or xs k 0 < 256)
    → packed (drop left xs) < 1329227995784915872903807060280344576
key_fits xs left some short h =
    let n = length-drop left xs in
    let f = packed_fits (drop left xs) (omega arith) (λ k. rw (get_or-drop left xs k 0) (h (left + k))) in
    let e : 256 ^ 15 ≡ 1329227995784915872903807060280344576 = refl in rw e at f

-- the number of one byte more
pub key_more : (xs : List ℕ) (left : ℕ) (key byte : ℕ) → 0 < left → left ≤ length xs
    → key ≡ packed (drop left xs)
    → byte ≡ get_or xs (left - 1) 0 → key * 256 + byte ≡ packed (drop (left - 1) xs)
key_more xs left key byte some within is read =
    let back : (left - 1) + 1 ≡ left = omega arith in
    let d = drop_more xs (left - 1) 0 (omega arith) in
    let e : packed (drop (left - 1) xs) ≡ get_or xs (left - 1) 0 + 256 * packed (drop left xs) =
    ap packed d ∙ ap (λ k. get_or xs (left - 1) 0 + 256 * packed (drop k xs)) back in
    omega arith
