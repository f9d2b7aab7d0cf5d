-- The records of a text in two parts, cut behind the end of a line.
use Rattle.std.specs.Prelude.{if◌then◌else◌, ◌==◌, ◌||◌, ◌≢◌, slice_get, slice_index, ⊤}
use Rattle.std.specs.Bool.{MatchBool}
use Rattle.std.specs.List.{All}
use Rattle.std.proofs.Common.{◌≡◌, ◌∙◌, ℕ, suc, ◌-◌, ◌≤◌, Bool, true, false, List, [], ◌∷◌, ◌++◌, length, take}
use Rattle.std.proofs.Common.{Some, None, refl, ap, sym, arith, append_assoc}
use Rattle.std.proofs.lemmas.Bool.{ne_eqb}
use Rattle.std.proofs.Math.Bool.{and-false}
use Rattle.std.proofs.lemmas.List.Elements.{All-head, All-tail, All-take, All-drop}
use Rattle.std.proofs.lemmas.List.{length-take-le, take_all}
use Rattle.std.proofs.Math.Seq.{take-suc}
use Rattle.csv.specs.Machine.{field_after, fields_after, in_field, is_end}
use Rattle.csv.specs.Machine.{start_field, start_record, step}
use Rattle.csv.specs.Reading.{default_config, is_bom, records, strip_bom}
use Rattle.csv.specs.declared.parser.Action.{Action}
use Rattle.csv.specs.declared.parser.State.{State}
use Rattle.csv.specs.declared.parser.State.TheVariants as st
use Rattle.frame_text.specs.Records.{records_of}
use Rattle.frame_text.proofs.Reading.{rows_are_records, rows_onward}

-- a state outside quotes and comments, with no field at hand between two records
abbrev IsPlain : State → List (List ℕ) → List ℕ → Type 0
IsPlain st.StartRecord fields field = (fields ≡ []) × (field ≡ [])
IsPlain st.AfterCr fields field = (fields ≡ []) × (field ≡ [])
IsPlain st.StartField fields field = ⊤
IsPlain st.InField fields field = ⊤
IsPlain s fields field = ⊥

-- a state after the end of a record is plain
after_end_plain : (b : Bool) → IsPlain (if b then st.AfterCr else st.StartRecord) [] []
after_end_plain true = (refl, refl)
after_end_plain false = (refl, refl)

module _ (fields : List (List ℕ)) (field : List ℕ) (c : ℕ) where
  -- the state after the byte c is plain too, with no field at hand where c ended a record
  abbrev StaysPlain : State × Action → Type 0
  StaysPlain q =
      MatchBool (is_end q.1) (IsPlain q.0 [] []) (IsPlain q.0 (fields_after q.1 fields field) (field_after q.1 c field))

  -- it is after a test where it is on either side
  if_plain : (b : Bool) (x y : State × Action) → StaysPlain x → StaysPlain y → StaysPlain (if b then x else y)
  if_plain true x y p q = p
  if_plain false x y p q = q

  -- a byte in a field leaves a plain state
  in_field_plain : StaysPlain (in_field default_config c)
  in_field_plain = if_plain (c == 44) _ _ tt (if_plain ((c == 13) || (c == 10)) _ _ (after_end_plain (c == 13)) tt)

  -- and one at the start of a field, where it is no quote
  start_field_plain : c ≢ 34 → StaysPlain (start_field default_config c)
  start_field_plain other = rw (ne_eqb c 34 other) in_field_plain

  -- and one at the start of a record
  start_record_plain : c ≢ 34 → IsPlain st.StartRecord fields field → StaysPlain (start_record default_config c)
  start_record_plain other plain = if_plain ((c == 13) || (c == 10)) _ _ plain (start_field_plain other)

  -- a byte that is no quote leaves a plain state plain
  step_plain : (s : State) → c ≢ 34 → IsPlain s fields field → StaysPlain (step default_config s c)
  step_plain st.StartRecord other plain = start_record_plain other plain
  step_plain st.AfterCr other plain = if_plain (c == 10) _ _ plain (start_record_plain other plain)
  step_plain st.StartField other plain = start_field_plain other
  step_plain st.InField other plain = in_field_plain
  step_plain s other plain = absurd plain

module _ (behind : List ℕ) where
  -- a text from a state on, with a line feed and the text behind, has the records of each part
  abbrev Apart : State → List (List ℕ) → List ℕ → List ℕ → Type 0
  Apart s fields field front =
      rows_onward s fields field (front ++ (10 ∷ behind))
      ≡ rows_onward s fields field (front ++ (10 ∷ [])) ++ rows_onward st.StartRecord [] [] behind

  -- the line feed ends the record, or there is none
  feed_apart : (s : State) (fields : List (List ℕ)) (field : List ℕ) → IsPlain s fields field → Apart s fields field []
  unfolding rows_onward
  feed_apart st.StartRecord fields field plain = rw (plain.0, plain.1) refl
  feed_apart st.AfterCr fields field plain = rw (plain.0, plain.1) refl
  feed_apart st.StartField fields field plain = refl
  feed_apart st.InField fields field plain = refl
  feed_apart s fields field plain = absurd plain

  -- a byte before the rest, whether it ends a record or not
  byte_apart : (b : Bool) (row fields : List (List ℕ)) (s : State) (field front : List ℕ)
      → MatchBool b (IsPlain s [] []) (IsPlain s fields field)
      → ((fields2 : List (List ℕ)) (field2 : List ℕ) → IsPlain s fields2 field2 → Apart s fields2 field2 front)
      → (if b then row ∷ rows_onward s [] [] (front ++ (10 ∷ behind)) else rows_onward s fields field (front ++ (10 ∷ behind)))
      ≡ (if b then row ∷ rows_onward s [] [] (front ++ (10 ∷ [])) else rows_onward s fields field (front ++ (10 ∷ [])))
      ++ rows_onward st.StartRecord [] [] behind
  byte_apart true row fields s field front plain apart = ap (λ (t : List (List (List ℕ))). row ∷ t) (apart [] [] plain)
  byte_apart false row fields s field front plain apart = apart fields field plain

  -- a text with no quote, from a plain state
  rows_apart : (s : State) (fields : List (List ℕ)) (field front : List ℕ)
      → IsPlain s fields field → All (λ c. c ≢ 34) front → Apart s fields field front
  unfolding rows_onward
  rows_apart s fields field [] plain others = feed_apart s fields field plain
  rows_apart s fields field (c ∷ rest) plain others =
      byte_apart _ _ _ (step default_config s c).0 _ rest
      (step_plain fields field c s (All-head (λ x. x ≢ 34) c rest others) plain)
      (λ fields2 field2 next. rows_apart (step default_config s c).0 fields2 field2 rest next (All-tail (λ x. x ≢ 34) c rest others))

-- no byte order mark ends in a line feed
no_feed_in_mark : (a b : ℕ) → is_bom a b 10 ≡ false
no_feed_in_mark a b = simp and-false

-- a text that does not begin with the first byte of a byte order mark has none
pub no_mark : (c : ℕ) (rest : List ℕ) → c ≢ 0xEF → strip_bom (c ∷ rest) ≡ c ∷ rest
unfolding strip_bom
no_mark c [] other = refl
no_mark c (a ∷ []) other = refl
no_mark c (a ∷ b ∷ rest) other = rw (ne_eqb c 0xEF other) refl

-- nor has a text of nothing
pub no_mark_in_none : strip_bom [] ≡ []
unfolding strip_bom
no_mark_in_none = refl

-- nor has one whose first byte is known to be another
pub no_mark_first : (text : List ℕ) (c : ℕ) → slice_get text 0 ≡ Some c → c ≢ 0xEF → strip_bom text ≡ text
no_mark_first [] c first other = no_mark_in_none
no_mark_first (x ∷ rest) c first other =
    let same : x ≡ c = cc in
    no_mark x rest (λ e. other (sym same ∙ e))

pub no_mark_at_end : (text : List ℕ) → slice_get text 0 ≡ None → strip_bom text ≡ text
no_mark_at_end [] none = no_mark_in_none
no_mark_at_end (x ∷ rest) none = cc

-- the records of a text with no quote, a line feed and what is behind it
lines_apart : (front behind : List ℕ) → All (λ c. c ≢ 34) front
    → records default_config (front ++ (10 ∷ behind))
    ≡ records default_config (front ++ (10 ∷ [])) ++ records default_config behind
lines_apart front behind others =
    rw (rows_are_records (front ++ (10 ∷ behind)), rows_are_records (front ++ (10 ∷ [])), rows_are_records behind)
    (rows_apart behind st.StartRecord [] [] front (refl, refl) others)

-- the same of a text after a mark, or of a text without one
either_apart : (marked : Bool) (after front behind : List ℕ) → All (λ c. c ≢ 34) after → All (λ c. c ≢ 34) front
    → records default_config (if marked then after ++ (10 ∷ behind) else front ++ (10 ∷ behind))
    ≡ records default_config (if marked then after ++ (10 ∷ []) else front ++ (10 ∷ [])) ++ records default_config behind
either_apart true after front behind p q = lines_apart after behind p
either_apart false after front behind p q = lines_apart front behind q

-- the same of a text that may begin with a mark
stripped_apart : (front behind : List ℕ) → 2 ≤ length front → All (λ c. c ≢ 34) front
    → records_of (front ++ (10 ∷ behind)) ≡ records_of (front ++ (10 ∷ [])) ++ records default_config behind
unfolding strip_bom
stripped_apart [] behind long others = absurd (omega arith)
stripped_apart (a ∷ []) behind long others = absurd (omega arith)
stripped_apart (a ∷ b ∷ []) behind long others = rw (no_feed_in_mark a b) (lines_apart (a ∷ b ∷ []) behind others)
stripped_apart (a ∷ b ∷ c ∷ rest) behind long others =
    either_apart (is_bom a b c) rest (a ∷ b ∷ c ∷ rest) behind (All-drop (λ x. x ≢ 34) 3 (a ∷ b ∷ c ∷ rest) others) others

-- a text that ends in a line feed, and what is before that
ends_in_feed : (text : List ℕ) → 1 ≤ length text → slice_index text (length text - 1) ≡ 10
    → text ≡ take (length text - 1) text ++ (10 ∷ [])
ends_in_feed text some last =
    sym (take_all (suc (length text - 1)) text (omega arith)) ∙ take-suc text (length text - 1) 0 (omega arith)
    ∙ ap (λ c. take (length text - 1) text ++ (c ∷ [])) last

-- the records of a text whose first part ends in a line feed and has no quote are those of its parts
pub records_apart : (front behind : List ℕ) → 3 ≤ length front → All (λ c. c ≢ 34) front
    → slice_index front (length front - 1) ≡ 10 → strip_bom behind ≡ behind
    → records_of (front ++ behind) ≡ records_of front ++ records_of behind
records_apart front behind long others last same =
    rw (ends_in_feed front (omega arith) last, append_assoc, same)
    (stripped_apart (take (length front - 1) front) behind (omega (arith, length-take-le (length front - 1) front (omega arith)))
    (All-take (λ x. x ≢ 34) (length front - 1) front others))
