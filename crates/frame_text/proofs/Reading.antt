-- How the records that a reader gives one by one follow what the whole text says.
use Rattle.std.proofs.Common.{Bor, ◌≡◌, ◌∙◌, ◌+◌, ◌≤◌, ℕ, zero, suc, List, [], ◌∷◌, ◌++◌}
use Rattle.std.proofs.Common.{length, Bool, true, false, Option, Some, refl, ap, sym, arith}
use Rattle.std.proofs.Common.{add-one}
use Rattle.std.specs.Prelude.{if◌then◌else◌}
use Rattle.csv.proofs.ReadFacts.{rows-end, rows-more}
use Rattle.csv.specs.Machine.{Read, ends_at_end, field_after, fields_after, is_end, next_record, step}
use Rattle.csv.specs.Reading.{Reached, ReadRecord, default_config, records, records_from}
use Rattle.csv.specs.Reading.{records_next, source_of, strip_bom}
use Rattle.csv.specs.declared.parser.State.{State}
use Rattle.csv.specs.declared.parser.State.TheVariants as st
use Rattle.csv.specs.declared.reader.Reader.{Reader}
use Rattle.frame_text.specs.Records.{IsReading, bytes_left, records_left, records_of}

-- the records of a text from a state on, with the fields and the bytes of the field at hand
unfoldable pub rows_onward : State → List (List ℕ) → List ℕ → List ℕ → List (List (List ℕ))
rows_onward s fields field [] = if ends_at_end s then (fields ++ (field ∷ [])) ∷ [] else []
rows_onward s fields field (c ∷ rest) =
    if is_end (step default_config s c).1
    then fields_after (step default_config s c).1 fields field ∷ rows_onward (step default_config s c).0 [] [] rest
    else rows_onward (step default_config s c).0 (fields_after (step default_config s c).1 fields field)
    (field_after (step default_config s c).1 c field) rest

-- at the end of a text no records are left
none_left : (n : ℕ) → records_from default_config n st.StartRecord [] ≡ []
unfolding records_from next_record
none_left zero = refl
none_left (suc n) = refl

-- what a read gives by a test is what it gives on either side
next_if : (b : Bool) (more : State → List ℕ → List (List (List ℕ))) (x y : Option Read) (p q : List (List (List ℕ)))
    → records_next more x ≡ p → records_next more y ≡ q → records_next more (if b then x else y) ≡ (if b then p else q)
next_if true more x y p q e f = e
next_if false more x y p q e f = f

-- the record that is read next is the first of them
pub rows_next : (s : State) (fields : List (List ℕ)) (field xs : List ℕ)
    → records_next (λ t rest. rows_onward t [] [] rest) (next_record default_config s fields field xs) ≡ rows_onward s fields field xs
unfolding rows_onward next_record
rows_next s fields field [] = next_if (ends_at_end s) _ _ _ _ _ refl refl
rows_next s fields field (c ∷ rest) =
    next_if (is_end (step default_config s c).1) _ _ _ _ _ refl (rows_next (step default_config s c).0 _ _ rest)

-- with a turn for each byte, record after record gives them all
rows_by_turns : (n : ℕ) (s : State) (fields : List (List ℕ)) (field xs : List ℕ) → length xs ≤ n
    → records_next (records_from default_config n) (next_record default_config s fields field xs) ≡ rows_onward s fields field xs
unfolding rows_onward next_record records_from
rows_by_turns n s fields field [] h =
    next_if (ends_at_end s) _ _ _ _ _ (ap (λ (t : List (List (List ℕ))). (fields ++ (field ∷ [])) ∷ t) (none_left n)) refl
rows_by_turns zero s fields field (c ∷ rest) h = absurd (omega arith)
rows_by_turns (suc n) s fields field (c ∷ rest) h =
    next_if (is_end (step default_config s c).1) _ _ _ _ _
    (ap (λ (t : List (List (List ℕ))). fields_after (step default_config s c).1 fields field ∷ t)
    (rows_by_turns n (step default_config s c).0 [] [] rest (omega arith)))
    (rows_by_turns (suc n) (step default_config s c).0 _ _ rest (omega arith))

turns_are_rows : (s : State) (xs : List ℕ) → records_from default_config (length xs + 1) s xs ≡ rows_onward s [] [] xs
unfolding records_from
turns_are_rows s xs = rw add-one (rows_by_turns (length xs) s [] [] xs (omega arith))

-- the records of a text are its rows from the start
pub rows_are_records : (xs : List ℕ) → records default_config xs ≡ rows_onward st.StartRecord [] [] xs
rows_are_records xs = turns_are_rows st.StartRecord xs

-- a text that begins with a record has the rows behind it after that
rows_begin : (s t : State) (xs z : List ℕ) (row : List (List ℕ)) → Reached default_config s xs (row ∷ []) t z
    → rows_onward s [] [] xs ≡ row ∷ rows_onward t [] [] z
unfolding Reached
rows_begin s t xs z row r = rw (r.2, ← r.3.0, ← r.3.1) (sym (rw r.1 at (rows_next s [] [] xs)))

-- what a reader over memory tells of its bytes
abbrev in_memory : Bor (List ℕ) → Option (List ℕ)
in_memory s = Some s.now

-- at the start all records of the text are left
pub left_first : (r : Reader (Bor (List ℕ))) (text : List ℕ)
    → source_of in_memory r ≡ Some (strip_bom text) → r.state ≡ st.StartRecord
    → records_left r ≡ records_of text
unfolding records_left
left_first r text known start = rw (known, start) refl

left_is : (r : Reader (Bor (List ℕ))) → records_left r ≡ rows_onward r.state [] [] (bytes_left r)
unfolding records_left
left_is r = turns_are_rows r.state (bytes_left r)

-- after a read that found a record, the reader has the records behind it left
pub left_more : (a b : Reader (Bor (List ℕ))) (row : List (List ℕ)) → IsReading a → ReadRecord in_memory a b true row
    → (source_of in_memory b ≡ Some (bytes_left b)) × (records_left a ≡ row ∷ records_left b)
unfolding Reached
left_more a b row is read =
    let more = rows-more in_memory a b row default_config a.state (bytes_left a) (bytes_left a) []
    is.config is.known (refl, refl) read in
    (rw more.1 refl, rw (left_is a, left_is b, more.1) (rows_begin a.state b.state (bytes_left a) more.0 row more.2))

-- a read that found none had none left
pub left_none : (a b : Reader (Bor (List ℕ))) (row : List (List ℕ))
    → IsReading a → ReadRecord in_memory a b false row → records_left a ≡ []
left_none a b row is read =
    let none = rows-end in_memory a b row default_config (bytes_left a) is.config is.known read in
    left_is a ∙ sym (rw none at (rows_next a.state [] [] (bytes_left a)))
