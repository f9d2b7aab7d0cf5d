-- How a text is read part by part.
use Rattle.std.proofs.Common.{◌≡◌, ◌≢◌, ◌-◌, ◌<◌, ◌≤◌, ◌∙◌, ℕ, List, [], ◌∷◌, ◌++◌, Bool, true, false, Ok}
use Rattle.std.proofs.Common.{ap, arith, inl, inr, length, length-append, refl, sym}
use Rattle.std.specs.Prelude.{if◌then◌else◌, slice_index}
use Rattle.std.specs.List.{flat_map}
use Rattle.std.proofs.lemmas.Grind.{flat_map-append}
use Rattle.std.proofs.lemmas.List.{append-nil, append_assoc, get_or-append-add}
use Rattle.std.proofs.lemmas.List.Elements.{All-append, All-head, All-nil, All-push, All-tail}
use Rattle.csv.specs.Machine.{next_record}
use Rattle.csv.specs.Reading.{is_bom, records_from, strip_bom}
use Rattle.frame_text.specs.Records.{read_records, records_of}
use Rattle.trace_text.specs.declared.line.Line.{Line}
use Rattle.trace_text.specs.declared.parts.Reading.{Reading}
use Rattle.trace_text.specs.Parts.{EndsLine, IsCut, IsJoint, IsPart, IsReadSoFar, IsReadingOf, ReadsPart, SaysPlainly}
use Rattle.trace_text.specs.Parts.{goes_behind, line_feed}
use Rattle.trace_text.specs.Trace.{core_count, most_records}
use Rattle.trace_text.specs.TraceText.{trace_of}
use Rattle.trace_text.proofs.Cutting.{records_apart}
use Rattle.trace_text.proofs.Behind.{core_count_both}
use Rattle.trace_text.proofs.Joining.{read_both}

-- what was read of nothing is nothing
nothing_read : (cores : ℕ) (lines : List Line) → trace_of cores [] ≡ Ok lines → lines ≡ []
unfolding trace_of records_from next_record strip_bom read_records
nothing_read cores lines e = cc

-- two parts are read, one behind the other, of which the first may be nothing
either_read : (cores : ℕ) (first second : List ℕ) (front behind : List Line) → EndsLine first → strip_bom second ≡ second
    → SaysPlainly cores first front → SaysPlainly cores second behind
    → length (front ++ behind) ≤ most_records → goes_behind front behind ≡ true
    → trace_of cores (first ++ second) ≡ Ok (front ++ behind)
unfolding trace_of
either_read cores first second front behind (inl none) unmarked a b few goes =
    let empty = nothing_read cores front (rw none at a.says) in
    rw (none, empty) b.says
either_read cores first second front behind (inr ends) unmarked a b few goes =
    rw (records_apart first second ends.0 a.plain ends.1 unmarked)
    (read_both cores front behind (records_of first) (records_of second) a.says b.says goes (omega (arith, few, length-append front behind)))

-- a text says the records of its front and then those behind
say_both : (cores : ℕ) (first second : List ℕ) (front behind lines : List Line) → EndsLine first → strip_bom second ≡ second
    → SaysPlainly cores first front → SaysPlainly cores second behind → IsJoint front behind lines
    → SaysPlainly cores (first ++ second) lines
say_both cores first second front behind lines ends unmarked a b joint =
    let few : length (front ++ behind) ≤ most_records = rw joint.is at joint.few in
    record {
      plain = All-append (λ c. c ≢ 34) first second a.plain b.plain;
      says = rw joint.is (either_read cores first second front behind ends unmarked a b few joint.goes);
      within = rw joint.is (omega (arith, a.within, b.within, core_count_both front behind));
    }

-- nothing is read so far
pub read_none : (cores : ℕ) (text : List ℕ) → strip_bom text ≡ text → IsReadSoFar cores text [] [] text
unfolding trace_of records_from next_record strip_bom read_records core_count
read_none cores text unmarked = record {
  done = [];
  whole = refl;
  says = record { plain = All-nil (λ c. c ≢ 34); says = refl; within = omega arith };
  ended = inl refl;
  parts = All-nil (ReadsPart cores);
  unmarked = unmarked;
}

-- a text that keeps its first bytes where a mark would be stripped has no mark
unmarked_if : (marked : Bool) (first rest behind : List ℕ)
    → 0 < length first → (if marked then rest ++ behind else first ++ (rest ++ behind)) ≡ first ++ (rest ++ behind)
    → (if marked then rest else first ++ rest) ≡ first ++ rest
unmarked_if true first rest behind some e = absurd (omega (arith, ap length e, length-append first (rest ++ behind), some))
unmarked_if false first rest behind some e = refl

-- a part has no mark, if it has none together with what is behind it
part_unmarked : (part behind : List ℕ) → 3 ≤ length part → strip_bom (part ++ behind) ≡ part ++ behind → strip_bom part ≡ part
unfolding strip_bom
part_unmarked [] behind long e = absurd (omega arith)
part_unmarked (a ∷ []) behind long e = absurd (omega arith)
part_unmarked (a ∷ b ∷ []) behind long e = absurd (omega arith)
part_unmarked (a ∷ b ∷ c ∷ rest) behind long e = unmarked_if (is_bom a b c) (a ∷ b ∷ c ∷ []) rest behind (omega arith) e

-- one more thread is going
pub more_going : (cores : ℕ) (text : List ℕ) (lines : List Line) (going : List Reading) (rest part behind : List ℕ)
    (child : Reading) → IsReadSoFar cores text lines going rest → IsCut rest part behind → IsReadingOf cores part child
    → IsReadSoFar cores text lines (going ++ child ∷ []) behind
more_going cores text lines going rest part behind child far cut is =
    let unmarked = part_unmarked part behind cut.long (rw cut.whole at far.unmarked) in
    let own : IsPart child.text.now = rw is.text (record { long = cut.long; ended = cut.ended; unmarked = unmarked }) in
    record {
      done = far.done;
      whole = rw (
        flat_map-append (λ (p : Reading). p.text.now) going (child ∷ []),
        is.text,
        append-nil part,
        append_assoc (flat_map (λ (p : Reading). p.text.now) going) part behind,
        ← cut.whole,
      )
          far.whole;
      says = far.says;
      ended = far.ended;
      parts = All-push (ReadsPart cores) going child far.parts (record { cores = is.cores; part = own });
      unmarked = cut.unmarked;
    }

-- the last byte of two texts is that of the second
ends_alike : (first second : List ℕ) → 3 ≤ length second → slice_index second (length second - 1) ≡ line_feed
    → slice_index (first ++ second) (length (first ++ second) - 1) ≡ line_feed
ends_alike first second long ended =
    ap (λ n. slice_index (first ++ second) n) (omega (arith, long, length-append first second))
    ∙ get_or-append-add first second (length second - 1) 0 ∙ ended

-- the first of them has read its part
pub one_joined : (cores : ℕ) (text : List ℕ) (lines more all : List Line) (child : Reading) (going : List Reading) (rest : List ℕ)
    → IsReadSoFar cores text lines (child ∷ going) rest → SaysPlainly child.cores child.text.now more → IsJoint lines more all
    → IsReadSoFar cores text all going rest
one_joined cores text lines more all child going rest far says joint =
    let own = All-head (ReadsPart cores) child going far.parts in
    let part = child.text.now in
    let others = flat_map (λ (p : Reading). p.text.now) going in
    record {
      done = far.done ++ part;
      whole = far.whole ∙ ap (λ (t : List ℕ). far.done ++ t) (append_assoc part others rest)
          ∙ sym (append_assoc far.done part (others ++ rest));
      says = say_both cores far.done part lines more all far.ended own.part.unmarked far.says (rw own.cores at says) joint;
      ended = inr (
        omega (arith, own.part.long, length-append far.done part),
        ends_alike far.done part own.part.long own.part.ended,
      );
      parts = All-tail (ReadsPart cores) child going far.parts;
      unmarked = far.unmarked;
    }

-- the rest was read
pub all_read : (cores : ℕ) (text : List ℕ) (lines more all : List Line) (rest : List ℕ)
    → IsReadSoFar cores text lines [] rest → SaysPlainly cores rest more → IsJoint lines more all → SaysPlainly cores text all
all_read cores text lines more all rest far last joint =
    rw far.whole (say_both cores far.done rest lines more all far.ended far.unmarked far.says last joint)
