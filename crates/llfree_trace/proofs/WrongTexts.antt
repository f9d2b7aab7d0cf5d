-- What is neither shown nor refused, and how no call ends.
use Rattle.std.proofs.Common.{◌≡◌, ◌≢◌, ◌<◌, ◌∙◌, inl, inr, ℕ, List, Bool, true, false, Option, Some, None}
use Rattle.std.proofs.Common.{Result, Ok, Err, refl, sym, subst, arith, length, IfSome, IsSomeAnd}
use Rattle.core_frames.specs.Ranges.{MayHoldBack}
use Rattle.frame_model.specs.Laws.{AddsUp}
use Rattle.frame_model.specs.Rebuilt.{IsRebuilt}
use Rattle.frame_text.specs.Devices.{device_of}
use Rattle.frame_text.specs.ImageText.{Drawn, picture_of}
use Rattle.frame_image.specs.Tally.{table_of, tally_of}
use Rattle.frame_text.specs.declared.devices.TheConstants.{MOST_BYTES}
use Rattle.frame_words.specs.declared.fault.Fault.{Fault}
use Rattle.frame_words.specs.declared.fault.Fault.TheVariants as fault
use Rattle.frame_words.specs.declared.geometry.Geometry.{Geometry}
use Rattle.llfree_trace.specs.Command.{command_of}
use Rattle.llfree_trace.specs.ImageStreams.{ExplainsImage, IsRebuiltText}
use Rattle.llfree_trace.specs.Outcome.{IsAnsweredBy, key_under}
use Rattle.llfree_trace.specs.Program.{CanDo, ExplainsCommand, IsMadeBy}
use Rattle.llfree_trace.specs.RunText.{ExplainsRun}
use Rattle.llfree_trace.specs.Streams.{IsAllOf, IsExplained, IsFromOutside, IsTooLong, Writes, WritesFrontOf}
use Rattle.llfree_trace.specs.WrongRuns.{refusing}
use Rattle.llfree_trace.specs.WrongTexts.{NoCommandIsDone, NoTraceIsShown, OtherImageIsShown, OtherIsDone, OtherIsMade}
use Rattle.llfree_trace.specs.WrongTexts.{OtherIsShown, OtherPartIsRefused, OtherRecordIsRefused, WrongFault}
use Rattle.llfree_trace.specs.WrongTexts.{WrongReading, WrongRefusalIsShown, WrongSuccess}
use Rattle.llfree_trace.specs.declared.command.Command.{Command}
use Rattle.trace_text.specs.Trace.{ranges_in}
use Rattle.trace_text.specs.declared.line.Line.{Line}

-- What a text says is one.

same_ok : {A B : Type 0} (r : Result A B) (x y : A) → r ≡ Ok x → r ≡ Ok y → x ≡ y
same_ok r x y p q = let same = sym p ∙ q in cc

same_err : {A B : Type 0} (r : Result A B) (x y : B) → r ≡ Err x → r ≡ Err y → x ≡ y
same_err r x y p q = let same = sym p ∙ q in cc

not_both : {A B : Type 0} (r : Result A B) (x : A) (y : B) → r ≡ Ok x → r ≡ Err y → ⊥
not_both r x y p q = absurd (cc)

pub no_trace : NoTraceIsShown
no_trace alone geometry show text out = (
  λ n says shown. not_both _ shown.lines n shown.says says,
  λ lines says unlawful shown.
      unlawful (subst (λ (l : List Line). MayHoldBack geometry (ranges_in l))
      (same_ok _ shown.lines lines shown.says says) shown.ranges),
)

pub other_shown : OtherIsShown
other_shown alone geometry show text out lines says none shown =
    let same : shown.lines ≡ lines = same_ok _ shown.lines lines shown.says says in
    none shown.answers shown.image shown.of
    (subst (λ (l : List Line). IsAnsweredBy (refusing alone) l shown.answers shown.image) same shown.fits)
    (subst (λ (l : List Line). AddsUp (key_under l shown.image) shown.image.words) same shown.counters)
    shown.spells

pub wrong_refusal : WrongRefusalIsShown
wrong_refusal geometry show text out =
    (λ one none shown. none (shown.alone one), λ more none shown. none (shown.shared more))

pub other_image : OtherImageIsShown
other_image text out = (
  λ n says. (λ shown. not_both _ _ n shown.says says, λ shown. not_both _ _ n shown.says says),
  λ image says. (
    λ none shown.
        let same : record { key = shown.key; words = shown.old } ≡ image = same_ok _ _ image shown.says says in
        none shown.new (subst (λ (i : Drawn). IsRebuilt i.key i.words shown.new) same shown.rebuilt)
        (subst (λ (i : Drawn). out ≡ picture_of (record { key = i.key; words = shown.new })) same shown.spells),
    λ other shown.
        let same : record { key = shown.key; words = shown.words } ≡ image = same_ok _ _ image shown.says says in
        other (subst (λ (i : Drawn). out ≡ table_of (tally_of i.key i.words)) same shown.spells),
  ),
)

-- Refusals.

other_fault : (geometry : Geometry) (text : List ℕ) (f : Fault) → f ≢ fault.NoMemory → f ≢ fault.BadRange
    → ((n : ℕ) → f ≢ fault.BadTrace n) → f ≢ fault.BadGeometry → ¬ ExplainsRun geometry text f
other_fault geometry text fault.NoMemory memory range record_ cores why = memory refl
other_fault geometry text fault.BadRange memory range record_ cores why = range refl
other_fault geometry text (fault.BadTrace n) memory range record_ cores why = record_ n refl
other_fault geometry text fault.BadGeometry memory range record_ cores why = cores refl
other_fault geometry text _ memory range record_ cores why = why

pub other_record : OtherRecordIsRefused
other_record geometry text = (
  λ lines says. (
    λ n why. not_both _ lines n says why,
    λ may why. why.unlawful (subst (λ (l : List Line). MayHoldBack geometry (ranges_in l))
        (same_ok _ lines why.lines says why.says) may),
  ),
  λ lowest says. (
    λ n other why. other (same_err _ n lowest why says),
    λ why. not_both _ why.lines lowest why.says says,
  ),
  λ few why. absurd (omega (arith, few, why)),
  other_fault geometry text,
)

other_image_fault : (text : List ℕ) (f : Fault) → f ≢ fault.NoMemory → ((n : ℕ) → f ≢ fault.BadImage n)
    → ¬ ExplainsImage text f
other_image_fault text fault.NoMemory memory part why = memory refl
other_image_fault text (fault.BadImage n) memory part why = part n refl
other_image_fault text _ memory part why = why

pub other_part : OtherPartIsRefused
other_part text = (
  λ image says n why. not_both _ image n says why,
  λ lowest says n other why. other (same_err _ n lowest why says),
  other_image_fault text,
)

-- Calls.

-- the text that was read is the known one
the_text : (left : Option (List ℕ)) (text read : List ℕ) → left ≡ Some text → IsAllOf left read → read ≡ text
the_text left text read known is_all = rw known at is_all

true_false : {b : Bool} → b ≡ true → b ≡ false → ⊥
true_false p q = absurd (cc)

pub wrong_success : WrongSuccess
wrong_success input input' output output' text = (
  λ known none call.
      none call.written.out (subst (λ (t : List ℕ). IsRebuiltText t call.written.out)
      (the_text _ text call.written.text known call.written.is_all) call.written.shown) call.written.grows,
  λ failed call. true_false failed call.sound.0,
  λ failed call. true_false failed call.sound.1,
)

pub wrong_reading : WrongReading
wrong_reading input input' output output' text f = (
  λ failed other call. other (same_err (Err f) f fault.ReadFailed refl (call.reading.failed_read failed)),
  λ works known short call. elim (call.reading.is_told refl) [
    | inl failed ↦ true_false failed works
    | inr long ↦ absurd (omega (arith, short, longer (device_of input) text known long))
  ],
  λ known long other memory call. elim (call.reading.too_long (is_long (device_of input) text known long)) [
    | inl told ↦ other (same_err (Err f) f fault.ReadFailed refl told)
    | inr told ↦ memory (same_err (Err f) f fault.NoMemory refl told)
  ],
  λ known long call. elim (call.reading.too_long (is_long (device_of input) text known long)) [
    | inl told ↦ not_both (Ok tt) tt fault.ReadFailed refl told
    | inr told ↦ not_both (Ok tt) tt fault.NoMemory refl told
  ],
)
  where
    longer : (left : Option (List ℕ)) (t : List ℕ) → left ≡ Some t → IfSome left (λ l. MOST_BYTES < length l)
        → MOST_BYTES < length t
    longer left t known long = rw known at long

    is_long : (left : Option (List ℕ)) (t : List ℕ) → left ≡ Some t → MOST_BYTES < length t → IsTooLong left
    is_long left t known long = rw known long

-- a fault that is neither of memory nor of a device
inside : (f : Fault) → f ≢ fault.NoMemory → f ≢ fault.ReadFailed → f ≢ fault.WriteFailed → ¬ IsFromOutside f
inside fault.NoMemory memory read write out = memory refl
inside fault.ReadFailed memory read write out = read refl
inside fault.WriteFailed memory read write out = write refl
inside _ memory read write out = out

pub wrong_fault : WrongFault
wrong_fault input input' output output' text f = (
  λ known memory read write none call. elim call.why [
    | inl out ↦ inside f memory read write out
    | inr why ↦ none (subst (λ (t : List ℕ). ExplainsImage t f)
        (the_text (device_of input) text why.text known why.is_all) why.explained)
  ],
  λ works call. true_false (call.write_failed refl).0 works,
  λ known none call.
      let front = (call.write_failed refl).1 in
      none front.out (subst (λ (t : List ℕ). IsRebuiltText t front.out)
      (the_text (device_of input) text front.text known front.is_all) front.shown) front.grows,
  λ other changed call. changed (call.untouched other),
)

-- Commands.

pub other_made : OtherIsMade
other_made text out f = (
  λ sizes show. (
    λ none made. none made.0 made.1.children made.1.cores made.1.frames made.2,
    λ none why. none why.0 why.1.children why.1.cores why.1.frames why.2,
  ),
  λ none made. none made,
  λ none made. none made,
  λ none. (λ why. none why, λ why. none why),
)

-- what a command named by words does
named : (P : Command → Type 0) (o : Option Command) → IsSomeAnd o P → (c : Command) × (o ≡ Some c) × P c
named P None h = absurd h
named P (Some c) h = (c, refl, h)

of_command : (P : Command → Type 0) (o : Option Command) (c : Command) → o ≡ Some c → IsSomeAnd o P → P c
of_command P o c is h = rw is at h

pub no_command : NoCommandIsDone
no_command words input old new none = (
  λ done. let h = named (λ c. CanDo c × Writes (IsMadeBy c) input old new) (command_of words) done in none h.0 h.1 h.2.0,
  λ done.
      let h = named (λ c. CanDo c × WritesFrontOf (IsMadeBy c) input old new) (command_of words) done in
      none h.0 h.1 h.2.0,
  λ served. let h = named CanDo (command_of words) served in none h.0 h.1 h.2,
  λ bad.
      let h = named (λ c. CanDo c × ((f : Fault) × (¬ IsFromOutside f) × IsExplained (ExplainsCommand c) input f))
      (command_of words) bad in
      none h.0 h.1 h.2.0,
)

pub other_done : OtherIsDone
other_done words c text old new is = (
  λ none done.
      let w = (of_command (λ d. CanDo d × Writes (IsMadeBy d) (Some text) old new) (command_of words) c is done).1 in
      none w.out (subst (λ (t : List ℕ). IsMadeBy c t w.out) w.is_all w.shown) w.grows,
  λ none done.
      let w = (of_command (λ d. CanDo d × WritesFrontOf (IsMadeBy d) (Some text) old new) (command_of words) c is done).1 in
      none w.out (subst (λ (t : List ℕ). IsMadeBy c t w.out) w.is_all w.shown) w.grows,
  λ none bad.
      let h = (of_command (λ d. CanDo d × ((f : Fault) × (¬ IsFromOutside f) × IsExplained (ExplainsCommand d) (Some text) f))
      (command_of words) c is bad).1 in
      none h.0 (λ e. h.1 (subst IsFromOutside (sym e) tt)) (λ e. h.1 (subst IsFromOutside (sym e) tt))
      (λ e. h.1 (subst IsFromOutside (sym e) tt))
      (subst (λ (t : List ℕ). ExplainsCommand c t h.0) h.2.is_all h.2.explained),
)
