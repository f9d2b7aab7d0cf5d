-- Texts, refusals and ends of a call that would be wrong.
use Rattle.std.specs.Prelude.{ℕ, ◌≡◌, ◌≢◌, ◌<◌, ◌≤◌, Bool, true, false, List, length, Option, Some}
use Rattle.std.specs.Prelude.{Result, Ok, Err}
use Rattle.std.specs.Io.KnownBytes.{Appends}
use Rattle.core_frames.specs.Ranges.{MayHoldBack}
use Rattle.frame_core.specs.Image.{Contents}
use Rattle.frame_model.specs.Laws.{AddsUp}
use Rattle.frame_model.specs.Rebuilt.{IsRebuilt}
use Rattle.frame_text.specs.Devices.{WritesFront, device_of, has_failed}
use Rattle.frame_text.specs.ImageText.{Drawn, image_of, picture_of}
use Rattle.frame_image.specs.Tally.{table_of, tally_of}
use Rattle.frame_text.specs.declared.devices.TheConstants.{MOST_BYTES}
use Rattle.frame_text.specs.declared.watched.Watched.{Watched}
use Rattle.frame_words.specs.declared.fault.Fault.{Fault}
use Rattle.frame_words.specs.declared.fault.Fault.TheVariants as fault
use Rattle.frame_words.specs.declared.geometry.Geometry.{Geometry}
use Rattle.held_blocks.specs.Desk.{MayRefuse}
use Rattle.llfree_trace.specs.Command.{command_of}
use Rattle.llfree_trace.specs.ImageStreams.{ExplainsImage, IsRebuiltText, IsReportText}
use Rattle.llfree_trace.specs.Outcome.{IsAnsweredBy, MustRefuseHere, key_under}
use Rattle.llfree_trace.specs.Program.{CanDo, DoesWords, DoesWordsFront, ExplainsCommand, HasBadText}
use Rattle.llfree_trace.specs.Program.{IsMadeBy, IsServed, frames_of}
use Rattle.llfree_trace.specs.RunText.{ExplainsRun, IsRunOf, IsRunText, shown_of}
use Rattle.llfree_trace.specs.Streams.{Filters}
use Rattle.llfree_trace.specs.WrongRuns.{refusing}
use Rattle.llfree_trace.specs.declared.command.Command.{Command}
use Rattle.llfree_trace.specs.declared.command.Command.TheVariants as command
use Rattle.llfree_trace.specs.declared.command.Sizes.{Sizes}
use Rattle.llfree_trace.specs.declared.streams.Show.{Show}
use Rattle.trace_text.specs.Trace.{ranges_in}
use Rattle.trace_text.specs.TraceText.{trace_of}
use Rattle.trace_text.specs.declared.line.Line.{Line}
use Rattle.trace_text.specs.declared.reply.Answer.{Answer}

-- What is shown of a text.

-- nothing is shown of a text that says no trace, or one whose ranges may not be held back
abbrev pub NoTraceIsShown : Type 0
NoTraceIsShown = (alone : Bool) (geometry : Geometry) (show : Show) (text out : List ℕ)
    → ((n : ℕ) → trace_of geometry.cores text ≡ Err n → ¬ IsRunOf (refusing alone) geometry show text out)
    × ((lines : List Line) → trace_of geometry.cores text ≡ Ok lines → ¬ MayHoldBack geometry (ranges_in lines)
    → ¬ IsRunOf (refusing alone) geometry show text out)

-- of a trace no bytes are shown but those of an outcome of it, in a memory of these sizes, whose image's counters add up
abbrev pub OtherIsShown : Type 0
OtherIsShown = (alone : Bool) (geometry : Geometry) (show : Show) (text out : List ℕ) (lines : List Line)
    → trace_of geometry.cores text ≡ Ok lines
    → ((answers : List Answer) (image : Contents) → image.geometry ≡ geometry
    → IsAnsweredBy (refusing alone) lines answers image → AddsUp (key_under lines image) image.words
    → out ≢ shown_of show answers image)
    → ¬ IsRunOf (refusing alone) geometry show text out

-- on one core nothing is shown in which a take is refused while a block is free, on several nothing that is no outcome
abbrev pub WrongRefusalIsShown : Type 0
WrongRefusalIsShown = (geometry : Geometry) (show : Show) (text out : List ℕ)
    → (geometry.cores ≡ 1 → ¬ IsRunOf MustRefuseHere geometry show text out → ¬ IsRunText geometry show text out)
    × (geometry.cores ≢ 1 → ¬ IsRunOf MayRefuse geometry show text out → ¬ IsRunText geometry show text out)

-- no bytes are shown of a text that says no image, nor of one any but the picture of the image rebuilt, or its report
abbrev pub OtherImageIsShown : Type 0
OtherImageIsShown = (text out : List ℕ)
    → ((n : ℕ) → image_of text ≡ Err n → (¬ IsRebuiltText text out) × (¬ IsReportText text out))
    × ((image : Drawn) → image_of text ≡ Ok image
    → (((new : List ℕ) → IsRebuilt image.key image.words new
    → out ≢ picture_of (record { key = image.key; words = new })) → ¬ IsRebuiltText text out)
    × (out ≢ table_of (tally_of image.key image.words) → ¬ IsReportText text out))

-- Refusals.

-- no record is refused of a text that says a trace, none but the lowest of one that says none; ranges are refused of a
-- trace alone, and where they may not be held back; cores only above 64; and nothing else is refused but memory
abbrev pub OtherRecordIsRefused : Type 0
OtherRecordIsRefused = (geometry : Geometry) (text : List ℕ)
    → ((lines : List Line) → trace_of geometry.cores text ≡ Ok lines
    → ((n : ℕ) → ¬ ExplainsRun geometry text (fault.BadTrace n))
    × (MayHoldBack geometry (ranges_in lines) → ¬ ExplainsRun geometry text fault.BadRange))
    × ((lowest : ℕ) → trace_of geometry.cores text ≡ Err lowest
    → ((n : ℕ) → n ≢ lowest → ¬ ExplainsRun geometry text (fault.BadTrace n))
    × (¬ ExplainsRun geometry text fault.BadRange))
    × (geometry.cores ≤ 64 → ¬ ExplainsRun geometry text fault.BadGeometry)
    × ((f : Fault) → f ≢ fault.NoMemory → f ≢ fault.BadRange → ((n : ℕ) → f ≢ fault.BadTrace n)
    → f ≢ fault.BadGeometry → ¬ ExplainsRun geometry text f)

-- the same of a text that says an image, or none
abbrev pub OtherPartIsRefused : Type 0
OtherPartIsRefused = (text : List ℕ)
    → ((image : Drawn) → image_of text ≡ Ok image → (n : ℕ) → ¬ ExplainsImage text (fault.BadImage n))
    × ((lowest : ℕ) → image_of text ≡ Err lowest → (n : ℕ) → n ≢ lowest → ¬ ExplainsImage text (fault.BadImage n))
    × ((f : Fault) → f ≢ fault.NoMemory → ((n : ℕ) → f ≢ fault.BadImage n) → ¬ ExplainsImage text f)

-- How a call from a reader to a writer ends, by the rebuilding of an image over devices whose bytes are known or not.

-- the call rebuilds what the reader has left, and ends so
abbrev pub Rebuilds : (input input' output output' : Watched (Option (List ℕ))) → Result (Unit {0}) Fault → Type 0
Rebuilds input input' output output' result =
    Filters (λ bytes. bytes) (λ bytes. bytes) IsRebuiltText ExplainsImage input input' output output' result

-- no call succeeds that has written other bytes, or one of whose devices has failed
abbrev pub WrongSuccess : Type 0
WrongSuccess = (input input' output output' : Watched (Option (List ℕ))) (text : List ℕ)
    → (device_of input ≡ Some text
    → ((out : List ℕ) → IsRebuiltText text out → ¬ Appends (device_of output) (device_of output') out)
    → ¬ Rebuilds input input' output output' (Ok tt))
    × (has_failed input' ≡ true → ¬ Rebuilds input input' output output' (Ok tt))
    × (has_failed output' ≡ true → ¬ Rebuilds input input' output output' (Ok tt))

-- a failed read is told as no other fault, and none is told where the reader works and its text isn't too long; a text
-- that is too long is told as nothing else but lack of memory
abbrev pub WrongReading : Type 0
WrongReading = (input input' output output' : Watched (Option (List ℕ))) (text : List ℕ) (f : Fault)
    → (has_failed input' ≡ true → f ≢ fault.ReadFailed → ¬ Rebuilds input input' output output' (Err f))
    × (has_failed input' ≡ false → device_of input ≡ Some text → length text ≤ MOST_BYTES
    → ¬ Rebuilds input input' output output' (Err fault.ReadFailed))
    × (device_of input ≡ Some text → MOST_BYTES < length text → f ≢ fault.ReadFailed → f ≢ fault.NoMemory
    → ¬ Rebuilds input input' output output' (Err f))
    × (device_of input ≡ Some text → MOST_BYTES < length text → ¬ Rebuilds input input' output output' (Ok tt))

-- no fault is told but lack of memory, that of a device, or one that the text explains; a failed write is told only where
-- one failed and a front of the right bytes was written, and with any other fault nothing was written
abbrev pub WrongFault : Type 0
WrongFault = (input input' output output' : Watched (Option (List ℕ))) (text : List ℕ) (f : Fault)
    → (device_of input ≡ Some text → f ≢ fault.NoMemory → f ≢ fault.ReadFailed → f ≢ fault.WriteFailed
    → ¬ ExplainsImage text f → ¬ Rebuilds input input' output output' (Err f))
    × (has_failed output' ≡ false → ¬ Rebuilds input input' output output' (Err fault.WriteFailed))
    × (device_of input ≡ Some text
    → ((out : List ℕ) → IsRebuiltText text out → ¬ WritesFront (device_of output) (device_of output') out)
    → ¬ Rebuilds input input' output output' (Err fault.WriteFailed))
    × (f ≢ fault.WriteFailed → output' ≢ output → ¬ Rebuilds input input' output output' (Err f))

-- Commands.

-- no run makes bytes, and none is refused, in a memory of other sizes than those named; a rebuilding and a report make
-- and are refused nothing but what an image's text is
abbrev pub OtherIsMade : Type 0
OtherIsMade = (text out : List ℕ) (f : Fault)
    → ((sizes : Sizes) (show : Show)
    → (((g : Geometry) → g.children ≡ sizes.children → g.cores ≡ sizes.cores → g.frames ≡ frames_of sizes
    → ¬ IsRunText g show text out) → ¬ IsMadeBy (command.Run sizes show) text out)
    × (((g : Geometry) → g.children ≡ sizes.children → g.cores ≡ sizes.cores → g.frames ≡ frames_of sizes
    → ¬ ExplainsRun g text f) → ¬ ExplainsCommand (command.Run sizes show) text f))
    × (¬ IsRebuiltText text out → ¬ IsMadeBy command.Rebuild text out)
    × (¬ IsReportText text out → ¬ IsMadeBy command.Report text out)
    × (¬ ExplainsImage text f → (¬ ExplainsCommand command.Rebuild text f) × (¬ ExplainsCommand command.Report text f))

-- words that are no command, or one that can't be done, do nothing, and no text of theirs is refused
abbrev pub NoCommandIsDone : Type 0
NoCommandIsDone = (words : List (List ℕ)) (input old new : Option (List ℕ))
    → ((c : Command) → command_of words ≡ Some c → ¬ CanDo c)
    → (¬ DoesWords words input old new) × (¬ DoesWordsFront words input old new) × (¬ IsServed words)
    × (¬ HasBadText words input)

-- the words of a command write nothing but what it makes of the text, or a front of that, and a text is refused only where
-- it explains a fault that comes neither from memory nor from a device
abbrev pub OtherIsDone : Type 0
OtherIsDone = (words : List (List ℕ)) (c : Command) (text : List ℕ) (old new : Option (List ℕ))
    → command_of words ≡ Some c
    → (((out : List ℕ) → IsMadeBy c text out → ¬ Appends old new out) → ¬ DoesWords words (Some text) old new)
    × (((out : List ℕ) → IsMadeBy c text out → ¬ WritesFront old new out) → ¬ DoesWordsFront words (Some text) old new)
    × (((f : Fault) → f ≢ fault.NoMemory → f ≢ fault.ReadFailed → f ≢ fault.WriteFailed → ¬ ExplainsCommand c text f)
    → ¬ HasBadText words (Some text))
