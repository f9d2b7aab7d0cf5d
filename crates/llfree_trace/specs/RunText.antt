-- The text that a run of a trace shows, and why a trace is not run.
use Rattle.std.specs.Prelude.{ℕ, ◌≡◌, ◌≢◌, ◌<◌, List, Ok}
use Rattle.core_frames.specs.Ranges.{MayHoldBack}
use Rattle.frame_core.specs.Image.{Contents, key_in}
use Rattle.frame_model.specs.Laws.{AddsUp}
use Rattle.frame_model.specs.Report.{free_frames, held_frames}
use Rattle.frame_text.specs.ImageText.{drawn, picture_of}
use Rattle.frame_model.specs.declared.block.FrameBlock.{FrameBlock}
use Rattle.frame_model.specs.declared.key.Key.{Key}
use Rattle.frame_words.specs.Geometry.{most_text_cores}
use Rattle.frame_words.specs.declared.fault.Fault.{Fault}
use Rattle.frame_words.specs.declared.fault.Fault.TheVariants as fault
use Rattle.frame_words.specs.declared.geometry.Geometry.{Geometry}
use Rattle.held_blocks.specs.Desk.{MayRefuse}
use Rattle.llfree_trace.specs.Outcome.{IsAnsweredBy, MustRefuseHere, key_under}
use Rattle.trace_text.specs.AnswerText.{answers_of}
use Rattle.trace_text.specs.Trace.{ranges_in}
use Rattle.trace_text.specs.TraceText.{ExplainsTrace, trace_of}
use Rattle.trace_text.specs.declared.line.Line.{Line}
use Rattle.trace_text.specs.declared.reply.Answer.{Answer}
use Rattle.llfree_trace.specs.declared.streams.Show.{Show}
use Rattle.llfree_trace.specs.declared.streams.Show.TheVariants as show

-- the text of answers, and of how many frames of the image are held and free
abbrev pub outcome_answers : List Answer → Contents → List ℕ
outcome_answers answers image =
    answers_of answers (held_frames (key_in image) image.words)
    (free_frames (key_in image) image.words)

-- what is shown of a run: the answers, or the image at its end
abbrev pub shown_of : Show → List Answer → Contents → List ℕ
shown_of show.Answers answers image = outcome_answers answers image
shown_of show.Picture answers image = picture_of (drawn image)

-- the bytes show an outcome that fits what the text says as a trace, whose ranges may be held back;
-- takes are refused in it as they may be, and its image's counters add up
pub record IsRunOf (refuses : Key → List FrameBlock → ℕ → Fault → Type 0) (geometry : Geometry)
    (show : Show) (text out : List ℕ) : Type 0 where
  pub lines : List Line
  pub answers : List Answer
  pub image : Contents
  pub says : trace_of geometry.cores text ≡ Ok lines
  pub of : image.geometry ≡ geometry
  pub ranges : MayHoldBack geometry (ranges_in lines)
  pub fits : IsAnsweredBy refuses lines answers image
  pub counters : AddsUp (key_under lines image) image.words
  pub spells : out ≡ shown_of show answers image

-- the bytes show such an outcome; on one core a take is refused in it only where no block of its order is
-- free, on several it may be lost as well
pub record IsRunText (geometry : Geometry) (show : Show) (text out : List ℕ) : Type 0 where
  pub alone : geometry.cores ≡ 1 → IsRunOf MustRefuseHere geometry show text out
  pub shared : geometry.cores ≢ 1 → IsRunOf MayRefuse geometry show text out

-- the text says a trace whose ranges may not be held back
pub record HasBadRanges (geometry : Geometry) (text : List ℕ) : Type 0 where
  pub lines : List Line
  pub says : trace_of geometry.cores text ≡ Ok lines
  pub unlawful : ¬ MayHoldBack geometry (ranges_in lines)

-- why a trace was not run: there are more cores than the program has, the text says none, or its ranges may not be
-- held back
abbrev pub ExplainsRun : Geometry → List ℕ → Fault → Type 0
ExplainsRun geometry text fault.BadGeometry = most_text_cores < geometry.cores
ExplainsRun geometry text fault.BadRange = HasBadRanges geometry text
ExplainsRun geometry text f = ExplainsTrace f (trace_of geometry.cores text)
