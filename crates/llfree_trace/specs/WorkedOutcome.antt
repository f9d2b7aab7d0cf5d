-- An outcome of two cores, in numerals, and others beside it that would be wrong.
use Rattle.std.specs.Prelude.{◌≡◌, ℕ, List, [], ◌∷◌, ◌++◌, replicate}
use Rattle.frame_core.specs.Image.{Contents}
use Rattle.frame_words.specs.declared.geometry.Geometry.{Geometry}
use Rattle.held_blocks.specs.Desk.{MayRefuse}
use Rattle.llfree_trace.specs.Outcome.{IsAnsweredBy}
use Rattle.trace_text.specs.declared.line.Line.{Line}
use Rattle.trace_text.specs.declared.line.Line.TheVariants as line
use Rattle.trace_text.specs.declared.line.Request.TheVariants as request
use Rattle.trace_text.specs.declared.reply.Answer.{Answer}
use Rattle.trace_text.specs.declared.reply.Reply.{Reply}
use Rattle.trace_text.specs.declared.reply.Reply.TheVariants as reply

-- the label a
abbrev pub a : List ℕ
a = 97 ∷ []

-- each of two cores takes a block under the label, of one and of two frames; then the first core's block moves to the
-- second core, which gives one back
abbrev pub two_rounds : List Line
two_rounds = line.Ask 0 (request.Take a 0) ∷ line.Ask 1 (request.Take a 1) ∷ line.Round
    ∷ line.Move 0 a 1 ∷ line.Ask 1 (request.Give a) ∷ []

-- the first core takes and moves frame 0; so are the second core's take and its give answered
abbrev pub answered : Reply → Reply → List Answer
answered taken given = record { line = 1; core = 0; reply = reply.Taken 0 0 }
    ∷ record { line = 2; core = 1; reply = taken }
    ∷ record { line = 4; core = 0; reply = reply.Moved 0 0 }
    ∷ record { line = 5; core = 1; reply = given } ∷ []

-- an image of a memory, by its first bit word
abbrev pub image_with : Geometry → ℕ → Contents
image_with geometry bits = record {
  geometry = geometry;
  words = replicate 8 0 ++ 511 ∷ replicate 7 0 ++ 511 ∷ replicate 23 0 ++ bits ∷ replicate 7 0;
}

-- an outcome of the two rounds in a memory, with this first bit word
abbrev pub Tells : Geometry → List Answer → ℕ → Type 0
Tells geometry answers bits = IsAnsweredBy MayRefuse two_rounds answers (image_with geometry bits)

-- the first core may take frame 0 and the second frames 2 and 3, give these back and keep frame 0, which alone is held
abbrev pub TwoRoundsHappen : Geometry → Type 0
TwoRoundsHappen geometry = Tells geometry (answered (reply.Taken 2 1) (reply.Given 2 1)) 1

-- the second core does not take a frame that the first one has
abbrev pub NoneTakesTheOthers : Geometry → Type 0
NoneTakesTheOthers geometry = (bits : ℕ)
    → ¬ Tells geometry (answered (reply.Taken 0 1) (reply.Given 0 1)) bits

-- it does not give the block that moved to it before the one that it took
abbrev pub NoneGivesTheNewer : Geometry → Type 0
NoneGivesTheNewer geometry = (bits : ℕ)
    → ¬ Tells geometry (answered (reply.Taken 2 1) (reply.Given 0 0)) bits

-- no answer is left out
abbrev pub NoneIsLeftOut : Geometry → Type 0
NoneIsLeftOut geometry = (bits : ℕ) → ¬ Tells geometry
    (record { line = 1; core = 0; reply = reply.Taken 0 0 } ∷ record { line = 2; core = 1; reply = reply.Taken 2 1 }
    ∷ record { line = 4; core = 0; reply = reply.Moved 0 0 } ∷ []) bits

-- at the end frame 0 is not free, and what was given back is not held
abbrev pub NoOtherIsHeld : Geometry → Type 0
NoOtherIsHeld geometry = (¬ Tells geometry (answered (reply.Taken 2 1) (reply.Given 2 1)) 0)
    × (¬ Tells geometry (answered (reply.Taken 2 1) (reply.Given 2 1)) 13)

-- so it is in a memory of one child and two cores
pub record IsWorkedOut (geometry : Geometry) : Type 0 where
  pub children : geometry.children ≡ 1
  pub cores : geometry.cores ≡ 2
  pub frames : geometry.frames ≡ 512
  pub happens : TwoRoundsHappen geometry
  pub taken : NoneTakesTheOthers geometry
  pub given : NoneGivesTheNewer geometry
  pub left_out : NoneIsLeftOut geometry
  pub held : NoOtherIsHeld geometry

-- there is such a memory
abbrev pub TwoCoresAreWorkedOut : Type 0
TwoCoresAreWorkedOut = (geometry : Geometry) × IsWorkedOut geometry
