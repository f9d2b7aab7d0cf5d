-- What a command makes of a text, why it ends without a result, and the status of the program.
use Rattle.std.specs.Prelude.{ℕ, ◌≡◌, ◌⊎◌, ◌*◌, List, Option, None, unwrap_or}
use Rattle.std.specs.Prelude.{Result, IsErrAnd, IsSomeAnd}
use Rattle.frame_text.specs.declared.watched.Watched.{Watched}
use Rattle.frame_words.specs.Geometry.{IsWithinLimits, EndsInLastChild, child_frames}
use Rattle.frame_words.specs.declared.fault.Fault.{Fault}
use Rattle.frame_words.specs.declared.fault.Fault.TheVariants as fault
use Rattle.frame_words.specs.declared.geometry.Geometry.{Geometry}
use Rattle.llfree_trace.specs.Command.{command_of}
use Rattle.llfree_trace.specs.ImageStreams.{ExplainsImage, IsRebuiltText, IsReportText}
use Rattle.llfree_trace.specs.RunText.{ExplainsRun, IsRunText}
use Rattle.llfree_trace.specs.Streams.{IsFromOutside, IsExplained, Filters, Writes, WritesFrontOf}
use Rattle.llfree_trace.specs.declared.command.Command.{Command}
use Rattle.llfree_trace.specs.declared.command.Command.TheVariants as command
use Rattle.llfree_trace.specs.declared.command.Sizes.{Sizes}

-- the status of a fault: 3 where the outside failed, else 1
abbrev pub status_of : Fault → ℕ
status_of fault.NoMemory = 3
status_of fault.ReadFailed = 3
status_of fault.WriteFailed = 3
status_of _ = 1

-- Sizes.

-- the frames of a memory of these sizes: as many as named, or those of all children
abbrev pub frames_of : Sizes → ℕ
frames_of sizes = unwrap_or sizes.frames (child_frames * sizes.children)

-- the geometry has these sizes
pub record IsOfSizes (sizes : Sizes) (g : Geometry) : Type 0 where
  pub children : g.children ≡ sizes.children
  pub cores : g.cores ≡ sizes.cores
  pub frames : g.frames ≡ frames_of sizes

-- children and cores lie within the limits, and the frames end in the last child
abbrev pub AreLawful : Sizes → Type 0
AreLawful sizes =
    IsWithinLimits sizes.children sizes.cores × EndsInLastChild sizes.children (frames_of sizes)

-- Commands.

-- the command can be done: a memory may have its sizes
abbrev pub CanDo : Command → Type 0
CanDo (command.Run sizes show) = AreLawful sizes
CanDo _ = Unit {0}

-- the bytes are what the command makes of the text
abbrev pub IsMadeBy : Command → List ℕ → List ℕ → Type 0
IsMadeBy (command.Run sizes show) text out = (g : Geometry) × IsOfSizes sizes g × IsRunText g show text out
IsMadeBy command.Rebuild text out = IsRebuiltText text out
IsMadeBy command.Report text out = IsReportText text out

-- why a command made nothing of a text
abbrev pub ExplainsCommand : Command → List ℕ → Fault → Type 0
ExplainsCommand (command.Run sizes show) text f =
    (g : Geometry) × IsOfSizes sizes g × ExplainsRun g text f
ExplainsCommand _ text f = ExplainsImage text f

-- the command names sizes that no memory has
abbrev pub IsUnlawful : Command → Type 0
IsUnlawful (command.Run sizes show) = ¬ AreLawful sizes
IsUnlawful _ = ⊥

-- the fault says that no memory has these sizes
abbrev pub IsOfBadSizes : Fault → Type 0
IsOfBadSizes fault.BadGeometry = Unit {0}
IsOfBadSizes fault.BadRange = Unit {0}
IsOfBadSizes _ = ⊥

-- the call told that no memory has the sizes, and used neither device
pub record IsNotBegun {R W T : Type 0} (input input' : Watched R) (output output' : Watched W)
    (result : Result T Fault) : Type 0 where
  pub told : IsErrAnd result IsOfBadSizes
  pub unread : input' ≡ input
  pub unwritten : output' ≡ output

-- a command that can be done served what the reader had left; any other one was not begun
abbrev pub Performs : {R W T : Type 0} → (R → Option (List ℕ)) → (W → Option (List ℕ)) → Command
    → Watched R → Watched R → Watched W → Watched W → Result T Fault → Type 0
Performs remaining contents c input input' output output' result =
    (CanDo c × Filters remaining contents (IsMadeBy c) (ExplainsCommand c) input input' output output' result)
    ⊎ (IsUnlawful c × IsNotBegun input input' output output' result)

-- Command lines.

-- the words are a command that can be done, and the known bytes grow by what it makes of the input
abbrev pub DoesWords : List (List ℕ) → Option (List ℕ) → Option (List ℕ) → Option (List ℕ) → Type 0
DoesWords words input old new =
    IsSomeAnd (command_of words) (λ c. CanDo c × Writes (IsMadeBy c) input old new)

-- the same, by a front of that
abbrev pub DoesWordsFront : List (List ℕ) → Option (List ℕ) → Option (List ℕ) → Option (List ℕ)
    → Type 0
DoesWordsFront words input old new =
    IsSomeAnd (command_of words) (λ c. CanDo c × WritesFrontOf (IsMadeBy c) input old new)

-- the words are a command that can be done
abbrev pub IsServed : List (List ℕ) → Type 0
IsServed words = IsSomeAnd (command_of words) CanDo

-- the words are no command
abbrev pub IsNoCommand : List (List ℕ) → Type 0
IsNoCommand words = command_of words ≡ None

-- the words are a command with sizes that no memory has
abbrev pub HasBadSizes : List (List ℕ) → Type 0
HasBadSizes words = IsSomeAnd (command_of words) IsUnlawful

-- the words are a command that can be done, and the text that was read explains a fault that does not
-- come from outside
abbrev pub HasBadText : List (List ℕ) → Option (List ℕ) → Type 0
HasBadText words input = IsSomeAnd (command_of words)
    (λ c. CanDo c × ((f : Fault) × (¬ IsFromOutside f) × IsExplained (ExplainsCommand c) input f))
