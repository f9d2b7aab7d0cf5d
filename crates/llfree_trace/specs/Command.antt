-- What the words of a command line ask for.
use Rattle.std.specs.Prelude.{ℕ, List, [], ◌∷◌, length, nat_le, codes}
use Rattle.std.specs.Prelude.{Option, Some, None, option_map, option_and_then, if◌then◌else◌}
use Rattle.std.specs.Str.{bytes_eq}
use Rattle.frame_text.specs.Numbers.{number_below}
use Rattle.llfree_trace.specs.declared.command.Command.{Command}
use Rattle.llfree_trace.specs.declared.command.Command.TheVariants as command
use Rattle.llfree_trace.specs.declared.command.Sizes.{Sizes}
use Rattle.llfree_trace.specs.declared.streams.Show.{Show}
use Rattle.llfree_trace.specs.declared.streams.Show.TheVariants as show

-- a number of 1 to 9 digits
unfoldable pub count_of : List ℕ → Option ℕ
count_of word = if nat_le (length word) 9 then number_below 1_000_000_000 word else None

-- the sizes that two words name: children and cores
unfoldable pub sizes_in : List ℕ → List ℕ → Option Sizes
sizes_in children cores =
    option_and_then (λ m. option_map (λ n. record { children = m; cores = n; frames = None })
    (count_of cores)) (count_of children)

-- the sizes with the frames that a third word names
unfoldable pub cut_sizes_in : Option Sizes → List ℕ → Option Sizes
cut_sizes_in sizes frames =
    option_and_then (λ s. option_map (λ n. record s { frames = Some n }) (count_of frames)) sizes

-- what is shown of a run: `run` shows the answers, `image` the image at the end
unfoldable pub show_in : List ℕ → Option Show
show_in word =
    if bytes_eq word (codes "run") then Some show.Answers
    else if bytes_eq word (codes "image") then Some show.Picture else None

-- a run in a memory of these sizes
unfoldable pub run_in : List ℕ → Option Sizes → Option Command
run_in word sizes =
    option_and_then (λ shown. option_map (λ s. command.Run s shown) sizes) (show_in word)

-- a command of one word
unfoldable pub command_in : List ℕ → Option Command
command_in word =
    if bytes_eq word (codes "rebuild") then Some command.Rebuild
    else if bytes_eq word (codes "report") then Some command.Report else None

-- what the words of a command line ask for
unfoldable pub command_of : List (List ℕ) → Option Command
command_of (word ∷ []) = command_in word
command_of (word ∷ children ∷ cores ∷ []) = run_in word (sizes_in children cores)
command_of (word ∷ children ∷ cores ∷ frames ∷ []) =
    run_in word (cut_sizes_in (sizes_in children cores) frames)
command_of _ = None
