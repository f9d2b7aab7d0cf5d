-- What a filter shows, shown as more.
use Rattle.std.proofs.Common.{◌⊎◌, inl, inr, ℕ, List, Option, Result, Ok, Err}
use Rattle.frame_text.specs.declared.watched.Watched.{Watched}
use Rattle.frame_words.specs.declared.fault.Fault.{Fault}
use Rattle.frame_words.specs.declared.geometry.Geometry.{Geometry}
use Rattle.llfree_trace.specs.Program.{AreLawful, ExplainsCommand, IsMadeBy, IsOfSizes, Performs}
use Rattle.llfree_trace.specs.RunText.{ExplainsRun, IsRunText}
use Rattle.llfree_trace.specs.Streams.{Filters, IsExplained, IsFromOutside}
use Rattle.llfree_trace.specs.declared.command.Command.TheVariants as command
use Rattle.llfree_trace.specs.declared.command.Sizes.{Sizes}
use Rattle.llfree_trace.specs.declared.streams.Show.{Show}

-- a fault is explained by more
more_explained : (explains explains' : List ℕ → Fault → Type 0) (left : Option (List ℕ)) (f : Fault)
    → ((text : List ℕ) (e : Fault) → explains text e → explains' text e)
    → IsFromOutside f ⊎ IsExplained explains left f → IsFromOutside f ⊎ IsExplained explains' left f
more_explained explains explains' left f more (inl h) = inl h
more_explained explains explains' left f more (inr h) =
    inr (record { text = h.text; is_all = h.is_all; explained = more h.text f h.explained })

-- a filter that shows and explains so does what follows from that
pub filters_more : {R W T : Type 0} (remaining : R → Option (List ℕ)) (contents : W → Option (List ℕ))
    (shows shows' : List ℕ → List ℕ → Type 0) (explains explains' : List ℕ → Fault → Type 0)
    (input input' : Watched R) (output output' : Watched W) (result : Result T Fault)
    → ((text out : List ℕ) → shows text out → shows' text out)
    → ((text : List ℕ) (e : Fault) → explains text e → explains' text e)
    → Filters remaining contents shows explains input input' output output' result
    → Filters remaining contents shows' explains' input input' output output' result
filters_more remaining contents shows shows' explains explains' input input' output output' (Ok v) more why so = record {
  written = let w = so.written in record {
    text = w.text;
    out = w.out;
    is_all = w.is_all;
    shown = more w.text w.out w.shown;
    grows = w.grows;
  };
  sound = so.sound;
  reading = so.reading;
  why = tt;
  write_failed = λ e. absurd (cc);
  untouched = tt;
}
filters_more remaining contents shows shows' explains explains' input input' output output' (Err f) more why so = record {
  written = tt;
  sound = tt;
  reading = so.reading;
  why = more_explained explains explains' _ f why so.why;
  write_failed = λ e.
      let w = so.write_failed e in (
        w.0,
        record {
          text = w.1.text;
          out = w.1.out;
          is_all = w.1.is_all;
          shown = more w.1.text w.1.out w.1.shown;
          grows = w.1.grows;
        },
      );
  untouched = so.untouched;
}

-- a run in a memory of a command's sizes is that command
pub run_performs : {R W T : Type 0} (remaining : R → Option (List ℕ)) (contents : W → Option (List ℕ))
    (sizes : Sizes) (show : Show) (g : Geometry)
    (input input' : Watched R) (output output' : Watched W) (result : Result T Fault)
    → IsOfSizes sizes g → AreLawful sizes
    → Filters remaining contents (IsRunText g show) (ExplainsRun g) input input' output output' result
    → Performs remaining contents (command.Run sizes show) input input' output output' result
run_performs remaining contents sizes show g input input' output output' result has lawful so = inl (
  lawful,
  filters_more remaining contents (IsRunText g show) (IsMadeBy (command.Run sizes show)) (ExplainsRun g)
      (ExplainsCommand (command.Run sizes show)) input input' output output' result (λ text out h. (g, has, h))
      (λ text e h. (g, has, h)) so,
)
