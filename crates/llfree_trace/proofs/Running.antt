-- How the answers to a trace grow by one.
use Rattle.std.proofs.Common.{◌≡◌, ◌⊎◌, inl, inr, ◌+◌, ◌-◌, ◌≤◌, ℕ, zero, suc, max, List, [], ◌∷◌}
use Rattle.std.proofs.Common.{◌++◌, length, replicate, refl, subst, arith, Result, Ok, Err}
use Rattle.std.proofs.lemmas.List.{append-nil}
use Rattle.std.proofs.lemmas.List.Elements.{All-nil}
use Rattle.frame_model.specs.Block.{IsBlock}
use Rattle.frame_model.specs.Holding.{IsHolding, holders}
use Rattle.frame_model.specs.declared.block.FrameBlock.{FrameBlock}
use Rattle.frame_model.specs.declared.key.Key.{Key}
use Rattle.frame_words.specs.declared.fault.Fault.{Fault}
use Rattle.frame_words.specs.declared.fault.Fault.TheVariants as fault
use Rattle.trace_text.specs.declared.line.Line.{Line}
use Rattle.trace_text.specs.declared.line.Line.TheVariants as line
use Rattle.trace_text.specs.declared.line.Request.{Request}
use Rattle.trace_text.specs.declared.line.Request.TheVariants as request
use Rattle.trace_text.specs.declared.reply.Answer.{Answer}
use Rattle.trace_text.specs.declared.reply.Reply.{Reply}
use Rattle.trace_text.specs.declared.reply.Reply.TheVariants as reply
use Rattle.held_blocks.specs.Desk.{MayRefuse, TakesUnder, blocks_of}
use Rattle.held_blocks.specs.LabelledBlocks.{IsUnder}
use Rattle.held_blocks.specs.declared.labelled_block.LabelledBlock.{LabelledBlock}
use Rattle.held_blocks.proofs.DeskLemmas.{gives_exactly_lawful, gives_lawful, takes_lawful}
use Rattle.llfree_trace.specs.Outcome.{DeskStep, Moves, MustRefuseHere, Runs, all_blocks, core_list}

-- a step leaves a list whose blocks are disjoint
pub step_lawful : (refuses : Key → List FrameBlock → ℕ → Fault → Type 0) (key : Key)
    (old : List LabelledBlock) (ask : Request) (r : Reply) (new : List LabelledBlock)
    → IsHolding key (blocks_of old) → DeskStep refuses key old ask r new → IsHolding key (blocks_of new)
unfolding DeskStep
step_lawful refuses key old (request.Take label order) (reply.Taken x o) new lawful step =
    takes_lawful refuses key old label order (Ok (x, o)) new lawful step.0
step_lawful refuses key old (request.Take label order) (reply.Refused f) new lawful step =
    takes_lawful refuses key old label order (Err f) new lawful step.0
step_lawful refuses key old (request.Give label) (reply.Given x o) new lawful step =
    gives_lawful key (IsUnder label) old (Ok (x, o)) new lawful step
step_lawful refuses key old (request.Give label) (reply.Refused f) new lawful step =
    gives_lawful key (IsUnder label) old (Err f) new lawful step
step_lawful refuses key old (request.GiveAt frame order) (reply.Given x o) new lawful step =
    gives_exactly_lawful key old frame order (Ok (x, o)) new lawful step
step_lawful refuses key old (request.GiveAt frame order) (reply.Refused f) new lawful step =
    gives_exactly_lawful key old frame order (Err f) new lawful step
step_lawful refuses key old _ _ new lawful step = absurd step

-- Runs.

-- a run by another name of its first number
pub renumbered : (refuses : Key → List FrameBlock → ℕ → Fault → Type 0) (key : Key) (n m : ℕ)
    (old : List (List LabelledBlock)) (lines : List Line) (answers : List Answer) (new : List (List LabelledBlock))
    → n ≡ m → Runs refuses key n old lines answers new → Runs refuses key m old lines answers new
renumbered refuses key n m old lines answers new same run =
    subst (λ (k : ℕ). Runs refuses key k old lines answers new) same run

-- a run and then another one
pub runs_append : (refuses : Key → List FrameBlock → ℕ → Fault → Type 0) (key : Key) (number : ℕ)
    (old : List (List LabelledBlock)) (lines : List Line) (answers : List Answer) (mid : List (List LabelledBlock))
    (more : List Line) (others : List Answer) (new : List (List LabelledBlock))
    → Runs refuses key number old lines answers mid
    → Runs refuses key (number + length lines) mid more others new
    → Runs refuses key number old (lines ++ more) (answers ++ others) new
unfolding Runs
runs_append refuses key number old [] [] mid more others new run next =
    rw run (renumbered refuses key (number + 0) number mid more others new (omega arith) next)
runs_append refuses key number old (line.Ask m x ∷ lines) (b ∷ answers) mid more others new run next = (
  run.0,
  run.1,
  run.2,
  run.3,
  run.4,
  runs_append refuses key (number + 1) _ lines answers mid more others new run.5
      (renumbered refuses key _ (number + 1 + length lines) mid more others new (omega arith) next),
)
runs_append refuses key number old (line.Move m l to ∷ lines) (b ∷ answers) mid more others new run next = (
  run.0,
  run.1,
  run.2,
  run.3,
  run.4,
  run.5,
  runs_append refuses key (number + 1) _ lines answers mid more others new run.6
      (renumbered refuses key _ (number + 1 + length lines) mid more others new (omega arith) next),
)
runs_append refuses key number old (line.Round ∷ lines) answers mid more others new run next =
    runs_append refuses key (number + 1) old lines answers mid more others new run
    (renumbered refuses key _ (number + 1 + length lines) mid more others new (omega arith) next)
runs_append refuses key number old (line.Reserve f n ∷ lines) answers mid more others new run next =
    runs_append refuses key (number + 1) old lines answers mid more others new run
    (renumbered refuses key _ (number + 1 + length lines) mid more others new (omega arith) next)
runs_append refuses key number old _ _ mid more others new run next = absurd run

-- a take that is refused only where it must be is one that may be refused
may_here : (key : Key) (old : List LabelledBlock) (label : List ℕ) (order : ℕ)
    (r : Result (ℕ × ℕ) Fault) (new : List LabelledBlock)
    → TakesUnder MustRefuseHere key old label order r new → TakesUnder MayRefuse key old label order r new
unfolding TakesUnder
may_here key old label order (Ok b) new step = step
may_here key old label order (Err fault.BadOrder) new step = step
may_here key old label order (Err fault.NoBlock) new step = (step.0, tt, step.2)
may_here key old label order (Err f) new step = absurd step.1

may_step : (key : Key) (old : List LabelledBlock) (ask : Request) (r : Reply)
    (new : List LabelledBlock) → DeskStep MustRefuseHere key old ask r new
    → DeskStep MayRefuse key old ask r new
unfolding DeskStep
may_step key old (request.Take label order) (reply.Taken x o) new step =
    (may_here key old label order (Ok (x, o)) new step.0, step.1)
may_step key old (request.Take label order) (reply.Refused f) new step =
    (may_here key old label order (Err f) new step.0, tt)
may_step key old (request.Take label order) _ new step = absurd step
may_step key old (request.Give label) r new step = step
may_step key old (request.GiveAt frame order) r new step = step

-- a run that refuses only what it must is a run
pub may_runs : (key : Key) (number : ℕ) (old : List (List LabelledBlock)) (lines : List Line) (answers : List Answer)
    (new : List (List LabelledBlock)) → Runs MustRefuseHere key number old lines answers new
    → Runs MayRefuse key number old lines answers new
unfolding Runs
may_runs key number old [] [] new run = run
may_runs key number old (line.Ask m x ∷ lines) (b ∷ answers) new run =
    (run.0, run.1, run.2, may_step key (core_list old m) x b.reply run.2 run.3, run.4, may_runs key (number + 1) _ lines answers new run.5)
may_runs key number old (line.Move m l to ∷ lines) (b ∷ answers) new run =
    (run.0, run.1, run.2, run.3, run.4, run.5, may_runs key (number + 1) _ lines answers new run.6)
may_runs key number old (line.Round ∷ lines) answers new run = may_runs key (number + 1) old lines answers new run
may_runs key number old (line.Reserve f n ∷ lines) answers new run =
    may_runs key (number + 1) old lines answers new run
may_runs key number old _ _ new run = absurd run

-- One core.

-- empty lists for each core: one, and the others
pub first_list : (cores : ℕ) → 1 ≤ cores
    → replicate {A = List LabelledBlock} cores [] ≡ [] ∷ replicate (cores - 1) []
first_list zero some = absurd (omega arith)
first_list (suc n) some = let same : suc n - 1 ≡ n = omega arith in rw same refl

-- the other lists have no blocks
none_in_others : (n : ℕ) → all_blocks (replicate n []) ≡ []
none_in_others zero = refl
none_in_others (suc n) = none_in_others n

pub blocks_of_one : (list : List LabelledBlock) (n : ℕ) → all_blocks (list ∷ replicate n []) ≡ blocks_of list
blocks_of_one list n = rw (none_in_others n, append-nil) refl

-- a request of the first core
pub asked : (refuses : Key → List FrameBlock → ℕ → Fault → Type 0) (key : Key) (number core : ℕ)
    (old new : List LabelledBlock) (ask : Request) (a : Answer) (others : List (List LabelledBlock))
    → core + 1 ≤ 1 → a.line ≡ number → a.core ≡ 0
    → IsHolding key (blocks_of old) → DeskStep refuses key old ask a.reply new
    → Runs refuses key number (old ∷ others) (line.Ask core ask ∷ []) (a ∷ []) (new ∷ others)
unfolding Runs
asked refuses key number zero old new ask a others first n k lawful step =
    (n, k, new, step, step_lawful refuses key old ask a.reply new lawful step, refl)
asked refuses key number (suc core) old new ask a others first n k lawful step = absurd (omega arith)

-- a move of the first core to itself
pub moved : (refuses : Key → List FrameBlock → ℕ → Fault → Type 0) (key : Key) (number core : ℕ)
    (label : List ℕ) (to : ℕ) (old new : List LabelledBlock) (a : Answer) (others : List (List LabelledBlock))
    → max core to + 1 ≤ 1 → a.line ≡ number → a.core ≡ 0
    → IsHolding key (blocks_of new) → Moves (old ∷ others) 0 label 0 a.reply (new ∷ others)
    → Runs refuses key number (old ∷ others) (line.Move core label to ∷ []) (a ∷ []) (new ∷ others)
unfolding Runs
moved refuses key number zero label zero old new a others first n k lawful step =
    (n, k, new ∷ others, step, lawful, lawful, refl)
moved refuses key number _ label _ old new a others first n k lawful step = absurd (omega arith)

-- a record without an answer
pub unanswered : (refuses : Key → List FrameBlock → ℕ → Fault → Type 0) (key : Key) (number : ℕ)
    (lists : List (List LabelledBlock)) (l : Line)
    → (l ≡ line.Round) ⊎ ((frame : ℕ) × (count : ℕ) × (l ≡ line.Reserve frame count))
    → Runs refuses key number lists (l ∷ []) [] lists
unfolding Runs
unanswered refuses key number lists l (inl e) = rw e refl
unanswered refuses key number lists l (inr e) = rw e.2 refl

-- nothing is a holding
pub none_lawful : (key : Key) → IsHolding key []
unfolding holders
none_lawful key = record { blocks = All-nil (IsBlock key); disjoint = λ x. omega arith }
