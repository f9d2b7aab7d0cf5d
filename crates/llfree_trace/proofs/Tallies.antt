-- How often a run takes and gives a frame, and which of its records are answered.
use Rattle.std.proofs.Common.{◌≡◌, ◌+◌, ◌≤◌, ◌<◌, ◌∙◌, ℕ, List, [], ◌∷◌, ◌++◌, Bool, true, false, nat_le}
use Rattle.std.proofs.Common.{length, map, replicate, set, refl, ap, ap₂, arith, Result, Ok, Err}
use Rattle.std.specs.List.{sum_by}
use Rattle.std.proofs.Math.ListN.{length-set}
use Rattle.std.proofs.lemmas.Grind.{common_steps}
use Rattle.std.proofs.lemmas.List.Folds.{sum_by-replicate}
use Rattle.std.proofs.lemmas.List.Sums.{sum_by-append, sum_by-cons, sum_by-set, sum_by_push}
use Rattle.frame_model.specs.Block.{block, covers}
use Rattle.frame_model.specs.Holding.{holders}
use Rattle.frame_model.specs.declared.block.FrameBlock.{FrameBlock}
use Rattle.frame_model.specs.declared.key.Key.{Key}
use Rattle.frame_words.specs.declared.fault.Fault.{Fault}
use Rattle.frame_words.specs.declared.fault.Fault.TheVariants as fault
use Rattle.held_blocks.specs.Desk.{blocks_of, GivesExactly, GivesFirst, TakesUnder, pair_block}
use Rattle.held_blocks.specs.LabelledBlocks.{IsTheBlock, IsUnder, TakesFirst}
use Rattle.held_blocks.specs.declared.labelled_block.LabelledBlock.{LabelledBlock}
use Rattle.held_blocks.proofs.HeldLemmas.{blocks_append, sum_split}
use Rattle.llfree_trace.specs.Outcome.{DeskStep, Moves, Runs, all_blocks, core_list}
use Rattle.llfree_trace.specs.Rounds.{spot}
use Rattle.llfree_trace.specs.WrongRuns.{answered_from, given_by, taken_by, times_given, times_taken}
use Rattle.trace_text.specs.Trace.{core_count}
use Rattle.trace_text.specs.declared.line.Line.{Line}
use Rattle.trace_text.specs.declared.line.Line.TheVariants as line
use Rattle.trace_text.specs.declared.line.Request.{Request}
use Rattle.trace_text.specs.declared.line.Request.TheVariants as request
use Rattle.trace_text.specs.declared.reply.Answer.{Answer}
use Rattle.trace_text.specs.declared.reply.Reply.{Reply}
use Rattle.trace_text.specs.declared.reply.Reply.TheVariants as reply

-- how many blocks of a list hold the frame
abbrev pub in_list : ℕ → List LabelledBlock → ℕ
in_list x list = sum_by (λ b. covers b x) (blocks_of list)

-- and of all lists
abbrev pub in_lists : ℕ → List (List LabelledBlock) → ℕ
in_lists x lists = sum_by (in_list x) lists

-- 1 where a block that is answered holds the frame
abbrev pub named_by : ℕ → Result (ℕ × ℕ) Fault → ℕ
named_by x (Ok b) = covers (block b.0 b.1) x
named_by x (Err f) = 0

-- one entry more
put_last_counts : (x : ℕ) (old : List LabelledBlock) (e : LabelledBlock)
    → in_list x (old ++ e ∷ []) ≡ in_list x old + covers e.block x
put_last_counts x old e =
    rw (blocks_append old (e ∷ [])) (sum_by_push (λ b. covers b x) (blocks_of old) e.block)

-- one entry fewer
leaving_counts : (P : LabelledBlock → Type 0) (x : ℕ) (old new : List LabelledBlock) (e : LabelledBlock)
    → TakesFirst P old e new → in_list x old ≡ covers e.block x + in_list x new
leaving_counts P x old new e takes =
    rw (takes.was, takes.stays) (sum_split (λ b. covers b x) takes.front takes.back e)

takes_count : (refuses : Key → List FrameBlock → ℕ → Fault → Type 0) (key : Key) (x : ℕ) (old : List LabelledBlock)
    (label : List ℕ) (order : ℕ) (r : Result (ℕ × ℕ) Fault) (new : List LabelledBlock)
    → TakesUnder refuses key old label order r new → in_list x new ≡ in_list x old + named_by x r
unfolding TakesUnder
takes_count refuses key x old label order (Ok b) new step =
    rw step.last (put_last_counts x old (record { label = label; block = block b.0 b.1 }))
takes_count refuses key x old label order (Err fault.BadOrder) new step = rw step.1 (omega arith)
takes_count refuses key x old label order (Err f) new step = rw step.2 (omega arith)

gives_count : (kind : LabelledBlock → Type 0) (x : ℕ) (old : List LabelledBlock) (r : Result (ℕ × ℕ) Fault)
    (new : List LabelledBlock) → GivesFirst pair_block kind old r new → in_list x new + named_by x r ≡ in_list x old
unfolding GivesFirst
gives_count kind x old (Ok b) new step =
    let is : covers step.0.block x ≡ covers (block b.0 b.1) x = ap (λ (c : FrameBlock). covers c x) step.1 in
    omega (arith, is, leaving_counts kind x old new step.0 step.2)
gives_count kind x old (Err fault.NotHeld) new step = rw step.1 (omega arith)
gives_count kind x old (Err f) new step = absurd step

gives_exactly_count : (x : ℕ) (old : List LabelledBlock) (frame order : ℕ) (r : Result (ℕ × ℕ) Fault)
    (new : List LabelledBlock) → GivesExactly old frame order r new → in_list x new + named_by x r ≡ in_list x old
gives_exactly_count x old frame order r new step = by_order (nat_le order 9) refl
  where
    by_order : (t : Bool) → nat_le order 9 ≡ t → in_list x new + named_by x r ≡ in_list x old
    by_order true e =
        let low : order ≤ 9 = grind (arith, common_steps) in
        gives_count (IsTheBlock frame order) x old r new (step.1 low)
    by_order false e =
        let high : 9 < order = grind (arith, common_steps) in
        rw ((step.0 high).0, (step.0 high).1) (omega arith)

-- what a request changes
step_counts : (refuses : Key → List FrameBlock → ℕ → Fault → Type 0) (key : Key) (x : ℕ) (old : List LabelledBlock)
    (ask : Request) (r : Reply) (new : List LabelledBlock) → DeskStep refuses key old ask r new
    → in_list x new + given_by x r ≡ in_list x old + taken_by x r
unfolding DeskStep
step_counts refuses key x old (request.Take label order) (reply.Taken f o) new step =
    omega (arith, takes_count refuses key x old label order (Ok (f, o)) new step.0)
step_counts refuses key x old (request.Take label order) (reply.Refused f) new step =
    omega (arith, takes_count refuses key x old label order (Err f) new step.0)
step_counts refuses key x old (request.Give label) (reply.Given f o) new step =
    omega (arith, gives_count (IsUnder label) x old (Ok (f, o)) new step)
step_counts refuses key x old (request.Give label) (reply.Refused f) new step =
    omega (arith, gives_count (IsUnder label) x old (Err f) new step)
step_counts refuses key x old (request.GiveAt frame order) (reply.Given f o) new step =
    omega (arith, gives_exactly_count x old frame order (Ok (f, o)) new step)
step_counts refuses key x old (request.GiveAt frame order) (reply.Refused f) new step =
    omega (arith, gives_exactly_count x old frame order (Err f) new step)
step_counts refuses key x old _ _ new step = absurd step

-- a move of a block changes nothing in all lists, and is told by no take and no give
moves_count : (x : ℕ) (old : List (List LabelledBlock)) (core : ℕ) (label : List ℕ) (to : ℕ) (r : Reply)
    (new : List (List LabelledBlock)) → core < length old → to < length old → Moves old core label to r new
    → (in_lists x new + given_by x r ≡ in_lists x old + taken_by x r) × (length new ≡ length old)
unfolding Moves
moves_count x old core label to (reply.Moved f o) new from into step =
    let mid : List (List LabelledBlock) = set old core step.left in
    let width : length mid ≡ length old = length-set old core step.left in
    let more : List LabelledBlock = core_list mid to ++ step.entry ∷ [] in
    rw step.goes_last (
      omega (
        arith,
        leaving_counts (IsUnder label) x (core_list old core) step.left step.entry step.leaves,
        sum_by-set (in_list x) old core step.left [] from,
        sum_by-set (in_list x) mid to more [] (omega (arith, into, width)),
        put_last_counts x (core_list mid to) step.entry,
      ),
      length-set mid to more ∙ width,
    )
moves_count x old core label to (reply.Refused fault.NotHeld) new from into step = rw step.1 (omega arith, refl)
moves_count x old core label to _ new from into step = absurd step

-- what all records change
pub runs_count : (refuses : Key → List FrameBlock → ℕ → Fault → Type 0) (key : Key) (number x : ℕ)
    (old : List (List LabelledBlock)) (lines : List Line) (answers : List Answer) (new : List (List LabelledBlock))
    → core_count lines ≤ length old → Runs refuses key number old lines answers new
    → in_lists x new + times_given x answers ≡ in_lists x old + times_taken x answers
unfolding Runs core_count
runs_count refuses key number x old [] [] new inside run = rw run refl
runs_count refuses key number x old (line.Ask core ask ∷ lines) (b ∷ answers) new inside run =
    let mid : List (List LabelledBlock) = set old core run.2 in
    let width : length mid ≡ length old = length-set old core run.2 in
    omega (
      arith,
      step_counts refuses key x (core_list old core) ask b.reply run.2 run.3,
      sum_by-set (in_list x) old core run.2 [] (omega (arith, inside)),
      runs_count refuses key (number + 1) x mid lines answers new (omega (arith, inside, width)) run.5,
      sum_by-cons (λ (a : Answer). given_by x a.reply) b answers,
      sum_by-cons (λ (a : Answer). taken_by x a.reply) b answers,
    )
runs_count refuses key number x old (line.Move core label to ∷ lines) (b ∷ answers) new inside run =
    let moved = moves_count x old core label to b.reply run.2 (omega (arith, inside)) (omega (arith, inside)) run.3 in
    omega (
      arith,
      moved.0,
      runs_count refuses key (number + 1) x run.2 lines answers new (omega (arith, inside, moved.1)) run.6,
      sum_by-cons (λ (a : Answer). given_by x a.reply) b answers,
      sum_by-cons (λ (a : Answer). taken_by x a.reply) b answers,
    )
runs_count refuses key number x old (line.Round ∷ lines) answers new inside run =
    runs_count refuses key (number + 1) x old lines answers new (omega (arith, inside)) run
runs_count refuses key number x old (line.Reserve f n ∷ lines) answers new inside run =
    runs_count refuses key (number + 1) x old lines answers new (omega (arith, inside)) run
runs_count refuses key number x old _ _ new inside run = absurd run

-- each answer names its record and its core
pub runs_named : (refuses : Key → List FrameBlock → ℕ → Fault → Type 0) (key : Key) (number : ℕ)
    (old : List (List LabelledBlock)) (lines : List Line) (answers : List Answer) (new : List (List LabelledBlock))
    → Runs refuses key number old lines answers new → map spot answers ≡ answered_from number lines
unfolding Runs answered_from
runs_named refuses key number old [] [] new run = refl
runs_named refuses key number old (line.Ask core ask ∷ lines) (b ∷ answers) new run =
    ap₂ (λ (p : ℕ × ℕ) (ps : List (ℕ × ℕ)). p ∷ ps) (ap₂ (λ (n k : ℕ). (n, k)) run.0 run.1)
    (runs_named refuses key (number + 1) _ lines answers new run.5)
runs_named refuses key number old (line.Move core label to ∷ lines) (b ∷ answers) new run =
    ap₂ (λ (p : ℕ × ℕ) (ps : List (ℕ × ℕ)). p ∷ ps) (ap₂ (λ (n k : ℕ). (n, k)) run.0 run.1)
    (runs_named refuses key (number + 1) _ lines answers new run.6)
runs_named refuses key number old (line.Round ∷ lines) answers new run =
    runs_named refuses key (number + 1) old lines answers new run
runs_named refuses key number old (line.Reserve f n ∷ lines) answers new run =
    runs_named refuses key (number + 1) old lines answers new run
runs_named refuses key number old _ _ new run = absurd run

-- empty lists
pub none_in_lists : (x n : ℕ) → in_lists x (replicate n []) ≡ 0
none_in_lists x n = omega (arith, sum_by-replicate (in_list x) n [])

pub count_of_all : (x : ℕ) (lists : List (List LabelledBlock)) → holders x (all_blocks lists) ≡ in_lists x lists
unfolding holders
count_of_all x [] = refl
count_of_all x (l ∷ lists) =
    omega (arith, sum_by-append (λ b. covers b x) (blocks_of l) (all_blocks lists), count_of_all x lists, sum_by-cons (in_list x) l lists)
