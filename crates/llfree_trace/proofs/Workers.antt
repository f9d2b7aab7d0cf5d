-- How the answers of a desk grow by one.
use Rattle.std.proofs.Common.{◌≡◌, ◌≢◌, ◌==◌, ◌+◌, ◌<◌, ◌∙◌, ℕ, List, [], ◌∷◌, ◌++◌, true, false}
use Rattle.std.proofs.Common.{length, take, get_or, refl, sym, subst, ap, arith, add-zero, zero-add}
use Rattle.std.proofs.Common.{zero, suc, ◌≤◌, Result, Ok, Err, IfOk}
use Rattle.std.proofs.lemmas.Bool.Decides.{nat_tests}
use Rattle.std.specs.List.{All}
use Rattle.std.specs.declared.alloc.Global.{Global}
use Rattle.std.specs.declared.vec.Vec.{Vec}
use Rattle.std.proofs.lemmas.List.{append-nil, take_more}
use Rattle.std.proofs.lemmas.List.Elements.{filter_more}
use Rattle.std.proofs.lemmas.List.Elements.{All-append, All-cons, All-head, All-nil, All-tail}
use Rattle.held_blocks.specs.declared.labelled_block.LabelledBlock.{LabelledBlock}
use Rattle.held_blocks.specs.Desk.{MayRefuse}
use Rattle.core_frames.specs.Cores.{lent_by}
use Rattle.core_frames.specs.Desks.{core_of, IsDeskOf}
use Rattle.core_frames.specs.declared.shared.allocator.Allocator.{Allocator}
use Rattle.core_frames.specs.declared.shared.desk.Desk.{Desk}
use Rattle.frame_model.specs.declared.key.Key.{Key}
use Rattle.frame_words.specs.declared.fault.Fault.{Fault}
use Rattle.llfree_trace.specs.Outcome.{DeskStep}
use Rattle.trace_text.specs.declared.reply.Answer.{Answer}
use Rattle.trace_text.specs.declared.line.Line.{Line}
use Rattle.trace_text.specs.declared.line.Line.TheVariants as line
use Rattle.trace_text.specs.declared.line.Request.{Request}
use Rattle.llfree_trace.specs.declared.lines.Done.{Done}
use Rattle.trace_text.specs.Trace.{cores_in}
use Rattle.llfree_trace.specs.Rounds.{Ask, DeskRun, Follows, IsAsk, IsNoAskOf, Ran, RanAll, ask_core}
use Rattle.llfree_trace.specs.Rounds.{asks_by, asks_from}

-- one more line with its answer
run_more : (key : Key) (old : List LabelledBlock) (lines : List Ask) (answers : List Answer) (mid new : List LabelledBlock)
    (line : Ask) (a : Answer)
    → DeskRun key old lines answers mid → a.line ≡ line.number → a.core ≡ line.core → DeskStep MayRefuse key mid line.request a.reply new
    → DeskRun key old (lines ++ line ∷ []) (answers ++ a ∷ []) new
unfolding DeskRun
run_more key old [] [] mid new line a run n k step = (n, k, new, rw run step, refl)
run_more key old (l ∷ lines) (b ∷ answers) mid new line a run n k step =
    (run.0, run.1, run.2, run.3, run_more key run.2 lines answers mid new line a run.4 n k step)
run_more key old _ _ mid new line a run n k step = absurd run

-- the lines of a core among the first i + 1
pub own_lines : (k : ℕ) (lines : List Ask) (i : ℕ) (d : Ask) → i < length lines → (get_or lines i d).core ≡ k
    → asks_by k (take (i + 1) lines) ≡ asks_by k (take i lines) ++ get_or lines i d ∷ []
own_lines k lines i d lt own =
    let test : ((get_or lines i d).core == k) ≡ true = grind (arith, nat_tests) in
    rw (filter_more (λ (l : Ask). l.core == k) lines i d lt, test) refl

pub other_lines : (k : ℕ) (lines : List Ask) (i : ℕ) (d : Ask) → i < length lines → (get_or lines i d).core ≢ k
    → asks_by k (take (i + 1) lines) ≡ asks_by k (take i lines)
other_lines k lines i d lt other =
    let test : ((get_or lines i d).core == k) ≡ false = grind (arith, nat_tests) in
    rw (filter_more (λ (l : Ask). l.core == k) lines i d lt, test) (append-nil (asks_by k (take i lines)))

-- the next line is the core's own
pub line_ran : (core : ℕ) (lines : List Ask) (i : ℕ) (d : Ask) (key : Key) (old : List LabelledBlock) (answers : List Answer)
    (mid new : List LabelledBlock) (a : Answer)
    → DeskRun key old (asks_by core (take i lines)) answers mid → i < length lines → (get_or lines i d).core ≡ core
    → a.line ≡ (get_or lines i d).number → a.core ≡ core → DeskStep MayRefuse key mid (get_or lines i d).request a.reply new
    → DeskRun key old (asks_by core (take (i + 1) lines)) (answers ++ a ∷ []) new
line_ran core lines i d key old answers mid new a run lt own n k step =
    rw (own_lines core lines i d lt own)
    (run_more key old (asks_by core (take i lines)) answers mid new (get_or lines i d) a run n (k ∙ sym own) step)

-- the next line is another core's
pub line_skipped : (core : ℕ) (lines : List Ask) (i : ℕ) (d : Ask) (key : Key) (old : List LabelledBlock) (answers : List Answer)
    (mid : List LabelledBlock)
    → DeskRun key old (asks_by core (take i lines)) answers mid → i < length lines → (get_or lines i d).core ≢ core
    → DeskRun key old (asks_by core (take (i + 1) lines)) answers mid
line_skipped core lines i d key old answers mid run lt other = rw (other_lines core lines i d lt other) run

-- each record is a request
pub ask_count : (first : ℕ) (lines : List Line) → All IsAsk lines → length (asks_from first lines) ≡ length lines
unfolding asks_from
ask_count first [] all = refl
ask_count first (line.Ask core request ∷ lines) all =
    ap suc (ask_count (first + 1) lines (All-tail IsAsk (line.Ask core request) lines all))
ask_count first (l ∷ lines) all = absurd (All-head IsAsk l lines all)

pub ask_is : (first : ℕ) (lines : List Line) (i : ℕ) (d : Line) (e : Ask) (core : ℕ) (request : Request)
    → All IsAsk lines → i < length lines → get_or lines i d ≡ line.Ask core request
    → get_or (asks_from first lines) i e ≡ record { number = first + i; core = core; request = request }
unfolding asks_from
ask_is first [] i d e core request all lt is = absurd (omega arith)
ask_is first (line.Ask own r ∷ lines) zero d e core request all lt is =
    let here : line.Ask own r ≡ line.Ask core request = is in
    let same : own ≡ core = cc in
    let asked : r ≡ request = cc in
    rw (add-zero, same, asked) refl
ask_is first (line.Ask own r ∷ lines) (suc i) d e core request all lt is =
    let next : first + 1 + i ≡ first + suc i = omega arith in
    rw next at (ask_is (first + 1) lines i d e core request (All-tail IsAsk (line.Ask own r) lines all) (omega arith) is)
ask_is first (l ∷ lines) i d e core request all lt is = absurd (All-head IsAsk l lines all)

-- a record of another core
pub ask_other : (first : ℕ) (lines : List Line) (i : ℕ) (d : Line) (e : Ask) (core : ℕ)
    → All IsAsk lines → i < length lines → IsNoAskOf core (get_or lines i d)
    → (get_or (asks_from first lines) i e).core ≢ core
unfolding asks_from
ask_other first [] i d e core all lt other = absurd (omega arith)
ask_other first (line.Ask own r ∷ lines) zero d e core all lt other = other
ask_other first (line.Ask own r ∷ lines) (suc i) d e core all lt other =
    ask_other (first + 1) lines i d e core (All-tail IsAsk (line.Ask own r) lines all) (omega arith) other
ask_other first (l ∷ lines) i d e core all lt other = absurd (All-head IsAsk l lines all)

-- one more desk
one_more : (al : Allocator) (core : ℕ) (desks : List Desk) (lines : List Ask) (done : List Done) (d : Desk) (e : Done)
    → RanAll al core desks lines done → Ran al (core + length desks) d lines e → RanAll al core (desks ++ d ∷ []) lines (done ++ e ∷ [])
one_more al core [] lines [] d e all ran = (rw add-zero at ran, tt)
one_more al core (b ∷ desks) lines (f ∷ done) d e all ran =
    let same : core + length (b ∷ desks) ≡ core + 1 + length desks = omega arith in
    (all.0, one_more al (core + 1) desks lines done d e all.1 (rw same at ran))
one_more al core _ lines _ d e all ran = absurd all

-- the desks in front of the last one, and the last one
pub front_desks : (al : Allocator) (all front : List Desk) (last : Desk) → all ≡ front ++ last ∷ [] → All (IsDeskOf al) all
    → All (IsDeskOf al) front × IsDeskOf al last
front_desks al all front last is home = by front (rw is at home)
  where
    by : (xs : List Desk) → All (IsDeskOf al) (xs ++ last ∷ []) → All (IsDeskOf al) xs × IsDeskOf al last
    by [] h = (All-nil (IsDeskOf al), All-head (IsDeskOf al) last [] h)
    by (x ∷ xs) h =
        let rest = by xs (All-tail (IsDeskOf al) x (xs ++ last ∷ []) h) in
        (All-cons (IsDeskOf al) x xs (All-head (IsDeskOf al) x (xs ++ last ∷ []) h) rest.0, rest.1)

-- a last desk joins those before it, at the place after them
last_ran : (al : Allocator) (desks front : List Desk) (lines : List Ask) (done all : List Done) (core : ℕ) (d : Desk) (e : Done)
    → desks ≡ front ++ d ∷ [] → core ≡ length front → all ≡ done ++ e ∷ [] → RanAll al 0 front lines done → Ran al core d lines e
    → RanAll al 0 desks lines all
last_ran al desks front lines done all core d e is place more ran one =
    let at : Ran al (0 + length front) d lines e = rw (zero-add, ← place) one in
    rw (is, more) (one_more al 0 front lines done d e ran at)

-- what follows what ran has run
pub follow_ran : (al : Allocator) (desks front : List Desk) (lines : List Ask) (core : ℕ) (d : Desk)
    (first : Result (Vec Done Global) Fault) (last : Result Done Fault) (result : Result (Vec Done Global) Fault)
    → desks ≡ front ++ d ∷ [] → core ≡ length front
    → IfOk first (λ all. RanAll al 0 front lines all.items) → IfOk last (Ran al core d lines)
    → IfOk result (λ all. Follows first last all.items) → IfOk result (λ all. RanAll al 0 desks lines all.items)
follow_ran al desks front lines core d first last (Err f) is place ran one follows = tt
follow_ran al desks front lines core d first last (Ok all) is place ran one follows =
    last_ran al desks front lines follows.others.items all.items core d follows.done is place follows.is_all
    (rw follows.is_first at ran) (rw follows.is_last at one)

-- the core of a request
pub ask_core_is : (first : ℕ) (lines : List Line) (i : ℕ) (d : Line) (e : Ask) → All IsAsk lines → i < length lines
    → (get_or (asks_from first lines) i e).core ≡ ask_core (get_or lines i d)
unfolding asks_from
ask_core_is first [] i d e all lt = absurd (omega arith)
ask_core_is first (line.Ask own r ∷ lines) zero d e all lt = refl
ask_core_is first (line.Ask own r ∷ lines) (suc i) d e all lt =
    ask_core_is (first + 1) lines i d e (All-tail IsAsk (line.Ask own r) lines all) (omega arith)
ask_core_is first (l ∷ lines) i d e all lt = absurd (All-head IsAsk l lines all)

-- each request is of a core that there is
pub asks_inside : (first : ℕ) (lines : List Line) (n : ℕ) (i : ℕ) (d : Ask) → All IsAsk lines
    → All (λ l. cores_in l ≤ n) lines → i < length (asks_from first lines) → (get_or (asks_from first lines) i d).core < n
unfolding asks_from
asks_inside first [] n i d all inside lt = absurd (omega arith)
asks_inside first (line.Ask own r ∷ lines) n zero d all inside lt =
    let one : own + 1 ≤ n = All-head (λ l. cores_in l ≤ n) (line.Ask own r) lines inside in
    omega arith
asks_inside first (line.Ask own r ∷ lines) n (suc i) d all inside lt =
    asks_inside (first + 1) lines n i d (All-tail IsAsk (line.Ask own r) lines all)
    (All-tail (λ l. cores_in l ≤ n) (line.Ask own r) lines inside) (omega arith)
asks_inside first (l ∷ lines) n i d all inside lt = absurd (All-head IsAsk l lines all)

-- one more request
pub ask_more : (lines : List Line) (i : ℕ) (item : Line) (core : ℕ) (request : Request) → i < length lines
    → item ≡ get_or lines i item → item ≡ line.Ask core request
    → All IsAsk (take i lines) → All IsAsk (take (i + 1) lines)
ask_more lines i item core request lt is ask before =
    rw (take_more lines i item lt, ← is)
    (All-append IsAsk (take i lines) (item ∷ []) before (All-cons IsAsk item [] (subst IsAsk (sym ask) tt) (All-nil IsAsk)))

-- one more record that asks nothing of the core
pub none_more : (core : ℕ) (lines : List Line) (i : ℕ) (item : Line) → i < length lines → item ≡ get_or lines i item
    → IsNoAskOf core item → All (IsNoAskOf core) (take i lines) → All (IsNoAskOf core) (take (i + 1) lines)
none_more core lines i item lt is none before =
    rw (take_more lines i item lt, ← is)
    (All-append (IsNoAskOf core) (take i lines) (item ∷ []) before (All-cons (IsNoAskOf core) item [] none (All-nil (IsNoAskOf core))))

-- a core that no record asks for has no requests
none_asked : (core first : ℕ) (lines : List Line) → All (IsNoAskOf core) lines → asks_by core (asks_from first lines) ≡ []
unfolding asks_from
none_asked core first [] none = refl
none_asked core first (line.Ask own r ∷ lines) none =
    let other : own ≢ core = All-head (IsNoAskOf core) (line.Ask own r) lines none in
    let test : (own == core) ≡ false = grind (arith, nat_tests) in
    rw test (none_asked core (first + 1) lines (All-tail (IsNoAskOf core) (line.Ask own r) lines none))
none_asked core first (l ∷ lines) none =
    none_asked core (first + 1) lines (All-tail (IsNoAskOf core) l lines none)

-- nor does one that no record names
pub none_named : (core named : ℕ) (lines : List Line) → named ≤ core → All (λ l. cores_in l ≤ named) lines
    → All (IsNoAskOf core) lines
none_named core named lines high inside k d lt = by (get_or lines k d) (inside k d lt)
  where
    by : (l : Line) → cores_in l ≤ named → IsNoAskOf core l
    by (line.Ask own r) low = λ same. omega arith
    by (line.Move own label to) low = tt
    by line.Round low = tt
    by (line.Reserve frame count) low = tt

-- and its desk is as it was
pub none_ran : (al : Allocator) (core first : ℕ) (lines : List Line) (d : Desk) (e : Done) → IsDeskOf al d
    → All (IsNoAskOf core) lines → e.desk ≡ d → e.answers.items ≡ [] → Ran al core d (asks_from first lines) e
unfolding DeskRun
none_ran al core first lines d e is none desk answers = record {
  desk = rw desk is;
  lent = ap (λ (x : Desk). lent_by (core_of x)) desk;
  run = rw (none_asked core first lines none, desk, answers) refl;
}
