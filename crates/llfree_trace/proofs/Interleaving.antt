-- What each core answers in a round, as one run of the lines in their order.
use Rattle.std.proofs.Common.{◌≡◌, ◌≢◌, ◌==◌, ◌+◌, ◌<◌, ◌≤◌, ◌∙◌, ℕ, List, [], ◌∷◌, true}
use Rattle.std.proofs.Common.{false, length, get_or, set, map, refl, sym, ap, subst, arith}
use Rattle.std.proofs.Common.{inl, inr}
use Rattle.std.specs.List.{All}
use Rattle.std.proofs.Math.ListN.{length-set}
use Rattle.std.proofs.lemmas.Bool.Decides.{nat_tests, eqb_tells}
use Rattle.std.proofs.lemmas.Grind.{get_or-set_at}
use Rattle.std.proofs.lemmas.List.{ext_get_or, get_or-map, get_or-set_other, length-map}
use Rattle.std.proofs.lemmas.List.Elements.{All-head, All-tail}
use Rattle.core_frames.specs.Cores.{memory_of}
use Rattle.core_frames.specs.Desks.{IsDeskOf, list_of as list_in}
use Rattle.core_frames.specs.declared.shared.allocator.Allocator.{Allocator}
use Rattle.core_frames.specs.declared.shared.desk.Desk.{Desk}
use Rattle.held_blocks.specs.declared.labelled_block.LabelledBlock.{LabelledBlock}
use Rattle.held_blocks.specs.Desk.{MayRefuse, blocks_of}
use Rattle.frame_model.specs.Holding.{IsHolding}
use Rattle.frame_model.specs.declared.key.Key.{Key}
use Rattle.llfree_trace.proofs.Running.{step_lawful}
use Rattle.llfree_trace.specs.Outcome.{Runs, core_list}
use Rattle.llfree_trace.specs.Rounds.{Ask, DeskRun, IsAsk, answers_by, asks_from, asks_by, ask_spot}
use Rattle.llfree_trace.specs.Rounds.{spot, RoundRan}
use Rattle.trace_text.specs.Trace.{cores_in}
use Rattle.trace_text.specs.declared.line.Line.{Line}
use Rattle.trace_text.specs.declared.line.Line.TheVariants as line
use Rattle.trace_text.specs.declared.reply.Answer.{Answer}

-- what the lists of all cores do, each by its own requests and answers
pub record Apart (key : Key) (old : List (List LabelledBlock)) (asks : List Ask) (answers : List Answer)
    (new : List (List LabelledBlock)) : Type 0 where
  pub spots : map spot answers ≡ map ask_spot asks
  pub width : length new ≡ length old
  pub lawful : (k : ℕ) → k < length old → IsHolding key (blocks_of (core_list old k))
  pub runs : (k : ℕ) → k < length old
      → DeskRun key (core_list old k) (asks_by k asks) (answers_by k answers) (core_list new k)

test_same : (m k : ℕ) → m ≡ k → (m == k) ≡ true
test_same m k e = grind (arith, nat_tests)

test_other : (m k : ℕ) → m ≢ k → (m == k) ≡ false
test_other m k e = grind (arith, nat_tests)

head_line : (a b : Answer) (c : Ask) (rest : List Answer) (cs : List Ask) → map spot (a ∷ rest) ≡ map ask_spot (c ∷ cs)
    → (a.line ≡ c.number) × (a.core ≡ c.core) × (map spot rest ≡ map ask_spot cs)
head_line a b c rest cs e =
    let both : spot a ∷ map spot rest ≡ ask_spot c ∷ map ask_spot cs = e in
    let first : spot a ≡ ask_spot c = cc in
    let others : map spot rest ≡ map ask_spot cs = cc in
    (ap (λ (p : ℕ × ℕ). p.0) first, ap (λ (p : ℕ × ℕ). p.1) first, others)

-- the rest of a round, behind its first request
rest_apart : (key : Key) (old : List (List LabelledBlock)) (ask : Ask) (asks : List Ask) (a : Answer) (answers : List Answer)
    (new : List (List LabelledBlock)) (mid : List LabelledBlock) → Apart key old (ask ∷ asks) (a ∷ answers) new
    → ask.core < length old → IsHolding key (blocks_of mid)
    → DeskRun key mid (asks_by ask.core asks) (answers_by ask.core answers) (core_list new ask.core)
    → Apart key (set old ask.core mid) asks answers new
rest_apart key old ask asks a answers new mid apart inside holds run =
    let core : ℕ = ask.core in
    let heads = head_line a a ask answers asks apart.spots in
    let width : length (set old core mid) ≡ length old = length-set old core mid in
    let own : get_or (set old core mid) core [] ≡ mid = get_or-set_at old core core mid [] refl inside in
    record {
      spots = heads.2;
      width = apart.width ∙ sym width;
      lawful = λ k lt.
          let P : ℕ → Type 0 = λ h. IsHolding key (blocks_of (core_list (set old core mid) h)) in
          elim (eqb_tells core k) [
            | inl s ↦ subst P s.1 (rw own holds)
            | inr s ↦ rw (get_or-set_other old core k mid [] (λ q. s.1 (sym q))) (apart.lawful k (omega (arith, lt, width)))
          ];
      runs = λ k lt.
          let P : ℕ → Type 0 = λ h. DeskRun key (core_list (set old core mid) h) (asks_by h asks) (answers_by h answers)
          (core_list new h) in
          elim (eqb_tells core k) [
            | inl s ↦ subst P s.1 (rw own run)
            | inr s ↦
                let skip_ask : (core == k) ≡ false = test_other core k s.1 in
                let skip_answer : (a.core == k) ≡ false = test_other a.core k (λ q. s.1 (sym heads.1 ∙ q)) in
                rw (get_or-set_other old core k mid [] (λ q. s.1 (sym q)))
                (rw (skip_ask, skip_answer) at (apart.runs k (omega (arith, lt, width))))
          ];
    }

-- each core's run by itself makes one run of the lines
pub interleaved : (key : Key) (number : ℕ) (old : List (List LabelledBlock)) (lines : List Line) (answers : List Answer)
    (new : List (List LabelledBlock)) → All IsAsk lines → All (λ l. cores_in l ≤ length old) lines
    → Apart key old (asks_from number lines) answers new → Runs MayRefuse key number old lines answers new
unfolding Runs asks_from DeskRun
interleaved key number old [] [] new all inside apart =
    ext_get_or [] old new (sym apart.width) (λ k lt. apart.runs k lt)
interleaved key number old [] (a ∷ answers) new all inside apart =
    let none = ap length apart.spots in absurd (omega (arith, none))
interleaved key number old (line.Ask core request ∷ lines) [] new all inside apart =
    let none = ap length apart.spots in absurd (omega (arith, none))
interleaved key number old (line.Ask core request ∷ lines) (a ∷ answers) new all inside apart =
    let ask : Ask = record { number = number; core = core; request = request } in
    let asks = asks_from (number + 1) lines in
    let low : core < length old =
    let one : core + 1 ≤ length old = All-head (λ l. cores_in l ≤ length old) (line.Ask core request) lines inside in omega arith in
    let heads = head_line a a ask answers asks apart.spots in
    let keep_ask : (core == core) ≡ true = test_same core core refl in
    let keep_answer : (a.core == core) ≡ true = test_same a.core core heads.1 in
    let run : DeskRun key (core_list old core) (ask ∷ asks_by core asks) (a ∷ answers_by core answers) (core_list new core) =
    rw (keep_ask, keep_answer) at (apart.runs core low) in
    let mid : List LabelledBlock = run.2 in
    let holds = step_lawful MayRefuse key (core_list old core) request a.reply mid (apart.lawful core low) run.3 in
    let wide : length old ≡ length (set old core mid) = sym (length-set old core mid) in
    let after : All (λ l. cores_in l ≤ length (set old core mid)) lines =
    rw (← wide) (All-tail (λ l. cores_in l ≤ length old) (line.Ask core request) lines inside) in (
      heads.0,
      heads.1,
      mid,
      run.3,
      holds,
      interleaved key (number + 1) (set old core mid) lines answers new (All-tail IsAsk (line.Ask core request) lines all) after
          (rest_apart key old ask asks a answers new mid apart low holds run.4),
    )
interleaved key number old (l ∷ lines) answers new all inside apart = absurd (All-head IsAsk l lines all)

-- the list at a place is that of the desk there
pub list_there : (ds : List Desk) (k : ℕ) (d : Desk) → k < length ds → get_or (map list_in ds) k [] ≡ list_in (get_or ds k d)
list_there ds k d lt = get_or-map list_in ds k d [] lt

some_desk : (ds : List Desk) (k : ℕ) → k < length ds → Desk
some_desk [] k lt = absurd (omega arith)
some_desk (x ∷ ds) k lt = x

-- a round is a run of its lines
pub round_runs : (al : Allocator) (old : List Desk) (number : ℕ) (lines : List Line) (answers : List Answer) (new : List Desk)
    → All (IsDeskOf al) old → All IsAsk lines → All (λ l. cores_in l ≤ length old) lines
    → RoundRan al old (asks_from number lines) answers new
    → Runs MayRefuse (memory_of al) number (map list_in old) lines answers (map list_in new)
round_runs al old number lines answers new desks all inside ran =
    let size : length (map list_in old) ≡ length old = length-map old list_in in
    interleaved (memory_of al) number (map list_in old) lines answers (map list_in new) all (rw size inside)
    (record {
      spots = ran.spots;
      width = length-map new list_in ∙ (ran.width ∙ sym size);
      lawful = λ k lt.
          let low : k < length old = omega (arith, lt, size) in
          let d = some_desk old k low in
          rw (list_there old k d low) ((desks k d low).apart);
      runs = λ k lt.
          let low : k < length old = omega (arith, lt, size) in
          let high : k < length new = omega (arith, low, ran.width) in
          let d = some_desk old k low in
          rw (list_there old k d low, list_there new k d high) (ran.runs k d low);
    })
