-- How the answers of a round are put into the order of its lines.
use Rattle.std.specs.List.{All}
use Rattle.std.proofs.Common.{◌≡◌, ◌≢◌, ◌==◌, ◌+◌, ◌<◌, ◌∙◌, ℕ, zero, suc, List, [], ◌∷◌, ◌++◌}
use Rattle.std.proofs.Common.{true, false, length, take, drop, set, get_or, map, refl, sym, ap, ap₂}
use Rattle.std.proofs.Common.{subst, arith, length-append, zero-add, add-zero, inl, inr, ◌+ℤ◌}
use Rattle.std.proofs.Math.ListN.{get_or-map, length-set}
use Rattle.std.proofs.Math.Seq.{get_or-append_seam}
use Rattle.std.proofs.lemmas.Bool.Decides.{nat_tests, eqb_tells}
use Rattle.std.proofs.lemmas.Grind.{get_or-set_at, common_steps}
use Rattle.std.proofs.lemmas.List.{append-nil, append_assoc, get_or_default, get_or-set_other}
use Rattle.std.proofs.lemmas.List.{length-map, map-append, take_more, take-append-drop}
use Rattle.std.proofs.lemmas.List.Elements.{filter-append}
use Rattle.held_blocks.specs.declared.labelled_block.LabelledBlock.{LabelledBlock}
use Rattle.core_frames.specs.Desks.{list_of}
use Rattle.frame_table.specs.Closing.{lent_through}
use Rattle.core_frames.specs.Cores.{memory_of}
use Rattle.core_frames.specs.declared.shared.allocator.Allocator.{Allocator}
use Rattle.core_frames.specs.declared.shared.desk.Desk.{Desk}
use Rattle.frame_model.specs.declared.key.Key.{Key}
use Rattle.trace_text.specs.declared.reply.Answer.{Answer}
use Rattle.llfree_trace.specs.declared.lines.Done.{Done}
use Rattle.llfree_trace.proofs.Workers.{ask_core_is, ask_count, other_lines, own_lines}
use Rattle.trace_text.specs.declared.line.Line.{Line}
use Rattle.trace_text.specs.declared.line.Request.TheVariants as request
use Rattle.llfree_trace.specs.Rounds.{IsAsk, ask_core, asks_from, Ask, DeskRun, Fitting, Merged}
use Rattle.llfree_trace.specs.Rounds.{Ran, RanAll, RoundRan, answers_by, asks_by, lent_by_desks}
use Rattle.llfree_trace.specs.Rounds.{ask_spot, spot}

-- the answers to the first i lines stand in order, and of each core as many are used as it has lines among them
pub record Merging (lines : List Ask) (done : List Done) (i : ℕ) (next : List ℕ) (all : List Answer) : Type 0 where
  pub width : length next ≡ length done
  pub used : (k : ℕ) → k < length done → get_or next k 0 ≡ length (asks_by k (take i lines))
  pub spots : map spot all ≡ map ask_spot (take i lines)
  pub each : (k : ℕ) (d : Done) → k < length done → answers_by k all
      ≡ take (length (asks_by k (take i lines))) (get_or done k d).answers.items

-- the answers of a core among those with one more
own_answer : (k : ℕ) (all : List Answer) (a : Answer) → a.core ≡ k → answers_by k (all ++ a ∷ []) ≡ answers_by k all ++ a ∷ []
own_answer k all a own =
    let test : (a.core == k) ≡ true = grind (arith, nat_tests) in
    rw (filter-append (λ (b : Answer). b.core == k) all (a ∷ []), test) refl

other_answer : (k : ℕ) (all : List Answer) (a : Answer) → a.core ≢ k → answers_by k (all ++ a ∷ []) ≡ answers_by k all
other_answer k all a other =
    let test : (a.core == k) ≡ false = grind (arith, nat_tests) in
    rw (filter-append (λ (b : Answer). b.core == k) all (a ∷ []), test) (append-nil (answers_by k all))

-- a core's lines, where line i is one of them
own_split : (k : ℕ) (lines : List Ask) (i : ℕ) (d : Ask) → i < length lines → (get_or lines i d).core ≡ k
    → asks_by k lines ≡ asks_by k (take i lines) ++ get_or lines i d ∷ asks_by k (drop (i + 1) lines)
own_split k lines i d lt own =
    let rest = asks_by k (drop (i + 1) lines) in
    ap (asks_by k) (sym (take-append-drop (i + 1) lines))
    ∙ (filter-append (λ (l : Ask). l.core == k) (take (i + 1) lines) (drop (i + 1) lines)
    ∙ (ap (λ (xs : List Ask). xs ++ rest) (own_lines k lines i d lt own)
    ∙ append_assoc (asks_by k (take i lines)) (get_or lines i d ∷ []) rest))

-- a core has as many answers as lines
same_count : (lines : List Ask) (done : List Done) (k : ℕ) (e : Done) → Fitting lines done → k < length done
    → length (get_or done k e).answers.items ≡ length (asks_by k lines)
same_count lines done k e fit lt =
    sym (length-map (get_or done k e).answers.items spot) ∙ (ap length (fit.fits k e lt) ∙ length-map (asks_by k lines) ask_spot)

-- the next answer of the core of line i
room : (lines : List Ask) (done : List Done) (i : ℕ) (next : List ℕ) (all : List Answer) (d : Ask) (e : Done)
    → Fitting lines done → Merging lines done i next all → i < length lines
    → get_or next (get_or lines i d).core 0 < length (get_or done (get_or lines i d).core e).answers.items
room lines done i next all d e fit m lt =
    let k = (get_or lines i d).core in
    let inside = fit.inside i d lt in
    let rest = asks_by k (drop (i + 1) lines) in
    omega (
      arith,
      m.used k inside,
      same_count lines done k e fit inside,
      ap length (own_split k lines i d lt refl),
      length-append (asks_by k (take i lines)) (get_or lines i d ∷ rest),
    )

spot_is : (lines : List Ask) (done : List Done) (i : ℕ) (next : List ℕ) (all : List Answer) (d : Ask) (e : Done) (b : Answer)
    → Fitting lines done → Merging lines done i next all → i < length lines
    → spot (get_or (get_or done (get_or lines i d).core e).answers.items (get_or next (get_or lines i d).core 0) b)
    ≡ ask_spot (get_or lines i d)
spot_is lines done i next all d e b fit m lt =
    let l = get_or lines i d in
    let k = l.core in
    let inside = fit.inside i d lt in
    let answers = (get_or done k e).answers.items in
    let n = get_or next k 0 in
    let front = map ask_spot (asks_by k (take i lines)) in
    let back = map ask_spot (asks_by k (drop (i + 1) lines)) in
    let all_spots : map spot answers ≡ front ++ ask_spot l ∷ back =
    fit.fits k e inside ∙ (ap (map ask_spot) (own_split k lines i d lt refl)
    ∙ map-append ask_spot (asks_by k (take i lines)) (l ∷ asks_by k (drop (i + 1) lines))) in
    let at : length front ≡ n = length-map (asks_by k (take i lines)) ask_spot ∙ sym (m.used k inside) in
    let P : ℕ → Type 0 = λ j. get_or (front ++ ask_spot l ∷ back) j (spot b) ≡ ask_spot l in
    sym (get_or-map spot answers n b) ∙ (ap (λ (xs : List (ℕ × ℕ)). get_or xs n (spot b)) all_spots
    ∙ subst P at (get_or-append_seam front (ask_spot l) back (spot b)))

pub ends : (lines : List Ask) (done : List Done) (next : List ℕ) (all : List Answer) → Fitting lines done
    → Merging lines done (length lines) next all
    → Merged lines done all
ends lines done next all fit m =
    let whole : take (length lines) lines ≡ lines = grind (arith, common_steps) in
    record {
      spots = rw whole at m.spots;
      each = λ k d lt.
          let answers = (get_or done k d).answers.items in
          let count : length (asks_by k lines) ≡ length answers = sym (same_count lines done k d fit lt) in
          let every : take (length answers) answers ≡ answers = grind (arith, common_steps) in
          let P : ℕ → Type 0 = λ j. take j answers ≡ answers in
          let Q : List Ask → Type 0 = λ ls. answers_by k all ≡ take (length (asks_by k ls)) answers in
          subst Q whole (m.each k d lt) ∙ subst P (sym count) every;
    }

goes_on : (lines : List Ask) (done : List Done) (i : ℕ) (next : List ℕ) (all : List Answer) (d : Ask) (e : Done) (b : Answer)
    → Fitting lines done → Merging lines done i next all → i < length lines
    → Merging lines done (i + 1) (set next (get_or lines i d).core (get_or next (get_or lines i d).core 0 + 1))
    (all ++ get_or (get_or done (get_or lines i d).core e).answers.items (get_or next (get_or lines i d).core 0) b ∷ [])
goes_on lines done i next all d e b fit m lt =
    let l = get_or lines i d in
    let k = l.core in
    let inside = fit.inside i d lt in
    let n = get_or next k 0 in
    let a = get_or (get_or done k e).answers.items n b in
    let is = spot_is lines done i next all d e b fit m lt in
    let core : a.core ≡ k = ap (λ (p : ℕ × ℕ). p.1) is in
    let own = own_lines k lines i d lt refl in
    let count : length (asks_by k (take (i + 1) lines)) ≡ n + 1 =
    ap length own ∙ omega (arith, length-append (asks_by k (take i lines)) (l ∷ []), m.used k inside) in
    let wide : k < length next = omega (arith, m.width, inside) in
    let used_own : get_or (set next k (n + 1)) k 0 ≡ length (asks_by k (take (i + 1) lines)) =
    get_or-set_at next k k (n + 1) 0 refl wide ∙ sym count in
    let each_own : (f : Done) → answers_by k (all ++ a ∷ [])
    ≡ take (length (asks_by k (take (i + 1) lines))) (get_or done k f).answers.items =
    λ f.
    let ans = (get_or done k f).answers.items in
    let same : get_or done k e ≡ get_or done k f = get_or_default done k e f inside in
    let next_one : a ≡ get_or ans n b = ap (λ (x : Done). get_or x.answers.items n b) same in
    let more : take (n + 1) ans ≡ take n ans ++ get_or ans n b ∷ [] = take_more ans n b (room lines done i next all d f fit m lt) in
    let before : answers_by k all ≡ take n ans = m.each k f inside ∙ ap (λ (j : ℕ). take j ans) (sym (m.used k inside)) in
    own_answer k all a core
    ∙ (ap (λ (xs : List Answer). xs ++ a ∷ []) before
    ∙ (ap (λ (y : Answer). take n ans ++ y ∷ []) next_one ∙ (sym more ∙ ap (λ (j : ℕ). take j ans) (sym count)))) in
    record {
      width = length-set next k (n + 1) ∙ m.width;
      used = λ j small.
          let P : ℕ → Type 0 = λ h. get_or (set next k (n + 1)) h 0 ≡ length (asks_by h (take (i + 1) lines)) in
          elim (eqb_tells k j) [
            | inl s ↦ subst P s.1 used_own
            | inr s ↦
                get_or-set_other next k j (n + 1) 0 (λ q. s.1 (sym q))
                ∙ (m.used j small ∙ ap length (sym (other_lines j lines i d lt s.1)))
          ];
      spots = map-append spot all (a ∷ []) ∙ (ap₂ ◌++◌ m.spots (ap (λ (x : ℕ × ℕ). x ∷ []) is)
          ∙ (sym (map-append ask_spot (take i lines) (l ∷ [])) ∙ ap (map ask_spot) (sym (take_more lines i d lt))));
      each = λ j f small.
          let P : ℕ → Type 0 = λ h. answers_by h (all ++ a ∷ [])
          ≡ take (length (asks_by h (take (i + 1) lines))) (get_or done h f).answers.items in
          elim (eqb_tells k j) [
            | inl s ↦ subst P s.1 (each_own f)
            | inr s ↦
                other_answer j all a (λ q. s.1 (sym core ∙ q))
                ∙ (m.each j f small ∙ ap (λ (ls : List Ask). take (length ls) (get_or done j f).answers.items)
                (sym (other_lines j lines i d lt s.1)))
          ];
    }

-- a run answers each request
run_spots : (key : Key) (old : List LabelledBlock) (lines : List Ask) (answers : List Answer) (new : List LabelledBlock)
    → DeskRun key old lines answers new → map spot answers ≡ map ask_spot lines
unfolding DeskRun
run_spots key old [] [] new run = refl
run_spots key old (l ∷ lines) (a ∷ answers) new run =
    ap₂ (λ (p : ℕ × ℕ) (ps : List (ℕ × ℕ)). p ∷ ps) (ap₂ (λ (x y : ℕ). (x, y)) run.0 run.1) (run_spots key run.2 lines answers new run.4)
run_spots key old _ _ new run = absurd run

-- what ran at one core
ran_at : (al : Allocator) (core : ℕ) (desks : List Desk) (lines : List Ask) (done : List Done) (k : ℕ) (d : Desk) (e : Done)
    → RanAll al core desks lines done → k < length done → Ran al (core + k) (get_or desks k d) lines (get_or done k e)
ran_at al core [] lines [] k d e all lt = absurd (omega arith)
ran_at al core (b ∷ desks) lines (f ∷ done) zero d e all lt = rw add-zero all.0
ran_at al core (b ∷ desks) lines (f ∷ done) (suc k) d e all lt =
    let same : core + 1 + k ≡ core + suc k = omega arith in
    let less : k < length done = omega arith in
    rw same at (ran_at al (core + 1) desks lines done k d e all.1 less)
ran_at al core _ lines _ k d e all lt = absurd all

same_width : (al : Allocator) (core : ℕ) (desks : List Desk) (lines : List Ask) (done : List Done)
    → RanAll al core desks lines done → length done ≡ length desks
same_width al core [] lines [] all = refl
same_width al core (b ∷ desks) lines (f ∷ done) all = ap suc (same_width al (core + 1) desks lines done all.1)
same_width al core _ lines _ all = absurd all

-- what all cores ran fits the requests
pub fitting : (al : Allocator) (desks : List Desk) (lines : List Ask) (done : List Done) → RanAll al 0 desks lines done
    → ((i : ℕ) (d : Ask) → i < length lines → (get_or lines i d).core < length desks) → Fitting lines done
fitting al desks lines done all inside = record {
  inside = λ i d lt. omega (arith, inside i d lt, same_width al 0 desks lines done all);
  fits = λ k e lt.
      let ran = rw zero-add at (ran_at al 0 desks lines done k e.desk e all lt) in
      run_spots (memory_of al) (list_of (get_or desks k e.desk)) (asks_by k lines) (get_or done k e).answers.items
      (list_of (get_or done k e).desk) ran.run;
}

-- what stands at one place of the list
at_mapped : (done : List Done) (k : ℕ) (d : Desk) → k < length done
    → (e : Done) × (get_or done k e ≡ e) × (get_or (map (λ (x : Done). x.desk) done) k d ≡ e.desk)
at_mapped [] k d lt = absurd (omega arith)
at_mapped (f ∷ done) zero d lt = (f, refl, refl)
at_mapped (f ∷ done) (suc k) d lt = let less : k < length done = omega arith in at_mapped done k d less

-- the desks lend together as many blocks as before
same_lents : (al : Allocator) (core : ℕ) (desks : List Desk) (lines : List Ask) (done : List Done) → RanAll al core desks lines done
    → lent_by_desks (map (λ (x : Done). x.desk) done) ≡ lent_by_desks desks
unfolding lent_through
same_lents al core [] lines [] all = refl
same_lents al core (b ∷ desks) lines (f ∷ done) all =
    ap₂ ◌+ℤ◌ all.0.lent (same_lents al (core + 1) desks lines done all.1)
same_lents al core _ lines _ all = absurd all

pub round_ran : (al : Allocator) (old : List Desk) (lines : List Ask) (done : List Done) (answers : List Answer) (new : List Desk)
    → RanAll al 0 old lines done → Merged lines done answers → new ≡ map (λ (d : Done). d.desk) done → RoundRan al old lines answers new
round_ran al old lines done answers new all m is =
    let width = same_width al 0 old lines done all in
    record {
      spots = m.spots;
      width = ap length is ∙ (length-map done (λ (d : Done). d.desk) ∙ width);
      desks = λ k d lt.
          let low : k < length done = omega (arith, ap length is, length-map done (λ (d : Done). d.desk)) in
          let x = at_mapped done k d low in
          let ran = rw (zero-add, x.1) at (ran_at al 0 old lines done k d x.0 all low) in
          let here : get_or new k d ≡ x.0.desk = ap (λ (ds : List Desk). get_or ds k d) is ∙ x.2 in
          rw here ran.desk;
      lent = rw is (same_lents al 0 old lines done all);
      runs = λ k d lt.
          let low : k < length done = omega (arith, width) in
          let x = at_mapped done k d low in
          let ran = rw (zero-add, x.1) at (ran_at al 0 old lines done k d x.0 all low) in
          let own : answers_by k answers ≡ x.0.answers.items = m.each k x.0 low ∙ ap (λ (e : Done). e.answers.items) x.1 in
          let here : get_or new k d ≡ x.0.desk = ap (λ (ds : List Desk). get_or ds k d) is ∙ x.2 in
          rw (own, here) ran.run;
    }

-- what a request is by itself
pub blank : Ask
blank = record { number = 0; core = 0; request = request.GiveAt 0 0 }

-- the turn of a request: it has a place, and so has its core
pub record Turn (lines : List Ask) (done : List Done) (i core : ℕ) : Type 0 where
  pub within : i < length lines
  pub is : core ≡ (get_or lines i blank).core
  pub low : core < length done

pub turn_of : (first : ℕ) (lines : List Line) (i : ℕ) (item : Line) (core : ℕ) (done : List Done) → All IsAsk lines
    → i < length lines → item ≡ get_or lines i item → core ≡ ask_core item → Fitting (asks_from first lines) done
    → Turn (asks_from first lines) done i core
turn_of first lines i item core done all lt item_is named fit =
    let within : i < length (asks_from first lines) = omega (arith, ask_count first lines all, lt) in
    let is = named ∙ (ap ask_core item_is ∙ sym (ask_core_is first lines i item blank all lt)) in
    record { within = within; is = is; low = omega (arith, is, fit.inside i blank within) }

-- its core has an answer left
pub room_at : (lines : List Ask) (done : List Done) (i : ℕ) (next : List ℕ) (all : List Answer) (e : Done) (k : ℕ)
    → Fitting lines done → Merging lines done i next all → Turn lines done i k
    → get_or next k 0 < length (get_or done k e).answers.items
room_at lines done i next all e k fit m turn =
    let R : ℕ → Type 0 = λ j. get_or next j 0 < length (get_or done j e).answers.items in
    subst R (sym turn.is) (room lines done i next all blank e fit m turn.within)

-- which is put last
pub merge_on : (lines : List Ask) (done : List Done) (i : ℕ) (next : List ℕ) (all : List Answer) (e : Done)
    (k : ℕ) (answer : Answer) → Fitting lines done → Merging lines done i next all → Turn lines done i k
    → answer ≡ get_or (get_or done k e).answers.items (get_or next k 0) answer
    → Merging lines done (i + 1) (set next k (get_or next k 0 + 1)) (all ++ answer ∷ [])
merge_on lines done i next all e k answer fit m turn found =
    let c : ℕ = (get_or lines i blank).core in
    let more = goes_on lines done i next all blank e answer fit m turn.within in
    let found_c : answer ≡ get_or (get_or done c e).answers.items (get_or next c 0) answer =
    found ∙ ap (λ (j : ℕ). get_or (get_or done j e).answers.items (get_or next j 0) answer) turn.is in
    let P : Answer → Type 0 =
    λ x. Merging lines done (i + 1) (set next c (get_or next c 0 + 1)) (all ++ x ∷ []) in
    let R : ℕ → Type 0 =
    λ j. Merging lines done (i + 1) (set next j (get_or next j 0 + 1)) (all ++ answer ∷ []) in
    subst R (sym turn.is) (subst P (sym found_c) more)
