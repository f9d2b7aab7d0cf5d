-- What a record may be answered, from a run that answers it.
use Rattle.std.proofs.Common.{◌≡◌, ◌≢◌, ◌≤◌, ◌<◌, ◌+◌, ◌∙◌, ◌⊎◌, inl, inr, ℕ, List, [], ◌∷◌, ◌++◌, Bool, true, false, nat_le}
use Rattle.std.proofs.Common.{length, replicate, slice_set}
use Rattle.std.proofs.Common.{refl, sym, ap, subst, arith, Result, Ok, Err}
use Rattle.std.proofs.lemmas.Grind.{common_steps}
use Rattle.std.proofs.lemmas.List.{get_or-replicate, get_or-set_other, get_or-set_same, length-replicate}
use Rattle.std.proofs.Math.Seq.{lt-length-set}
use Rattle.std.proofs.lemmas.List.Elements.{All-head, All-nil, All-tail}
use Rattle.frame_model.specs.Block.{block}
use Rattle.frame_model.specs.Holding.{IsHolding}
use Rattle.frame_model.specs.declared.block.FrameBlock.{FrameBlock}
use Rattle.frame_model.specs.declared.key.Key.{Key}
use Rattle.frame_words.specs.declared.fault.Fault.{Fault}
use Rattle.frame_words.specs.declared.fault.Fault.TheVariants as fault
use Rattle.held_blocks.specs.Desk.{blocks_of, GivesExactly, GivesFirst, GivesOldest, TakesUnder, pair_block}
use Rattle.held_blocks.specs.LabelledBlocks.{HasNone, IsTheBlock, IsUnder, TakesFirst}
use Rattle.held_blocks.specs.declared.labelled_block.LabelledBlock.{LabelledBlock}
use Rattle.held_blocks.proofs.HeldLemmas.{all_split}
use Rattle.llfree_trace.specs.Outcome.{DeskStep, Moves, Runs, SaysGiven, core_list, put_last}
use Rattle.llfree_trace.specs.WrongRuns.{EachGivesItsOwn, FirstTakenIsGivenFirst, GiveIsRefused, IsOfKind, IsReason}
use Rattle.llfree_trace.specs.WrongRuns.{ListOverlaps, OtherBlockIsGiven, OtherKind, TakeIsRefused, WhatMovedIsGiven}
use Rattle.llfree_trace.specs.WrongRuns.{WrongBlockIsTaken, refusing}
use Rattle.trace_text.specs.declared.line.Line.{Line}
use Rattle.trace_text.specs.declared.line.Line.TheVariants as line
use Rattle.trace_text.specs.declared.line.Request.{Request}
use Rattle.trace_text.specs.declared.line.Request.TheVariants as request
use Rattle.trace_text.specs.declared.reply.Answer.{Answer}
use Rattle.trace_text.specs.declared.reply.Reply.{Reply}
use Rattle.trace_text.specs.declared.reply.Reply.TheVariants as reply

-- Kinds.

of_kind : (refuses : Key → List FrameBlock → ℕ → Fault → Type 0) (key : Key) (core : ℕ) (old : List LabelledBlock)
    (ask : Request) (r : Reply) (new : List LabelledBlock) → DeskStep refuses key old ask r new
    → IsOfKind (line.Ask core ask) r
unfolding DeskStep
of_kind refuses key core old (request.Take label order) (reply.Taken f o) new step = tt
of_kind refuses key core old (request.Take label order) (reply.Refused f) new step = tt
of_kind refuses key core old (request.Give label) (reply.Given f o) new step = tt
of_kind refuses key core old (request.Give label) (reply.Refused f) new step = tt
of_kind refuses key core old (request.GiveAt frame order) (reply.Given f o) new step = tt
of_kind refuses key core old (request.GiveAt frame order) (reply.Refused f) new step = tt
of_kind refuses key core old _ _ new step = absurd step

move_of_kind : (old : List (List LabelledBlock)) (core : ℕ) (label : List ℕ) (to : ℕ) (r : Reply)
    (new : List (List LabelledBlock)) → Moves old core label to r new → IsOfKind (line.Move core label to) r
unfolding Moves
move_of_kind old core label to (reply.Moved f o) new step = tt
move_of_kind old core label to (reply.Refused f) new step = tt
move_of_kind old core label to _ new step = absurd step

pub other_kind : OtherKind
unfolding Runs
other_kind alone key old (line.Ask core ask) r wrong number n k lines answers new run =
    wrong (of_kind (refusing alone) key core (core_list old core) ask r run.2 run.3)
other_kind alone key old (line.Move core label to) r wrong number n k lines answers new run =
    wrong (move_of_kind old core label to r run.2 run.3)
other_kind alone key old _ r wrong number n k lines answers new run = wrong tt

-- Takes.

pub wrong_block : WrongBlockIsTaken
unfolding Runs DeskStep TakesUnder
wrong_block alone key old core label order frame o wrong number n k lines answers new run = wrong (record {
  has_order = run.3.0.has_order;
  inside = run.3.0.is_block;
  unheld = run.3.0.was_free;
  given = run.3.1;
})

-- why a take was refused, and that the list is the same
take_refused : (refuses : Key → List FrameBlock → ℕ → Fault → Type 0) (key : Key) (old : List LabelledBlock)
    (label : List ℕ) (order : ℕ) (f : Fault) (new : List LabelledBlock) → TakesUnder refuses key old label order (Err f) new
    → (((f ≡ fault.BadOrder) × (9 < order)) ⊎ ((order ≤ 9) × refuses key (blocks_of old) order f)) × (new ≡ old)
unfolding TakesUnder
take_refused refuses key old label order fault.BadOrder new step = (inl (refl, step.0), step.1)
take_refused refuses key old label order f new step = (inr (step.0, step.1), step.2)

reason : (alone : Bool) (key : Key) (held : List FrameBlock) (order : ℕ) (f : Fault)
    → refusing alone key held order f → IsReason alone key held order f
reason true key held order fault.NoBlock why = (refl, why)
reason true key held order _ why = absurd why
reason false key held order fault.NoBlock why = inl refl
reason false key held order fault.Contended why = inr refl
reason false key held order _ why = absurd why

pub take_is_refused : TakeIsRefused
unfolding Runs DeskStep
take_is_refused alone key old core label order f = (
  λ high other number n k lines answers new run.
      let why = take_refused (refusing alone) key (core_list old core) label order f run.2 run.3.0 in
      elim why.0 [
        | inl h ↦ other h.0
        | inr h ↦ absurd (omega (arith, high, h.0))
      ],
  λ low none number n k lines answers new run.
      let why = take_refused (refusing alone) key (core_list old core) label order f run.2 run.3.0 in
      elim why.0 [
        | inl h ↦ absurd (omega (arith, low, h.1))
        | inr h ↦ none (reason alone key (blocks_of (core_list old core)) order f h.1)
      ],
)

-- Gives and moves.

-- the first of a kind is one
same_first : {T : Type 0} (P : T → Type 0) (front : List T) (x : T) (back front' : List T) (y : T) (back' : List T)
    → HasNone P front → P x → HasNone P front' → P y → front ++ x ∷ back ≡ front' ++ y ∷ back' → x ≡ y
same_first P [] x back [] y back' none is none' is' same = let here : x ∷ back ≡ y ∷ back' = same in cc
same_first P [] x back (z ∷ front') y back' none is none' is' same =
    let here : x ≡ z = cc in absurd (All-head (λ t. ¬ P t) z front' none' (subst P here is))
same_first P (z ∷ front) x back [] y back' none is none' is' same =
    let here : y ≡ z = cc in absurd (All-head (λ t. ¬ P t) z front none (subst P here is'))
same_first P (z ∷ front) x back (w ∷ front') y back' none is none' is' same =
    let others : front ++ x ∷ back ≡ front' ++ y ∷ back' = cc in
    same_first P front x back front' y back' (All-tail (λ t. ¬ P t) z front none) is
    (All-tail (λ t. ¬ P t) w front' none') is' others

pub first_is_one : (P : LabelledBlock → Type 0) (old : List LabelledBlock) (e f : LabelledBlock) (new other : List LabelledBlock)
    → TakesFirst P old e new → TakesFirst P old f other → e ≡ f
first_is_one P old e f new other a b =
    same_first P a.front e a.back b.front f b.back a.first a.holds b.first b.holds (sym a.was ∙ b.was)

not_none : (P : LabelledBlock → Type 0) (old : List LabelledBlock) (e : LabelledBlock) (new : List LabelledBlock)
    → TakesFirst P old e new → ¬ HasNone P old
not_none P old e new takes none =
    (all_split (λ t. ¬ P t) takes.front e takes.back (rw takes.was at none)).0 takes.holds

-- what a give of the first of a kind answers
given_first : (kind : LabelledBlock → Type 0) (old : List LabelledBlock) (e : LabelledBlock) (others : List LabelledBlock)
    (b : ℕ × ℕ) (new : List LabelledBlock) → TakesFirst kind old e others → GivesFirst pair_block kind old (Ok b) new
    → e.block ≡ block b.0 b.1
unfolding GivesFirst
given_first kind old e others b new takes step =
    ap (λ (t : LabelledBlock). t.block) (first_is_one kind old e step.0 others new takes step.2) ∙ step.1

give_refused : (kind : LabelledBlock → Type 0) (old : List LabelledBlock) (f : Fault) (new : List LabelledBlock)
    → GivesFirst pair_block kind old (Err f) new → (f ≡ fault.NotHeld) × HasNone kind old
unfolding GivesFirst
give_refused kind old fault.NotHeld new step = (refl, step.0)
give_refused kind old f new step = absurd step

-- a give of exactly one block, by its order
exactly : (old : List LabelledBlock) (frame order : ℕ) (r : Result (ℕ × ℕ) Fault) (new : List LabelledBlock)
    → GivesExactly old frame order r new
    → ((9 < order) × (r ≡ Err fault.BadOrder)) ⊎ ((order ≤ 9) × GivesFirst pair_block (IsTheBlock frame order) old r new)
exactly old frame order r new step = by_order (nat_le order 9) refl
  where
    by_order : (t : Bool) → nat_le order 9 ≡ t
        → ((9 < order) × (r ≡ Err fault.BadOrder)) ⊎ ((order ≤ 9) × GivesFirst pair_block (IsTheBlock frame order) old r new)
    by_order true e =
        let low : order ≤ 9 = grind (arith, common_steps) in
        inr (low, step.1 low)
    by_order false e =
        let high : 9 < order = grind (arith, common_steps) in
        inl (high, (step.0 high).0)

move_refused : (old : List (List LabelledBlock)) (core : ℕ) (label : List ℕ) (to : ℕ) (f : Fault)
    (new : List (List LabelledBlock)) → Moves old core label to (reply.Refused f) new
    → (f ≡ fault.NotHeld) × HasNone (IsUnder label) (core_list old core) × (new ≡ old)
unfolding Moves
move_refused old core label to fault.NotHeld new step = (refl, step.0, step.1)
move_refused old core label to f new step = absurd step

pub other_block : OtherBlockIsGiven
unfolding Runs DeskStep Moves
other_block alone key old (line.Ask core (request.Give label)) e others takes = (
  λ frame o other. (
    λ number n k lines answers new run.
        other (given_first (IsUnder label) (core_list old core) e others (frame, o) run.2 takes run.3),
    λ number n k lines answers new run. absurd run.3,
  ),
  λ number n k lines answers new run.
      not_none (IsUnder label) (core_list old core) e others takes
      (give_refused (IsUnder label) (core_list old core) fault.NotHeld run.2 run.3).1,
)
other_block alone key old (line.Ask core (request.GiveAt frame order)) e others takes = (
  λ g o other. (
    λ number n k lines answers new run.
        elim (exactly (core_list old core) frame order (Ok (g, o)) run.2 run.3) [
          | inl h ↦ let no = h.1 in absurd (cc)
          | inr h ↦ other (given_first (IsTheBlock frame order) (core_list old core) e others (g, o) run.2 takes h.1)
        ],
    λ number n k lines answers new run. absurd run.3,
  ),
  λ number n k lines answers new run.
      elim (exactly (core_list old core) frame order (Err fault.NotHeld) run.2 run.3) [
        | inl h ↦ let no = h.1 in absurd (cc)
        | inr h ↦ not_none (IsTheBlock frame order) (core_list old core) e others takes
            (give_refused (IsTheBlock frame order) (core_list old core) fault.NotHeld run.2 h.1).1
      ],
)
other_block alone key old (line.Move core label to) e others takes = (
  λ frame o other. (
    λ number n k lines answers new run. absurd run.3,
    λ number n k lines answers new run.
        other (ap (λ (t : LabelledBlock). t.block)
        (first_is_one (IsUnder label) (core_list old core) e run.3.entry others run.3.left takes run.3.leaves)
        ∙ run.3.is_block),
  ),
  λ number n k lines answers new run.
      not_none (IsUnder label) (core_list old core) e others takes
      (move_refused old core label to fault.NotHeld run.2 run.3).1,
)
other_block alone key old _ e others takes = absurd takes.holds

pub give_is_refused : GiveIsRefused
unfolding Runs DeskStep
give_is_refused alone key old (line.Ask core (request.Give label)) f wrong number n k lines answers new run =
    wrong (give_refused (IsUnder label) (core_list old core) f run.2 run.3).0
give_is_refused alone key old (line.Ask core (request.GiveAt frame order)) f wrong number n k lines answers new run =
    elim (exactly (core_list old core) frame order (Err f) run.2 run.3) [
      | inl h ↦ let bad : f ≡ fault.BadOrder = let same = h.1 in cc in wrong (inr (h.0, bad))
      | inr h ↦ wrong (inl (h.0, (give_refused (IsTheBlock frame order) (core_list old core) f run.2 h.1).0))
    ]
give_is_refused alone key old (line.Move core label to) f wrong number n k lines answers new run =
    wrong (move_refused old core label to f run.2 run.3).0
give_is_refused alone key old _ f wrong number n k lines answers new run = wrong tt

-- Lists that overlap.

pub list_overlaps : ListOverlaps
unfolding Runs DeskStep
list_overlaps alone key old core x twice = (
  λ label order f number n k lines answers new run.
      shared run.2 (take_refused (refusing alone) key (core_list old core) label order f run.2 run.3.0).1 run.4,
  λ label other f. (
    λ number n k lines answers new run. shared_in run.2 (move_refused old core label other f run.2 run.3).2 run.4,
    λ number n k lines answers new run. shared_in run.2 (move_refused old other label core f run.2 run.3).2 run.5,
  ),
)
  where
    shared : (list : List LabelledBlock) → list ≡ core_list old core → IsHolding key (blocks_of list) → ⊥
    shared list same holds = let holding = rw same at holds in absurd (omega (arith, twice, holding.disjoint x))

    shared_in : (lists : List (List LabelledBlock)) → lists ≡ old → IsHolding key (blocks_of (core_list lists core)) → ⊥
    shared_in lists same holds = shared (core_list lists core) (ap (λ l. core_list l core) same) holds

-- Worked runs.

abbrev entry : List ℕ → ℕ → ℕ → LabelledBlock
entry label frame order = record { label = label; block = block frame order }

-- a block that was taken goes last
taken : (refuses : Key → List FrameBlock → ℕ → Fault → Type 0) (key : Key) (number : ℕ) (old : List (List LabelledBlock))
    (core : ℕ) (label : List ℕ) (p frame o n : ℕ) (lines : List Line) (answers : List Answer) (new : List (List LabelledBlock))
    → Runs refuses key number old (line.Ask core (request.Take label p) ∷ lines)
    (record { line = n; core = core; reply = reply.Taken frame o } ∷ answers) new
    → Runs refuses key (number + 1) (put_last old core (entry label frame o)) lines answers new
unfolding Runs DeskStep TakesUnder
taken refuses key number old core label p frame o n lines answers new run =
    subst (λ (list : List LabelledBlock). Runs refuses key (number + 1) (slice_set old core list) lines answers new)
    run.3.0.last run.5

list_put : (lists : List (List LabelledBlock)) (core : ℕ) (e : LabelledBlock) → core < length lists
    → core_list (put_last lists core e) core ≡ core_list lists core ++ e ∷ []
list_put lists core e inside = get_or-set_same lists core (core_list lists core ++ e ∷ []) [] inside

list_beside : (lists : List (List LabelledBlock)) (core other : ℕ) (list : List LabelledBlock) → core ≢ other
    → core_list (slice_set lists core list) other ≡ core_list lists other
list_beside lists core other list differ = get_or-set_other lists core other list [] (λ same. differ (sym same))

abbrev no_lists : ℕ → List (List LabelledBlock)
no_lists cores = replicate cores []

no_list : (cores core : ℕ) → core < cores → core_list (no_lists cores) core ≡ []
no_list cores core inside = get_or-replicate cores core [] [] inside

has_list : (cores core : ℕ) → core < cores → core < length (no_lists cores)
has_list cores core inside =
    let same : length (no_lists cores) ≡ cores = length-replicate cores [] in
    subst (λ n. core < n) (sym same) inside

-- one entry stands under the label, in front
pub head_first : (label : List ℕ) (frame order : ℕ) (rest : List LabelledBlock)
    → TakesFirst (IsUnder label) (entry label frame order ∷ rest) (entry label frame order) rest
head_first label frame order rest = record { front = []; back = rest; was = refl; stays = refl; holds = refl; first = All-nil (λ t. ¬ IsUnder label t) }

gives_head : (label : List ℕ) (frame order : ℕ) (rest : List LabelledBlock) (r : Reply) (new : List LabelledBlock)
    → SaysGiven (λ o. GivesOldest (entry label frame order ∷ rest) label o new) r → r ≡ reply.Given frame order
gives_head label frame order rest (reply.Given g q) new step =
    ap (λ (b : FrameBlock). reply.Given b.frame b.order)
    (sym (given_first (IsUnder label) (entry label frame order ∷ rest) (entry label frame order) rest (g, q) new
    (head_first label frame order rest) step))
gives_head label frame order rest (reply.Refused f) new step =
    absurd (not_none (IsUnder label) (entry label frame order ∷ rest) (entry label frame order) rest
    (head_first label frame order rest)
    (give_refused (IsUnder label) (entry label frame order ∷ rest) f new step).1)
gives_head label frame order rest _ new step = absurd step

gives_none : (label : List ℕ) (r : Reply) (new : List LabelledBlock)
    → SaysGiven (λ o. GivesOldest [] label o new) r → r ≡ reply.Refused fault.NotHeld
unfolding GivesFirst
gives_none label (reply.Given g q) new step = absurd (not_none (IsUnder label) [] step.0 new step.2 (All-nil (λ t. ¬ IsUnder label t)))
gives_none label (reply.Refused f) new step = ap (λ (t : Fault). reply.Refused t) (give_refused (IsUnder label) [] f new step).0
gives_none label _ new step = absurd step

-- what a give at the end of a run answers
last_give : (refuses : Key → List FrameBlock → ℕ → Fault → Type 0) (key : Key) (number : ℕ) (old : List (List LabelledBlock))
    (core : ℕ) (label : List ℕ) (k : ℕ) (r : Reply) (new : List (List LabelledBlock)) (list : List LabelledBlock)
    → core_list old core ≡ list
    → Runs refuses key number old (line.Ask core (request.Give label) ∷ [])
    (record { line = k; core = core; reply = r } ∷ []) new
    → (left : List LabelledBlock) × SaysGiven (λ o. GivesOldest list label o left) r
unfolding Runs DeskStep
last_give refuses key number old core label k r new list is run =
    (run.2, subst (λ (l : List LabelledBlock). SaysGiven (λ o. GivesOldest l label o run.2) r) is run.3)

pub first_taken_first : FirstTakenIsGivenFirst
first_taken_first alone key cores core label p q frame order other o n m k r inside run =
    let none = no_lists cores in
    let one = put_last none core (entry label frame order) in
    let two = put_last one core (entry label other o) in
    let there : core < length none = has_list cores core inside in
    let still : core < length one = lt-length-set none core (core_list none core ++ entry label frame order ∷ []) there in
    let is : core_list two core ≡ entry label frame order ∷ entry label other o ∷ [] =
    list_put one core (entry label other o) still
    ∙ ap (λ (l : List LabelledBlock). l ++ entry label other o ∷ []) (list_put none core (entry label frame order) there)
    ∙ ap (λ (l : List LabelledBlock). (l ++ entry label frame order ∷ []) ++ entry label other o ∷ []) (no_list cores core inside) in
    let after = taken (refusing alone) key (run.0 + 1) one core label q other o m _ _ run.1
    (taken (refusing alone) key run.0 none core label p frame order n _ _ run.1 run.2) in
    let given = last_give (refusing alone) key (run.0 + 1 + 1) two core label k r run.1 _ is after in
    gives_head label frame order (entry label other o ∷ []) r given.0 given.1

pub each_gives_its_own : EachGivesItsOwn
each_gives_its_own alone key cores core giver label p frame order n m r inside there differ run =
    let none = no_lists cores in
    let one = put_last none core (entry label frame order) in
    let is : core_list one giver ≡ [] =
    list_beside none core giver (core_list none core ++ entry label frame order ∷ []) differ ∙ no_list cores giver there in
    let after = taken (refusing alone) key run.0 none core label p frame order n _ _ run.1 run.2 in
    let given = last_give (refusing alone) key (run.0 + 1) one giver label m r run.1 _ is after in
    gives_none label r given.0 given.1

-- what a move of the only block answers, and what its new core has then
moved_there : (old : List (List LabelledBlock)) (core giver : ℕ) (label : List ℕ) (frame order : ℕ) (r : Reply)
    (new : List (List LabelledBlock)) → core_list old core ≡ entry label frame order ∷ [] → core_list old giver ≡ []
    → giver < length old → core ≢ giver → Moves old core label giver r new
    → (r ≡ reply.Moved frame order) × (core_list new giver ≡ entry label frame order ∷ [])
unfolding Moves
moved_there old core giver label frame order (reply.Moved g q) new has none inside differ step =
    let same : step.entry ≡ entry label frame order =
    first_is_one (IsUnder label) (entry label frame order ∷ []) step.entry (entry label frame order) step.left []
    (subst (λ (l : List LabelledBlock). TakesFirst (IsUnder label) l step.entry step.left) has step.leaves)
    (head_first label frame order []) in (
      ap (λ (b : FrameBlock). reply.Moved b.frame b.order)
          (sym step.is_block ∙ ap (λ (e : LabelledBlock). e.block) same),
      ap (λ (lists : List (List LabelledBlock)). core_list lists giver) step.goes_last
          ∙ list_put (slice_set old core step.left) giver step.entry (lt-length-set old core step.left inside)
          ∙ ap (λ (l : List LabelledBlock). l ++ step.entry ∷ []) (list_beside old core giver step.left differ ∙ none)
          ∙ ap (λ (e : LabelledBlock). e ∷ []) same,
    )
moved_there old core giver label frame order (reply.Refused f) new has none inside differ step =
    absurd (not_none (IsUnder label) (entry label frame order ∷ []) (entry label frame order) []
    (head_first label frame order [])
    (subst (λ (l : List LabelledBlock). HasNone (IsUnder label) l) has
    (move_refused old core label giver f new step).1))
moved_there old core giver label frame order _ new has none inside differ step = absurd step

-- the lists behind a move
behind_move : (refuses : Key → List FrameBlock → ℕ → Fault → Type 0) (key : Key) (number : ℕ) (old : List (List LabelledBlock))
    (core giver : ℕ) (label : List ℕ) (m : ℕ) (r : Reply) (lines : List Line) (answers : List Answer)
    (new : List (List LabelledBlock))
    → Runs refuses key number old (line.Move core label giver ∷ lines)
    (record { line = m; core = core; reply = r } ∷ answers) new
    → (lists : List (List LabelledBlock)) × Moves old core label giver r lists
    × Runs refuses key (number + 1) lists lines answers new
unfolding Runs
behind_move refuses key number old core giver label m r lines answers new run = (run.2, run.3, run.6)

pub what_moved : WhatMovedIsGiven
what_moved alone key cores core giver label p frame order n m k r s inside there differ run =
    let none = no_lists cores in
    let one = put_last none core (entry label frame order) in
    let has : core_list one core ≡ entry label frame order ∷ [] =
    list_put none core (entry label frame order) (has_list cores core inside)
    ∙ ap (λ (l : List LabelledBlock). l ++ entry label frame order ∷ []) (no_list cores core inside) in
    let beside : core_list one giver ≡ [] =
    list_beside none core giver (core_list none core ++ entry label frame order ∷ []) differ ∙ no_list cores giver there in
    let room : giver < length one =
    lt-length-set none core (core_list none core ++ entry label frame order ∷ []) (has_list cores giver there) in
    let behind = behind_move (refusing alone) key (run.0 + 1) one core giver label m r _ _ run.1
    (taken (refusing alone) key run.0 none core label p frame order n _ _ run.1 run.2) in
    let moved = moved_there one core giver label frame order r behind.0 has beside room differ behind.1 in
    let given = last_give (refusing alone) key (run.0 + 1 + 1) behind.0 giver label k s run.1 _ moved.1 behind.2 in
    (moved.0, gives_head label frame order [] s given.0 given.1)
