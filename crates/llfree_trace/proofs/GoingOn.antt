-- How a run of all cores goes on.
use Rattle.std.proofs.Common.{◌≡◌, ◌+◌, ◌≤◌, ◌∙◌, max, ℕ, List, [], ◌∷◌, ◌++◌, ◌-◌, length}
use Rattle.std.proofs.Common.{take, drop, length-drop, refl, sym, ap, subst, arith}
use Rattle.std.specs.List.{All}
use Rattle.std.proofs.lemmas.List.{append-nil, append_assoc, take_all}
use Rattle.held_blocks.specs.Desk.{MayRefuse}
use Rattle.core_frames.specs.Cores.{memory_of}
use Rattle.core_frames.specs.Desks.{IsDeskOf}
use Rattle.core_frames.specs.declared.shared.allocator.Allocator.{Allocator}
use Rattle.llfree_trace.specs.Outcome.{Runs}
use Rattle.llfree_trace.specs.Rounds.{asks_from, GoesOn, IsAsk, lists_at, MovesAt, RoundRan}
use Rattle.trace_text.specs.Trace.{cores_in}
use Rattle.trace_text.specs.declared.line.Line.{Line}
use Rattle.trace_text.specs.declared.line.Line.TheVariants as line
use Rattle.llfree_trace.specs.declared.progress.Progress.{Progress}
use Rattle.trace_text.specs.declared.reply.Answer.{Answer}
use Rattle.llfree_trace.proofs.Interleaving.{round_runs}
use Rattle.llfree_trace.proofs.MovingDesks.{list_lawful}
use Rattle.llfree_trace.proofs.Running.{runs_append}

-- the records from a place on
pub rest_of : (n : ℕ) (lines : List Line) → take (length lines - n) (drop n lines) ≡ drop n lines
rest_of n lines = take_all (length lines - n) (drop n lines) (omega (arith, length-drop n lines))

-- by some records, and then by more
pub goes_both : (a : Allocator) (n m : ℕ) (xs ys : List Line) (p q r : Progress) → n + length xs ≡ m
    → GoesOn a n xs p q → GoesOn a m ys q r → GoesOn a n (xs ++ ys) p r
goes_both a n m xs ys p q r next one two = record {
  answers = one.answers ++ two.answers;
  grows = two.grows ∙ ap (λ (l : List Answer). l ++ two.answers) one.grows ∙ append_assoc p.answers.items one.answers two.answers;
  runs =
      runs_append MayRefuse (memory_of a) n (lists_at p.desks.items) xs one.answers (lists_at q.desks.items) ys two.answers
      (lists_at r.desks.items) one.runs
      (subst (λ (k : ℕ). Runs MayRefuse (memory_of a) k (lists_at q.desks.items) ys two.answers (lists_at r.desks.items)) (sym next)
      two.runs);
  desks = two.desks;
  width = two.width ∙ one.width;
  lent = two.lent ∙ one.lent;
}

-- by a round
pub goes_round : (a : Allocator) (n : ℕ) (lines : List Line) (p q : Progress) (answers : List Answer)
    → All (IsDeskOf a) p.desks.items → All IsAsk lines → All (λ l. cores_in l ≤ length p.desks.items) lines
    → RoundRan a p.desks.items (asks_from n lines) answers q.desks.items
    → q.answers.items ≡ p.answers.items ++ answers → GoesOn a n lines p q
goes_round a n lines p q answers desks asks inside ran grows = record {
  answers = answers;
  grows = grows;
  runs = round_runs a p.desks.items n lines answers q.desks.items desks asks inside ran;
  desks = ran.desks;
  width = ran.width;
  lent = ran.lent;
}

-- by a move
pub goes_move : (a : Allocator) (n : ℕ) (p q : Progress) (core : ℕ) (label : List ℕ) (to : ℕ) (given : Answer)
    → max core to + 1 ≤ length p.desks.items → given.line ≡ n → given.core ≡ core
    → MovesAt a core label to given.reply p.desks.items q.desks.items
    → q.answers.items ≡ p.answers.items ++ given ∷ [] → GoesOn a n (line.Move core label to ∷ []) p q
unfolding Runs
goes_move a n p q core label to given inside number own moves grows = record {
  answers = given ∷ [];
  grows = grows;
  runs = (
    number,
    own,
    lists_at q.desks.items,
    moves.moves,
    list_lawful a q.desks.items core moves.desks (omega (arith, inside, moves.width)),
    list_lawful a q.desks.items to moves.desks (omega (arith, inside, moves.width)),
    refl,
  );
  desks = moves.desks;
  width = moves.width;
  lent = moves.lent;
}

-- by records without an answer
pub goes_unanswered : (a : Allocator) (n : ℕ) (lines : List Line) (p : Progress) → All (IsDeskOf a) p.desks.items
    → Runs MayRefuse (memory_of a) n (lists_at p.desks.items) lines [] (lists_at p.desks.items)
    → GoesOn a n lines p p
goes_unanswered a n lines p is run = record {
  answers = [];
  grows = sym (append-nil p.answers.items);
  runs = run;
  desks = is;
  width = refl;
  lent = refl;
}
