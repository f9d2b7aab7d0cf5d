-- Desks of a list, and blocks that move between two of them.
use Rattle.std.proofs.Common.{◌≡◌, ◌<◌, ◌∙◌, ℕ, zero, suc, pos, ◌+ℤ◌, ◌-ℤ◌, List, [], ◌∷◌}
use Rattle.std.proofs.Common.{◌++◌, Ok, Err, length, get_or, set, sym, ap, ap₂, subst}
use Rattle.std.proofs.Common.{arith}
use Rattle.std.specs.List.{All}
use Rattle.std.proofs.Math.ListN.{length-set}
use Rattle.std.proofs.Math.Seq.{map-set_same}
use Rattle.std.proofs.lemmas.Int.{ints}
use Rattle.std.proofs.lemmas.List.{map-set}
use Rattle.std.proofs.lemmas.List.Elements.{All-set}
use Rattle.frame_model.specs.Block.{block}
use Rattle.frame_model.specs.Holding.{IsHolding}
use Rattle.frame_model.specs.declared.block.FrameBlock.{FrameBlock}
use Rattle.frame_table.specs.Closing.{lent_through}
use Rattle.frame_table.specs.Seats.{block_in}
use Rattle.frame_table.specs.declared.block.Block.{Block}
use Rattle.frame_words.specs.declared.fault.Fault.{Fault}
use Rattle.frame_words.specs.declared.fault.Fault.TheVariants as fault
use Rattle.held_blocks.specs.Desk.{blocks_of, GivesFirst, Lays}
use Rattle.held_blocks.specs.LabelledBlocks.{IsUnder}
use Rattle.held_blocks.specs.declared.labelled_block.LabelledBlock.{LabelledBlock}
use Rattle.core_frames.specs.Cores.{memory_of, lent_by}
use Rattle.core_frames.specs.Desks.{core_of, list_of as list_in, IsDeskOf, IsLeftAlone}
use Rattle.core_frames.specs.declared.shared.allocator.Allocator.{Allocator}
use Rattle.core_frames.specs.declared.shared.allocator.Core.{Core}
use Rattle.core_frames.specs.declared.shared.desk.Desk.{Desk}
use Rattle.llfree_trace.specs.Outcome.{core_list, Moves}
use Rattle.llfree_trace.specs.Rounds.{lent_by_desks, lists_at, MovesAt}
use Rattle.trace_text.specs.declared.reply.Reply.TheVariants as reply
use Rattle.llfree_trace.proofs.Interleaving.{list_there}

-- the desk at a place
pub desk_there : (a : Allocator) (ds : List Desk) (k : ℕ) (d : Desk) → All (IsDeskOf a) ds → k < length ds
    → d ≡ get_or ds k d → IsDeskOf a d
desk_there a ds k d all lt is = subst (IsDeskOf a) (sym is) (all k d lt)

-- its list
list_is : (ds : List Desk) (k : ℕ) (d : Desk) → k < length ds → d ≡ get_or ds k d → core_list (lists_at ds) k ≡ list_in d
list_is ds k d lt is = list_there ds k d lt ∙ ap list_in (sym is)

-- another desk in its place lends so many more blocks
lent_set : (ds : List Desk) (k : ℕ) (d e : Desk) → k < length ds → d ≡ get_or ds k d
    → lent_by_desks (set ds k e) +ℤ lent_by (core_of d) ≡ lent_by_desks ds +ℤ lent_by (core_of e)
unfolding lent_through
lent_set [] k d e lt is = absurd (omega arith)
lent_set (x ∷ ds) zero d e lt is =
    let same : lent_by (core_of d) ≡ lent_by (core_of x) = ap (λ (y : Desk). lent_by (core_of y)) is in
    omega (arith, ints, same)
lent_set (x ∷ ds) (suc k) d e lt is = omega (arith, ints, lent_set ds k d e (omega arith) is)

-- a move that finds nothing
pub refused_move : (a : Allocator) (ds : List Desk) (core : ℕ) (label : List ℕ) (to : ℕ) (d e : Desk) (f : Fault)
    → core < length ds → All (IsDeskOf a) ds → d ≡ get_or ds core d → IsDeskOf a e
    → GivesFirst block_in (IsUnder label) (list_in d) (Err f) (list_in e) → IsLeftAlone d e
    → MovesAt a core label to (reply.Refused f) ds (set ds core e)
unfolding Moves GivesFirst
refused_move a ds core label to d e f lt all is stays gives alone = record {
  moves = by f gives;
  desks = All-set (IsDeskOf a) ds core e stays all;
  width = length-set ds core e;
  lent =
      let same : lent_by (core_of e) ≡ lent_by (core_of d) = ap (λ (c : Core). lent_by c) alone.same_core in
      omega (arith, ints, lent_set ds core d e lt is, same);
}
  where
    by : (f : Fault) → GivesFirst block_in (IsUnder label) (list_in d) (Err f) (list_in e)
        → Moves (lists_at ds) core label to (reply.Refused f) (lists_at (set ds core e))
    by fault.NotHeld step = (
      rw (list_is ds core d lt is) step.0,
      map-set_same list_in ds core e d (alone.same_list ∙ ap list_in is),
    )
    by g step = absurd step

-- a move of a block
pub block_moves : (a : Allocator) (ds : List Desk) (core : ℕ) (label : List ℕ) (to : ℕ) (d e : Desk) (b : Block)
    (g h : Desk) (frame order : ℕ) → core < length ds → to < length ds → All (IsDeskOf a) ds
    → d ≡ get_or ds core d → IsDeskOf a e
    → GivesFirst block_in (IsUnder label) (list_in d) (Ok b) (list_in e)
    → lent_by (core_of e) ≡ lent_by (core_of d) +ℤ pos 1
    → g ≡ get_or (set ds core e) to g → IsDeskOf a h → Lays (list_in g) label (block_in b) (list_in h)
    → lent_by (core_of h) ≡ lent_by (core_of g) -ℤ pos 1 → block frame order ≡ block_in b
    → MovesAt a core label to (reply.Moved frame order) ds (set (set ds core e) to h)
unfolding Moves GivesFirst
block_moves a ds core label to d e b g h frame order lt lt-to all is stays gives more at-to is-h lays less same =
    let mid : List Desk = set ds core e in
    let wide : to < length mid = omega (arith, lt-to, length-set ds core e) in
    let entry : LabelledBlock = gives.0 in
    let takes = gives.2 in
    let whole : entry ≡ record { label = label; block = block_in b } =
    ap₂ {C = LabelledBlock} (λ (l : List ℕ) (c : FrameBlock). record { label = l; block = c }) takes.holds gives.1 in
    let lists_mid : lists_at mid ≡ set (lists_at ds) core (list_in e) = map-set list_in ds core e in
    let there : core_list (set (lists_at ds) core (list_in e)) to ≡ list_in g =
    ap (λ (l : List (List LabelledBlock)). core_list l to) (sym lists_mid) ∙ list_is mid to g wide at-to in
    record {
      moves = record {
        entry = entry;
        left = list_in e;
        is_block = gives.1 ∙ sym same;
        leaves = rw (list_is ds core d lt is) takes;
        goes_last = map-set list_in mid to h
            ∙ ap₂ (λ (l : List (List LabelledBlock)) (x : List LabelledBlock). set l to x) lists_mid
            (lays ∙ ap₂ (λ (x : List LabelledBlock) (y : LabelledBlock). x ++ y ∷ []) (sym there) (sym whole));
      };
      desks = All-set (IsDeskOf a) mid to h is-h (All-set (IsDeskOf a) ds core e stays all);
      width = length-set mid to h ∙ length-set ds core e;
      lent = omega (arith, ints, lent_set ds core d e lt is, lent_set mid to g h wide at-to, more, less);
    }

-- the blocks of each list are a holding
pub list_lawful : (a : Allocator) (ds : List Desk) (k : ℕ) → All (IsDeskOf a) ds → k < length ds
    → IsHolding (memory_of a) (blocks_of (core_list (lists_at ds) k))
list_lawful a [] k all lt = absurd (omega arith)
list_lawful a (x ∷ ds) k all lt =
    rw (list_there (x ∷ ds) k x lt) (all k x lt).apart
