-- What an act leaves: the very move of plain moves, and nothing else.
use Rattle.std.specs.Prelude.{ℕ, Option, true, slice_index}
use Rattle.frame_model.specs.declared.block.FrameBlock.{FrameBlock}
use Rattle.frame_model.specs.declared.place.Place.{Place}
use Rattle.frame_model.specs.declared.place.Place.TheVariants.{Entry, Bits, Tree, Local}
use Rattle.frame_model.specs.Block.{block}
use Rattle.frame_model.specs.Steps.{Kind, charge, refund, claim, take_huge, tree_pay, tree_refund, reserve, unreserve, local_pay, local_refund, collect, fill_word}
use Rattle.frame_core.specs.Moves.{place_of, OfRun, release_run, give_whole, drop_whole}
use Rattle.frame_core.specs.Mover.{Tries, Makes, Swaps, HandsOut, HandsIn}
use Rattle.plain_moves.specs.declared.act.Act.{Act}
use Rattle.plain_moves.specs.declared.act.Act.TheVariants.{Charge, Refund, Claim, Release, TakeHuge, GiveHuge, HandOut, HandIn, TreePay, TreeRefund, Reserve, SwapLocal, Unreserve, LocalPay, LocalRefund, Collect, FillWord, DropFlag}
use Rattle.plain_moves.specs.declared.plain.PlainMoves.{PlainMoves}
use Rattle.plain_moves.specs.Plain.{plain_tick}
use Rattle.plain_moves.specs.PlainState.{key_by, words_by, mover_by, IsTurned}

-- the word of the place as it stands
abbrev pub stands_at : Place → PlainMoves → ℕ
stands_at place m = slice_index (words_by m) (place_of (key_by m) place)

-- the exchange was made, where the word of its place was seen as it stood
abbrev pub TriesAt : Place → (ℕ → Kind) → PlainMoves → PlainMoves → Type 0
TriesAt place kind old new =
    Tries plain_tick (kind (stands_at place old)) (stands_at place old) true (mover_by old) (mover_by new)

-- the change was made
abbrev pub MakesIt : Kind → PlainMoves → PlainMoves → Type 0
MakesIt kind old new = Makes plain_tick kind (mover_by old) (mover_by new)

-- a block of plain moves is what it holds
abbrev pub plain_block : FrameBlock → FrameBlock
plain_block b = b

-- the act is this one move, and no other
abbrev pub Acts : Act → PlainMoves → PlainMoves → Type 0
Acts (Charge child n) old new = TriesAt (Entry child) (λ seen. charge child seen n) old new
Acts (Refund child n) old new = MakesIt (refund child n) old new
Acts (Claim word mask) old new =
    OfRun mask (λ from order. TriesAt (Bits word) (λ seen. claim word seen from order) old new)
Acts (Release word mask) old new = OfRun mask (λ from order. MakesIt (release_run word from order) old new)
Acts (TakeHuge child) old new = TriesAt (Entry child) (take_huge child) old new
Acts (GiveHuge child) old new = MakesIt (give_whole child) old new
Acts (HandOut frame order) old new =
    (held : FrameBlock) × HandsOut plain_tick plain_block (block frame order) held (mover_by old) (mover_by new)
Acts (HandIn frame order) old new =
    HandsIn plain_tick plain_block (block frame order) (mover_by old) (mover_by new)
Acts (TreePay tree n) old new = TriesAt (Tree tree) (λ seen. tree_pay tree seen n) old new
Acts (TreeRefund tree n) old new = MakesIt (tree_refund tree n) old new
Acts (Reserve tree) old new = TriesAt (Tree tree) (reserve tree) old new
Acts (SwapLocal core put) old new =
    (rest : Option (ℕ × ℕ)) × Swaps plain_tick core put rest (mover_by old) (mover_by new)
Acts (Unreserve tree n) old new = MakesIt (unreserve tree n) old new
Acts (LocalPay core n) old new = TriesAt (Local core) (λ seen. local_pay core seen n) old new
Acts (LocalRefund core n) old new = TriesAt (Local core) (λ seen. local_refund core seen n) old new
Acts (Collect tree) old new = TriesAt (Tree tree) (collect tree) old new
Acts (FillWord word) old new = MakesIt (fill_word word) old new
Acts (DropFlag child) old new = MakesIt (drop_whole child) old new

-- the party of this number steps in place of the own view, makes the act, and waits again
pub record TheyAct (who : ℕ) (act : Act) (old new : PlainMoves) : Type 0 where
  pub came : PlainMoves
  pub went : PlainMoves
  pub turns : IsTurned who old came
  pub acts : Acts act came went
  pub turns_back : IsTurned who went new
