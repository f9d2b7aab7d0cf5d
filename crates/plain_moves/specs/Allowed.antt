-- Which act the view that steps may make now: what its move asks, at the word as it stands.
use Rattle.std.specs.Prelude.{◌≡◌, ℕ, List, Some, slice_get, slice_index}
use Rattle.frame_model.specs.declared.key.Key.{Key}
use Rattle.frame_model.specs.declared.place.Place.{Place}
use Rattle.frame_model.specs.declared.place.Place.TheVariants.{Entry, Bits, Tree, Local}
use Rattle.frame_model.specs.declared.view.View.{View}
use Rattle.frame_model.specs.Block.{block}
use Rattle.frame_model.specs.Key.{child_of}
use Rattle.frame_model.specs.View.{LiesIn}
use Rattle.frame_model.specs.Steps.{Kind, charge, refund, claim, take_huge, tree_pay, tree_refund, reserve, swap_local, unreserve, local_pay, local_refund, collect, fill_word, May}
use Rattle.frame_model.specs.Seats.{MayCut}
use Rattle.frame_core.specs.Moves.{place_of, OfSomeRun, release_run, give_whole, drop_whole, hand_out_block}
use Rattle.plain_moves.specs.declared.act.Act.{Act}
use Rattle.plain_moves.specs.declared.act.Act.TheVariants.{Charge, Refund, Claim, Release, TakeHuge, GiveHuge, HandOut, HandIn, TreePay, TreeRefund, Reserve, SwapLocal, Unreserve, LocalPay, LocalRefund, Collect, FillWord, DropFlag}
use Rattle.plain_moves.specs.declared.plain.party.Party.{Party}
use Rattle.plain_moves.specs.declared.plain.PlainMoves.{PlainMoves}
use Rattle.plain_moves.specs.Plain.{plain_view, IsOutIn}
use Rattle.plain_moves.specs.PlainState.{key_by, words_by, view_by}

-- words, blocks that are out, and the view that steps
pub record Stand : Type 0 where
  pub key : Key
  pub words : List ℕ
  pub outs : List ℕ
  pub view : View

-- the exchange may be made, where the word of its place is seen as it stands
abbrev pub MayAt : Place → (ℕ → Kind) → Stand → Type 0
MayAt place kind s = May s.key (kind (slice_index s.words (place_of s.key place))) s.view

-- the step may be made, whatever word it finds
abbrev pub MayNow : Kind → Stand → Type 0
MayNow kind s = May s.key kind s.view

-- the act may be made
abbrev pub Allows : Stand → Act → Type 0
Allows s (Charge child n) = MayAt (Entry child) (λ seen. charge child seen n) s
Allows s (Refund child n) = MayNow (refund child n) s
Allows s (Claim word mask) =
    OfSomeRun mask (λ from order. MayAt (Bits word) (λ seen. claim word seen from order) s)
Allows s (Release word mask) = OfSomeRun mask (λ from order. MayNow (release_run word from order) s)
Allows s (TakeHuge child) = MayAt (Entry child) (take_huge child) s
Allows s (GiveHuge child) = MayNow (give_whole child) s
Allows s (HandOut frame order) = MayCut s.key (hand_out_block (block frame order)) s.view
Allows s (HandIn frame order) = IsOutIn s.outs (block frame order) × LiesIn s.view (child_of frame)
Allows s (TreePay tree n) = MayAt (Tree tree) (λ seen. tree_pay tree seen n) s
Allows s (TreeRefund tree n) = MayNow (tree_refund tree n) s
Allows s (Reserve tree) = MayAt (Tree tree) (reserve tree) s
Allows s (SwapLocal core put) = MayNow (swap_local core put) s
Allows s (Unreserve tree n) = MayNow (unreserve tree n) s
Allows s (LocalPay core n) = MayAt (Local core) (λ seen. local_pay core seen n) s
Allows s (LocalRefund core n) = MayAt (Local core) (λ seen. local_refund core seen n) s
Allows s (Collect tree) = MayAt (Tree tree) (collect tree) s
Allows s (FillWord word) = MayNow (fill_word word) s
Allows s (DropFlag child) = MayNow (drop_whole child) s

-- the own view steps
abbrev pub own_stand : PlainMoves → Stand
own_stand m = record { key = key_by m; words = words_by m; outs = m.outs.items; view = view_by m }

-- a party of the company steps
abbrev pub their_stand : Party → PlainMoves → Stand
their_stand p m = record {
  key = key_by m;
  words = words_by m;
  outs = m.them.outs.items;
  view = plain_view (key_by m) p.share m.them.outs.items p.paid p.charged p.reserving p.own.items
      p.filled.items p.moves p.lost;
}

-- the own view may make the act
abbrev pub MayAct : Act → PlainMoves → Type 0
MayAct act m = Allows (own_stand m) act

-- the party of this number may make the act
abbrev pub TheyMayAct : ℕ → Act → PlainMoves → Type 0
TheyMayAct who act m =
    (p : Party) × ((slice_get m.them.parties.items who ≡ Some p) × Allows (their_stand p m) act)
