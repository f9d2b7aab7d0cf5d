-- What is kept at a closing is held in the words, and apart, and where nothing is lent, nothing else is.
use Rattle.std.proofs.Common.{◌≡◌, ℕ, ◌+◌, ◌^◌, ◌<◌, ◌≤◌, max, List, [], ◌∷◌, ◌++◌, length, get_or, refl, sym, ap, subst, ◌∙◌, arith}
use Rattle.std.specs.List.{All}
use Rattle.std.proofs.lemmas.Bool.Decides.{nat_tests}
use Rattle.std.proofs.lemmas.List.Sums.{get_or-le-sum_by}
use Rattle.std.proofs.lemmas.List.Elements.{All-head, All-tail, All-nil, All-append}
use lib.ListN.{get_elem?}
use mathlib.Core.Option.{some}
use Rattle.frame_model.specs.declared.block.FrameBlock.{FrameBlock}
use Rattle.frame_model.specs.declared.key.Key.{Key}
use Rattle.frame_model.specs.declared.view.View.{View}
use Rattle.frame_model.specs.Key.{frame_count, child_of}
use Rattle.frame_model.specs.Block.{IsBlock, covers, small_at, whole_at, smalls, wholes}
use Rattle.frame_model.specs.Words.{bit_of, huge_of}
use Rattle.frame_model.specs.View.{marks, whole_in}
use Rattle.frame_model.specs.Events.{views_of}
use Rattle.frame_model.specs.Fit.{Fit}
use Rattle.frame_model.specs.Holding.{IsHolding, holders}
use Rattle.frame_model.specs.Laws.{HoldsJust}
use Rattle.frame_model.specs.Report.{held_at}
use Rattle.frame_core.proofs.Apart.{apart_of}
use Rattle.frame_model.proofs.Safe.{covers_is, holders_are}
use Rattle.frame_model.proofs.Steps.Shared.{at-le-total, bit-le, view_of as view_at}
use Rattle.frame_model.proofs.Steps.SeatViews.{blocks_are}
use Rattle.frame_model.proofs.Stopping.Known.{holders_both}
use Rattle.atomic_table.proofs.Lists.{at_map}
use Rattle.frame_table.specs.declared.seats.CoreSeat.{CoreSeat}
use Rattle.frame_table.specs.declared.table.FrameTable.{FrameTable}
use Rattle.frame_model.specs.declared.view.Eye.{Eye}
use Rattle.frame_table.specs.Seats.{key_at, view_of, IsIdleSeat}
use Rattle.frame_table.specs.Closing.{kept_through, IsClosed, IsHeldIn}

kept_none : kept_through [] ≡ []
unfolding kept_through
kept_none = refl

kept_cons : (s : CoreSeat) (seats : List CoreSeat)
    → kept_through (s ∷ seats) ≡ (view_of s).kept ++ kept_through seats
unfolding kept_through
kept_cons s seats = refl

pub kept_blocks : (t : FrameTable) (seats : List CoreSeat) → All (IsIdleSeat t) seats
    → All (IsBlock (key_at t)) (kept_through seats)
kept_blocks t [] all = subst (All (IsBlock (key_at t))) (sym kept_none) (All-nil (IsBlock (key_at t)))
kept_blocks t (s ∷ seats) all =
    let is : IsIdleSeat t s = All-head (IsIdleSeat t) s seats all in
    subst (All (IsBlock (key_at t))) (sym (kept_cons s seats))
    (All-append (IsBlock (key_at t)) (view_of s).kept (kept_through seats)
    (blocks_are (key_at t) (view_of s) is.sits.at.is_view).1
    (kept_blocks t seats (All-tail (IsIdleSeat t) s seats all)))

pub smalls_at : (x : ℕ) (bs : List FrameBlock) (k : ℕ) (d : FrameBlock) → k < length bs
    → small_at x (get_or bs k d) ≤ smalls x bs
unfolding smalls
smalls_at x bs k d h = get_or-le-sum_by (small_at x) bs k d h

pub wholes_at : (c : ℕ) (bs : List FrameBlock) (k : ℕ) (d : FrameBlock) → k < length bs
    → whole_at c (get_or bs k d) ≤ wholes c bs
unfolding wholes
wholes_at c bs k d h = get_or-le-sum_by (whole_at c) bs k d h

held_max : (key : Key) (ws : List ℕ) (x : ℕ)
    → held_at key ws x ≡ max (bit_of key ws x) (huge_of ws (child_of x))
unfolding held_at
held_max key ws x = refl

pub covered_below : (b : FrameBlock) (x : ℕ) → covers b x ≡ 1 → x < b.frame + 2 ^ b.order
unfolding covers
covered_below b x h = grind (arith, nat_tests)

-- blocks that are, frame by frame, those which a view keeps are held in words that fit it
module _ (key : Key) (ws : List ℕ) (vs : List View) (id : ℕ) (v : View) (fit : Fit key key.cores ws vs) (at : get_elem? vs id ≡ some v) where
  pub held_with : (blocks : List FrameBlock) → ((x : ℕ) → smalls x v.kept ≡ smalls x blocks)
      → ((c : ℕ) → wholes c v.kept ≡ wholes c blocks) → All (IsBlock key) blocks → All (IsHeldIn key ws) blocks
  held_with blocks small whole all k d h x c =
      let b : FrameBlock = get_or blocks k d in
      let is : IsBlock key b = all k d h in
      let inside : x < frame_count key = omega (arith, covered_below b x c, is.inside) in
      let set = at-le-total key key.cores ws vs id v fit at (marks x) in
      let huge = at-le-total key key.cores ws vs id v fit at (whole_in (child_of x)) in
      omega (
        arith,
        held_max key ws x,
        c,
        covers_is key x b is,
        set,
        huge,
        fit.bits x inside,
        fit.wholes (child_of x) (omega (arith, inside)),
        smalls_at x blocks k d h,
        wholes_at (child_of x) blocks k d h,
        small x,
        whole (child_of x),
        bit-le key ws x,
        fit.words_in_range.huge (child_of x) (omega (arith, inside)),
      )

-- no two blocks that a view keeps share a frame
pub apart_kept : (key : Key) (shares : ℕ) (ws : List ℕ) (vs : List View) (id : ℕ) (v : View) → Fit key shares ws vs
    → get_elem? vs id ≡ some v → IsHolding key v.kept
apart_kept key shares ws vs id v fit at = record {
  blocks = (view_at key shares ws vs id v fit at).kept;
  disjoint = λ x. omega (arith, (apart_of key shares ws vs id v fit at).disjoint x, holders_both x v.own v.kept);
}

module _ (key : Key) (seats : List CoreSeat) (ws : List ℕ) (closed : IsClosed key seats ws) where
  pub kept_held : All (IsBlock key) (kept_through seats) → All (IsHeldIn key ws) (kept_through seats)
  kept_held all =
      let vs : List View = views_of closed.state in
      let v : View = closed.eye.view in
      let at : get_elem? vs closed.id ≡ some v = at_map (λ (e : Eye). e.view) closed.state.eyes closed.id closed.eye closed.at in
      let fit : Fit key key.cores ws vs = subst (λ us. Fit key key.cores us vs) closed.words closed.fits in
      held_with key ws vs closed.id v fit at (kept_through seats) closed.gathered.smalls closed.gathered.wholes all

  -- no two blocks that the seats keep share a frame: they are, frame by frame, those of one view
  pub kept_apart : All (IsBlock key) (kept_through seats) → IsHolding key (kept_through seats)
  kept_apart all =
      let vs : List View = views_of closed.state in
      let v : View = closed.eye.view in
      let at : get_elem? vs closed.id ≡ some v = at_map (λ (e : Eye). e.view) closed.state.eyes closed.id closed.eye closed.at in
      let is = view_at key key.cores closed.state.words vs closed.id v closed.fits at in
      record {
        blocks = all;
        disjoint = λ x. omega (
          arith,
          holders_are key x (kept_through seats) all,
          holders_are key x v.kept is.kept,
          closed.gathered.smalls x,
          closed.gathered.wholes (child_of x),
          ap (λ (own : List FrameBlock). holders x (own ++ v.kept)) closed.gathered.idle.own,
          (apart_of key key.cores closed.state.words vs closed.id v closed.fits at).disjoint x,
        );
      }

  -- what is held just by the one view is held just by what the seats keep
  pub just_kept : HoldsJust key ws closed.eye.view.kept → HoldsJust key ws (kept_through seats)
  just_kept just = record {
    bits = λ x h. omega (arith, just.bits x h, closed.gathered.smalls x);
    huge = λ c h. just.huge c h ∙ closed.gathered.wholes c;
  }
