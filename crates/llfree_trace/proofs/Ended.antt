-- What desks hold at the end of a run is just what the closed memory holds.
use Rattle.std.proofs.Common.{◌≡◌, ◌+◌, ◌≤◌, ◌∙◌, ℕ, zero, suc, pos, List, []}
use Rattle.std.proofs.Common.{◌∷◌, ◌++◌, Bool, true, false, map, replicate, refl, sym, ap}
use Rattle.std.proofs.Common.{subst, arith}
use Rattle.std.specs.List.{All, sum_by}
use Rattle.std.proofs.lemmas.List.Elements.{All-append, All-head, All-nil, All-tail}
use Rattle.std.proofs.lemmas.List.Sums.{sum_by-append}
use lib.ListN.{get_elem?}
use mathlib.Core.Option.{some, some-injective, some-ne-none}
use Rattle.frame_words.specs.declared.geometry.Geometry.{Geometry}
use Rattle.frame_model.specs.declared.block.FrameBlock.{FrameBlock}
use Rattle.frame_model.specs.declared.key.Key.{Key}
use Rattle.frame_model.specs.declared.view.Eye.{Eye}
use Rattle.frame_model.specs.Block.{IsBlock, small_at, smalls, whole_at, wholes}
use Rattle.frame_model.specs.Events.{views_of}
use Rattle.frame_model.specs.Holding.{holders, IsHolding}
use Rattle.frame_core.specs.Image.{Contents}
use Rattle.frame_model.specs.Key.{child_of, is_boot_frame, sealed_key}
use Rattle.frame_model.specs.Laws.{AddsUp, HoldsJust}
use Rattle.frame_core.specs.Moves.{HasSizes}
use Rattle.frame_core.specs.Mover.{IsApart}
use Rattle.frame_model.specs.Report.{held_at}
use Rattle.frame_model.specs.View.{boot_blocks}
use Rattle.frame_model.specs.Words.{bit_of}
use Rattle.frame_core.proofs.Apart.{apart_of}
use Rattle.frame_model.proofs.Safe.{holders_are}
use Rattle.frame_model.proofs.Stopping.Known.{holders_both}
use Rattle.frame_model.proofs.Steps.Shared.{view_of as view_at}
use Rattle.frame_table.specs.Closing.{IsClosed, IsClosingOf, kept_through, lent_through}
use Rattle.frame_table.specs.Seats.{view_of}
use Rattle.frame_table.specs.declared.seats.CoreSeat.{CoreSeat}
use Rattle.held_blocks.specs.Desk.{blocks_of, MayRefuse}
use Rattle.core_frames.specs.Cores.{memory_of, seat_of}
use Rattle.core_frames.specs.Desks.{core_of, IsDeskOf, list_of}
use Rattle.core_frames.specs.declared.shared.allocator.Allocator.{Allocator}
use Rattle.core_frames.specs.declared.shared.desk.Desk.{Desk}
use Rattle.core_frames.proofs.PlainCalls.{same_geometry}
use Rattle.llfree_trace.specs.Outcome.{all_blocks, HoldsFrames, IsAnsweredBy, key_under, Runs}
use Rattle.llfree_trace.specs.Rounds.{GoesOn, lent_by_desks, lists_at, seats_at}
use Rattle.trace_text.specs.Trace.{ranges_in}
use Rattle.trace_text.specs.declared.line.Line.{Line}
use Rattle.llfree_trace.specs.declared.progress.Progress.{Progress}
use Rattle.trace_text.specs.declared.reply.Answer.{Answer}
use Rattle.llfree_trace.proofs.Boot.{boot_are}

-- sizes make a geometry
same_sizes : (g h : Geometry) → g.children ≡ h.children → g.cores ≡ h.cores → g.frames ≡ h.frames → g ≡ h
same_sizes g h p q r =
    same_geometry g h true true (λ i. record { children = p i; cores = q i; frames = r i; ranges = []; sealed = true })

lent_same : (ds : List Desk) → lent_through (seats_at ds) ≡ lent_by_desks ds
lent_same ds = ap lent_through (seats_are ds)
  where
    seats_are : (ds : List Desk) → seats_at ds ≡ map (λ d. seat_of (core_of d)) ds
    seats_are [] = refl
    seats_are (d ∷ ds) = ap (λ (l : List CoreSeat). seat_of (core_of d) ∷ l) (seats_are ds)

-- the lists have just the blocks that the cores keep
kept_same : (a : Allocator) (f : FrameBlock → ℕ) (ds : List Desk) → All (IsDeskOf a) ds
    → sum_by f (all_blocks (lists_at ds)) ≡ sum_by f (kept_through (seats_at ds))
unfolding kept_through
kept_same a f [] all = refl
kept_same a f (d ∷ ds) all =
    omega (
      arith,
      sum_by-append f (blocks_of (list_of d)) (all_blocks (lists_at ds)),
      sum_by-append f (view_of (seat_of (core_of d))).kept (kept_through (seats_at ds)),
      (All-head (IsDeskOf a) d ds all).keeps f,
      kept_same a f ds (All-tail (IsDeskOf a) d ds all),
    )

lists_lawful : (a : Allocator) (ds : List Desk) → All (IsDeskOf a) ds → All (IsBlock (memory_of a)) (all_blocks (lists_at ds))
lists_lawful a [] all = All-nil (IsBlock (memory_of a))
lists_lawful a (d ∷ ds) all =
    All-append (IsBlock (memory_of a)) (blocks_of (list_of d)) (all_blocks (lists_at ds)) (All-head (IsDeskOf a) d ds all).apart.blocks
    (lists_lawful a ds (All-tail (IsDeskOf a) d ds all))

at_view : (es : List Eye) (i : ℕ) (e : Eye) → get_elem? es i ≡ some e → get_elem? (map (λ (x : Eye). x.view) es) i ≡ some e.view
at_view [] i e at = absurd (some-ne-none e (sym at))
at_view (x ∷ es) zero e at = ap (λ (y : Eye). some y.view) (some-injective x e at)
at_view (x ∷ es) (suc i) e at = at_view es i e at

-- what one view had at the closing
module _ (key : Key) (seats : List CoreSeat) (ws : List ℕ) (closed : IsClosed key seats ws) where
  last_at : get_elem? (views_of closed.state) closed.id ≡ some closed.eye.view
  last_at = at_view closed.state.eyes closed.id closed.eye closed.at

  last_apart : IsApart key closed.eye.view
  last_apart = apart_of key key.cores closed.state.words (views_of closed.state) closed.id closed.eye.view closed.fits last_at

  -- as many of its blocks hold a frame as the seats' blocks do
  kept_holders : (x : ℕ) → holders x (closed.eye.view.own ++ closed.eye.view.kept)
      ≡ smalls x (kept_through seats) + wholes (child_of x) (kept_through seats)
  kept_holders x =
      let is = view_at key key.cores closed.state.words (views_of closed.state) closed.id closed.eye.view closed.fits last_at in
      let bare : holders x (closed.eye.view.own ++ closed.eye.view.kept) ≡ holders x closed.eye.view.kept =
      ap (λ (own : List FrameBlock). holders x (own ++ closed.eye.view.kept)) closed.gathered.idle.own in
      omega (
        arith,
        bare,
        holders_are key x closed.eye.view.kept is.kept,
        closed.gathered.smalls x,
        closed.gathered.wholes (child_of x),
      )

-- The memory was closed with the cores of desks that lend nothing together.
module _ (a : Allocator) (ds : List Desk) (image : Contents) (sealed : (memory_of a).sealed ≡ true) (all : All (IsDeskOf a) ds)
    (closing : IsClosingOf (memory_of a) (seats_at ds) image) (none : lent_by_desks ds ≡ pos 0) where
  just : HoldsJust (memory_of a) image.words (kept_through (seats_at ds))
  just = closing.tells.just_kept sealed (lent_same ds ∙ none)

  lists_hold : (x : ℕ) → holders x (all_blocks (lists_at ds))
      ≡ smalls x (kept_through (seats_at ds)) + wholes (child_of x) (kept_through (seats_at ds))
  unfolding smalls wholes
  lists_hold x =
      omega (
        arith,
        holders_are (memory_of a) x (all_blocks (lists_at ds)) (lists_lawful a ds all),
        kept_same a (small_at x) ds all,
        kept_same a (whole_at (child_of x)) ds all,
      )

  pub lists_apart : IsHolding (memory_of a) (all_blocks (lists_at ds))
  lists_apart = record {
    blocks = lists_lawful a ds all;
    disjoint = λ x. omega (
      arith,
      lists_hold x,
      kept_holders (memory_of a) (seats_at ds) image.words closing.closed x,
      (last_apart (memory_of a) (seats_at ds) image.words closing.closed).disjoint x,
    );
  }

  pub holds_lists : HoldsFrames (memory_of a) image.words (all_blocks (lists_at ds) ++ boot_blocks (memory_of a))
  unfolding held_at
  holds_lists x within = by (is_boot_frame (memory_of a) x) refl
    where
      -- as often as it is a boot frame
      times : (n : ℕ) → holders x (boot_blocks (memory_of a)) ≡ n
          → bit_of (memory_of a) image.words x ≡ smalls x (kept_through (seats_at ds)) + n
          → holders x (closing.closed.eye.view.own ++ closing.closed.eye.view.kept) + n ≤ 1
          → held_at (memory_of a) image.words x ≡ holders x (all_blocks (lists_at ds) ++ boot_blocks (memory_of a))
      times n boot bit few =
          omega (
            arith,
            boot,
            bit,
            few,
            just.huge (child_of x) (omega (arith, within)),
            holders_both x (all_blocks (lists_at ds)) (boot_blocks (memory_of a)),
            lists_hold x,
            kept_holders (memory_of a) (seats_at ds) image.words closing.closed x,
          )

      by : (t : Bool) → is_boot_frame (memory_of a) x ≡ t
          → held_at (memory_of a) image.words x ≡ holders x (all_blocks (lists_at ds) ++ boot_blocks (memory_of a))
      by true e =
          times 1 (rw e at (boot_are (memory_of a) x within)) (rw e at (just.bits x within))
          (omega (arith, (last_apart (memory_of a) (seats_at ds) image.words closing.closed).no_boot_frame x sealed e))
      by false e =
          times 0 (rw e at (boot_are (memory_of a) x within)) (rw e at (just.bits x within))
          (omega (arith, (last_apart (memory_of a) (seats_at ds) image.words closing.closed).disjoint x))

  -- the image has the sizes of the memory
  pub image_is : (geometry : Geometry) (ranges : List (ℕ × ℕ)) → memory_of a ≡ sealed_key geometry ranges → image.geometry ≡ geometry
  image_is geometry ranges is =
      let sizes : HasSizes (sealed_key geometry ranges) image.geometry = subst (λ (k : Key). HasSizes k image.geometry) is closing.sizes in
      same_sizes image.geometry geometry sizes.0 sizes.1 sizes.2

  -- and the key of the memory is that of its records
  key_is : (geometry : Geometry) (lines : List Line) → memory_of a ≡ sealed_key geometry (ranges_in lines)
      → memory_of a ≡ key_under lines image
  key_is geometry lines is =
      is ∙ ap (λ (g : Geometry). sealed_key g (ranges_in lines)) (sym (image_is geometry (ranges_in lines) is))

  -- its counters add up
  pub adds_up : (geometry : Geometry) (lines : List Line) → memory_of a ≡ sealed_key geometry (ranges_in lines)
      → AddsUp (key_under lines image) image.words
  adds_up geometry lines is = subst (λ (k : Key). AddsUp k image.words) (key_is geometry lines is) closing.tells.adds_up

  -- so the answers of a run of the records are theirs
  pub is_answered : (geometry : Geometry) (lines : List Line) (old new : Progress) → memory_of a ≡ sealed_key geometry (ranges_in lines)
      → GoesOn a 1 lines old new → new.desks.items ≡ ds → old.answers.items ≡ [] → lists_at old.desks.items ≡ replicate geometry.cores []
      → IsAnsweredBy MayRefuse lines new.answers.items image
  is_answered geometry lines old new is goes end empty begins =
      let same : image.geometry ≡ geometry = image_is geometry (ranges_in lines) is in
      let answers : new.answers.items ≡ goes.answers = goes.grows ∙ ap (λ (l : List Answer). l ++ goes.answers) empty in
      let under = key_is geometry lines is in
      record {
        lists = lists_at ds;
        runs = subst (λ (k : Key). Runs MayRefuse k 1 (replicate image.geometry.cores []) lines new.answers.items (lists_at ds)) under
            (rw (same, ← begins, answers, ← end) goes.runs);
        disjoint = subst (λ (k : Key). IsHolding k (all_blocks (lists_at ds))) under lists_apart;
        holds = subst (λ (k : Key). HoldsFrames k image.words (all_blocks (lists_at ds) ++ boot_blocks k)) under holds_lists;
      }
