-- What the fit says of the frames that a view has: each is in one block, and a huge frame that is out is filled by nobody.
use Rattle.std.proofs.Common.{◌≡◌, ◌≢◌, ⊎_elim, ℕ, ◌+◌, ◌^◌, ◌<◌, ◌≤◌, List, [], set, ap, subst, ◌∙◌, arith, false}
use Rattle.std.specs.Prelude.{Contains}
use Rattle.std.specs.List.{All}
use Rattle.std.proofs.lemmas.Bool.{cases_lt}
use Rattle.std.proofs.lemmas.Bool.Decides.{nat_tests}
use Rattle.std.proofs.lemmas.List.Elements.{All-head}
use mathlib.Core.Option.{some}
use lib.ListN.{get_elem?}
use Rattle.atomic_table.proofs.Lists.{set_else}
use Rattle.frame_model.specs.declared.block.FrameBlock.{FrameBlock}
use Rattle.frame_model.specs.declared.key.Key.{Key}
use Rattle.frame_model.specs.declared.view.View.{View}
use Rattle.frame_model.specs.Key.{frame_count, child_of}
use Rattle.frame_model.specs.Block.{IsBlock, covers, smalls, wholes}
use Rattle.frame_model.specs.View.{names, small_in, whole_in, spent, HasNoPart, IsViewOf}
use Rattle.frame_model.specs.Fit.{total, Fit}
use Rattle.frame_model.specs.Steps.Amounts.{Leaves}
use Rattle.frame_model.specs.Steps.Conditions.{IsUnfilled}
use Rattle.frame_model.specs.Seats.{CanRecall, CanTakeIn}
use Rattle.frame_model.specs.Without.{times, less_one, without, HasFrames}
use Rattle.frame_model.proofs.Sums.{sum_set, at-le-sum}
use Rattle.frame_model.proofs.Amounts.{names_none}
use Rattle.frame_model.proofs.Blocks.{wholes_none, wholes_cons}
use Rattle.frame_model.proofs.Keeps.{total_is}
use Rattle.frame_model.proofs.Steps.Shared.{view_of, at-le-total}
use Rattle.frame_model.proofs.Without.{contains_times, times_blocks, less_one_leaves, without_leaves, first_of_child, whole_child}

-- a frame of a block of the key is one of the key
in_memory : (b : FrameBlock) (x n : ℕ) → covers b x ≡ 1 → b.frame + 2 ^ b.order ≤ n → x < n
unfolding covers
in_memory b x n h e = grind (arith, nat_tests)

module _ (key : Key) (shares : ℕ) (ws : List ℕ) (vs : List View) (id : ℕ) (v : View) (fit : Fit key shares ws vs)
    (at : get_elem? vs id ≡ some v) where
  -- a view that has each frame of a block has it once
  pub has_frames : (b : FrameBlock) → IsBlock key b → (b.order < 9 → (x : ℕ) → covers b x ≡ 1 → 0 < smalls x v.own)
      → (b.order ≡ 9 → 0 < wholes (child_of b.frame) v.own) → HasFrames v.own b
  has_frames b is small whole = record {
    smalls = λ low x h. omega (
      arith,
      small low x h,
      fit.apart x (in_memory b x (frame_count key) h is.inside),
      at-le-total key shares ws vs id v fit at (small_in x),
    );
    wholes = whole;
  }

  -- so the list without the block is what remains of it
  pub own_leaves : (b : FrameBlock) → IsBlock key b → (b.order < 9 → (x : ℕ) → covers b x ≡ 1 → 0 < smalls x v.own)
      → (b.order ≡ 9 → 0 < wholes (child_of b.frame) v.own) → Leaves key v.own b (without b v.own)
  own_leaves b is small whole = without_leaves key b v.own is (view_of key shares ws vs id v fit at).own (has_frames b is small whole)

  -- a block that is kept can be recalled, and leaves the others
  pub recall_leaves : (b : FrameBlock) → 0 < v.share → v.is_ground ≡ false → Contains v.kept b
      → CanRecall key v b (less_one b v.kept)
  recall_leaves b share apart has =
      let i : IsViewOf key v = view_of key shares ws vs id v fit at in
      let stands : 0 < times b v.kept = contains_times v.kept b has in
      record {
        share = share;
        not_ground = apart;
        is_kept = has;
        is_block = times_blocks key b v.kept i.kept stands;
        leaves = less_one_leaves key b v.kept i.kept stands;
      }

  module _ (other : ℕ) (u : View) (apart : other ≢ id) (there : get_elem? vs other ≡ some u) where
    two-le-total : (f : View → ℕ) → f spent ≡ 0 → f v + f u ≤ total key f vs
    two-le-total f z = omega (
      arith,
      z,
      total_is key f vs,
      sum_set f vs id v spent at,
      at-le-sum f (set vs id spent) other u (set_else vs id other spent apart ∙ there),
    )

    -- The view that takes a block in has filled no word of it: a filled word is one of a huge frame in flight,
    -- and a huge frame is in one view alone.
    pub taken_in_unfilled : (can : CanTakeIn v u) → can.block.order ≡ 9 → IsUnfilled (child_of can.block.frame) v
    taken_in_unfilled can top w e =
        let b : FrameBlock = can.block in
        let c : ℕ = child_of b.frame in
        let i : IsViewOf key v = view_of key shares ws vs id v fit at in
        let j : IsViewOf key u = view_of key shares ws vs other u fit there in
        let is : IsBlock key b = All-head (IsBlock key) b [] (subst (All (IsBlock key)) can.owns j.own) in
        let one : wholes c u.own ≡ 1 =
        ap (wholes c) can.owns
        ∙ omega (arith, wholes_cons c b [], wholes_none c, whole_child b top (first_of_child b is.aligned top)) in
        let inside : c < key.children = omega (arith, is.inside, ap (λ o. 2 ^ o) top) in
        let few : whole_in c v + whole_in c u ≤ 1 =
        omega (
          arith,
          two-le-total (whole_in c) (omega (arith, wholes_none c)),
          fit.wholes c inside,
          fit.words_in_range.huge c inside,
        ) in
        ⊎_elim
        (λ q. absurd (omega (arith, few, one, (i.filled w q).own, ap (λ d. wholes d v.own) e)))
        (λ q. omega arith)
        (cases_lt 0 (names w v.filled))

    -- nor has the view that held it
    pub held_unfilled : CanTakeIn v u → (w : ℕ) → names w u.filled ≡ 0
    held_unfilled can w = let h : HasNoPart u = (view_of key shares ws vs other u fit there).no_part can.out in
        ap (names w) h.filled ∙ names_none w
