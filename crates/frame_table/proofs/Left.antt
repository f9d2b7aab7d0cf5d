-- What a seat keeps is left by every rebuilding of words that fit, each block in its own form.
use Rattle.std.proofs.Common.{◌≡◌, ⊎_elim, ℕ, ◌-◌, ◌+◌, ◌^◌, ◌<◌, ◌≤◌, List, [], false, get_or, refl, sym, ap, subst, ◌∙◌, arith}
use Rattle.std.specs.List.{All}
use Rattle.std.proofs.lemmas.Bool.{cases_lt}
use Rattle.std.proofs.lemmas.Nat.{pow_pos}
use Rattle.std.proofs.lemmas.Bool.Decides.{nat_tests}
use lib.ListN.{get_elem?}
use mathlib.Core.Option.{some}
use Rattle.frame_words.specs.declared.geometry.Geometry.{Geometry}
use Rattle.frame_model.specs.declared.block.FrameBlock.{FrameBlock}
use Rattle.frame_model.specs.declared.key.Key.{Key}
use Rattle.frame_model.specs.declared.view.View.{View}
use Rattle.frame_model.specs.Key.{frame_count, child_of}
use Rattle.frame_model.specs.Block.{IsBlock, covers, smalls, wholes}
use Rattle.frame_model.specs.Words.{huge_of, AreInRange}
use Rattle.frame_model.specs.View.{small_in, marks, whole_in}
use Rattle.frame_model.specs.Fit.{Fit}
use Rattle.frame_model.specs.Openings.{held_blocks}
use Rattle.frame_model.specs.Rebuilt.{IsRebuilt}
use Rattle.frame_model.specs.Stops.{unsealed}
use Rattle.frame_model.proofs.Blocks.{not_whole, smalls_none}
use Rattle.frame_model.proofs.HeldBack.{in_range_unsealed, rebuilt_unsealed}
use Rattle.frame_model.proofs.Opening.{held_smalls, held_wholes}
use Rattle.frame_model.proofs.Safe.{covers_is}
use Rattle.frame_model.proofs.Steps.Shared.{at-le-total, bit-le, ground_none, past_alone, past_unflagged}
use Rattle.frame_model.proofs.Stopping.Rebuilding.{kept_bit, bit_unsealed}
use Rattle.frame_model.proofs.Without.{first_of_child, whole_child}
use Rattle.frame_core.specs.Moves.{HasSizes}
use Rattle.frame_core.specs.Image.{Contents, key_in}
use Rattle.frame_table.specs.Openings.{unsealed_key, IsLeft, LeavesOnceRebuilt}
use Rattle.frame_table.proofs.Kept.{smalls_at, wholes_at, covered_below}

last_covered : (b : FrameBlock) (n : ℕ) → n ≡ 2 ^ b.order → 0 < n → covers b (b.frame + n - 1) ≡ 1
unfolding covers
last_covered b n e h = grind (arith, nat_tests)

module _ (key : Key) (ws : List ℕ) (vs : List View) (id : ℕ) (v : View) (fit : Fit key key.cores ws vs)
    (at : get_elem? vs id ≡ some v) (seated : v.is_ground ≡ false) (new : List ℕ) (r : IsRebuilt (unsealed key) ws new) where
  -- blocks that are, frame by frame, those which a view keeps that is not the ground
  pub left_with : (blocks : List FrameBlock) → ((x : ℕ) → smalls x v.kept ≡ smalls x blocks)
      → ((c : ℕ) → wholes c v.kept ≡ wholes c blocks) → All (IsBlock key) blocks
      → All (IsLeft (unsealed key) (held_blocks (unsealed key) new)) blocks
  left_with blocks small whole all k d h =
      let b : FrameBlock = get_or blocks k d in
      let is : IsBlock key b = all k d h in
      let was : AreInRange (unsealed key) ws = in_range_unsealed key ws fit.words_in_range in
      let first : child_of b.frame < key.children = omega (arith, is.inside, pow_pos b.order) in
      record {
        is_block = record { order = is.order; aligned = is.aligned; inside = is.inside };
        exists = ⊎_elim
            (λ past.
            let x : ℕ = b.frame + 2 ^ b.order - 1 in
            let inside : x < frame_count key = omega (arith, is.inside, pow_pos b.order) in
            let end : key.frames ≤ x = omega (arith, past, pow_pos b.order) in
            absurd (omega (
              arith,
              last_covered b (2 ^ b.order) refl (pow_pos b.order),
              covers_is key x b is,
              smalls_at x blocks k d h,
              small x,
              past_alone key key.cores ws vs id v fit at x end inside,
              ap (smalls x) (ground_none v seated),
              smalls_none x,
              wholes_at (child_of x) blocks k d h,
              whole (child_of x),
              at-le-total key key.cores ws vs id v fit at (whole_in (child_of x)),
              fit.wholes (child_of x) (omega (arith, inside)),
              past_unflagged key key.cores ws vs fit x end inside,
            )))
            (λ fits. fits)
            (cases_lt key.frames (b.frame + 2 ^ b.order));
        held = record {
          smalls = λ low x c.
              let inside : x < frame_count key = omega (arith, covered_below b x c, is.inside) in
              let child : child_of x < key.children = omega (arith, inside) in
              let here : 1 ≤ small_in x v = omega (arith, c, covers_is key x b is, not_whole (child_of x) b low, smalls_at x blocks k d h, small x) in
              let clear : huge_of ws (child_of x) ≡ 0 = omega (arith, here, at-le-total key key.cores ws vs id v fit at (small_in x), fit.apart x inside) in
              omega (
                arith,
                here,
                at-le-total key key.cores ws vs id v fit at (marks x),
                fit.bits x inside,
                bit-le key ws x,
                bit_unsealed key ws x,
                kept_bit (unsealed key) ws new was r x inside clear,
                held_smalls (unsealed key) new x inside,
              );
          wholes = λ top. omega (
            arith,
            whole_child b top (first_of_child b is.aligned top),
            wholes_at (child_of b.frame) blocks k d h,
            whole (child_of b.frame),
            at-le-total key key.cores ws vs id v fit at (whole_in (child_of b.frame)),
            fit.wholes (child_of b.frame) first,
            r.huge (child_of b.frame) first,
            held_wholes (unsealed key) new (child_of b.frame) first (r.in_range.huge (child_of b.frame) first),
          );
        };
      }

abbrev sized : ℕ → ℕ → ℕ → Key
sized children cores frames = record {
  children = children;
  cores = cores;
  frames = frames;
  ranges = [];
  sealed = false;
}

-- the key of the memory after a stop, from its sizes
pub unsealed_is : (key : Key) (g : Geometry) → HasSizes key g → unsealed key ≡ unsealed_key g
unsealed_is key g s =
    sym (ap (λ n. sized n g.cores g.frames) s.0
    ∙ (ap (λ n. sized key.children n g.frames) s.1 ∙ ap (λ n. sized key.children key.cores n) s.2))

-- the image has these words, and sizes of the memory
pub left_once_rebuilt : (key : Key) (ws : List ℕ) (vs : List View) (id : ℕ) (v : View) → Fit key key.cores ws vs
    → get_elem? vs id ≡ some v → v.is_ground ≡ false → (image : Contents) → HasSizes key image.geometry → ws ≡ image.words
    → (blocks : List FrameBlock) → ((x : ℕ) → smalls x v.kept ≡ smalls x blocks)
    → ((c : ℕ) → wholes c v.kept ≡ wholes c blocks) → All (IsBlock key) blocks → LeavesOnceRebuilt image blocks
left_once_rebuilt key ws vs id v fit at seated image s e blocks small whole all new r =
    let is : unsealed key ≡ unsealed_key image.geometry = unsealed_is key image.geometry s in
    subst (λ i. All (IsLeft i (held_blocks i new)) blocks) is
    (left_with key ws vs id v fit at seated new
    (subst (λ us. IsRebuilt (unsealed key) us new) (sym e)
    (subst (λ i. IsRebuilt i image.words new) (sym is) (rebuilt_unsealed (key_in image) image.words new r)))
    blocks small whole all)
