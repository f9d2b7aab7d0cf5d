-- Words that fit are those of an image, whatever ranges their key has.
use Rattle.std.proofs.Common.{◌≡◌, ℕ, ◌<◌, ◌≤◌, List, [], true, Some, ap, sym, subst, ◌∙◌, arith}
use Rattle.frame_words.specs.declared.geometry.Geometry.{Geometry}
use Rattle.frame_model.specs.declared.key.Key.{Key}
use Rattle.frame_model.specs.declared.view.View.{View}
use Rattle.frame_model.specs.Key.{key_of}
use Rattle.frame_model.specs.Words.{tree_place, local_place, bits_place, word_count, tree_word_of, tree_free_of, reserved_of, local_word_of}
use Rattle.frame_model.specs.Words.{rest_of, bit_word_of, bit_of, count_on, resting_on, IsRest}
use Rattle.frame_core.specs.Image.{IsImage}
use Rattle.frame_model.specs.Fit.{Fit}
use Rattle.frame_core.specs.Moves.{HasSizes}
use Rattle.frame_model.specs.Events.{views_of}
use Rattle.frame_table.specs.declared.seats.CoreSeat.{CoreSeat}
use Rattle.frame_table.specs.Closing.{IsClosed}
use Rattle.frame_model.proofs.Sums.{range_at}
use Rattle.frame_model.proofs.Amounts.{count_on_here}
use Rattle.frame_model.proofs.Steps.Shared.{past_set, part_unflagged}

rest-le : (key : Key) (ws : List ℕ) (k t : ℕ) → k < key.cores → count_on t (rest_of key ws k) ≤ resting_on key ws t
unfolding resting_on
rest-le key ws k t h = range_at (λ j. count_on t (rest_of key ws j)) 0 key.cores k (omega arith) (omega arith)

pub fits_image : (key : Key) (shares : ℕ) (ws : List ℕ) (vs : List View) → Fit key shares ws vs → IsImage key ws
fits_image key shares ws vs fit = record {
  in_range = fit.words_in_range;
  trees = λ t h. omega (arith, fit.trees_add_up t h);
  rests = λ k h rest e.
      let some : IsRest key (Some rest) = subst (IsRest key) e (fit.words_in_range.rests k h) in
      let here : count_on rest.0 (rest_of key ws k) ≡ rest.1 = ap (count_on rest.0) e ∙ count_on_here rest.0 rest.1 in
      (some.0, omega (arith, here, rest-le key ws k rest.0 h, fit.trees_add_up rest.0 some.0));
  past_end = past_set key shares ws vs fit;
  cut = part_unflagged key shares ws vs fit;
}

abbrev open_key : Key → Key
open_key key = record key { ranges = []; sealed = true }

-- the words do not depend on what the opening held back
same_image : (key : Key) (ws : List ℕ) → IsImage key ws → IsImage (open_key key) ws
unfolding tree_place local_place bits_place word_count tree_word_of tree_free_of reserved_of local_word_of rest_of bit_word_of bit_of
same_image key ws i = let r = i.in_range in record {
  in_range = record {
    count = r.count;
    anchor = r.anchor;
    entry_words = r.entry_words;
    free = r.free;
    huge = r.huge;
    absent = r.absent;
    behind = r.behind;
    tree_free = r.tree_free;
    reserved = r.reserved;
    locals = r.locals;
    rests = r.rests;
    bits = r.bits;
    between = r.between;
    beside = r.beside;
  };
  trees = i.trees;
  rests = i.rests;
  past_end = i.past_end;
  cut = i.cut;
}

abbrev sized : ℕ → ℕ → ℕ → Key
sized children cores frames = record {
  children = children;
  cores = cores;
  frames = frames;
  ranges = [];
  sealed = true;
}

pub image_at : (key : Key) (g : Geometry) (shares : ℕ) (ws : List ℕ) (vs : List View)
    → HasSizes key g → Fit key shares ws vs → IsImage (key_of g) ws
image_at key g shares ws vs s fit =
    let is : key_of g ≡ open_key key =
    ap (λ n. sized n g.cores g.frames) s.0
    ∙ (ap (λ n. sized key.children n g.frames) s.1 ∙ ap (λ n. sized key.children key.cores n) s.2) in
    subst (λ k. IsImage k ws) (sym is) (same_image key ws (fits_image key shares ws vs fit))

-- the words of a closed table are those of an image
pub closed_image : (key : Key) (g : Geometry) (seats : List CoreSeat) (ws : List ℕ) → HasSizes key g
    → IsClosed key seats ws → IsImage (key_of g) ws
closed_image key g seats ws s closed =
    subst (IsImage (key_of g)) closed.words
    (image_at key g key.cores closed.state.words (views_of closed.state) s closed.fits)
