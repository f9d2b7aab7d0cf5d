-- Numbers that say of words what these will once they are rebuilt.
use Rattle.std.proofs.Common.{◌≡◌, ⊎_elim, ℕ, ◌+◌, ◌*◌, ◌<◌, ◌≤◌, max, List, [], true, get_or, refl, ap, sym, subst, ◌∙◌, arith}
use Rattle.std.proofs.lemmas.Bool.{cases_lt, cases_eq}
use Rattle.std.specs.Prelude.{slice_index}
use Rattle.std.specs.List.{All}
use mathlib.Core.Option.{some}
use lib.ListN.{get_elem?}
use Rattle.atomic_table.proofs.Lists.{at_map}
use Rattle.frame_words.specs.Words.{entry_word}
use Rattle.frame_model.specs.declared.block.FrameBlock.{FrameBlock}
use Rattle.frame_model.specs.declared.key.Key.{Key}
use Rattle.frame_model.specs.declared.view.View.{View}
use Rattle.frame_model.specs.Block.{IsBlock}
use Rattle.frame_core.specs.Image.{Contents, key_in}
use Rattle.frame_model.specs.Key.{key_of, frame_count, child_of}
use Rattle.frame_core.specs.Moves.{HasSizes}
use Rattle.frame_model.specs.Rebuilt.{rebuilt_free, rebuilt_bits, IsRebuilt}
use Rattle.frame_model.specs.Report.{held_at}
use Rattle.frame_model.specs.Words.{free_of, huge_of, bit_of, bit_word_of, bits_place, set_of, word_count, AreInRange}
use Rattle.frame_model.proofs.Steps.Shared.{bit-le, view_of as view_at}
use Rattle.frame_model.proofs.Stopping.Existing.{every_rebuilding_exists}
use Rattle.frame_model.proofs.Stopping.Rebuilding.{kept_bit, cleared_bit, every_rebuilding_is_exact}
use Rattle.low_frames.proofs.ViewLemmas.{covered_from}
use Rattle.frame_model.specs.declared.view.Eye.{Eye}
use Rattle.frame_table.specs.Seats.{view_of}
use Rattle.frame_table.specs.Stopping.{IsImageAtStop}
use Rattle.frame_table.specs.declared.seats.CoreSeat.{CoreSeat}
use Rattle.llfree_c.specs.CoreImages.{SaysOfRebuilt, SaysRebuilt, LeavesStop, LeavesStopWith}
use Rattle.llfree_c.specs.Images.{SaysAll}
use Rattle.frame_model.specs.Events.{State, Fits, views_of}
use Rattle.frame_words.specs.declared.geometry.Geometry.{Geometry}
use Rattle.llfree_c.specs.StoppedWords.{HasFramesAndCores}
use Rattle.frame_table.proofs.Stopped.{stopped_holds, stopped_boot}

-- what numbers say of the children below stays where those are as before
says_below : (key : Key) (words old new : List ℕ) (child k : ℕ)
    → ((i : ℕ) → i < 9 * child → slice_index new i ≡ slice_index old i) → k < child
    → SaysOfRebuilt key words k old → SaysOfRebuilt key words k new
says_below key words old new child k same below says = record {
  entry = same (9 * k) (omega arith) ∙ says.entry;
  bits = λ w less. same (9 * k + 1 + w) (omega arith) ∙ says.bits w less;
}

-- one more child is said
pub says_more : (key : Key) (words old new : List ℕ) (child : ℕ)
    → ((i : ℕ) → i < 9 * child → slice_index new i ≡ slice_index old i)
    → ((k : ℕ) → k < child → SaysOfRebuilt key words k old) → SaysOfRebuilt key words child new
    → (k : ℕ) → k < child + 1 → SaysOfRebuilt key words k new
says_more key words old new child same all one k less =
    ⊎_elim
    (λ (below : k < child). says_below key words old new child k same below (all k below))
    (λ (above : child ≤ k). let e : child ≡ k = omega arith in subst (λ (n : ℕ). SaysOfRebuilt key words n new) e one)
    (cases_lt k child)

-- the key of a memory without what its opening held back
abbrev open_key : Key → Key
open_key key = record key { ranges = []; sealed = true }

abbrev sized : ℕ → ℕ → ℕ → Key
sized children cores frames = record {
  children = children;
  cores = cores;
  frames = frames;
  ranges = [];
  sealed = true;
}

same_memory : (key : Key) (words numbers : List ℕ) → SaysRebuilt (open_key key) words numbers
    → SaysRebuilt key words numbers
unfolding rebuilt_free rebuilt_bits set_of bit_word_of bits_place
same_memory key words numbers says = λ c less. let s = says c less in record { entry = s.entry; bits = s.bits }

-- what numbers say of an image's words they say of those of its memory, whatever was held back there
says_of_memory : (key : Key) (image : Contents) (numbers : List ℕ) → HasSizes key image.geometry
    → SaysRebuilt (key_in image) image.words numbers → SaysRebuilt key image.words numbers
says_of_memory key image numbers s says =
    let g = image.geometry in
    let is : key_of g ≡ open_key key =
    ap (λ n. sized n g.cores g.frames) s.0
    ∙ (ap (λ n. sized key.children n g.frames) s.1 ∙ ap (λ n. sized key.children key.cores n) s.2) in
    same_memory key image.words numbers (subst (λ k. SaysRebuilt k image.words numbers) is says)

module _ (key : Key) (old new : List ℕ) (r : IsRebuilt key old new) where
  says_of_words : (numbers : List ℕ) → SaysRebuilt key old numbers → SaysAll key new numbers
  says_of_words numbers says c less = let s = says c less in record {
    entry = s.entry ∙ (ap (λ n. entry_word n (huge_of old c)) (sym (r.free c less))
        ∙ ap (entry_word (free_of new c)) (sym (r.huge c less)));
    bits = λ w h. s.bits w h ∙ sym (r.bits (8 * c + w) (omega arith));
  }

  held_max : (ws : List ℕ) (x : ℕ) → held_at key ws x ≡ max (bit_of key ws x) (huge_of ws (child_of x))
  unfolding held_at
  held_max ws x = refl

  -- rebuilt words hold the frames that were held
  rebuilt_held : AreInRange key old → (x : ℕ) → x < frame_count key → held_at key new x ≡ held_at key old x
  rebuilt_held was x h =
      let few = was.huge (child_of x) (omega arith) in
      let same = r.huge (child_of x) (omega arith) in
      ⊎_elim
      (λ (z : huge_of old (child_of x) ≡ 0). omega (
        arith,
        held_max old x,
        held_max new x,
        same,
        kept_bit key old new was r x h z,
      ))
      (λ z. let one : huge_of old (child_of x) ≡ 1 = omega arith in
      omega (
        arith,
        held_max old x,
        held_max new x,
        same,
        cleared_bit key old new was r x h one,
        bit-le key old x,
      ))
      (cases_eq (huge_of old (child_of x)) 0)

pub leaves_stop : (key : Key) (last : CoreSeat) (image : Contents) (numbers : List ℕ) → IsImageAtStop key last image
    → SaysRebuilt (key_in image) image.words numbers → LeavesStopWith key last numbers
leaves_stop key last image numbers stop says =
    let old = image.words in
    let was : AreInRange key old = subst (AreInRange key) stop.words stop.fits.words_in_range in
    let again = every_rebuilding_exists key old was in
    let r : IsRebuilt key old again.0 = again.1 in
    let vs : List View = views_of stop.state in
    let v : View = stop.eye.view in
    let at : get_elem? vs stop.id ≡ some v = at_map (λ (e : Eye). e.view) stop.state.eyes stop.id stop.eye stop.at in
    let kept : All (IsBlock key) (view_of last).kept = subst (λ (w : View). All (IsBlock key) w.kept) stop.seat
    (view_at key key.cores stop.state.words vs stop.id v stop.fits at).kept in
    record {
      stop = record {
        state = stop.state;
        fits = stop.fits;
        words = again.0;
        rebuilt = subst (λ us. IsRebuilt key us again.0) (sym stop.words) r;
        says = says_of_words key old again.0 r numbers (says_of_memory key image numbers stop.sizes says);
        exact = every_rebuilding_is_exact key old again.0 was r;
        held = λ x h. rebuilt_held key old again.0 r was x h ∙ stop.held x h;
        boot = λ sealed x h named. rebuilt_held key old again.0 r was x h ∙ stop.boot sealed x h named;
      };
      id = stop.id;
      eye = stop.eye;
      at = stop.at;
      seat = stop.seat;
      kept_held = λ k d h x c.
          let b : FrameBlock = get_or (view_of last).kept k d in
          let is : IsBlock key b = kept k d h in
          rebuilt_held key old again.0 r was x (omega (arith, (covered_from b x c).1, is.inside))
          ∙ stop.kept_held k d h x c;
    }

-- words that fit are those of a stop
pub leaves_fitting : (key : Key) (s : State) (numbers : List ℕ) → Fits key key.cores s
    → SaysRebuilt key s.words numbers → LeavesStop key numbers
leaves_fitting key s numbers fits says =
    let old = s.words in
    let was : AreInRange key old = fits.words_in_range in
    let again = every_rebuilding_exists key old was in
    let r : IsRebuilt key old again.0 = again.1 in
    record {
      state = s;
      fits = fits;
      words = again.0;
      rebuilt = r;
      says = says_of_words key old again.0 r numbers says;
      exact = every_rebuilding_is_exact key old again.0 was r;
      held = λ x h. rebuilt_held key old again.0 r was x h ∙ stopped_holds key key.cores old (views_of s) fits x h;
      boot = λ sealed x h named. rebuilt_held key old again.0 r was x h
          ∙ stopped_boot key key.cores old (views_of s) fits sealed x h named;
    }

-- numbers that say what words are rebuilt to say it of a memory with the same sizes
pub says_of_sizes : (key : Key) (g : Geometry) (words numbers : List ℕ) → HasSizes key g
    → SaysRebuilt (key_of g) words numbers → SaysRebuilt key words numbers
says_of_sizes key g words numbers s says =
    let is : key_of g ≡ open_key key =
    ap (λ n. sized n g.cores g.frames) s.0
    ∙ (ap (λ n. sized key.children n g.frames) s.1 ∙ ap (λ n. sized key.children key.cores n) s.2) in
    same_memory key words numbers (subst (λ k. SaysRebuilt k words numbers) is says)

pub has_sizes : (frames cores : ℕ) (key : Key) (g : Geometry) → g.frames ≡ frames → g.cores ≡ cores
    → HasFramesAndCores frames cores key → HasSizes key g
has_sizes frames cores key g f k is = (
  omega (arith, is.children, f, g.some_children, g.last_child_begun, g.frames_in_children),
  k ∙ sym is.used_by,
  f ∙ sym is.size,
)

open_count : (key : Key) → word_count (open_key key) ≡ word_count key
unfolding word_count
open_count key = refl

-- memories of the same sizes have as many words
pub same_count : (key : Key) (g : Geometry) → HasSizes key g → word_count (key_of g) ≡ word_count key
same_count key g s =
    let is : key_of g ≡ open_key key =
    ap (λ n. sized n g.cores g.frames) s.0
    ∙ (ap (λ n. sized key.children n g.frames) s.1 ∙ ap (λ n. sized key.children key.cores n) s.2) in
    ap (λ k. word_count k) is ∙ open_count key
