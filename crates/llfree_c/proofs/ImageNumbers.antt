-- Numbers of children that are written one behind another.
use Rattle.std.proofs.Common.{◌≡◌, ⊎_elim, ℕ, ◌+◌, ◌*◌, ◌<◌, ◌≤◌, List, subst, ◌∙◌, arith}
use Rattle.std.proofs.lemmas.Bool.{cases_lt}
use Rattle.std.specs.Prelude.{slice_index}
use Rattle.frame_model.specs.declared.key.Key.{Key}
use Rattle.frame_words.specs.declared.geometry.Geometry.{Geometry}
use Rattle.frame_model.specs.Key.{key_of}
use Rattle.frame_model.specs.Words.{bit_word_of, bits_place}
use Rattle.frame_core.specs.Image.{Contents, key_in}
use Rattle.frame_model.specs.Laws.{AddsUp}
use Rattle.core_frames.specs.PlainState.{PlainState, memory_by, held_by, HoldsExactly}
use Rattle.llfree_c.specs.Images.{SaysOfChild, SaysAll, LeavesNumbers, StaysBehind}

-- what numbers say of the children below stays where those are as before
pub says_below : (key : Key) (words old new : List ℕ) (child k : ℕ)
    → ((i : ℕ) → i < 9 * child → slice_index new i ≡ slice_index old i) → k < child
    → SaysOfChild key words k old → SaysOfChild key words k new
says_below key words old new child k same below says = record {
  entry = same (9 * k) (omega arith) ∙ says.entry;
  bits = λ w less. same (9 * k + 1 + w) (omega arith) ∙ says.bits w less;
}

-- one more child is said
pub says_more : (key : Key) (words old new : List ℕ) (child : ℕ)
    → ((i : ℕ) → i < 9 * child → slice_index new i ≡ slice_index old i)
    → ((k : ℕ) → k < child → SaysOfChild key words k old) → SaysOfChild key words child new
    → (k : ℕ) → k < child + 1 → SaysOfChild key words k new
says_more key words old new child same all one k less =
    ⊎_elim
    (λ (below : k < child). says_below key words old new child k same below (all k below))
    (λ (above : child ≤ k). let e : child ≡ k = omega arith in subst (λ (n : ℕ). SaysOfChild key words n new) e one)
    (cases_lt k child)

-- what stays behind a slot stays behind a later one, over two writings
pub stays_behind : (first last : ℕ) (oldest old new : List ℕ) → first ≤ last → StaysBehind last oldest old
    → StaysBehind first old new → StaysBehind last oldest new
stays_behind first last oldest old new before a b = record {
  count = b.count ∙ a.count;
  same = λ i from less.
      b.same i (omega (arith, before, from)) (omega (arith, less, a.count)) ∙ a.same i from less;
}

-- what numbers say of an image's words they say of those of its memory, whatever was held back there
pub says_of_memory : (state : PlainState) (image : Contents) (numbers : List ℕ)
    → image.geometry ≡ state.geometry → SaysAll (key_in image) image.words numbers
    → SaysAll (memory_by state) image.words numbers
unfolding bit_word_of bits_place
says_of_memory state image numbers e says =
    let at : SaysAll (key_of state.geometry) image.words numbers =
    subst (λ (g : Geometry). SaysAll (key_of g) image.words numbers) e says in
    λ c less. let s = at c less in record { entry = s.entry; bits = s.bits }

-- numbers that say what an image does are left of the memory that the image holds exactly
pub leaves_numbers : (state : PlainState) (image : Contents) (numbers : List ℕ)
    → image.geometry ≡ state.geometry → SaysAll (key_in image) image.words numbers
    → HoldsExactly (memory_by state) image.words (held_by state) → AddsUp (memory_by state) image.words
    → LeavesNumbers state numbers
leaves_numbers state image numbers e says exact counters = record {
  words = image.words;
  says = says_of_memory state image numbers e says;
  exact = exact;
  counters = counters;
}
