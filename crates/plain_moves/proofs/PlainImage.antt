-- The words of plain moves are those of an image, sealed or not.
use Rattle.std.proofs.Common.{◌≡◌, ℕ, ◌<◌, ◌≤◌, List, [], ◌∷◌, Some, Bool, get_or, refl, ap, sym, subst, ◌∙◌, arith}
use Rattle.std.specs.Option.{ForSome}
use Rattle.std.proofs.Math.Logic.{∥∥₁_elim}
use Rattle.std.proofs.Math.Bridge.{le_prop}
use Rattle.std.proofs.Math.Nat.{ℕ_set}
use Rattle.frame_words.specs.declared.geometry.Geometry.{Geometry}
use Rattle.frame_words.specs.Words.{rest_in}
use Rattle.frame_model.proofs.HeldBack.{in_range_held_back}
use Rattle.frame_model.specs.declared.key.Key.{Key}
use Rattle.frame_model.specs.declared.view.View.{View}
use Rattle.frame_model.specs.Key.{tree_count, size_of}
use Rattle.frame_model.specs.Words.{entry_place, tree_place, local_place, bits_place}
use Rattle.frame_model.specs.Words.{entry_of, huge_of, tree_word_of, tree_free_of}
use Rattle.frame_model.specs.Words.{local_word_of, rest_of, bit_word_of, bit_of}
use Rattle.frame_model.specs.Words.{count_on, IsRest, AreInRange}
use Rattle.frame_core.specs.Image.{FitsTree, IsImage}
use Rattle.frame_model.proofs.Steps.Shared.{rest_of_is, past_set, part_unflagged}
use Rattle.frame_model.proofs.Steps.Locals.{rest-le-resting}
use Rattle.frame_model.proofs.Amounts.{count_on_here}
use Rattle.plain_moves.specs.declared.plain.party.Company.{Company}
use Rattle.plain_moves.specs.Plain.{plain_key, Agrees}
use Rattle.plain_moves.proofs.PlainSteps.{paid_at, paid_bound, rest_known}

module _ {them : Company} (key : Key) (words bytes : List ℕ) (v : View)
    (agrees : ∥ Agrees key them words bytes v ∥₁) where
  range : Agrees key them words bytes v → AreInRange key words
  range a = a.fit.words_in_range

  rest_is : (k : ℕ) → k < key.cores → IsRest key (rest_of key words k)
  rest_is k h =
      subst (IsRest key) (sym (rest_of_is key words k))
      (rest_known key words bytes v k agrees h (rest_in (get_or words (local_place key k) 0)) refl)

  ranges_known : AreInRange key words
  ranges_known = record {
    count = ∥∥₁_elim agrees (ℕ_set _ _) (λ a. (range a).count);
    anchor = λ i h. ∥∥₁_elim agrees (ℕ_set _ _) (λ a. (range a).anchor i h);
    entry_words = λ c h. ∥∥₁_elim agrees le_prop (λ a. (range a).entry_words c h);
    free = λ c h. ∥∥₁_elim agrees le_prop (λ a. (range a).free c h);
    huge = λ c h. ∥∥₁_elim agrees le_prop (λ a. (range a).huge c h);
    absent = λ c h l. ∥∥₁_elim agrees (ℕ_set _ _) (λ a. (range a).absent c h l);
    behind = λ t i h l m. ∥∥₁_elim agrees (ℕ_set _ _) (λ a. (range a).behind t i h l m);
    tree_free = λ t h. ∥∥₁_elim agrees le_prop (λ a. (range a).tree_free t h);
    reserved = λ t h. ∥∥₁_elim agrees le_prop (λ a. (range a).reserved t h);
    locals = λ k h. ∥∥₁_elim agrees (ℕ_set _ _) (λ a. (range a).locals k h);
    rests = rest_is;
    bits = λ w h. ∥∥₁_elim agrees le_prop (λ a. (range a).bits w h);
    between = λ i h. ∥∥₁_elim agrees (ℕ_set _ _) (λ a. (range a).between i h);
    beside = λ k i h p l. ∥∥₁_elim agrees (ℕ_set _ _) (λ a. (range a).beside k i h p l);
  }

  tree_fits : (t : ℕ) → t < tree_count key → tree_free_of key words t ≤ size_of key t
  tree_fits t h = omega (arith, paid_bound key words bytes v t agrees h)

  rest_fits_by : (k : ℕ) → k < key.cores → (x : ℕ × ℕ) → rest_of key words k ≡ Some x
      → x.0 < tree_count key → Agrees key them words bytes v → x.1 ≤ size_of key x.0
  rest_fits_by k h x e inside a =
      omega (
        arith,
        paid_at key words bytes v x.0 inside a,
        rest-le-resting key words k x.0 h,
        ap (count_on x.0) e ∙ count_on_here x.0 x.1,
      )

  rest_fits : (k : ℕ) → k < key.cores → ForSome (rest_of key words k) (FitsTree key)
  rest_fits k h x e =
      let is : IsRest key (Some x) = subst (IsRest key) e (rest_is k h) in
      (is.0, ∥∥₁_elim agrees le_prop (rest_fits_by k h x e is.0))

  pub image_known : IsImage key words
  image_known = record {
    in_range = ranges_known;
    trees = tree_fits;
    rests = rest_fits;
    past_end = λ x p h. ∥∥₁_elim agrees (ℕ_set _ _)
        (λ (a : Agrees key them words bytes v). past_set key a.shares words (v ∷ a.others) a.fit x p h);
    cut = λ c h p. ∥∥₁_elim agrees (ℕ_set _ _)
        (λ (a : Agrees key them words bytes v). part_unflagged key a.shares words (v ∷ a.others) a.fit c h p);
  }

-- No word depends on the seal.

pub range_resealed : (geometry : Geometry) (a b : Bool) (words : List ℕ)
    → AreInRange (plain_key geometry a) words → AreInRange (plain_key geometry b) words
range_resealed geometry a b words r = in_range_held_back (plain_key geometry a) [] b words r

pub image_resealed : (geometry : Geometry) (a b : Bool) (words : List ℕ)
    → IsImage (plain_key geometry a) words → IsImage (plain_key geometry b) words
unfolding tree_place local_place bits_place entry_place tree_word_of tree_free_of local_word_of rest_of bit_word_of
    bit_of entry_of huge_of
image_resealed geometry a b words i = record {
  in_range = range_resealed geometry a b words i.in_range;
  trees = i.trees;
  rests = i.rests;
  past_end = i.past_end;
  cut = i.cut;
}
