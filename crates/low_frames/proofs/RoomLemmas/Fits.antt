-- What the words and the one view that has something in flight agree in.
use Rattle.std.proofs.Common.{◌≡◌, ⊎_elim, ℕ, ◌+◌, ◌<◌, ◌≤◌, List, [], ◌∷◌, Option, None, Some, refl, ap, ◌∙◌, arith}
use Rattle.std.specs.Prelude.{Bool, true, false, if◌then◌else◌}
use Rattle.std.specs.List.{sum_by, All}
use Rattle.std.proofs.Math.Logic.{∥∥₁_elim, ∥∥₁_map}
use Rattle.std.proofs.Math.Bridge.{le_prop}
use Rattle.std.proofs.Math.Nat.{ℕ_set}
use Rattle.std.proofs.lemmas.Bool.{cases_lt}
use Rattle.std.proofs.lemmas.List.Sums.{sum_by-cons}
use Rattle.std.proofs.lemmas.List.Elements.{All-head, All-tail}
use Rattle.frame_model.specs.declared.key.Key.{Key}
use Rattle.frame_model.specs.declared.view.View.{View}
use Rattle.frame_model.specs.Words.{free_of, held_of, rest_of, IsRest, AreInRange}
use Rattle.frame_model.specs.View.{charged_in, count_in, fixed_ground, ground_with, boot_blocks, spent, IsViewOf}
use Rattle.frame_model.specs.Fit.{total, Fit}
use Rattle.frame_core.specs.Moves.{IsAtRest}
use Rattle.frame_model.proofs.Amounts.{count_none}

at_rest_none : (child : ℕ) (v : View) → (key : Key) → IsViewOf key v → IsAtRest v → charged_in child v ≡ 0
at_rest_none child v key is rest =
    ⊎_elim
    (λ (none : v.share < 1). ap (count_in child) (is.no_part (omega arith)).charged ∙ count_none child)
    (λ (some : 1 ≤ v.share). ap (count_in child) (rest (omega arith)).charged ∙ count_none child)
    (cases_lt v.share 1)

all_at_rest : (child : ℕ) (key : Key) (vs : List View) → All (IsViewOf key) vs → All IsAtRest vs → sum_by (charged_in child) vs ≡ 0
all_at_rest child key [] are rest = refl
all_at_rest child key (v ∷ vs) are rest =
    omega (
      arith,
      sum_by-cons (charged_in child) v vs,
      at_rest_none child v key (All-head (IsViewOf key) v vs are) (All-head IsAtRest v vs rest),
      all_at_rest child key vs (All-tail (IsViewOf key) v vs are) (All-tail IsAtRest v vs rest),
    )

ground_none_by : (b : Bool) (child : ℕ) (u w : View) → u.charged ≡ None → w.charged ≡ None → charged_in child (if b then u else w) ≡ 0
ground_none_by true child u w e f = ap (count_in child) e ∙ count_none child
ground_none_by false child u w e f = ap (count_in child) f ∙ count_none child

ground_none : (key : Key) (child : ℕ) → charged_in child (fixed_ground key) ≡ 0
unfolding fixed_ground
ground_none key child = ground_none_by key.sealed child (ground_with key (boot_blocks key)) spent refl refl

charged_alone : (key : Key) (child : ℕ) (v : View) (others : List View) → All (IsViewOf key) (v ∷ others) → All IsAtRest others
    → total key (charged_in child) (v ∷ others) ≡ charged_in child v
unfolding total
charged_alone key child v others are rest =
    omega (
      arith,
      sum_by-cons (charged_in child) (fixed_ground key) (v ∷ others),
      sum_by-cons (charged_in child) v others,
      ground_none key child,
      all_at_rest child key others (All-tail (IsViewOf key) v others are) rest,
    )

rest_known : (key : Key) (rest : Option (ℕ × ℕ)) → ∥ IsRest key rest ∥₁ → IsRest key rest
rest_known key None is = tt
rest_known key (Some rest) is = (∥∥₁_elim is le_prop (λ r. r.0), ∥∥₁_elim is le_prop (λ r. r.1))

-- the words and the one view that has something in flight agree
abbrev pub FitsAlone : Type 0 → Key → List ℕ → View → Type 0
FitsAlone A key ws v = ∥ ((shares : ℕ) × ((others : List View) × (Fit key shares ws (v ∷ others) × (A → All IsAtRest others)))) ∥₁

module _ (A : Type 0) (key : Key) (ws : List ℕ) (v : View) (fits : FitsAlone A key ws v) where
  abbrev IsFit : Type 0
  IsFit = (shares : ℕ) × ((others : List View) × (Fit key shares ws (v ∷ others) × (A → All IsAtRest others)))

  pub entries_alone : A → (child : ℕ) → child < key.children → free_of ws child + charged_in child v + held_of key ws child ≡ 512
  entries_alone alone child h =
      ∥∥₁_elim fits (ℕ_set _ _)
      (λ f. omega (arith, f.1.1.0.entries_add_up child h, charged_alone key child v f.1.0 f.1.1.0.each (f.1.1.1 alone)))

  range : IsFit → AreInRange key ws
  range f = f.1.1.0.words_in_range

  -- the words are in range
  pub range_alone : AreInRange key ws
  range_alone = record {
    count = ∥∥₁_elim fits (ℕ_set _ _) (λ f. (range f).count);
    anchor = λ i h. ∥∥₁_elim fits (ℕ_set _ _) (λ f. (range f).anchor i h);
    entry_words = λ c h. ∥∥₁_elim fits le_prop (λ f. (range f).entry_words c h);
    free = λ c h. ∥∥₁_elim fits le_prop (λ f. (range f).free c h);
    huge = λ c h. ∥∥₁_elim fits le_prop (λ f. (range f).huge c h);
    absent = λ c h l. ∥∥₁_elim fits (ℕ_set _ _) (λ f. (range f).absent c h l);
    behind = λ t i h l m. ∥∥₁_elim fits (ℕ_set _ _) (λ f. (range f).behind t i h l m);
    tree_free = λ t h. ∥∥₁_elim fits le_prop (λ f. (range f).tree_free t h);
    reserved = λ t h. ∥∥₁_elim fits le_prop (λ f. (range f).reserved t h);
    locals = λ k h. ∥∥₁_elim fits (ℕ_set _ _) (λ f. (range f).locals k h);
    rests = λ k h. rest_known key (rest_of key ws k) (∥∥₁_map fits (λ f. (range f).rests k h));
    bits = λ w h. ∥∥₁_elim fits le_prop (λ f. (range f).bits w h);
    between = λ i h. ∥∥₁_elim fits (ℕ_set _ _) (λ f. (range f).between i h);
    beside = λ k i h l m. ∥∥₁_elim fits (ℕ_set _ _) (λ f. (range f).beside k i h l m);
  }
