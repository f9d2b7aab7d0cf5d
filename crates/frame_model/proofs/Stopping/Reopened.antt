-- The seats after a stop fit the rebuilt words.
use Rattle.std.proofs.Common.{◌≡◌, ℕ, zero, suc, ◌+◌, ◌*◌, ◌/◌, ◌<◌, ◌≤◌, List, [], ◌∷◌, ◌++◌, Some, false, replicate, refl, ap, sym, subst}
use Rattle.std.proofs.Common.{◌∙◌, arith}
use Rattle.std.specs.Prelude.{map}
use Rattle.std.specs.List.{sum_by, All}
use Rattle.std.proofs.lemmas.List.{map-append}
use Rattle.std.proofs.lemmas.List.Sums.{sum_by-cons, sum_by-append}
use Rattle.std.proofs.lemmas.List.Elements.{All-cons, All-append}
use borrow.Author.Differences.{up, down}
use Rattle.frame_model.specs.declared.key.Key.{Key}
use Rattle.frame_model.specs.declared.view.Eye.{Eye}
use Rattle.frame_model.specs.declared.view.View.{View}
use Rattle.frame_model.specs.Key.{frame_count}
use Rattle.frame_model.specs.Block.{smalls}
use Rattle.frame_model.specs.Words.{bit_of}
use Rattle.frame_model.specs.View.{small_in, whole_in, fills, charged_in, paid_on, reserves, blocks_out, ground_small_in, ground_in, idle}
use Rattle.frame_model.specs.View.{spent, ground_with, IsViewOf}
use Rattle.frame_model.specs.Fit.{total, Fit}
use Rattle.frame_model.specs.Rebuilt.{IsRebuilt}
use Rattle.frame_model.specs.Openings.{held_blocks}
use Rattle.frame_model.specs.Events.{eye}
use Rattle.frame_model.specs.Stops.{seats_after}
use Rattle.frame_model.proofs.Amounts.{count_none, is_at_none, names_none}
use Rattle.frame_model.proofs.Blocks.{smalls_none, wholes_none}
use Rattle.frame_model.proofs.Keeps.{total_is}
use Rattle.frame_model.proofs.Opening.{resting_fits, fixed_unsealed, held_smalls, held_wholes, held_are_blocks}
use Rattle.frame_model.proofs.Steps.Shared.{none_out, ground_owned, ground_none}
use Rattle.frame_model.proofs.Steps.Seats.{idle_is, ground_is, ground_is_out, spent_out, ground_yes, ground_no}

abbrev view_in : Eye → View
view_in e = e.view

abbrev pub views_after : Key → List ℕ → List View
views_after key ws = map view_in (seats_after key ws)

map_same : (e : Eye) (n : ℕ) → map view_in (replicate n e) ≡ replicate n e.view
map_same e zero = refl
map_same e (suc n) = ap (λ (vs : List View). e.view ∷ vs) (map_same e n)

sum_same : (f : View → ℕ) (n : ℕ) (v : View) → sum_by f (replicate n v) ≡ n * f v
sum_same f zero v = omega arith
sum_same f (suc n) v = omega (arith, sum_by-cons f v (replicate n v), sum_same f n v, suc_times n (f v))
  where
    suc_times : (i j : ℕ) → suc i * j ≡ i * j + j
    suc_times i j = grind arith

all_same : (P : View → Type 0) (n : ℕ) (v : View) → P v → All P (replicate n v)
all_same P zero v p = λ k d h. absurd (omega arith)
all_same P (suc n) v p = All-cons P v (replicate n v) p (all_same P n v p)

pub views_are : (key : Key) (ws : List ℕ)
    → views_after key ws ≡ replicate key.cores (idle key 1) ++ ground_with key (held_blocks key ws) ∷ []
views_are key ws =
    let g : Eye = eye (ground_with key (held_blocks key ws)) [] in
    map-append view_in (replicate key.cores (eye (idle key 1) [])) (g ∷ [])
    ∙ ap (λ (vs : List View). vs ++ g.view ∷ []) (map_same (eye (idle key 1) []) key.cores)

-- a sum over the seats after a stop
pub after_sum : (key : Key) (ws : List ℕ) (f : View → ℕ)
    → sum_by f (views_after key ws) ≡ key.cores * f (idle key 1) + f (ground_with key (held_blocks key ws))
after_sum key ws f =
    let g : View = ground_with key (held_blocks key ws) in
    omega (
      arith,
      ap (sum_by f) (views_are key ws),
      sum_by-append f (replicate key.cores (idle key 1)) (g ∷ []),
      sum_same f key.cores (idle key 1),
    )

pub after_all : (key : Key) (ws : List ℕ) (P : View → Type 0) → P (idle key 1)
    → P (ground_with key (held_blocks key ws)) → All P (views_after key ws)
after_all key ws P p q =
    let g : View = ground_with key (held_blocks key ws) in
    subst (All P) (sym (views_are key ws))
    (All-append P (replicate key.cores (idle key 1)) (g ∷ []) (all_same P key.cores (idle key 1) p)
    (All-cons P g [] q (λ k d h. absurd (omega arith))))

nothing : (n m : ℕ) → m ≡ 0 → n * m ≡ 0
nothing n m e = ap (λ k. n * k) e ∙ times_zero n
  where
    times_zero : (k : ℕ) → k * 0 ≡ 0
    times_zero k = omega arith

module _ (key : Key) (not_sealed : key.sealed ≡ false) (ws : List ℕ) (r : IsRebuilt key ws ws)
    (past : (x : ℕ) → key.frames ≤ x → x < frame_count key → bit_of key ws x ≡ 1) where
  after_total : (f : View → ℕ) → f (idle key 1) ≡ 0 → f spent ≡ 0
      → total key f (views_after key ws) ≡ f (ground_with key (held_blocks key ws))
  after_total f e z =
      omega (
        arith,
        total_is key f (views_after key ws),
        ap f (fixed_unsealed key not_sealed),
        after_sum key ws f,
        nothing key.cores (f (idle key 1)) e,
      )

  pub reopened_fits : Fit key key.cores ws (views_after key ws)
  reopened_fits =
      let g : View = ground_with key (held_blocks key ws) in
      let v : View = idle key 1 in
      resting_fits key ws r key.cores (views_after key ws) (record {
        wholes = λ c h. omega (
          arith,
          after_total (whole_in c) (omega (arith, wholes_none c)) (omega (arith, wholes_none c)),
          held_wholes key ws c h (r.in_range.huge c h),
          wholes_none c,
        );
        smalls = λ x h. omega (
          arith,
          after_total (small_in x) (omega (arith, smalls_none x)) (omega (arith, smalls_none x)),
          held_smalls key ws x h,
          smalls_none x,
        );
        fills = λ x. omega (arith, after_total (fills x) (names_none (x / 64)) (names_none (x / 64)), names_none (x / 64));
        charged = λ c. omega (arith, after_total (charged_in c) (count_none c) (count_none c), count_none c);
        paid = λ t. omega (arith, after_total (paid_on t) (count_none t) (count_none t), count_none t);
        reserves = λ t. omega (arith, after_total (reserves t) (is_at_none t) (is_at_none t), is_at_none t);
        shares_add_up = omega (
          arith,
          total_is key (λ u. u.share) (views_after key ws),
          ap (λ (u : View). u.share) (fixed_unsealed key not_sealed),
          after_sum key ws (λ u. u.share),
        );
        lents_add_up = omega (
          arith,
          after_total (λ u. up u.lent) refl refl,
          after_total (λ u. down u.lent) refl refl,
          after_total blocks_out (none_out v (omega arith)) spent_out,
          ground_is_out g refl,
        );
        past_end = λ x p h. omega (
          arith,
          after_total (ground_small_in x) (ap (smalls x) (ground_none v refl) ∙ smalls_none x)
              (ap (smalls x) (ground_none spent refl) ∙ smalls_none x),
          ap (smalls x) (ground_owned g refl refl),
          held_smalls key ws x h,
          past x p h,
        );
        one_ground = omega (arith, after_total ground_in (ground_no v refl) (ground_no spent refl), ground_yes g refl);
        each = after_all key ws (IsViewOf key) (idle_is key (Some key) 1 refl (omega arith))
            (ground_is key (Some key) (held_blocks key ws) refl (held_are_blocks key ws));
      })
