-- What a search of all trees misses.
use Rattle.std.proofs.Common.{◌≡◌, ⊎_elim, inl, inr, ℕ, ◌+◌, ◌*◌, ◌^◌, ◌<◌, ◌≤◌, List, refl, ap, ◌∙◌, arith}
use Rattle.std.specs.List.{All}
use Rattle.std.proofs.lemmas.Bool.{cases_lt}
use Rattle.std.proofs.lemmas.Nat.{pow_pos}
use Rattle.std.proofs.lemmas.List.Sums.{sum_by-cons}
use Rattle.frame_model.specs.declared.block.FrameBlock.{FrameBlock}
use Rattle.frame_model.specs.declared.key.Key.{Key}
use Rattle.frame_model.specs.declared.view.View.{View}
use Rattle.frame_model.specs.Key.{tree_count, tree_of, child_of, children_in, size_of}
use Rattle.frame_model.specs.Words.{held_of, held_in_tree}
use Rattle.frame_model.specs.View.{count_in, charged_in, paid_on, reserves, fixed_ground, ground_with, boot_blocks, spent, IsViewOf}
use Rattle.frame_model.specs.Fit.{total, Fit}
use Rattle.frame_core.specs.Moves.{IsAtRest}
use Rattle.frame_model.proofs.Amounts.{count_none}
use Rattle.frame_model.proofs.Words.{held_is}
use Rattle.low_frames.specs.Alone.{IsFreeIn}
use Rattle.low_frames.proofs.RoomLemmas.{held_room}
use Rattle.core_frames.specs.Search.{IsBlockOf}
use Rattle.core_frames.specs.Missed.{MissesTheWithheld, NobodyWithholds}
use Rattle.core_frames.proofs.Carried.{in_a_tree}
use Rattle.core_frames.proofs.Exhausted.{range_room, is_at_none, paid_at_rest, reserving_at_rest, all_at_rest, ground_none, resting_none, cores_none}

-- what is free of a child and of its tree is not held
module _ (key : Key) (shares : ℕ) (ws : List ℕ) (vs : List View) (fit : Fit key shares ws vs) (order : ℕ) (b : FrameBlock)
    (is : IsBlockOf key order b) (free : IsFreeIn key ws b) where
  inside : child_of b.frame < key.children
  inside = omega (arith, is.is_block.inside, pow_pos b.order)

  child_room : held_of key ws (child_of b.frame) + 2 ^ order ≤ 512
  child_room =
      held_room key ws fit.words_in_range (child_of b.frame) order b inside
      (record { is_block = is.is_block; has_order = is.has_order; in_child = refl }) free

  tree_room : held_in_tree key ws (tree_of b.frame) + 2 ^ order ≤ size_of key (tree_of b.frame)
  unfolding held_in_tree
  tree_room =
      range_room (held_of key ws) (8 * tree_of b.frame) (children_in key (tree_of b.frame)) (child_of b.frame) (2 ^ order)
      (λ d l h. omega (arith, fit.entries_add_up d (omega arith))) (omega arith) (omega (arith, inside)) child_room

pub misses_the_withheld : MissesTheWithheld
misses_the_withheld key shares ws vs order fit none searched b is free =
    let t : ℕ = tree_of b.frame in
    let c : ℕ = child_of b.frame in
    let tree : t < tree_count key = in_a_tree key b is.is_block in
    let child : c < key.children = inside key shares ws vs fit order b is free in
    let here = child_room key shares ws vs fit order b is free in
    let room = tree_room key shares ws vs fit order b is free in
    ⊎_elim
    (λ passed.
    ⊎_elim
    (λ (flag : 0 < _). inl (omega (arith, flag, fit.reserved_once t tree, cores_none key ws t none)))
    (λ counts.
    ⊎_elim
    (λ few. inr (inl (omega (arith, few, fit.trees_add_up t tree, resting_none key ws t none, room))))
    (λ many. absurd (omega (arith, many, fit.words_in_range.tree_free t tree)))
    counts)
    passed)
    (λ looked.
    ⊎_elim
    (λ huge. absurd (omega (arith, huge, held_is key ws c, here, pow_pos order)))
    (λ rest.
    ⊎_elim
    (λ few. inr (inr (omega (arith, few, fit.entries_add_up c child, here))))
    (λ nothing. absurd (nothing b (record { is_block = is.is_block; has_order = is.has_order; in_child = refl }) free))
    rest)
    (looked c child (omega arith)))
    (searched t tree)

-- who is at rest charges nothing
charging_at_rest : (c : ℕ) (key : Key) (v : View) → IsViewOf key v → IsAtRest v → charged_in c v ≡ 0
charging_at_rest c key v is rest =
    ⊎_elim
    (λ (none : v.share < 1). ap (count_in c) (is.no_part (omega arith)).charged ∙ count_none c)
    (λ (some : 1 ≤ v.share). ap (count_in c) (rest (omega arith)).charged ∙ count_none c)
    (cases_lt v.share 1)

total_at_rest : (key : Key) (f : View → ℕ) (vs : List View) → f (ground_with key (boot_blocks key)) ≡ 0 → f spent ≡ 0
    → ((u : View) → IsViewOf key u → IsAtRest u → f u ≡ 0) → All (IsViewOf key) vs → All IsAtRest vs → total key f vs ≡ 0
unfolding total
total_at_rest key f vs e h none are rest =
    omega (arith, sum_by-cons f (fixed_ground key) vs, ground_none key f e h, all_at_rest f key vs none are rest)

pub nobody_withholds : NobodyWithholds
nobody_withholds key shares ws vs b fit rest withheld =
    let t : ℕ = tree_of b.frame in
    let c : ℕ = child_of b.frame in
    ⊎_elim
    (λ reserving. absurd (omega (
      arith,
      reserving,
      total_at_rest key (reserves t) vs (is_at_none t) (is_at_none t) (λ u is calm. reserving_at_rest t key u is calm) fit.each rest,
    )))
    (λ others.
    ⊎_elim
    (λ paying. absurd (omega (
      arith,
      paying,
      total_at_rest key (paid_on t) vs (count_none t) (count_none t) (λ u is calm. paid_at_rest t key u is calm) fit.each rest,
    )))
    (λ charging. absurd (omega (
      arith,
      charging,
      total_at_rest key (charged_in c) vs (count_none c) (count_none c) (λ u is calm. charging_at_rest c key u is calm) fit.each rest,
    )))
    others)
    withheld
