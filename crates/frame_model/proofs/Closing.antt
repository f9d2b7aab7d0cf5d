-- Once one idle view has all shares, the counters add up, and where nothing is lent the held frames are just the kept ones.
use Rattle.std.proofs.Common.{◌≡◌, ℕ, zero, suc, pos, ◌+◌, ◌-◌, ◌*◌, ◌/◌, ◌<◌, ◌≤◌, List, [], ◌∷◌, length, get_or, Bool, true, false, refl}
use Rattle.std.proofs.Common.{ap, sym, ◌∙◌, arith}
use Rattle.std.specs.Prelude.{if◌then◌else◌, nat_eq, map}
use Rattle.std.specs.List.{sum_by, All}
use Rattle.std.proofs.lemmas.List.Sums.{sum_by-cons, get_or-le-sum_by}
use Rattle.std.proofs.lemmas.List.Elements.{All-head, All-tail}
use Rattle.std.proofs.lemmas.List.{nil_from_length}
use borrow.Author.Differences.{up, down}
use mathlib.Core.Option.{some, some-injective, some-ne-none}
use lib.ListN.{get_elem?}
use Rattle.atomic_table.proofs.Lists.{at_map}
use Rattle.frame_model.specs.declared.key.Key.{Key}
use Rattle.frame_model.specs.declared.view.Eye.{Eye}
use Rattle.frame_model.specs.declared.view.View.{View}
use Rattle.frame_model.specs.Key.{tree_count, children_in, children_of, size_of}
use Rattle.frame_model.specs.Block.{smalls, wholes}
use Rattle.frame_model.specs.Words.{set_of, free_of, huge_of, held_of, held_in_tree, tree_free_of, resting_on}
use Rattle.frame_model.specs.View.{count_in, names, is_at, whole_in, marks, charged_in, paid_on, reserves, blocks_out, ground_in, spent}
use Rattle.frame_model.specs.View.{ground_with, boot_blocks, fixed_ground, IsIdle, HasNoPart, HasOneBlock}
use Rattle.frame_model.specs.Fit.{total, Fit}
use Rattle.frame_model.specs.Rebuilt.{rebuilt_free, rebuilt_in_tree}
use Rattle.frame_model.specs.Laws.{AddsUp, HoldsJust, EveryClosingAddsUp, EveryClosingHoldsTheKept}
use Rattle.frame_model.proofs.Sums.{at-le-sum, sum_plus}
use Rattle.frame_model.proofs.Amounts.{count_none, is_at_none, names_none}
use Rattle.frame_model.proofs.Blocks.{smalls_none, wholes_none}
use Rattle.frame_model.proofs.Words.{held_is}
use Rattle.frame_model.proofs.Keeps.{total_is}
use Rattle.frame_model.proofs.Balances.{set-le}
use Rattle.frame_model.proofs.Opening.{fixed_sealed, boot_smalls, boot_wholes, range_all}
use Rattle.frame_model.proofs.Steps.Shared.{view_of}
use Rattle.frame_model.proofs.Steps.Seats.{ground_yes}
use Rattle.frame_model.proofs.Steps.Joining.{idle_unfilled}

-- a sum to which no view without a share adds anything
abbrev Sharing : (View → ℕ) → View → Type 0
Sharing f v = v.share ≡ 0 → f v ≡ 0

sum_none : (f : View → ℕ) (vs : List View) → All (Sharing f) vs → sum_by (λ v. v.share) vs ≡ 0
    → sum_by f vs ≡ 0
sum_none f [] all z = refl
sum_none f (x ∷ xs) all z =
    let s = sum_by-cons (λ (v : View). v.share) x xs in
    omega (
      arith,
      sum_by-cons f x xs,
      All-head (Sharing f) x xs all (omega arith),
      sum_none f xs (All-tail (Sharing f) x xs all) (omega arith),
    )

sum_alone : (f : View → ℕ) (vs : List View) (id : ℕ) (v : View) → get_elem? vs id ≡ some v
    → All (Sharing f) vs → sum_by (λ u. u.share) vs ≡ v.share → sum_by f vs ≡ f v
sum_alone f [] id v at all e = absurd (some-ne-none v (sym at))
sum_alone f (x ∷ xs) zero v at all e =
    let same : x ≡ v = some-injective x v at in
    let s = sum_by-cons (λ (u : View). u.share) x xs in
    let z : sum_by (λ u. u.share) xs ≡ 0 = omega (arith, ap (λ (u : View). u.share) same) in
    omega (arith, sum_by-cons f x xs, ap f same, sum_none f xs (All-tail (Sharing f) x xs all) z)
sum_alone f (x ∷ xs) (suc id) v at all e =
    let s = sum_by-cons (λ (u : View). u.share) x xs in
    let p = at-le-sum (λ (u : View). u.share) xs id v at in
    omega (
      arith,
      sum_by-cons f x xs,
      All-head (Sharing f) x xs all (omega arith),
      sum_alone f xs id v at (All-tail (Sharing f) x xs all) (omega arith),
    )

-- a count that neither form of the fixed ground has
fixed_of : (b : Bool) (f : View → ℕ) (u w : View) → f u ≡ 0 → f w ≡ 0 → f (if b then u else w) ≡ 0
fixed_of true f u w e g = e
fixed_of false f u w e g = g

fixed_none : (key : Key) (f : View → ℕ) → f (ground_with key (boot_blocks key)) ≡ 0 → f spent ≡ 0
    → f (fixed_ground key) ≡ 0
unfolding fixed_ground
fixed_none key f e g = fixed_of key.sealed f (ground_with key (boot_blocks key)) spent e g

-- what rebuilding makes of an entry is what the fit says of it where nothing is charged
rebuilt_says : (key : Key) (ws : List ℕ) (c f : ℕ) → huge_of ws c ≤ 1 → set_of key ws c ≤ 512
    → f + held_of key ws c ≡ 512 → rebuilt_free key ws c ≡ f
unfolding rebuilt_free
rebuilt_says key ws c f flag few e = by (huge_of ws c) refl flag
  where
    by : (n : ℕ) → huge_of ws c ≡ n → n ≤ 1
        → (if nat_eq (huge_of ws c) 0 then 512 - set_of key ws c else 0) ≡ f
    by zero z l = rw z (omega (arith, held_is key ws c))
    by (suc zero) z l = rw z (omega (arith, held_is key ws c))
    by (suc (suc n)) z l = absurd (omega arith)

module _ (key : Key) (shares : ℕ) (ws : List ℕ) (vs : List View) (id : ℕ) (v : View)
    (fit : Fit key shares ws vs) (at : get_elem? vs id ≡ some v) (idle : IsIdle v)
    (all : v.share ≡ shares) where
  shares_here : sum_by (λ (u : View). u.share) vs ≡ v.share
  shares_here = omega (
    arith,
    fit.shares_add_up,
    total_is key (λ u. u.share) vs,
    fixed_none key (λ u. u.share) refl refl,
    all,
  )

  alone : (f : View → ℕ) → ((u : View) → HasNoPart u → f u ≡ 0) → sum_by f vs ≡ f v
  alone f none = sum_alone f vs id v at (λ k d h z. none (get_or vs k d) ((fit.each k d h).no_part z)) shares_here

  none_charged : (c : ℕ) → total key (charged_in c) vs ≡ 0
  none_charged c = omega (
    arith,
    total_is key (charged_in c) vs,
    fixed_none key (charged_in c) (count_none c) (count_none c),
    alone (charged_in c) (λ u n. ap (count_in c) n.charged ∙ count_none c),
    ap (count_in c) idle.charged,
    count_none c,
  )

  none_paid : (t : ℕ) → total key (paid_on t) vs ≡ 0
  none_paid t = omega (
    arith,
    total_is key (paid_on t) vs,
    fixed_none key (paid_on t) (count_none t) (count_none t),
    alone (paid_on t) (λ u n. ap (count_in t) n.paid ∙ count_none t),
    ap (count_in t) idle.paid,
    count_none t,
  )

  none_reserving : (t : ℕ) → total key (reserves t) vs ≡ 0
  none_reserving t = omega (
    arith,
    total_is key (reserves t) vs,
    fixed_none key (reserves t) (is_at_none t) (is_at_none t),
    alone (reserves t) (λ u n. ap (is_at t) n.reserving ∙ is_at_none t),
    ap (is_at t) idle.reserving,
    is_at_none t,
  )

  closing_entries : (c : ℕ) → c < key.children → free_of ws c + held_of key ws c ≡ 512
  closing_entries c h = omega (arith, fit.entries_add_up c h, none_charged c)

  closing_trees : (t : ℕ) → t < tree_count key
      → tree_free_of key ws t + resting_on key ws t + held_in_tree key ws t ≡ size_of key t
  closing_trees t h = omega (arith, fit.trees_add_up t h, none_paid t)

  rebuilt_entry : (c : ℕ) → c < key.children → rebuilt_free key ws c ≡ free_of ws c
  rebuilt_entry c h = rebuilt_says key ws c (free_of ws c) (fit.words_in_range.huge c h)
      (set-le key ws c fit.words_in_range h) (closing_entries c h)

  rebuilt_tree : (t : ℕ) → t < tree_count key
      → rebuilt_in_tree key ws t + held_in_tree key ws t ≡ size_of key t
  unfolding rebuilt_in_tree held_in_tree
  rebuilt_tree t h =
      omega (
        arith,
        sum_plus (rebuilt_free key ws) (held_of key ws) (children_of key t),
        range_all (λ c. rebuilt_free key ws c + held_of key ws c) 512 (8 * t) (children_in key t)
            (λ c l q. omega (arith, rebuilt_entry c (omega arith), closing_entries c (omega arith))),
      )

  pub adds_up : AddsUp key ws
  adds_up = record {
    entries = closing_entries;
    trees = closing_trees;
    reserved = λ t h. omega (arith, fit.reserved_once t h, none_reserving t);
    same_entries = λ new r c h. r.free c h ∙ rebuilt_entry c h;
    same_trees = λ new r t h. omega (arith, r.trees t h, rebuilt_tree t h, closing_trees t h);
  }

  module _ (sealed : key.sealed ≡ true) (lent : v.lent ≡ pos 0) where
    fixed : fixed_ground key ≡ ground_with key (boot_blocks key)
    fixed = fixed_sealed key sealed

    total_here : (f : View → ℕ) → total key f vs ≡ f (ground_with key (boot_blocks key)) + sum_by f vs
    total_here f = omega (arith, total_is key f vs, ap f fixed)

    -- no seat is the ground
    seats_no_ground : sum_by ground_in vs ≡ 0
    seats_no_ground = omega (
      arith,
      fit.one_ground,
      total_here ground_in,
      ground_yes (ground_with key (boot_blocks key)) refl,
    )

    no_ground : (k : ℕ) (d : View) → k < length vs → (get_or vs k d).is_ground ≡ false
    no_ground k d h = by (get_or vs k d).is_ground refl
      where
        by : (b : Bool) → (get_or vs k d).is_ground ≡ b → (get_or vs k d).is_ground ≡ false
        by true e = absurd (omega (
          arith,
          seats_no_ground,
          get_or-le-sum_by ground_in vs k d h,
          ground_yes (get_or vs k d) e,
        ))
        by false e = e

    lone : (f : View → ℕ) → ((u : View) → HasOneBlock u → f u ≡ 0) → sum_by f vs ≡ f v
    lone f none = sum_alone f vs id v at (λ k d h z. none (get_or vs k d) ((fit.each k d h).one_block z (no_ground k d h))) shares_here

    none_out : sum_by blocks_out vs ≡ 0
    none_out =
        let g : View = ground_with key (boot_blocks key) in
        omega (
          arith,
          fit.lents_add_up,
          total_here (λ u. up u.lent),
          total_here (λ u. down u.lent),
          total_here blocks_out,
          lone (λ u. up u.lent) (λ u n. ap up n.lent),
          lone (λ u. down u.lent) (λ u n. ap down n.lent),
          ap up lent,
          ap down lent,
        )

    not_out : (u : View) → blocks_out u ≡ 0 → u.is_ground ≡ false → u.share ≡ 0 → length u.own ≡ 0
    unfolding blocks_out
    not_out u e q z = rw (z, q) at e

    -- nothing but the one view holds a block
    nothing_else : (f : View → ℕ) → ((u : View) → HasNoPart u → u.own ≡ [] → f u ≡ 0) → sum_by f vs ≡ f v
    nothing_else f none =
        sum_alone f vs id v at
        (λ k d h z.
        let u : View = get_or vs k d in
        none u ((fit.each k d h).no_part z)
        (nil_from_length u.own
        (not_out u (omega (arith, get_or-le-sum_by blocks_out vs k d h, none_out)) (no_ground k d h) z)))
        shares_here

    pub holds_just : HoldsJust key ws v.kept
    holds_just = record {
      bits = λ x h. omega (
        arith,
        fit.bits x h,
        total_here (marks x),
        boot_smalls key x h,
        smalls_none x,
        names_none (x / 64),
        nothing_else (marks x) (λ u n o. omega (
          arith,
          ap (smalls x) n.kept,
          ap (smalls x) o,
          smalls_none x,
          ap (names (x / 64)) n.filled,
          names_none (x / 64),
        )),
        ap (smalls x) idle.own,
        idle_unfilled key v (view_of key shares ws vs id v fit at) idle (x / 64),
      );
      huge = λ c h. omega (
        arith,
        fit.wholes c h,
        total_here (whole_in c),
        boot_wholes key c,
        wholes_none c,
        nothing_else (whole_in c) (λ u n o. omega (arith, ap (wholes c) n.kept, ap (wholes c) o, wholes_none c)),
        ap (wholes c) idle.own,
      );
    }

abbrev view_in : Eye → View
view_in e = e.view

pub every_closing_adds_up : EveryClosingAddsUp
every_closing_adds_up key shares s id e fit at idle all =
    adds_up key shares s.words (map view_in s.eyes) id e.view fit (at_map view_in s.eyes id e at) idle all

pub every_closing_holds_the_kept : EveryClosingHoldsTheKept
every_closing_holds_the_kept key shares s id e fit at idle all sealed lent =
    holds_just key shares s.words (map view_in s.eyes) id e.view fit (at_map view_in s.eyes id e at) idle all sealed lent
