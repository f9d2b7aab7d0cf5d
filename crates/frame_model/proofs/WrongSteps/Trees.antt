-- A reservation that loses its count, and a tree that is reserved twice.
use Rattle.std.proofs.Common.{◌≡◌, ℕ, ◌+◌, ◌-◌, ◌%◌, ◌^◌, ◌≤◌, List, get_or, set, ap, sym, subst, ◌∙◌, arith}
use Rattle.frame_model.specs.declared.view.View.{View}
use Rattle.frame_model.specs.Words.{tree_place, tree_free_of, reserved_of, with_tree}
use Rattle.frame_model.specs.View.{paid_on, reserves, is_at}
use Rattle.frame_model.specs.Fit.{Fit}
use Rattle.frame_model.specs.Steps.{reserve, unreserve, effect, next}
use Rattle.frame_model.specs.WrongSteps.{DropsTheRestingCount, ReservesTwice}
use Rattle.frame_model.proofs.Amounts.{less_here, is_at_here, is_at_none}
use Rattle.frame_model.proofs.Words.{tree_same, TreeWritten, tree_written}
use Rattle.frame_model.proofs.Steps.Shared.{free_is, flag_is, tree_free_is, reserved_is, as_tree, at-le-total}
use Rattle.frame_model.proofs.WrongSteps.Shared.{total_set, total_two}

pub drops_the_resting_count : DropsTheRestingCount
drops_the_resting_count key ws vs id v before t back n (can, fewer) shares made =
    let fit : Fit key before.shares ws vs = before.fits in
    let w : View = effect next (unreserve t n) 0 v in
    let found : ℕ = get_or ws (tree_place key t) 0 in
    let had = tree_free_is key ws t in
    let flag = reserved_is key ws t in
    let f = free_is found in
    let g = flag_is found in
    let mine : reserves t v ≡ 1 = ap (is_at t) can.reserving ∙ is_at_here t in
    let set_flag : reserved_of key ws t ≡ 1 =
    omega (
      arith,
      fit.reserved_once t can.inside,
      at-le-total key before.shares ws vs id v fit before.seat (reserves t),
      mine,
      fit.words_in_range.reserved t can.inside,
    ) in
    let room : tree_free_of key ws t + n ≤ 4096 =
    omega (
      arith,
      fit.trees_add_up t can.inside,
      at-le-total key before.shares ws vs id v fit before.seat (paid_on t),
      can.paid,
    ) in
    let m : ℕ = tree_free_of key ws t + back in
    let written : ℕ = (found + (2 ^ 64 - (32768 - back))) % 2 ^ 64 in
    let words : with_tree key ws t m ≡ set ws (tree_place key t) written =
    as_tree key ws t m written (omega (arith, had, flag, f, g, room, set_flag, fewer)) in
    let new : List ℕ = with_tree key ws t m in
    let after : Fit key shares new (set vs id w) = subst (λ (l : List ℕ). Fit key shares l (set vs id w)) (sym words) made in
    let z : TreeWritten key ws t m new = tree_written key ws t m fit.words_in_range can.inside in
    omega (
      arith,
      fit.trees_add_up t can.inside,
      after.trees_add_up t can.inside,
      z.free_here,
      free_is m,
      room,
      fewer,
      z.resting t,
      tree_same key ws new z.held t,
      total_set key vs id v w before.seat (paid_on t),
      can.paid,
      less_here t n v.paid,
    )

pub reserves_twice : ReservesTwice
reserves_twice key ws vs id v before other u t seen new (apart, there, inside, reserving) shares after =
    let w : View = effect next (reserve t seen) 0 v in
    let once : reserves t u ≡ 1 = ap (is_at t) reserving ∙ is_at_here t in
    let twice : reserves t w ≡ 1 = is_at_here t in
    omega (
      arith,
      once,
      twice,
      after.reserved_once t inside,
      after.words_in_range.reserved t inside,
      total_two key vs id v w before.seat (reserves t) other u apart there,
      is_at_none t,
    )
